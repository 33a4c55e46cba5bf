use Rattle.std.proofs.Common.{◌≡◌, ◌∙◌, ap, sym, subst, ◌≤◌, ◌*◌, ◌%◌, [], length, map, Ok, Err}
use Rattle.std.proofs.lemmas.List.{length-map}
use Rattle.std.specs.Result.{IfOk}
use Rattle.std.specs.declared.result.Result.{Result}
use Rattle.dsp_defs.specs.Kept.{kept_of_channel}
use Rattle.dsp_biquad.specs.Sections.{coefficients_of}
use Rattle.dsp_biquad.proofs.cascade.CascadeStepwise.of_block.Goals as goal

-- it is made from the block's parameters
same-block : (g : _) (c : goal.After-new g) → g.S.CascadeSection.block c.post_shift_of.result
    (map g.T.Sample.number c.in_ok-coefficients.coefficients.items) ≡ c.args.from.now
same-block g c =
    let numbers = c.in_ok-coefficients.ensures ∙ c.coefficients_of.ensures in
    (λ i. g.S.CascadeSection.block (c.post_shift_of.ensures i) (numbers i)) ∙
    sym (g.met.S.CascadeSection.is_block c.args.from.now c.requires)

of-both : {A E : Type 0} → (P Q R : A → Type 0) → ((w : A) → P w → Q w → R w) → (r : Result A E) → IfOk r P →
    IfOk r Q → IfOk r R
of-both P Q R f (Ok w) p q = f w p q
of-both P Q R f (Err e) p q = tt

pub returns-clause-block : goal.returns-clause-block
returns-clause-block g c = of-both _ _ _ (λ w p q. (λ i. g.S.CascadeSection.block (p i) (q i)) ∙ same-block g c)
    c.new.result c.new.ensures.post_shift c.new.ensures.coefficients

pub returns-clause-kept : goal.returns-clause-kept
returns-clause-kept g c = subst (λ b. IfOk c.new.result (λ w. w.kept ≡ kept_of_channel g.T.Sample.format b []))
    (same-block g c) c.new.ensures.kept

pub new-requires : goal.new-requires
new-requires g c =
    let S = g.S.CascadeSection in
    let is = g.met.S.CascadeSection.parameters c.args.from.now c.requires in
    let items = c.in_ok-coefficients.coefficients.items in
    let long : length items ≡ length (coefficients_of c.args.from.now) = sym (length-map items g.T.Sample.number) ∙
    ap length (c.in_ok-coefficients.ensures ∙ c.coefficients_of.ensures) in
    record {
      shift = subst (λ n. n ≤ S.GREATEST_SHIFT) (sym c.post_shift_of.ensures) is.shift;
      whole = ap (λ n. n % S.SIZE) long ∙ is.whole;
      few = subst (λ n. n ≤ 64 * S.SIZE) (sym long) is.few;
    }
