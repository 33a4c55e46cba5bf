use Rattle.std.proofs.Common.{◌≡◌, ◌∙◌, ap, sym, subst, arith, ℕ, ◌≤◌, ◌/◌, [], length, map}
use Rattle.std.proofs.Math.Nat.{div-le_of_le-mul}
use Rattle.std.proofs.lemmas.List.{length-map}
use Rattle.dsp_defs.specs.Streaming.{Behaviour, chained}
use Rattle.dsp_biquad.specs.Sections.{block_acts}
use Rattle.dsp_biquad.proofs.cascade.Cascade.new.Goals as goal

all-act : (g : _) (c : goal.In_ok-sections g) → chained (map g.S.Machine.acts c.in_ok-sections.sections.items) ≡
    block_acts g.T.Sample.format (g.S.CascadeSection.block c.args.post_shift
    (map g.T.Sample.number c.args.coefficients.items))
all-act g c = c.in_ok-sections.ensures.acts ∙ ap (λ l. block_acts g.T.Sample.format
    (g.S.CascadeSection.block c.args.post_shift (map g.T.Sample.number l))) c.deref.ensures.value

pub invariant_of-result : goal.invariant_of-result
invariant_of-result g c =
    let size = g.S.CascadeSection.SIZE in
    let numbers = map g.T.Sample.number c.args.coefficients.items in
    let count : length c.in_ok-sections.sections.items ≡ length c.args.coefficients.items / size =
    c.in_ok-sections.ensures.count ∙ ap (λ l. length l / size) c.deref.ensures.value in
    let few : length c.args.coefficients.items / size ≤ 64 = div-le_of_le-mul size (omega (arith, c.requires.few)) in (
      all-act g c,
      count ∙ ap (λ n. n / size) (sym (length-map c.args.coefficients.items g.T.Sample.number)) ∙
          sym (g.met.S.CascadeSection.count numbers),
      subst (λ (n : ℕ). n ≤ 64) (sym count) few,
    )

pub returns-clause-kept : goal.returns-clause-kept
returns-clause-kept g c = c.in_ok-sections.ensures.kept ∙ ap (λ (b : Behaviour). b.keeps []) (all-act g c)
