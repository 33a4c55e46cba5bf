use Rattle.std.proofs.Common.{◌≡◌, ◌∙◌, ap, sym, subst, refl, ◌++◌, ◌+◌, ◌-◌, ◌*◌, ◌≤◌, ◌<◌, ◌/◌, ◌%◌, ℕ, ℤ, List, []}
use Rattle.std.proofs.Common.{◌∷◌, length, length-append, map, take, drop, arith, rules}
use Rattle.std.proofs.lemmas.List.{length-map}
use Rattle.std.proofs.lemmas.Grind.{common_steps}
use borrow.Author.Count.{falls}
use Rattle.dsp_defs.specs.Streaming.{Behaviour, then, chained}
use Rattle.dsp_biquad.specs.Sections.{block_acts}
use Rattle.dsp_biquad.proofs.Cascades.{push-acts, push-kept, push-quiet, next-section, all-sections, piece-numbers}
use Rattle.dsp_biquad.proofs.cascade.sections_of.Goals as goal

section-inside : (k n size all long : ℕ) → k < n → n ≡ all / size → long ≡ all → k * size + size ≤ long
section-inside k n size all long below is same = grind arith

finished : (k size all long : ℕ) → all % size ≡ 0 → all / size ≤ k → long ≡ all → long ≤ k * size
finished k size all long whole done same = grind arith

piece-size : {X : Type 0} → (at size : ℕ) (xs : List X) → at + size ≤ length xs →
    length (take (at + size - at) (drop at xs)) ≡ size
piece-size at size xs h = grind (arith, common_steps)

pub nonzero_div-count : goal.nonzero_div-count
nonzero_div-count g c = omega (arith, c.SIZE-size.ensures, g.met.S.CascadeSection.some)

pub loop-k-init : goal.loop-k-init
loop-k-init g c =
    let T = g.T.Sample in
    let none : 0 * g.S.CascadeSection.SIZE ≡ 0 = omega arith in
    let block = λ (n : ℕ). block_acts T.format (g.S.CascadeSection.block c.args.post_shift
    (drop n (map T.number c.args.coefficients.now))) in
    rw c.in_ok-sections.ensures.items (record { count = refl; acts = ap block none; kept = refl; quiet = refl })

pub overflow_mul-at : goal.overflow_mul-at
overflow_mul-at g c =
    let all = length c.args.coefficients.now in
    let inside : c.loop-k.k * c.SIZE-size.result + c.SIZE-size.result ≤ all =
    section-inside c.loop-k.k (all / c.SIZE-size.result) c.SIZE-size.result all all c.loop-k-test.true refl refl in
    search rules

pub overflow_add-at : goal.overflow_add-at
overflow_add-at g c =
    let all = length c.args.coefficients.now in
    let inside : c.loop-k.k * c.SIZE-size.result + c.SIZE-size.result ≤ all =
    section-inside c.loop-k.k (all / c.SIZE-size.result) c.SIZE-size.result all all c.loop-k-test.true refl refl in
    search rules

pub offset_bounds-coefficients-at : goal.offset_bounds-coefficients-at
offset_bounds-coefficients-at g c =
    let all = length c.args.coefficients.now in
    omega (
      arith,
      section-inside c.loop-k.k (all / c.SIZE-size.result) c.SIZE-size.result all all c.loop-k-test.true
          refl refl,
    )

pub slice_bounds-new-end : goal.slice_bounds-new-end
slice_bounds-new-end g c =
    let all = length c.args.coefficients.now in
    let inside : c.loop-k.k * c.SIZE-size.result + c.SIZE-size.result ≤ all =
    section-inside c.loop-k.k (all / c.SIZE-size.result) c.SIZE-size.result all all c.loop-k-test.true refl refl in
    search rules

pub slice_bounds-new-count : goal.slice_bounds-new-count
slice_bounds-new-count g c =
    let all = length c.args.coefficients.now in
    let inside : c.loop-k.k * c.SIZE-size.result + c.SIZE-size.result ≤ all =
    section-inside c.loop-k.k (all / c.SIZE-size.result) c.SIZE-size.result all all c.loop-k-test.true refl refl in
    search rules

pub slice_bounds-new-start : goal.slice_bounds-new-start
slice_bounds-new-start g c =
    let all = length c.args.coefficients.now in
    let inside : c.loop-k.k * c.SIZE-size.result + c.SIZE-size.result ≤ all =
    section-inside c.loop-k.k (all / c.SIZE-size.result) c.SIZE-size.result all all c.loop-k-test.true refl refl in
    search rules

pub new-requires : goal.new-requires
new-requires g c =
    let size = c.SIZE-size.result in
    let all = length c.args.coefficients.now in
    let inside : c.loop-k.k * size + size ≤ all = section-inside c.loop-k.k (all / size) size all all
    c.loop-k-test.true refl refl in
    record {
      shift = c.requires.shift;
      size = piece-size (c.loop-k.k * size) size c.args.coefficients.now inside ∙
          c.SIZE-size.ensures;
    }

pub loop-k-smaller : goal.loop-k-smaller
loop-k-smaller g c = falls (length c.args.coefficients.now / c.SIZE-size.result) c.loop-k.k c.loop-k-test.true

pub loop-k-preserved : goal.loop-k-preserved
loop-k-preserved g c =
    let T = g.T.Sample in
    let acts = g.S.Machine.acts in
    let kept = g.S.Machine.kept in
    let S = g.S.CascadeSection in
    let laws = g.met.S.CascadeSection in
    let numbers = map T.number c.args.coefficients.now in
    let p = c.args.post_shift in
    let so_far = c.loop-k.invariant in
    let old = c.loop-k.sections.items in
    let s = c.new.result in
    let k = c.loop-k.k in
    let size = c.SIZE-size.result in
    let at = k * size in
    let is : size ≡ S.SIZE = c.SIZE-size.ensures in
    let inside : at + size ≤ length numbers = section-inside k (length c.args.coefficients.now / size) size
    (length c.args.coefficients.now) (length numbers) c.loop-k-test.true refl
    (length-map c.args.coefficients.now T.number) in
    let block = λ (l : List ℤ). block_acts T.format (S.block p l) in
    let cascade = subst (λ (n : ℕ). (front rest : List ℤ) → length front ≡ n → block (front ++ rest) ≡ then
    (S.section p front) (block rest)) (sym is) (laws.cascade p) in
    let before = chained (map acts old) in
    let so_far_acts = subst (λ (n : ℕ). then before (block (drop (k * n) numbers)) ≡ block numbers) (sym is)
    so_far.acts in
    let section = S.section p (take size (drop at numbers)) in
    let made : acts s ≡ section = c.new.ensures.acts ∙ ap (S.section p)
    (piece-numbers T.number c.args.coefficients.now at size) in
    let next = next-section block (S.section p) size cascade numbers at before (acts s) inside made so_far_acts in
    let behind : at + size ≡ (k + 1) * S.SIZE = (let step : k * size + size ≡ (k + 1) * size = omega arith in step ∙
    ap (λ n. (k + 1) * n) is) in
    let fresh = c.new.ensures.kept ∙ ap (λ (b : Behaviour). b.keeps []) (sym c.new.ensures.acts) in
    let quiet = ap (λ (b : Behaviour). b.gives []) made ∙ laws.quiet p (take size (drop at numbers)) in
    rw c.in_ok-push.ensures.items
    (record {
      count = omega (arith, length-append old (s ∷ []), so_far.count);
      acts = ap (λ (b : Behaviour). then b (block (drop ((k + 1) * S.SIZE) numbers))) (push-acts acts kept old s) ∙
          ap (λ (n : ℕ). then (then before (acts s)) (block (drop n numbers))) (sym behind) ∙ next;
      kept = push-kept acts kept old s fresh so_far.quiet so_far.kept;
      quiet = push-quiet acts kept old s quiet so_far.quiet;
    })

pub returns-clause-acts : goal.returns-clause-acts
returns-clause-acts g c =
    let T = g.T.Sample in
    let S = g.S.CascadeSection in
    let numbers = map T.number c.args.coefficients.now in
    let p = c.args.post_shift in
    let size = c.SIZE-size.result in
    let is : size ≡ S.SIZE = c.SIZE-size.ensures in
    let all = length c.args.coefficients.now in
    let done = finished c.loop-k.k S.SIZE all (length numbers) c.requires.whole
    (subst (λ (n : ℕ). all / n ≤ c.loop-k.k) is c.loop-k-test.false) (length-map c.args.coefficients.now T.number)
    in
    all-sections (λ l. block_acts T.format (S.block p l)) (S.section p) S.SIZE (g.met.S.CascadeSection.cascade p)
    numbers (c.loop-k.k * S.SIZE) (chained (map g.S.Machine.acts c.loop-k.sections.items))
    (g.met.S.CascadeSection.empty p) done c.loop-k.invariant.acts

pub returns-clause-kept : goal.returns-clause-kept
returns-clause-kept g c = c.loop-k.invariant.kept

pub returns-clause-count : goal.returns-clause-count
returns-clause-count g c =
    let all = length c.args.coefficients.now in
    let is = c.SIZE-size.ensures in
    let end : c.loop-k.k ≡ all / c.SIZE-size.result = omega arith in
    c.loop-k.invariant.count ∙ end ∙ ap (λ n. all / n) is
