use Rattle.std.proofs.Common.{◌≡◌, ◌∙◌, ap, subst, ◌-◌, ◌^◌, ◌≤◌, ◌<◌, ℕ, ℤ, pos, ◌*ℤ◌, List, length, map, get_or}
use Rattle.std.proofs.Common.{SFits, to_z, of_z, lit<, arith, rules}
use Rattle.std.specs.Int.{w64}
use Rattle.std.proofs.lemmas.Int.{to_z-of_z}
use Rattle.dsp_defs.specs.Signal.{sample}
use Rattle.dsp_defs.proofs.SumLemmas.{sample-map}
use Rattle.dsp_biquad.specs.Laws.{some-size}
use Rattle.dsp_biquad.specs.Sections.{section_acts, section_of}
use Rattle.dsp_biquad.proofs.Scaled.{acts_scaled}
use Rattle.dsp_biquad.proofs.section.SectionCascadeSection.new.Goals as goal

-- a number that was read so many places before the end
from-end : {X : Type 0} (number : X → ℤ) (xs : List X) (size : ℕ) → length xs ≡ size → 1 ≤ size →
    (read back : ℕ) (x : X) → read ≡ size → 0 < back → x ≡ get_or xs (read - back) x →
    number x ≡ sample (map number xs) (size - back)
from-end number xs size long some read back x same before is =
    sample-map number xs (read - back) x (omega (arith, same, long)) is ∙
    ap (λ n. sample (map number xs) (n - back)) same

-- a coefficient times 2^p, in 64 bits
scaled-number : (p : ℕ) (m z t : ℤ) → SFits w64 m → m ≡ z *ℤ pos (2 ^ p) → z ≡ t →
    to_z w64 (of_z w64 m) ≡ t *ℤ pos (2 ^ p)
scaled-number p m z t f is same = to_z-of_z w64 m f ∙ is ∙ ap (λ v. v *ℤ pos (2 ^ p)) same

pub returns-clause-acts : goal.returns-clause-acts
returns-clause-acts g c =
    let T = g.T.Sample in
    let p = c.args.post_shift in
    let numbers = c.args.numbers.now in
    let size = g.T.BiquadSample.SIZE in
    let some = some-size T.format size g.met.T.BiquadSample.has_size in
    let b0 = sample-map T.number numbers 0 c.index-numbers-0.result (omega (arith, some, c.requires.size))
    c.index-numbers-0.is in
    let b1 = from-end T.number numbers size c.requires.size some c.SIZE.result 4 c.index-numbers-SIZE.result
    c.SIZE.ensures (lit< tt) c.index-numbers-SIZE.is in
    let b2 = from-end T.number numbers size c.requires.size some c.SIZE-2.result 3 c.index-numbers-SIZE-2.result
    c.SIZE-2.ensures (lit< tt) c.index-numbers-SIZE-2.is in
    let a1 = from-end T.number numbers size c.requires.size some c.SIZE-3.result 2 c.index-numbers-SIZE-3.result
    c.SIZE-3.ensures (lit< tt) c.index-numbers-SIZE-3.is in
    let a2 = from-end T.number numbers size c.requires.size some c.SIZE-4.result 1 c.index-numbers-SIZE-4.result
    c.SIZE-4.ensures (lit< tt) c.index-numbers-SIZE-4.is in
    let s0 = scaled-number p c.scaled.result _ _ (search rules) c.scaled.ensures.value b0 in
    let s1 = scaled-number p c.scaled-2.result _ _ (search rules) c.scaled-2.ensures.value b1 in
    let s2 = scaled-number p c.scaled-3.result _ _ (search rules) c.scaled-3.ensures.value b2 in
    let s3 = scaled-number p c.scaled-4.result _ _ (search rules) c.scaled-4.ensures.value a1 in
    let s4 = scaled-number p c.scaled-5.result _ _ (search rules) c.scaled-5.ensures.value a2 in
    (λ i. section_acts T.format 0 (record { b0 = s0 i; b1 = s1 i; b2 = s2 i; a1 = s3 i; a2 = s4 i }))
    ∙ acts_scaled T.format p (section_of size (map T.number numbers))
    (subst (λ n. p ≤ n) g.met.T.BiquadSample.has_shift c.requires.shift)
