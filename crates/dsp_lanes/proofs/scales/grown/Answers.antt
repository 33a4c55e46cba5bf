use Rattle.std.proofs.Common.{ℕ, ◌≡◌, ◌+◌, ◌-◌, ◌*◌, ◌/◌, ◌≤◌, ◌^◌, suc, sym, ap, subst, List, ◌∙◌, arith, map, w32}
use Rattle.std.proofs.Common.{pow_mono}
use Rattle.std.proofs.Common.{pow-add}
use Rattle.std.proofs.lemmas.Int.{ints}
use Rattle.std.proofs.lemmas.Simd.{shifts_fit_splat}
use Rattle.std.specs.Prelude.{ℤ, pos, ◌≤ℤ◌}
use native.Mathlib.Nat.{div-eq_of_lt-le}
use lib.Lanes.{Each1}
use mir.Val.{SFits, of_z}
use Rattle.dsp_defs.specs.Elementwise.{shift_in}
use Rattle.dsp_lanes.proofs.Moves.{grown_are, grown_fit, small}
use Rattle.dsp_lanes.proofs.scales.grown.Goals as goal

places_are : (s : ℤ) → pos 1 ≤ℤ s → s ≤ℤ pos 31 → (pos (of_z w32 s) ≡ s) × (1 ≤ of_z w32 s) × (of_z w32 s ≤ 31)
places_are s low high = (grind (arith, ints), grind (arith, ints), grind (arith, ints))

room : (k : ℕ) → k ≤ 31 → suc ((2 ^ 31 - 1) / 2 ^ k) * 2 ^ k ≡ 2 ^ 31
room k few =
    let q = 2 ^ (31 - k) - 1 in
    let some : 2 ^ 0 ≤ 2 ^ (31 - k) = pow_mono {i = 0} (omega arith) in
    let more : 2 ^ 0 ≤ 2 ^ k = pow_mono {i = 0} (omega arith) in
    let next : suc q ≡ 2 ^ (31 - k) = omega (arith, some) in
    let all : 31 - k + k ≡ 31 = omega arith in
    let whole : suc q * 2 ^ k ≡ 2 ^ 31 = ap (λ n. n * 2 ^ k) next ∙ sym (pow-add 2 (31 - k) k) ∙ ap (λ n. 2 ^ n) all in
    let is : (2 ^ 31 - 1) / 2 ^ k ≡ q = div-eq_of_lt-le (2 ^ k) (omega (arith, whole, more)) (omega (arith, whole)) in
    ap (λ n. suc n * 2 ^ k) is ∙ whole

pub overflow_add-kept : goal.overflow_add-kept
overflow_add-kept g c =
    let k = of_z w32 c.args.places in
    let is = places_are c.args.places c.requires.places.0 c.requires.places.1 in
    let below = small k ((2 ^ 31 - 1) / 2 ^ k) is.1 (room k is.2) in
    omega (arith, ints, below)

pub overflow_shl-result : goal.overflow_shl-result
overflow_shl-result g c =
    let is = places_are c.args.places c.requires.places.0 c.requires.places.1 in
    shifts_fit_splat 32 _ g.row.N (of_z w32 c.args.places) (omega (arith, is))

pub overflow_shr-result : goal.overflow_shr-result
overflow_shr-result g c = shifts_fit_splat 32 _ g.row.N 31 (omega arith)

pub returns-clause-value : goal.returns-clause-value
returns-clause-value g c =
    let k = of_z w32 c.args.places in
    let is = places_are c.args.places c.requires.places.0 c.requires.places.1 in
    grown_are g.row.N k ((2 ^ 31 - 1) / 2 ^ k) c.args.numbers is.1 is.2 (room k is.2) c.requires.long c.requires.fit
    ∙ ap (λ s. map (λ h. shift_in 32 h s) c.args.numbers) is.0

pub returns-clause-fit : goal.returns-clause-fit
returns-clause-fit g c =
    let k = of_z w32 c.args.places in
    let m = (2 ^ 31 - 1) / 2 ^ k in
    let xs = c.args.numbers in
    let is = places_are c.args.places c.requires.places.0 c.requires.places.1 in
    subst (λ (l : List ℤ). Each1 (SFits w32) l)
    (sym (grown_are g.row.N k m xs is.1 is.2 (room k is.2) c.requires.long c.requires.fit))
    (grown_fit g.row.N k m xs is.1 is.2 (room k is.2) c.requires.long c.requires.fit)
