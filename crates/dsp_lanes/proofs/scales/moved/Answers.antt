use Rattle.std.proofs.Common.{length, rules, ◌≡◌, ◌<◌, false, sym, ap, ◌∙◌, arith, map, replicate, w32}
use Rattle.std.proofs.lemmas.Int.{ints, to_z-of_z}
use Rattle.std.proofs.lemmas.List.{length-map}
use Rattle.std.proofs.lemmas.Simd.{shifts_fit_splat}
use Rattle.std.specs.Prelude.{ℤ, pos, negsuc, ◌≤ℤ◌, ◌-ℤ◌}
use lib.Signed.{le_z}
use lib.Lanes.{zip2}
use mir.Val.{SFits, to_z, of_z}
use Rattle.dsp_defs.specs.Elementwise.{shift_in}
use Rattle.dsp_lanes.proofs.LaneOps.{bits_of, ints_of_bits}
use Rattle.dsp_lanes.proofs.LaneClosings.{down_in}
use Rattle.dsp_lanes.proofs.WordViews.{read_fit}
use Rattle.dsp_lanes.proofs.Moves.{lowered_are}
use Rattle.dsp_lanes.proofs.scales.moved.Goals.{then-places-ge1, else-places-ge1}
use Rattle.dsp_lanes.proofs.scales.moved.Goals as goal

down_is : (s : ℤ) → SFits w32 s → le_z (pos 1) (to_z w32 (of_z w32 s)) ≡ false → s ≤ℤ pos 0
down_is s f h =
    let e : le_z (pos 1) s ≡ false = ap (le_z (pos 1)) (sym (to_z-of_z w32 s f)) ∙ h in
    grind (arith, ints)

down_by : (s : ℤ) → SFits w32 s → negsuc 29 ≤ℤ s → s ≤ℤ pos 0 → of_z w32 (pos 0 -ℤ s) < 32
down_by (pos n) f low high = omega (arith, ints, high)
down_by (negsuc n) f low high = omega (arith, ints, low)

pub overflow_shr-result : goal.overflow_shr-result
overflow_shr-result g c =
    let s = c.args.places in
    let high = down_is s c.ranges.places c.if-places-ge1.false in
    let same : of_z w32 (pos 0 -ℤ to_z w32 (of_z w32 s)) ≡ of_z w32 (pos 0 -ℤ s) =
    ap (λ z. of_z w32 (pos 0 -ℤ z)) (to_z-of_z w32 s c.ranges.places) in
    shifts_fit_splat 32 _ g.row.N (of_z w32 (pos 0 -ℤ to_z w32 (of_z w32 s)))
    (omega (arith, same, down_by s c.ranges.places c.requires.places.0 high))

pub grown-requires : goal.grown-requires
grown-requires g c =
    let s = c.args.places in
    let same = to_z-of_z w32 s c.ranges.places in
    let low : pos 1 ≤ℤ to_z w32 (of_z w32 s) = grind (arith, ints, c.if-places-ge1.true) in
    let long : length (map (to_z w32) (bits_of w32 c.args.numbers)) ≡ g.row.N =
    length-map (bits_of w32 c.args.numbers) (to_z w32) ∙ length-map c.args.numbers (of_z w32) ∙ c.requires.long in (
      search rules,
      (
        (low, grind (arith, ints, same, c.requires.places)),
        (long, read_fit w32 c.args.numbers c.requires.fit),
      ),
    )

pub returns : goal.returns
returns g c =
    let s = c.args.places in
    let xs = c.args.numbers in
    elim c.if-places-ge1.branch [
      | then-places-ge1 w ↦
          ap (map (to_z w32)) w.result-is
          ∙ ints_of_bits w32 w.grown.result w.grown.ensures.fit
          ∙ w.grown.ensures.value
          ∙ (λ i. map (λ h. shift_in 32 h (to_z-of_z w32 s c.ranges.places i)) (ints_of_bits w32 xs c.requires.fit i))
      | else-places-ge1 w ↦
          ap (map (to_z w32)) w.result-is
          ∙ ap (λ z. map (to_z w32) (zip2 (down_in w32) (bits_of w32 xs) (replicate g.row.N (of_z w32 (pos 0 -ℤ z)))))
          (to_z-of_z w32 s c.ranges.places)
          ∙ lowered_are g.row.N s xs c.requires.places.0 (down_is s c.ranges.places w.if-places-ge1.false)
          c.requires.long c.requires.fit
    ]
