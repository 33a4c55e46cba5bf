use Rattle.std.proofs.Common.{◌≡◌, ◌≤◌, ◌+◌, ◌-◌, ◌*◌, ◌^◌, ◌∙◌, ap, sym, ℕ, ℤ, List, pos, ◌+ℤ◌, ◌-ℤ◌, ◌*ℤ◌, arith}
use Rattle.std.proofs.Common.{w16, w32, SFits, to_z, of_z, pow_mono}
use Rattle.std.proofs.lemmas.Int.{ints, to_z-of_z}
use Rattle.std.proofs.lemmas.Nat.{pow-add}
use Rattle.std.proofs.lemmas.Simd.{shifts_fit_splat}
use Rattle.std.proofs.lemmas.List.{map-id}
use Rattle.std.specs.Int.{saturate_to_bits}
use lib.Signed.{shr_z}
use Rattle.dsp_defs.specs.Signal.{sample, values}
use Rattle.dsp_defs.specs.declared.format.Fmt.TheVariants.{Q15}
use Rattle.dsp_sections.specs.Sections.{five_of, next_output}
use Rattle.dsp_lanes.proofs.LaneOps.{casts_asked, each_widens}
use Rattle.dsp_sections.proofs.SectionLanes.{next_16_cast, next_16_read}
use Rattle.dsp_sections.proofs.sections.I16SectionKernels.next.Goals as goal

-- the places of the two shifts, and what is known of them
abbrev up_by : ℤ → ℕ
up_by r = of_z w32 (to_z w32 (of_z w32 r) +ℤ pos 1)

abbrev down_by : ℤ → ℕ
down_by r = of_z w32 (pos 15 -ℤ to_z w32 (of_z w32 r))

up_is : (r : ℤ) (p : ℕ) → r ≡ pos p → p ≤ 13 → up_by r ≡ p + 1
up_is r p is few = ap up_by is ∙ ap (λ z. of_z w32 (z +ℤ pos 1))
    (to_z-of_z w32 (pos p) (record { sfits = omega (arith, few) }))

down_is : (r : ℤ) (p : ℕ) → r ≡ pos p → p ≤ 13 → down_by r ≡ 15 - p
down_is r p is few =
    let less : pos 15 -ℤ pos p ≡ pos (15 - p) = omega (arith, ints, few) in
    ap down_by is ∙ ap (λ z. of_z w32 (pos 15 -ℤ z)) (to_z-of_z w32 (pos p) (record { sfits = omega (arith, few) }))
    ∙ ap (of_z w32) less

-- the sum of the products of a lane
abbrev total : List ℤ → List ℤ → List ℤ → List ℤ → List ℤ → List ℤ → ℕ → ℤ
total five x x1 x2 y1 y2 i =
    sample five 0 *ℤ sample x i +ℤ sample five 1 *ℤ sample x1 i +ℤ sample five 2 *ℤ sample x2 i +ℤ
    (sample five 3 *ℤ sample y1 i +ℤ sample five 4 *ℤ sample y2 i)

powers : (p k e : ℕ) → p ≤ 13 → k ≡ 15 - p → e ≡ p + 1 → (2 ^ e * 2 ^ k ≡ 65536) × (4 ≤ 2 ^ k) × SFits w32 (pos (2 ^ e))
powers p k e few is_k is_e =
    let all : e + k ≡ 16 = omega (arith, few, is_k, is_e) in
    let some : 2 ^ 2 ≤ 2 ^ k = pow_mono {i = 2} {j = k} (omega (arith, few, is_k)) in
    let small : 2 ^ e ≤ 2 ^ 14 = pow_mono {j = 14} (omega (arith, few, is_e)) in
    (sym (pow-add 2 e k) ∙ ap (λ n. 2 ^ n) all, omega (arith, some), record { sfits = omega (arith, small) })

pub overflow_shr-high : goal.overflow_shr-high
overflow_shr-high g c = shifts_fit_splat 32 _ g.row.L 16 (omega arith)

pub overflow_shr-high-2 : goal.overflow_shr-high-2
overflow_shr-high-2 g c = shifts_fit_splat 32 _ g.row.L 16 (omega arith)

pub overflow_shr-high-3 : goal.overflow_shr-high-3
overflow_shr-high-3 g c = shifts_fit_splat 32 _ g.row.L 16 (omega arith)

pub overflow_shl-rest : goal.overflow_shl-rest
overflow_shl-rest g c = shifts_fit_splat 32 _ g.row.L 16 (omega arith)

pub overflow_shl-up : goal.overflow_shl-up
overflow_shl-up g c =
    let up = up_is c.from.result c.args.post_shift c.from.ensures c.requires.shift in
    shifts_fit_splat 32 _ g.row.L (up_by c.from.result) (omega (arith, up, c.requires.shift))

pub overflow_shr-down : goal.overflow_shr-down
overflow_shr-down g c =
    let down = down_is c.from-2.result c.args.post_shift c.from-2.ensures c.requires.shift in
    shifts_fit_splat 32 _ g.row.L (down_by c.from-2.result) (omega (arith, down, c.requires.shift))

pub overflow_cast-result : goal.overflow_cast-result
overflow_cast-result g c =
    let p = c.args.post_shift in
    let five = c.args.five.now in
    let fit = c.q15_fit.ensures in
    let k = down_by c.from-2.result in
    let e = up_by c.from.result in
    let both = powers p k e c.requires.shift (down_is c.from-2.result p c.from-2.ensures c.requires.shift)
    (up_is c.from.result p c.from.ensures c.requires.shift) in
    next_16_cast g.row.L c.args.x c.args.x1 c.args.x2 c.args.y1 c.args.y2 (sample five 0) (sample five 1)
    (sample five 2) (sample five 3) (sample five 4)
    (omega arith) (omega arith) (omega arith) (omega arith) (omega arith) c.requires.fit_x c.requires.fit_x1
    c.requires.fit_x2 c.requires.fit_y1 c.requires.fit_y2
    (fit 0 (pos 0) (omega arith)) (fit 1 (pos 0) (omega arith)) (fit 2 (pos 0) (omega arith))
    (fit 3 (pos 0) (omega arith)) (fit 4 (pos 0) (omega arith))
    k e both.0 both.1 both.2

pub returns-clause-value : goal.returns-clause-value
returns-clause-value g c =
    let p = c.args.post_shift in
    let five = c.args.five.now in
    let fit = c.q15_fit.ensures in
    let x = c.args.x in
    let x1 = c.args.x1 in
    let x2 = c.args.x2 in
    let y1 = c.args.y1 in
    let y2 = c.args.y2 in
    let k = down_by c.from-2.result in
    let e = up_by c.from.result in
    let down = down_is c.from-2.result p c.from-2.ensures c.requires.shift in
    let both = powers p k e c.requires.shift down (up_is c.from.result p c.from.ensures c.requires.shift) in
    (next_16_read g.row.L x x1 x2 y1 y2 (sample five 0) (sample five 1) (sample five 2) (sample five 3) (sample five 4)
    (omega arith) (omega arith) (omega arith) (omega arith) (omega arith) c.requires.fit_x c.requires.fit_x1
    c.requires.fit_x2 c.requires.fit_y1 c.requires.fit_y2
    (fit 0 (pos 0) (omega arith)) (fit 1 (pos 0) (omega arith)) (fit 2 (pos 0) (omega arith))
    (fit 3 (pos 0) (omega arith)) (fit 4 (pos 0) (omega arith))
    k e both.0 both.1 both.2).0
    ∙ (λ t. values g.row.L (λ i. saturate_to_bits 15 (shr_z (total five x x1 x2 y1 y2 i) (2 ^ down t))))
    ∙ (λ t. values g.row.L (λ i. next_output Q15 p (five_of (sym (map-id five) t)) (sample x i) (sample x1 i)
    (sample x2 i) (sample y1 i) (sample y2 i)))

pub returns-clause-fit : goal.returns-clause-fit
returns-clause-fit g c =
    let p = c.args.post_shift in
    let five = c.args.five.now in
    let fit = c.q15_fit.ensures in
    let k = down_by c.from-2.result in
    let e = up_by c.from.result in
    let both = powers p k e c.requires.shift (down_is c.from-2.result p c.from-2.ensures c.requires.shift)
    (up_is c.from.result p c.from.ensures c.requires.shift) in
    (next_16_read g.row.L c.args.x c.args.x1 c.args.x2 c.args.y1 c.args.y2 (sample five 0) (sample five 1)
    (sample five 2) (sample five 3) (sample five 4)
    (omega arith) (omega arith) (omega arith) (omega arith) (omega arith) c.requires.fit_x c.requires.fit_x1
    c.requires.fit_x2 c.requires.fit_y1 c.requires.fit_y2
    (fit 0 (pos 0) (omega arith)) (fit 1 (pos 0) (omega arith)) (fit 2 (pos 0) (omega arith))
    (fit 3 (pos 0) (omega arith)) (fit 4 (pos 0) (omega arith))
    k e both.0 both.1 both.2).1

pub overflow_cast-p0-2 : goal.overflow_cast-p0-2
overflow_cast-p0-2 g c = casts_asked w16 w32 c.args.x c.requires.fit_x
    (each_widens w16 w32 (omega arith) c.args.x c.requires.fit_x)

pub overflow_cast-p1-2 : goal.overflow_cast-p1-2
overflow_cast-p1-2 g c = casts_asked w16 w32 c.args.x1 c.requires.fit_x1
    (each_widens w16 w32 (omega arith) c.args.x1 c.requires.fit_x1)

pub overflow_cast-p2-2 : goal.overflow_cast-p2-2
overflow_cast-p2-2 g c = casts_asked w16 w32 c.args.x2 c.requires.fit_x2
    (each_widens w16 w32 (omega arith) c.args.x2 c.requires.fit_x2)

pub overflow_cast-p3-2 : goal.overflow_cast-p3-2
overflow_cast-p3-2 g c = casts_asked w16 w32 c.args.y1 c.requires.fit_y1
    (each_widens w16 w32 (omega arith) c.args.y1 c.requires.fit_y1)

pub overflow_cast-p4-2 : goal.overflow_cast-p4-2
overflow_cast-p4-2 g c = casts_asked w16 w32 c.args.y2 c.requires.fit_y2
    (each_widens w16 w32 (omega arith) c.args.y2 c.requires.fit_y2)
