use Rattle.std.proofs.Common.{◌≡◌, ◌≤◌, ◌+◌, ◌-◌, ◌*◌, ◌^◌, ◌∙◌, ap, sym, ℕ, ℤ, List, pos, ◌+ℤ◌, map, arith, w32, w64}
use Rattle.std.proofs.Common.{SFits, to_z, of_z, pow_mono}
use Rattle.std.specs.Int.{int_wrap}
use Rattle.std.proofs.lemmas.Int.{int_wrap_fits, to_z-of_z}
use Rattle.std.proofs.lemmas.Nat.{pow-add}
use Rattle.std.proofs.lemmas.Simd.{shifts_fit_splat}
use Rattle.std.proofs.lemmas.List.{map-id}
use Rattle.std.proofs.Math.ListN.{get_or, get_or-map}
use Rattle.dsp_defs.specs.Signal.{sample, values}
use Rattle.dsp_defs.specs.declared.format.Fmt.TheVariants.{Q31}
use Rattle.dsp_sections.specs.Sections.{five_of, next_output}
use Rattle.dsp_sections.proofs.LaneValues.{splat_casts}
use Rattle.dsp_sections.proofs.SectionLanes.{next_32_read}
use Rattle.dsp_sections.proofs.sections.I32SectionKernels.next.Goals as goal

-- the places of the shift, and what is known of them
abbrev up_by : ℤ → ℕ
up_by r = of_z w64 (to_z w64 (of_z w64 r) +ℤ pos 1)

up_is : (r : ℤ) (p : ℕ) → r ≡ pos p → p ≤ 30 → up_by r ≡ p + 1
up_is r p is few = ap up_by is ∙ ap (λ z. of_z w64 (z +ℤ pos 1))
    (to_z-of_z w64 (pos p) (record { sfits = omega (arith, few) }))

powers : (p e : ℕ) → p ≤ 30 → e ≡ p + 1 → (2 ^ (31 - p) * 2 ^ e ≡ 2 ^ 32) × SFits w64 (pos (2 ^ e))
powers p e few is =
    let all : 31 - p + e ≡ 32 = omega (arith, few, is) in
    let small : 2 ^ e ≤ 2 ^ 31 = pow_mono {j = 31} (omega (arith, few, is)) in
    (sym (pow-add 2 (31 - p) e) ∙ ap (λ n. 2 ^ n) all, record { sfits = omega (arith, small) })

low_sample : (xs : List ℤ) (i : ℕ) → int_wrap w32 (sample xs i) ≡ sample (map (int_wrap w32) xs) i
low_sample xs i = sym (ap (get_or (map (int_wrap w32) xs) i)
    (sym (int_wrap_fits w32 (pos 0) (record { sfits = omega arith }))) ∙ get_or-map (int_wrap w32) xs i (pos 0))

pub overflow_shl-sum : goal.overflow_shl-sum
overflow_shl-sum g c = shifts_fit_splat 64 _ g.row.L 32 (omega arith)

pub overflow_shr-sum : goal.overflow_shr-sum
overflow_shr-sum g c = shifts_fit_splat 64 _ g.row.L 32 (omega arith)

pub overflow_cast-sum-2 : goal.overflow_cast-sum-2
overflow_cast-sum-2 g c = splat_casts w32 w64 (omega arith) g.row.L _ (c.q31_fit.ensures 1 (pos 0) (omega arith))

pub overflow_shl-sum-2 : goal.overflow_shl-sum-2
overflow_shl-sum-2 g c = shifts_fit_splat 64 _ g.row.L 32 (omega arith)

pub overflow_shr-sum-2 : goal.overflow_shr-sum-2
overflow_shr-sum-2 g c = shifts_fit_splat 64 _ g.row.L 32 (omega arith)

pub overflow_cast-sum-3 : goal.overflow_cast-sum-3
overflow_cast-sum-3 g c = splat_casts w32 w64 (omega arith) g.row.L _ (c.q31_fit.ensures 2 (pos 0) (omega arith))

pub overflow_shl-sum-3 : goal.overflow_shl-sum-3
overflow_shl-sum-3 g c = shifts_fit_splat 64 _ g.row.L 32 (omega arith)

pub overflow_shr-sum-3 : goal.overflow_shr-sum-3
overflow_shr-sum-3 g c = shifts_fit_splat 64 _ g.row.L 32 (omega arith)

pub overflow_cast-sum-4 : goal.overflow_cast-sum-4
overflow_cast-sum-4 g c = splat_casts w32 w64 (omega arith) g.row.L _ (c.q31_fit.ensures 4 (pos 0) (omega arith))

pub overflow_shl-sum-4 : goal.overflow_shl-sum-4
overflow_shl-sum-4 g c = shifts_fit_splat 64 _ g.row.L 32 (omega arith)

pub overflow_shr-sum-4 : goal.overflow_shr-sum-4
overflow_shr-sum-4 g c = shifts_fit_splat 64 _ g.row.L 32 (omega arith)

pub overflow_cast-sum-5 : goal.overflow_cast-sum-5
overflow_cast-sum-5 g c = splat_casts w32 w64 (omega arith) g.row.L _ (c.q31_fit.ensures 3 (pos 0) (omega arith))

pub overflow_shl-sum-5 : goal.overflow_shl-sum-5
overflow_shl-sum-5 g c = shifts_fit_splat 64 _ g.row.L 32 (omega arith)

pub overflow_shr-sum-5 : goal.overflow_shr-sum-5
overflow_shr-sum-5 g c = shifts_fit_splat 64 _ g.row.L 32 (omega arith)

pub overflow_shl-result : goal.overflow_shl-result
overflow_shl-result g c =
    let up = up_is c.from.result c.args.post_shift c.from.ensures c.requires.shift in
    shifts_fit_splat 64 _ g.row.L (up_by c.from.result) (omega (arith, up, c.requires.shift))

pub overflow_shr-result : goal.overflow_shr-result
overflow_shr-result g c = shifts_fit_splat 64 _ g.row.L 32 (omega arith)

pub returns-clause-value : goal.returns-clause-value
returns-clause-value g c =
    let p = c.args.post_shift in
    let five = c.args.five.now in
    let fit = c.q31_fit.ensures in
    let e = up_by c.from.result in
    let both = powers p e c.requires.shift (up_is c.from.result p c.from.ensures c.requires.shift) in
    let x = c.args.x in
    let x1 = c.args.x1 in
    let x2 = c.args.x2 in
    let y1 = c.args.y1 in
    let y2 = c.args.y2 in
    (next_32_read g.row.L x x1 x2 y1 y2 (sample five 0) (sample five 1) (sample five 2) (sample five 3) (sample five 4)
    (omega arith) (omega arith) (omega arith) (omega arith) (omega arith) c.requires.fit_x c.requires.fit_x1
    c.requires.fit_x2 c.requires.fit_y1 c.requires.fit_y2
    (fit 0 (pos 0) (omega arith)) (fit 1 (pos 0) (omega arith)) (fit 2 (pos 0) (omega arith))
    (fit 3 (pos 0) (omega arith)) (fit 4 (pos 0) (omega arith))
    (31 - p) e both.0 both.1).0
    ∙ (λ t. values g.row.L (λ i. next_output Q31 p (five_of (sym (map-id five) t)) (low_sample x i t)
    (low_sample x1 i t) (low_sample x2 i t) (low_sample y1 i t) (low_sample y2 i t)))

pub returns-clause-fit : goal.returns-clause-fit
returns-clause-fit g c =
    let p = c.args.post_shift in
    let five = c.args.five.now in
    let fit = c.q31_fit.ensures in
    let e = up_by c.from.result in
    let both = powers p e c.requires.shift (up_is c.from.result p c.from.ensures c.requires.shift) in
    let x = c.args.x in
    let x1 = c.args.x1 in
    let x2 = c.args.x2 in
    let y1 = c.args.y1 in
    let y2 = c.args.y2 in
    (next_32_read g.row.L x x1 x2 y1 y2 (sample five 0) (sample five 1) (sample five 2) (sample five 3) (sample five 4)
    (omega arith) (omega arith) (omega arith) (omega arith) (omega arith) c.requires.fit_x c.requires.fit_x1
    c.requires.fit_x2 c.requires.fit_y1 c.requires.fit_y2
    (fit 0 (pos 0) (omega arith)) (fit 1 (pos 0) (omega arith)) (fit 2 (pos 0) (omega arith))
    (fit 3 (pos 0) (omega arith)) (fit 4 (pos 0) (omega arith))
    (31 - p) e both.0 both.1).1
