-- Rows times a matrix, two elements and four columns at once.
use Rattle.std.proofs.Common.{ℕ, ◌≡◌, ◌<◌, ◌≤◌, ◌+◌, ◌*◌, ◌^◌, suc, List, [], ◌∷◌, length, map, ℤ, pos, ◌+ℤ◌, ◌*ℤ◌}
use Rattle.std.proofs.Common.{sym, ap, ap₂, ◌∙◌, arith, w16, w32, w64, subst}
use Rattle.std.proofs.lemmas.Int.{int_wrap-add_left, int_wrap-add_right, SFits-int_wrap}
use Rattle.std.proofs.lemmas.List.FromFn.{length-map-range_with_len, get_or-map-range_with_len}
use Rattle.std.proofs.lemmas.Simd.{length-chunk}
use Rattle.std.proofs.Math.IntN.{*ℤ_comm, +ℤ_assoc}
use Rattle.std.specs.List.{All}
use Rattle.std.specs.Int.{int_wrap, saturate_to_bits}
use lib.Lanes.{chunk, Each1}
use lib.Signed.{shr_z}
use mir.Val.{SFits, to_z}
use Rattle.dsp_defs.specs.Formats.{close}
use Rattle.dsp_defs.specs.Signal.{sample, sum_below, values}
use Rattle.dsp_defs.proofs.Signal.{sum_below_cong}
use Rattle.dsp_defs.specs.declared.format.Fmt.TheVariants.{Q15}
use Rattle.dsp_lanes.specs.Narrow.{IsNarrow}
use Rattle.dsp_lanes.specs.Pairs.{four, pair_sum, in_turn}
use Rattle.dsp_lanes.specs.MatrixRows.{column_of, column_sum}
use Rattle.dsp_lanes.specs.Rows.{row}
use Rattle.dsp_lanes.proofs.LaneOps.{bits_of, cast_lanes, casts_are, casts_asked, ints_of_bits, group_fits, each_widens}
use Rattle.dsp_lanes.proofs.LaneClosings.{Castable}
use Rattle.dsp_lanes.proofs.LaneRows.{chunk-values}
use Rattle.dsp_lanes.proofs.LaneSums.{raised}
use Rattle.dsp_lanes.proofs.HalfSums.{in_turn_of_eight, turned_eight, each_in_turn}
use Rattle.dsp_lanes.proofs.PairSums.{narrow_wraps}

-- two times four elements of a matrix, read in turn
pub interleaved_read : (at next : ℕ) (matrix : List ℤ) → All (SFits w16) matrix → at + 4 ≤ length matrix →
    next + 4 ≤ length matrix →
    Castable w16 w32 (in_turn_of_eight w16 (chunk at 4 matrix) (chunk next 4 matrix))
    × (map (to_z w32) (cast_lanes w16 w32 (in_turn_of_eight w16 (chunk at 4 matrix) (chunk next 4 matrix))) ≡ in_turn
    (chunk at 4 matrix) (chunk next 4 matrix))
    × Each1 (SFits w16) (map (to_z w32) (cast_lanes w16 w32
    (in_turn_of_eight w16 (chunk at 4 matrix) (chunk next 4 matrix))))
interleaved_read at next matrix f room behind =
    let xs = chunk at 4 matrix in
    let ys = chunk next 4 matrix in
    let es = in_turn xs ys in
    let read : in_turn_of_eight w16 xs ys ≡ bits_of w16 es =
    turned_eight w16 xs ys (length-chunk at 4 matrix room) (length-chunk next 4 matrix behind) in
    let fit : Each1 (SFits w16) es = each_in_turn (SFits w16) xs ys (group_fits w16 at 4 matrix f room)
    (group_fits w16 next 4 matrix f behind) in
    let wide : Each1 (SFits w32) es = each_widens w16 w32 (omega arith) es fit in
    let is : map (to_z w32) (cast_lanes w16 w32 (in_turn_of_eight w16 xs ys)) ≡ es =
    ap (λ l. map (to_z w32) (cast_lanes w16 w32 l)) read ∙ ap (map (to_z w32)) (casts_are w16 w32 es fit) ∙
    ints_of_bits w32 es wide in (
      subst (λ (l : List ℕ). Castable w16 w32 l) (sym read) (casts_asked w16 w32 es fit wide),
      is,
      subst (λ (l : List ℤ). Each1 (SFits w16) l) (sym is) fit,
    )

module _ (rows matrix : List ℤ) (given start : ℕ) where
  -- two elements more, at one column
  column-more :
      (j l p q : ℕ) → p ≡ j * given + l → q ≡ j * given + given + l →
      int_wrap w32 (int_wrap w32 (column_sum rows matrix j given start l) +ℤ int_wrap w32
      ((sample matrix p *ℤ sample rows (start + j)) +ℤ (sample matrix q *ℤ sample rows (start + j + 1)))) ≡ int_wrap
      w32 (column_sum rows matrix (j + 2) given start l)
  column-more j l p q is_p is_q =
      let f : ℕ → ℤ = λ k. sample rows (start + k) *ℤ sample matrix (k * given + l) in
      let s = sum_below j f in
      let a = sample matrix p *ℤ sample rows (start + j) in
      let b = sample matrix q *ℤ sample rows (start + j + 1) in
      let step : j + 2 ≡ suc (suc j) = omega arith in
      let other : q ≡ suc j * given + l = omega (arith, is_q) in
      let after : start + j + 1 ≡ start + suc j = omega arith in
      let first : a ≡ f j = *ℤ_comm (sample matrix p) (sample rows (start + j)) ∙
      ap (λ m. sample rows (start + j) *ℤ sample matrix m) is_p in
      let second : b ≡ f (suc j) = *ℤ_comm (sample matrix q) (sample rows (start + j + 1)) ∙
      ap₂ (λ m n. sample rows m *ℤ sample matrix n) after other in
      int_wrap-add_left w32 s (int_wrap w32 (a +ℤ b))
      ∙ int_wrap-add_right w32 s (a +ℤ b)
      ∙ ap (int_wrap w32) (sym (+ℤ_assoc s a b))
      ∙ (λ i. int_wrap w32 ((s +ℤ first i) +ℤ second i))
      ∙ ap (λ n. int_wrap w32 (sum_below n f)) (sym step)

  -- and at four
  pub four-more :
      (j at column : ℕ) (sums elements new : List ℤ) → at ≡ j * given + column → at + 4 ≤ length matrix →
      at + given + 4 ≤ length matrix →
      elements ≡ in_turn (chunk at 4 matrix) (chunk (at + given) 4 matrix) →
      sums ≡ values 4 (λ i. int_wrap w32 (column_sum rows matrix j given start (column + i))) →
      new ≡ raised w32 sums (four (pair_sum rows elements (start + j)) 0) →
      new ≡ values 4 (λ i. int_wrap w32 (column_sum rows matrix (j + 2) given start (column + i)))
  four-more j at column sums elements new place room behind read summed is =
      let next = at + given in
      let one : (i : ℕ) → int_wrap w32 (int_wrap w32 (column_sum rows matrix j given start (column + i)) +ℤ int_wrap
      w32 ((sample matrix (at + i) *ℤ sample rows (start + j)) +ℤ
      (sample matrix (next + i) *ℤ sample rows (start + j + 1)))) ≡ int_wrap w32
      (column_sum rows matrix (j + 2) given start (column + i)) =
      λ i. column-more j (column + i) (at + i) (next + i) (omega (arith, place)) (omega (arith, place)) in
      let e0 = one 0 in
      let e1 = one 1 in
      let e2 = one 2 in
      let e3 = one 3 in
      is
      ∙ ap₂ (λ l m. raised w32 l (four (pair_sum rows m (start + j)) 0)) summed
      (read ∙ ap₂ in_turn (chunk-values at 4 matrix room) (chunk-values next 4 matrix behind))
      ∙ (λ i. e0 i ∷ e1 i ∷ e2 i ∷ e3 i ∷ [])

  pub four-fit : (columns column : ℕ) → Each1 (SFits w32)
      (values 4 (λ i. int_wrap w32 (column_sum rows matrix columns given start (column + i))))
  four-fit columns column = (
    SFits-int_wrap w32 _,
    (
      SFits-int_wrap w32 _,
      (SFits-int_wrap w32 _, (SFits-int_wrap w32 _, tt)),
    ),
  )

  module _ (columns : ℕ) (fit : All (SFits w16) rows) where
    -- a sum over a narrow column is shut as its exact value is closed
    shut-is : (l : ℕ) → IsNarrow (column_of matrix columns given l) →
        saturate_to_bits 15 (shr_z (int_wrap w32 (column_sum rows matrix columns given start l)) (2 ^ 15)) ≡ close Q15
        (column_sum rows matrix columns given start l)
    shut-is l narrow =
        let column = column_of matrix columns given l in
        let long : length column ≡ columns = length-map-range_with_len (λ k. sample matrix (k * given + l)) 0 columns in
        let same : row column rows (length column) start ≡ column_sum rows matrix columns given start l =
        ap (λ n. row column rows n start) long
        ∙ sum_below_cong columns _ _
        (λ k below.
        ap (λ z. z *ℤ sample rows (start + k)) (get_or-map-range_with_len (λ m. sample matrix (m * given + l)) 0
        columns k k (pos 0) below (omega arith))
        ∙ *ℤ_comm (sample matrix (k * given + l)) (sample rows (start + k))) in
        ap (λ z. saturate_to_bits 15 (shr_z (int_wrap w32 z) (2 ^ 15))) (sym same)
        ∙ ap (λ z. saturate_to_bits 15 (shr_z z (2 ^ 15))) (narrow_wraps column rows start narrow fit)
        ∙ ap (λ z. saturate_to_bits 15 (shr_z (int_wrap w64 z) (2 ^ 15))) same

    pub four-shut : (column : ℕ) (sums : List ℤ) → ((i : ℕ) → i < 4 →
        IsNarrow (column_of matrix columns given (column + i))) →
        sums ≡ values 4 (λ i. int_wrap w32 (column_sum rows matrix columns given start (column + i))) →
        map (λ s. saturate_to_bits 15 (shr_z s (2 ^ 15))) sums ≡ values 4
        (λ i. close Q15 (column_sum rows matrix columns given start (column + i)))
    four-shut column sums narrow is =
        let e0 = shut-is (column + 0) (narrow 0 (omega arith)) in
        let e1 = shut-is (column + 1) (narrow 1 (omega arith)) in
        let e2 = shut-is (column + 2) (narrow 2 (omega arith)) in
        let e3 = shut-is (column + 3) (narrow 3 (omega arith)) in
        ap (map (λ s. saturate_to_bits 15 (shr_z s (2 ^ 15)))) is ∙ (λ i. e0 i ∷ e1 i ∷ e2 i ∷ e3 i ∷ [])
