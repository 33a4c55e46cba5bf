-- Matrices that are transposed element by element.
use Rattle.std.proofs.Common.{◌≡◌, ◌≢◌, ◌∙◌, ap, ap₂, sym, ℕ, ◌+◌, ◌*◌, ◌/◌, ◌%◌, ◌<◌, ℤ, List, length, map, set}
use Rattle.std.proofs.Common.{arith, ⊎_elim}
use Rattle.std.proofs.lemmas.Bool.{cases_eq}
use Rattle.std.proofs.lemmas.Nat.{div-mul-add, mod-mul-add, mul-add-lt, div-add-mod', mod_below, div_below}
use Rattle.dsp_defs.specs.Matrix.{transposed}
use Rattle.dsp_defs.specs.Signal.{sample, values}
use Rattle.dsp_defs.proofs.BlockLaws.{length-values}
use Rattle.dsp_defs.proofs.SumLemmas.{sample-map-set_other, sample-map-set_same, same_numbers}
use Rattle.dsp_matrix.specs.Turning.{IsTurned, StaysTurned}
use Rattle.dsp_unit.proofs.ChannelFrames.{sample-values}

module _ {X : Type 0} (number : X → ℤ) (rows columns : ℕ) (a : List ℤ) (out : List X) (row column at : ℕ) (v : X)
    (inside : row < rows) (place : at ≡ column * rows + row) (room : at < length out)
    (right : number v ≡ sample a (row * columns + column)) where
  -- an element that was written stands right
  pub turned-new : IsTurned rows columns a (map number (set out at v)) row column
  turned-new = ap (sample (map number (set out at v))) (sym place) ∙ sample-map-set_same number out at v room ∙ right

  -- and all others that did still do
  pub turned-stay : StaysTurned rows columns a (map number out) (map number (set out at v))
  turned-stay i j below stood = ⊎_elim
      (λ (same : j * rows + i ≡ at).
      let both : j * rows + i ≡ column * rows + row = same ∙ place in
      let j_is : j ≡ column = sym (div-mul-add j rows i below) ∙ ap (λ k. k / rows) both ∙
      div-mul-add column rows row inside in
      let i_is : i ≡ row = sym (mod-mul-add j rows i below) ∙ ap (λ k. k % rows) both ∙
      mod-mul-add column rows row inside in
      ap₂ (λ u w. sample (map number (set out at v)) (u * rows + w)) j_is i_is ∙ turned-new ∙
      sym (ap₂ (λ u w. sample a (w * columns + u)) j_is i_is))
      (λ (other : j * rows + i ≢ at). sample-map-set_other number out at (j * rows + i) v other ∙ stood)
      (cases_eq (j * rows + i) at)

-- a place of a matrix lies within
pub turned-room : (rows columns row column : ℕ) → row < rows → column < columns →
    row * columns + column < rows * columns
turned-room rows columns row column below inside = let room = mul-add-lt row columns column rows below inside in
    omega (arith, room)

-- where every element stands right, the matrix is transposed
pub turned-whole : (rows columns : ℕ) (a out : List ℤ) → length out ≡ rows * columns →
    ((i j : ℕ) → i < rows → j < columns → IsTurned rows columns a out i j) →
    out ≡ values (rows * columns) (transposed rows columns a)
turned-whole rows columns a out size all =
    let f = transposed rows columns a in
    same_numbers out (values (rows * columns) f) (size ∙ sym (length-values (rows * columns) f))
    (λ p below.
    let within : p < rows * columns = omega (arith, below, size) in
    let some : 0 < rows = some-rows p within in
    let row : p % rows < rows = mod_below p rows some in
    let column : p / rows < columns = div_below p rows columns some (omega (arith, within)) in
    ap (sample out) (sym (div-add-mod' p rows)) ∙ all (p % rows) (p / rows) row column ∙
    sym (sample-values (rows * columns) f p within))
  where
    some-rows : (p : ℕ) → p < rows * columns → 0 < rows
    some-rows p h = grind (arith, h)
