-- What a section keeps, in the first two frames of rows.
use Rattle.std.proofs.Common.{◌≡◌, ◌≢◌, ◌∙◌, ap, ℕ, ◌+◌, ◌*◌, ◌<◌, ◌≤◌, ℤ, List, [], ◌∷◌, arith}
use Rattle.dsp_defs.specs.Signal.{sample}
use Rattle.dsp_sections.specs.Sections.{cell}
use Rattle.dsp_bank.specs.Rows.{PutsPast, past}

first-cell : (row : ℕ) (xs : List ℤ) (i : ℕ) → cell row xs 0 i ≡ sample xs i
first-cell row xs i = ap (sample xs) (let e : 0 * row + i ≡ i = omega arith in e)

second-cell : (row : ℕ) (xs : List ℤ) (i : ℕ) → cell row xs 1 i ≡ sample xs (row + i)
second-cell row xs i = ap (sample xs) (let e : 1 * row + i ≡ row + i = omega arith in e)

module _ (row i : ℕ) (frames frames' outputs outputs' : List ℤ) (x1 x2 y1 y2 : ℤ) (inside : i < row)
    (put : PutsPast row i x1 x2 frames frames') (put' : PutsPast row i y1 y2 outputs outputs') where
  -- the channel that is written
  pub past-here : past row frames' outputs' 0 i ≡ x1 ∷ x2 ∷ y1 ∷ y2 ∷ []
  past-here =
      let a : cell row frames' 1 i ≡ x1 = second-cell row frames' i ∙ put.newest_is in
      let b : cell row frames' 0 i ≡ x2 = first-cell row frames' i ∙ put.second_is in
      let c : cell row outputs' 1 i ≡ y1 = second-cell row outputs' i ∙ put'.newest_is in
      let d : cell row outputs' 0 i ≡ y2 = first-cell row outputs' i ∙ put'.second_is in
      (λ k. a k ∷ b k ∷ c k ∷ d k ∷ [])

  -- a channel that was written before
  pub past-before : (j : ℕ) → j < i → past row frames' outputs' 0 j ≡ past row frames outputs 0 j
  past-before j h =
      let not_newest : 1 * row + j ≢ row + i = omega (arith, h) in
      let not_second : 1 * row + j ≢ i = omega (arith, h, inside) in
      let not_newest' : 0 * row + j ≢ row + i = omega (arith, h, inside) in
      let not_second' : 0 * row + j ≢ i = omega (arith, h) in
      let a = put.others (1 * row + j) not_newest not_second in
      let b = put.others (0 * row + j) not_newest' not_second' in
      let c = put'.others (1 * row + j) not_newest not_second in
      let d = put'.others (0 * row + j) not_newest' not_second' in
      (λ k. a k ∷ b k ∷ c k ∷ d k ∷ [])

  -- what is after the first two frames
  pub later-stays : (k : ℕ) → 2 * row ≤ k → sample frames' k ≡ sample frames k
  later-stays k h = put.others k (omega (arith, h, inside)) (omega (arith, h, inside))
