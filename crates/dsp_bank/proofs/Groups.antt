-- Groups of four numbers in a list.
use Rattle.std.proofs.Common.{◌≡◌, ◌≢◌, ◌∙◌, ap, refl, sym, ℕ, ◌+◌, ◌-◌, ◌*◌, ◌<◌, ◌≤◌, ℤ, List, [], ◌∷◌, length, map}
use Rattle.std.proofs.Common.{take, drop, get_or, set, flat_map, slice_range, arith, ⊎_elim, length-drop}
use Rattle.std.proofs.Common.{length-take-le}
use Rattle.std.specs.List.{range_with_len}
use Rattle.std.proofs.lemmas.Bool.{cases_lt}
use Rattle.std.proofs.lemmas.List.{take-map, drop-map, drop-drop, drop-take, take-take}
use Rattle.std.proofs.lemmas.Slice.{between-put_mid, take-put_mid_below, drop-put_mid}
use borrow.Rule.Slice.PartMut.{put_mid}
use Rattle.dsp_unit.specs.Channels.{numbers_in}
use Rattle.dsp_unit.proofs.ChannelKept.{length-numbers_in, numbers-in_pieces, pieces-same}
use Rattle.dsp_bank.specs.Rows.{four_at}

module _ {X : Type 0} (number : X → ℤ) where
  numbers-map : (xs : List X) (k : ℕ) → numbers_in 4 (map number xs) k ≡ map number (take 4 (drop (k * 4) xs))
  numbers-map xs k = ap (take 4) (drop-map number (k * 4) xs) ∙ take-map number 4 (drop (k * 4) xs)

  -- a piece that was read
  pub piece-read : (xs : List X) (at size : ℕ) → map number (slice_range xs at (at + size))
      ≡ take size (drop at (map number xs))
  piece-read xs at size =
      let long : at + size - at ≡ size = omega arith in
      ap (λ m. map number (take m (drop at xs))) long
      ∙ sym (ap (take size) (drop-map number at xs) ∙ take-map number size (drop at xs))

  -- a group that was read
  pub group-read : (xs : List X) (k : ℕ) → map number (slice_range xs (k * 4) (k * 4 + 4))
      ≡ numbers_in 4 (map number xs) k
  group-read xs k = piece-read xs (k * 4) 4

  pub four-read : (l : List X) (a b c d : X) → length l ≡ 4 → a ≡ get_or l 0 a → b ≡ get_or l 1 b → c ≡ get_or l 2 c
      → d ≡ get_or l 3 d → map number l ≡ number a ∷ number b ∷ number c ∷ number d ∷ []
  four-read [] a b c d e _ _ _ _ = absurd (omega (arith, e))
  four-read (x ∷ []) a b c d e _ _ _ _ = absurd (omega (arith, e))
  four-read (x ∷ y ∷ []) a b c d e _ _ _ _ = absurd (omega (arith, e))
  four-read (x ∷ y ∷ z ∷ []) a b c d e _ _ _ _ = absurd (omega (arith, e))
  four-read (x ∷ y ∷ z ∷ w ∷ []) a b c d e p q r s = (λ i. number (sym p i) ∷ number (sym q i) ∷ number (sym r i)
      ∷ number (sym s i) ∷ [])
  four-read (x ∷ y ∷ z ∷ w ∷ v ∷ l) a b c d e _ _ _ _ = absurd (omega (arith, e))

  pub four-set : (l : List X) (a b c d : X) → length l ≡ 4 → map number (set (set (set (set l 0 a) 1 b) 2 c) 3 d)
      ≡ number a ∷ number b ∷ number c ∷ number d ∷ []
  four-set [] a b c d e = absurd (omega (arith, e))
  four-set (x ∷ []) a b c d e = absurd (omega (arith, e))
  four-set (x ∷ y ∷ []) a b c d e = absurd (omega (arith, e))
  four-set (x ∷ y ∷ z ∷ []) a b c d e = absurd (omega (arith, e))
  four-set (x ∷ y ∷ z ∷ w ∷ []) a b c d e = refl
  four-set (x ∷ y ∷ z ∷ w ∷ v ∷ l) a b c d e = absurd (omega (arith, e))

  -- it has as many numbers
  pub length-piece : (xs : List X) (at size : ℕ) → at + size ≤ length xs → length (slice_range xs at (at + size)) ≡ size
  length-piece xs at size inside =
      let long : at + size - at ≡ size = omega arith in
      length-take-le (at + size - at) (drop at xs) (omega (arith, length-drop at xs, inside)) ∙ long

  -- and four
  pub length-group : (xs : List X) (n k : ℕ) → length xs ≡ n * 4 → k < n → length (slice_range xs (k * 4) (k * 4 + 4))
      ≡ 4
  length-group xs n k whole inside = length-piece xs (k * 4) 4 (omega (arith, whole, inside))

  module _ (xs piece : List X) (n k : ℕ) (whole : length xs ≡ n * 4) (inside : k < n) (size : length piece ≡ 4) where
    written : List X
    written = put_mid (k * 4) (k * 4 + 4 - k * 4) xs piece

    within : k * 4 + 4 ≤ length xs
    within = omega (arith, whole, inside)

    -- a group that was written
    pub group-written : numbers_in 4 (map number (put_mid (k * 4) (k * 4 + 4 - k * 4) xs piece)) k ≡ map number piece
    group-written =
        let long : k * 4 + 4 - k * 4 ≡ 4 = omega arith in
        numbers-map (put_mid (k * 4) (k * 4 + 4 - k * 4) xs piece) k
        ∙ ap (map number) (ap (λ m. take m (drop (k * 4) (put_mid (k * 4) (k * 4 + 4 - k * 4) xs piece))) (sym long)
        ∙ between-put_mid (k * 4) (k * 4 + 4 - k * 4) xs piece (k * 4 + 4) (omega (arith, within)) (size ∙ sym long))

    -- the others are as before
    pub group-other : (j : ℕ) → j ≢ k → numbers_in 4 (map number (put_mid (k * 4) (k * 4 + 4 - k * 4) xs piece)) j
        ≡ numbers_in 4 (map number xs) j
    group-other j other =
        numbers-map (put_mid (k * 4) (k * 4 + 4 - k * 4) xs piece) j ∙ ap (map number)
        (⊎_elim below above (cases_lt j k)) ∙ sym (numbers-map xs j)
      where
        below : j < k → take 4 (drop (j * 4) (put_mid (k * 4) (k * 4 + 4 - k * 4) xs piece)) ≡ take 4 (drop (j * 4) xs)
        below h =
            sym (drop-take (j * 4) 4 (put_mid (k * 4) (k * 4 + 4 - k * 4) xs piece))
            ∙ ap (drop (j * 4)) (take-put_mid_below (k * 4) (k * 4 + 4 - k * 4) xs piece (j * 4 + 4)
            (omega (arith, h)) (omega (arith, within)))
            ∙ drop-take (j * 4) 4 xs

        above : k ≤ j → take 4 (drop (j * 4) (put_mid (k * 4) (k * 4 + 4 - k * 4) xs piece)) ≡ take 4 (drop (j * 4) xs)
        above h = ap (take 4) (drop-put_mid (k * 4) (k * 4 + 4 - k * 4) xs piece (j * 4) (omega (arith, h, other))
            (omega (arith, within)) (omega (arith, size)))

-- a group of a channel's numbers is one of all
group-in_channel : (sections : ℕ) (kept : List ℤ) (i s : ℕ) → s < sections
    → numbers_in 4 (numbers_in (4 * sections) kept i) s ≡ four_at sections kept i s
group-in_channel sections kept i s inside =
    let split : 4 * sections ≡ s * 4 + (4 * sections - s * 4) = omega (arith, inside) in
    let front = drop (i * (4 * sections)) kept in
    ap (λ n. take 4 (drop (s * 4) (take n front))) split
    ∙ ap (take 4) (drop-take (s * 4) (4 * sections - s * 4) front)
    ∙ take-take 4 (4 * sections - s * 4) (drop (s * 4) front) (omega (arith, inside))
    ∙ ap (take 4) (drop-drop (s * 4) (i * (4 * sections)) kept ∙ ap (λ n. drop n kept)
    (let place : i * (4 * sections) + s * 4 ≡ (i * sections + s) * 4 = omega arith in place))

-- the numbers of a channel are the groups of its sections, one after another
pub channel-groups : (sections row : ℕ) (kept : List ℤ) (i : ℕ) → length kept ≡ row * sections * 4 → i < row
    → flat_map (four_at sections kept i) (range_with_len 0 sections) ≡ numbers_in (4 * sections) kept i
channel-groups sections row kept i whole inside =
    let many : length kept ≡ row * (4 * sections) = omega (arith, whole) in
    let size : length (numbers_in (4 * sections) kept i) ≡ sections * 4 = length-numbers_in (4 * sections) row kept
    many i inside ∙ omega arith in
    pieces-same (four_at sections kept i) (numbers_in 4 (numbers_in (4 * sections) kept i)) sections
    (λ s h. sym (group-in_channel sections kept i s h))
    ∙ sym (numbers-in_pieces 4 sections (numbers_in (4 * sections) kept i) size)

pub length-four : (sections row : ℕ) (kept : List ℤ) (i s : ℕ) → length kept ≡ row * sections * 4
    → i * sections + s < row * sections → length (four_at sections kept i s) ≡ 4
length-four sections row kept i s whole inside = length-numbers_in 4 (row * sections) kept whole (i * sections + s)
    inside
