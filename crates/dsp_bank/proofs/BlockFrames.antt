-- The frames of a call among rows that have two frames more.
use Rattle.std.proofs.Common.{◌≡◌, ◌∙◌, ap, sym, ℕ, ◌+◌, ◌-◌, ◌*◌, ◌<◌, ℤ, List, length, map, take, drop, slice_range}
use Rattle.std.proofs.Common.{arith}
use Rattle.std.proofs.lemmas.Nat.{mul-add-lt}
use Rattle.std.proofs.lemmas.Slice.{between-put_mid}
use borrow.Rule.Slice.PartMut.{put_mid}
use Rattle.dsp_defs.specs.Signal.{sample}
use Rattle.dsp_defs.proofs.Signal.{values_cong}
use Rattle.dsp_unit.specs.Channels.{samples_in}
use Rattle.dsp_filter.proofs.Slices.{sample-piece}
use Rattle.dsp_bank.specs.Rows.{channel_after}

module _ {X : Type 0} (number : X → ℤ) (row count i : ℕ) (inside : i < row) where
  -- a channel of the rows after the first two frames
  after-piece : (xs piece : List X) → slice_range xs (2 * row) (2 * row + count * row) ≡ piece
      → channel_after row count (map number xs) i ≡ samples_in row count (map number piece) i
  after-piece xs piece is =
      values_cong count (λ n. sample (map number xs) ((n + 2) * row + i)) (λ n. sample (map number piece) (n * row + i))
      (λ n h.
      let within : n * row + i < count * row = omega (arith, mul-add-lt n row i count h inside) in
      let place : (n + 2) * row + i ≡ 2 * row + (n * row + i) = omega arith in
      ap (sample (map number xs)) place ∙ sym (sample-piece number xs (2 * row) (count * row) (n * row + i) within)
      ∙ ap (λ l. sample (map number l) (n * row + i)) is)

  pub taken-frames : (inner frames : List X) → length inner ≡ (count + 2) * row → length frames ≡ count * row →
      channel_after row count (map number (put_mid (2 * row) (length inner - 2 * row) inner frames)) i
      ≡ samples_in row count (map number frames) i
  taken-frames inner frames long size =
      after-piece (put_mid (2 * row) (length inner - 2 * row) inner frames) frames
      (between-put_mid (2 * row) (length inner - 2 * row) inner frames (2 * row + count * row) (omega (arith, long))
      (omega (arith, size)))

  pub given-frames : (inner : List X) → length inner ≡ (count + 2) * row →
      channel_after row count (map number inner) i ≡ samples_in row count
      (map number (take (length inner - 2 * row) (drop (2 * row) inner))) i
  given-frames inner long =
      let same : 2 * row + count * row - 2 * row ≡ length inner - 2 * row = omega (arith, long) in
      after-piece inner (take (length inner - 2 * row) (drop (2 * row) inner))
      (ap (λ n. take n (drop (2 * row) inner)) same)
