-- Sums of products that are known up to a multiple of a width.
use Rattle.std.proofs.Common.{ℕ, ◌≡◌, ◌<◌, ◌+◌, ◌-◌, ◌*◌, ◌^◌, w32, w64, List, length, map, ℤ, ◌+ℤ◌, ◌*ℤ◌, sym}
use Rattle.std.proofs.Common.{ap, ◌∙◌, arith, slice_range, take, drop, set, pos, refl, ◌≤◌}
use Rattle.std.proofs.lemmas.Int.{int_wrap-add_left, to_z-of_z}
use Rattle.std.proofs.lemmas.List.{length-map, get_or-take, get_or-drop, take-map, drop-map, map-set}
use Rattle.std.specs.Int.{int_wrap}
use lib.Signed.{mag}
use mir.Syntax.{Width}
use mir.Val.{SFits, to_z, of_z}
use Rattle.dsp_defs.specs.Counts.{Counts, Rises}
use Rattle.dsp_defs.specs.Signal.{sample, sum_below, values}
use Rattle.dsp_defs.proofs.Signal.{sum_below_cong}
use Rattle.dsp_lanes.specs.Rows.{row, row_at, IsRow}
use Rattle.dsp_lanes.specs.Turns.{RisesWithin}
use Rattle.dsp_lanes.proofs.LaneRows.{sum_below-add, rows-one}

-- a group of products more
pub group-more : (w : Width) (at n m : ℕ) (taps window : List ℤ) (new old : ℤ) → m ≡ at + n
    → int_wrap w new ≡ int_wrap w (old +ℤ sum_below n (λ k. sample taps (at + k) *ℤ sample window (at + k)))
    → int_wrap w old ≡ int_wrap w (sum_below at (λ k. sample taps k *ℤ sample window k))
    → int_wrap w new ≡ int_wrap w (sum_below m (λ k. sample taps k *ℤ sample window k))
group-more w at n m taps window new old next is so_far =
    let f : ℕ → ℤ = λ k. sample taps k *ℤ sample window k in
    is
    ∙ sym (int_wrap-add_left w old (sum_below n (λ k. f (at + k))))
    ∙ ap (λ z. int_wrap w (z +ℤ sum_below n (λ k. f (at + k)))) so_far
    ∙ int_wrap-add_left w (sum_below at f) (sum_below n (λ k. f (at + k)))
    ∙ ap (int_wrap w) (sum_below-add at n f)
    ∙ ap (λ k. int_wrap w (sum_below k f)) (sym next)

-- a window that is a piece of another
piece-row_part : {X : Type 0} (number : X → ℤ) (taps : List ℤ) (window : List X) (start count end m : ℕ) → m ≤ count →
    end ≡ start + count
    → sum_below m (λ k. sample taps k *ℤ sample (map number (slice_range window start end)) k) ≡
    row taps (map number window) m start
piece-row_part number taps window start count end m few end_is =
    sum_below_cong m (λ k. sample taps k *ℤ sample (map number (slice_range window start end)) k)
    (λ k. sample taps k *ℤ sample (map number window) (start + k))
    (λ k h. ap (λ v. sample taps k *ℤ v) (ap (λ e. sample (map number (slice_range window start e)) k) end_is ∙
    piece-sample number window start count k (omega (arith, h, few))))
  where
    piece-sample : {X : Type 0} → (number : X → ℤ) (xs : List X) (i m j : ℕ) → j < m →
        sample (map number (slice_range xs i (i + m))) j ≡ sample (map number xs) (i + j)
    piece-sample number xs i m j below =
        let size : i + m - i ≡ m = omega arith in
        ap (λ k. sample (map number (take k (drop i xs))) j) size
        ∙ ap (λ l. sample l j) (sym (take-map number m (drop i xs)))
        ∙ get_or-take m (map number (drop i xs)) j (pos 0) below
        ∙ ap (λ l. sample l j) (sym (drop-map number i xs))
        ∙ get_or-drop i (map number xs) j (pos 0)

pub piece-row : {X : Type 0} (number : X → ℤ) (taps window : List X) (start count end : ℕ) → count ≡ length taps →
    end ≡ start + count
    → sum_below count (λ k. sample (map number taps) k *ℤ sample (map number (slice_range window start end)) k) ≡
    row_at (map number taps) (map number window) start
piece-row number taps window start count end count_is end_is =
    piece-row_part number (map number taps) window start count end count (omega arith) end_is
    ∙ ap (λ n. row (map number taps) (map number window) n start) (count_is ∙ sym (length-map taps number))

-- a group of products more in a row
pub row-group : {X : Type 0} (w : Width) (number : X → ℤ) (taps : List ℤ) (window : List X) (start count at n : ℕ)
    (new old : ℤ) → at + n ≤ count
    → int_wrap w new ≡ int_wrap w (old +ℤ sum_below n (λ k. sample taps (at + k) *ℤ
    sample (map number (slice_range window start (start + count))) (at + k)))
    → IsRow w taps (map number window) at start old → IsRow w taps (map number window) (at + n) start new
row-group w number taps window start count at n new old room is so_far =
    let piece = map number (slice_range window start (start + count)) in
    let same : (m : ℕ) → m ≤ count → sum_below m (λ k. sample taps k *ℤ sample piece k) ≡ row taps (map number window)
    m start = λ m few. piece-row_part number taps window start count (start + count) m few refl in
    group-more w at n (at + n) taps piece new old refl is
    (so_far ∙ ap (int_wrap w) (sym (same at (omega (arith, room)))))
    ∙ ap (int_wrap w) (same (at + n) room)

-- four groups, and four products, that were counted
pub four_groups : (a b c d e : Counts) (n m : ℕ) → m ≡ n → Rises a b n 1 → Rises b c n 1 → Rises c d n 1 →
    Rises d e n 1 → RisesWithin a e (4 * m) 4
four_groups a b c d e n m is f g h i = record {
  multiplies_rise = omega (arith, is, f, g, h, i);
  turns_within =
      omega (arith, f, g, h, i);
}

pub four_products : (a b c d e : Counts) → Rises a b 1 1 → Rises b c 1 1 → Rises c d 1 1 → Rises d e 1 1 → Rises a e 4 4
four_products a b c d e f g h i = record {
  multiplies_rise = omega (arith, f, g, h, i);
  turns_rise =
      omega (arith, f, g, h, i);
}

-- two of them
pub both_groups : (a b c : Counts) (n m : ℕ) → m ≡ n → Rises a b n 1 → Rises b c n 1 → RisesWithin a c (2 * m) 2
both_groups a b c n m is f g = record { multiplies_rise = omega (arith, is, f, g); turns_within = omega (arith, f, g) }

pub both_products : (a b c : Counts) → Rises a b 1 1 → Rises b c 1 1 → Rises a c 2 2
both_products a b c f g = record { multiplies_rise = omega (arith, f, g); turns_rise = omega (arith, f, g) }

-- ---- values that are written
pub write-one : {X : Type 0} (number : X → ℤ) (f : ℕ → ℤ) (at m : ℕ) (out : List X) (v : X) → m ≡ at + 1 →
    at < length out → take at (map number out) ≡ values at f → number v ≡ f at →
    take m (map number (set out at v)) ≡ values m f
write-one number f at m out v next room before is =
    ap (take m) (map-set number out at v) ∙ rows-one f at m (map number out) (number v) next
    (omega (arith, room, length-map out number)) before is

pub counted-more : (a b c : Counts) (i k m p q : ℕ) → m ≡ i + k → RisesWithin a b (i * p) (i * q) →
    RisesWithin b c (k * p) (k * q) → RisesWithin a c (m * p) (m * q)
counted-more a b c i k m p q next before more =
    let products : m * p ≡ i * p + k * p = ap (λ j. j * p) next ∙ omega arith in
    let turns : m * q ≡ i * q + k * q = ap (λ j. j * q) next ∙ omega arith in
    record {
      multiplies_rise = omega (arith, before, more, products);
      turns_within =
          omega (arith, before, more, turns);
    }

pub one-row : (b c : Counts) (p q : ℕ) → RisesWithin b c p q → RisesWithin b c (1 * p) (1 * q)
one-row b c p q h = record { multiplies_rise = omega (arith, h); turns_within = omega (arith, h) }

-- ---- a sum by narrow taps, read from its low word
pub low_read : (z low from row : ℤ) → SFits w64 z → low ≡ int_wrap w32 (to_z w64 (of_z w64 z)) →
    from ≡ to_z w32 (of_z w32 low) → mag from < 2 ^ 63 → mag low < 2 ^ 31
    → int_wrap w32 z ≡ int_wrap w32 row → int_wrap w32 row ≡ int_wrap w64 row →
    to_z w64 (of_z w64 from) ≡ int_wrap w64 row
low_read z low from row fits low_is from_is from_fits low_fits is narrow =
    to_z-of_z w64 from (record { sfits = from_fits })
    ∙ from_is
    ∙ to_z-of_z w32 low (record { sfits = low_fits })
    ∙ low_is
    ∙ ap (int_wrap w32) (to_z-of_z w64 z fits)
    ∙ is
    ∙ narrow
