-- Numbers of 8 bytes each, read and written.
use Rattle.std.proofs.Common.{◌≡◌, ◌∙◌, ap, refl, sym, ℕ, zero, suc, ◌+◌, ◌-◌, ◌*◌, ◌<◌, ◌≤◌, ◌^◌, List, [], ◌∷◌}
use Rattle.std.proofs.Common.{◌++◌, length, take, drop, get_or, All, add-one, arith, take-take, length-take}
use Rattle.std.proofs.Common.{length-drop, pos, ℤ, subst, FitsSigned, Bool, true, false, not}
use Rattle.std.specs.Int.{w32, w64, to_le_bytes, from_le_bytes, cast_signed}
use Rattle.std.specs.List.{flat_map}
use Rattle.std.specs.Str.{bytes_eq}
use Rattle.std.proofs.lemmas.Grind.{flat_map-append}
use Rattle.std.proofs.lemmas.Int.{of_z-to_z}
use Rattle.std.proofs.lemmas.List.{append-nil, get_or-take, drop-take, take_all}
use Rattle.std.proofs.lemmas.List.Elements.{All-head, All-tail, All-take, All-drop, All-from_get_or}
use Rattle.std.proofs.lemmas.List.FromFn.{map-range_with_len_more, get_or-map-range_with_len, length-map-range_with_len}
use Rattle.std.proofs.lemmas.Nat.{le_bytes_8}
use Rattle.std.proofs.lemmas.Slice.Eq.{bytes_eq-Decides}
use Rattle.std.proofs.Math.Facts.{sfits_to_z}
use Rattle.std.proofs.Math.Seq.{take-add}
use Rattle.byteorder.specs.Endian.{little_number}
use Rattle.dsp_defs.specs.Signal.{values}
use Rattle.dsp_defs.specs.StateBytes.{number_bytes, number_of}
use Rattle.dsp_defs.specs.Wave.{u32_at}

-- bytes are below 256
abbrev pub AreBytes : List ℕ → Type 0
AreBytes bytes = All (λ b. b < 256) bytes

pub byte_at : (bytes : List ℕ) → AreBytes bytes → (i : ℕ) → get_or bytes i 0 < 256
byte_at [] are i = omega arith
byte_at (b ∷ bytes) are zero = All-head (λ b. b < 256) b bytes are
byte_at (b ∷ bytes) are (suc i) = byte_at bytes (All-tail (λ b. b < 256) b bytes are) i

-- ---- reading

little_8 : (bytes : List ℕ) → little_number 8 bytes ≡ from_le_bytes w64 (take 8 bytes)
little_8 bytes =
    let same : (i : ℕ) → i < 8 → get_or (take 8 bytes) i 0 ≡ get_or bytes i 0 =
    λ i below. get_or-take 8 bytes i 0 below in
    omega (
      arith,
      same 0 (omega arith),
      same 1 (omega arith),
      same 2 (omega arith),
      same 3 (omega arith),
      same 4 (omega arith),
      same 5 (omega arith),
      same 6 (omega arith),
      same 7 (omega arith),
    )

-- the number at a place among the first ones, as byteorder reads it
pub read_number : (bytes front : List ℕ) (count k : ℕ) → k < count → front ≡ take (8 * count) bytes →
    cast_signed w64 (little_number 8 (drop (8 * k) front)) ≡ number_of (take 8 (drop (k * 8) bytes))
read_number bytes front count k below is =
    let place : 8 * k ≡ k * 8 = omega arith in
    let behind = 8 * count - k * 8 in
    let split : 8 * count ≡ k * 8 + behind = omega (arith, below) in
    let piece : drop (8 * k) front ≡ take behind (drop (k * 8) bytes) =
    (λ i. drop (place i) (is i)) ∙ ap (λ n. drop (k * 8) (take n bytes)) split ∙ drop-take (k * 8) behind bytes in
    ap (cast_signed w64) (little_8 (drop (8 * k) front)) ∙ ap (λ l. number_of (take 8 l)) piece
    ∙ ap number_of (take-take 8 behind (drop (k * 8) bytes) (omega (arith, below)))

-- ---- and back

below_64 : (bytes : List ℕ) → ((i : ℕ) → get_or bytes i 0 < 256) → from_le_bytes w64 bytes < 2 ^ 64
below_64 bytes at = omega (arith, at 0, at 1, at 2, at 3, at 4, at 5, at 6, at 7)

number_back : (bytes : List ℕ) → length bytes ≡ 8 → AreBytes bytes → number_bytes (number_of bytes) ≡ bytes
number_back bytes long are =
    let at = byte_at bytes are in
    ap (to_le_bytes w64) (of_z-to_z w64 (from_le_bytes w64 bytes) (below_64 bytes at)) ∙
    le_bytes_8 bytes (from_le_bytes w64 bytes) long at refl

-- the bytes of the numbers that were read are those that they were read of
pub numbers_back : (bytes : List ℕ) → AreBytes bytes → (k : ℕ) → k * 8 ≤ length bytes →
    flat_map number_bytes (values k (λ i. number_of (take 8 (drop (i * 8) bytes)))) ≡ take (k * 8) bytes
numbers_back bytes are zero within = refl
numbers_back bytes are (suc k) within =
    let at : ℕ → _ = λ i. number_of (take 8 (drop (i * 8) bytes)) in
    let piece = take 8 (drop (k * 8) bytes) in
    let long : length piece ≡ 8 = omega (arith, within, length-take 8 (drop (k * 8) bytes), length-drop (k * 8) bytes)
    in
    let more : values (suc k) at ≡ values k at ++ at k ∷ [] = ap (λ n. values n at) (sym (add-one k)) ∙
    map-range_with_len_more at 0 k k (omega arith) in
    let count : k * 8 + 8 ≡ suc k * 8 = omega arith in
    ap (flat_map number_bytes) more
    ∙ flat_map-append number_bytes (values k at) (at k ∷ [])
    ∙ ap (λ l. l ++ flat_map number_bytes (at k ∷ [])) (numbers_back bytes are k (omega (arith, within)))
    ∙ ap (λ l. take (k * 8) bytes ++ l) (append-nil (number_bytes (at k)) ∙
    number_back piece long (All-take (λ b. b < 256) 8 (drop (k * 8) bytes)
    (All-drop (λ b. b < 256) (k * 8) bytes are)))
    ∙ sym (take-add (k * 8) 8 bytes)
    ∙ ap (λ n. take n bytes) count

-- and each of them has 64 bits
number_fits : (bytes : List ℕ) → AreBytes bytes → FitsSigned w64 (number_of bytes)
number_fits bytes are = sfits_to_z {w = w64} {n = from_le_bytes w64 bytes}
    (record { fits = below_64 bytes (byte_at bytes are) })

pub numbers_fit : (bytes : List ℕ) → AreBytes bytes → (count : ℕ) →
    All (FitsSigned w64) (values count (λ i. number_of (take 8 (drop (i * 8) bytes))))
numbers_fit bytes are count =
    let at : ℕ → ℤ = λ i. number_of (take 8 (drop (i * 8) bytes)) in
    All-from_get_or (FitsSigned w64) (values count at) (pos 0)
    (λ k within.
    let found : get_or (values count at) k (pos 0) ≡ at k =
    get_or-map-range_with_len at 0 count k k (pos 0) (omega (arith, within, length-map-range_with_len at 0 count))
    (omega arith) in
    subst (FitsSigned w64) (sym found) (number_fits (take 8 (drop (k * 8) bytes))
    (All-take (λ b. b < 256) 8 (drop (k * 8) bytes) (All-drop (λ b. b < 256) (k * 8) bytes are))))

-- ---- numbers of 4 bytes

little_4 : (bytes : List ℕ) → little_number 4 bytes ≡ from_le_bytes w32 (take 4 bytes)
little_4 bytes =
    let same : (i : ℕ) → i < 4 → get_or (take 4 bytes) i 0 ≡ get_or bytes i 0 =
    λ i below. get_or-take 4 bytes i 0 below in
    omega (arith, same 0 (omega arith), same 1 (omega arith), same 2 (omega arith), same 3 (omega arith))

-- the number at a place, as byteorder reads it of what stands from there on
pub u32_read : (bytes piece : List ℕ) (place : ℕ) → piece ≡ drop place bytes →
    little_number 4 piece ≡ u32_at bytes place
u32_read bytes piece place is = little_4 piece ∙ ap (λ l. from_le_bytes w32 (take 4 l)) is

-- all that stands from a place on
pub from_place : (bytes : List ℕ) (at place : ℕ) → at ≡ place →
    take (length bytes - at) (drop at bytes) ≡ drop place bytes
from_place bytes at place is = take_all (length bytes - at) (drop at bytes) (omega (arith, length-drop at bytes)) ∙
    ap (λ n. drop n bytes) is

-- ---- bytes that were compared

pub same_bytes : (xs ys : List ℕ) → false ≡ not (bytes_eq xs ys) → xs ≡ ys
same_bytes xs ys h = tested (bytes_eq xs ys) refl h
  where
    tested : (b : Bool) → bytes_eq xs ys ≡ b → false ≡ not b → xs ≡ ys
    tested true is h = (bytes_eq-Decides xs ys).0 is
    tested false is h = absurd cc
