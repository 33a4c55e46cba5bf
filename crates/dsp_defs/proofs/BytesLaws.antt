-- Samples and their bytes are inverse to each other.
use Rattle.std.proofs.Common.{◌≡◌, ℕ, zero, suc, ◌+◌, ◌*◌, ◌%◌, ◌^◌, ◌<◌, ◌≤◌, ℤ, pos, nat_abs, ◌+ℤ◌, ◌-ℤ◌, ◌*ℤ◌}
use Rattle.std.proofs.Common.{List, [], ◌∷◌, length, drop, get_or, ap, sym, ◌∙◌, arith, to_z-of_z, to_z, of_z, SFits}
use Rattle.std.proofs.Common.{w16, w32, w8, mod-eq_of_lt, ⊎_elim}
use Rattle.std.proofs.lemmas.Grind.{common_steps}
use Rattle.std.proofs.lemmas.Bool.{cases_lt}
use Rattle.std.proofs.lemmas.Nat.{from_le_bytes-to_le_bytes_2, from_le_bytes-to_le_bytes_4, le_bytes_2, le_bytes_4}
use Rattle.std.proofs.lemmas.Int.{ints, of_z-to_z}
use Rattle.std.specs.Int.{to_le_bytes, from_le_bytes}
use Rattle.dsp_defs.specs.Bytes.{AreBytes, IsValue, width, bytes_of, sample_of}
use Rattle.dsp_defs.specs.declared.format.Coding.{Coding}
use Rattle.dsp_defs.specs.declared.format.Coding.TheVariants.{Raw7, Raw15, Raw31, Wave7, Wave15, Wave24, Wave31}

pub byte_fits : (z : ℤ) → SFits w8 z → of_z w8 z < 256
byte_fits z h = omega (arith, ints)

pub half_fits : (z : ℤ) → SFits w16 z → of_z w16 z < 2 ^ 16
half_fits z h = omega (arith, ints)

pub word_fits : (z : ℤ) → SFits w32 z → of_z w32 z < 2 ^ 32
word_fits z h = omega (arith, ints)

-- ---- a value is read back

read_one : (x : ℤ) → SFits w8 x → to_z w8 (from_le_bytes w8 (to_le_bytes w8 (of_z w8 x))) ≡ x
read_one x h = ap (to_z w8) (mod-eq_of_lt (byte_fits x h)) ∙ to_z-of_z h

read_two : (x : ℤ) → SFits w16 x → to_z w16 (from_le_bytes w16 (to_le_bytes w16 (of_z w16 x))) ≡ x
read_two x h = ap (to_z w16) (from_le_bytes-to_le_bytes_2 (of_z w16 x) (half_fits x h)) ∙ to_z-of_z h

read_four : (x : ℤ) → SFits w32 x → to_z w32 (from_le_bytes w32 (to_le_bytes w32 (of_z w32 x))) ≡ x
read_four x h = ap (to_z w32) (from_le_bytes-to_le_bytes_4 (of_z w32 x) (word_fits x h)) ∙ to_z-of_z h

-- the lowest byte of a multiple of 2^8 is 0
pub lowest_byte : (x n : ℤ) → SFits w32 x → x ≡ n *ℤ pos (2 ^ 8) → of_z w32 x % 256 ≡ 0
lowest_byte x n h e = omega (arith, ints)

lowest_dropped : (x n : ℤ) → SFits w32 x → x ≡ n *ℤ pos (2 ^ 8) →
    0 ∷ drop 1 (to_le_bytes w32 (of_z w32 x)) ≡ to_le_bytes w32 (of_z w32 x)
lowest_dropped x n h e = ap (λ byte. byte ∷ drop 1 (to_le_bytes w32 (of_z w32 x))) (sym (lowest_byte x n h e))

pub sample_of-bytes_of : (coding : Coding) (x : ℤ) → IsValue coding x → sample_of coding (bytes_of coding x) ≡ x
sample_of-bytes_of Raw7 x h = read_one x h
sample_of-bytes_of Raw15 x h = read_two x h
sample_of-bytes_of Raw31 x h = read_four x h
sample_of-bytes_of Wave7 x h = omega (arith, ints)
sample_of-bytes_of Wave15 x h = read_two x h
sample_of-bytes_of Wave24 x (fits, n, e) = ap (λ bytes. to_z w32 (from_le_bytes w32 bytes))
    (lowest_dropped x n fits e) ∙ read_four x fits
sample_of-bytes_of Wave31 x h = read_four x h

-- ---- bytes are written back

two_fit : (bs : List ℕ) → ((i : ℕ) → get_or bs i 0 < 256) → from_le_bytes w16 bs < 2 ^ 16
two_fit bs h = omega (arith, h 0, h 1)

pub four_fit : (bs : List ℕ) → ((i : ℕ) → get_or bs i 0 < 256) → from_le_bytes w32 bs < 2 ^ 32
four_fit bs h = omega (arith, h 0, h 1, h 2, h 3)

raw_two : (bs : List ℕ) → length bs ≡ 2 → ((i : ℕ) → get_or bs i 0 < 256) →
    to_le_bytes w16 (of_z w16 (to_z w16 (from_le_bytes w16 bs))) ≡ bs
raw_two bs l h = le_bytes_2 bs _ l h (of_z-to_z w16 (from_le_bytes w16 bs) (two_fit bs h))

raw_four : (bs : List ℕ) → length bs ≡ 4 → ((i : ℕ) → get_or bs i 0 < 256) →
    to_le_bytes w32 (of_z w32 (to_z w32 (from_le_bytes w32 bs))) ≡ bs
raw_four bs l h = le_bytes_4 bs _ l h (of_z-to_z w32 (from_le_bytes w32 bs) (four_fit bs h))

one_list : (bs : List ℕ) → length bs ≡ 1 → get_or bs 0 0 ∷ [] ≡ bs
one_list bs h = grind (arith, common_steps)

raw_one : (bs : List ℕ) → length bs ≡ 1 → ((i : ℕ) → get_or bs i 0 < 256) →
    to_le_bytes w8 (of_z w8 (to_z w8 (from_le_bytes w8 bs))) ≡ bs
raw_one bs l h = rw (of_z-to_z w8 (get_or bs 0 0) (h 0), mod-eq_of_lt (h 0)) (one_list bs l)

zero_below : (bs : List ℕ) → ((i : ℕ) → get_or bs i 0 < 256) → (i : ℕ) → get_or (0 ∷ bs) i 0 < 256
zero_below bs h zero = omega arith
zero_below bs h (suc i) = h i

pub bytes_of-sample_of : (coding : Coding) (bytes : List ℕ) → AreBytes (width coding) bytes →
    bytes_of coding (sample_of coding bytes) ≡ bytes
bytes_of-sample_of Raw7 bytes h = raw_one bytes h.0 h.1
bytes_of-sample_of Raw15 bytes h = raw_two bytes h.0 h.1
bytes_of-sample_of Raw31 bytes h = raw_four bytes h.0 h.1
bytes_of-sample_of Wave7 bytes h = let e : nat_abs (pos (get_or bytes 0 0) -ℤ pos 128 +ℤ pos 128) ≡ get_or bytes 0 0 =
    omega (arith, ints) in rw e (one_list bytes h.0)
bytes_of-sample_of Wave15 bytes h = raw_two bytes h.0 h.1
bytes_of-sample_of Wave24 bytes h = ap (drop 1) (raw_four (0 ∷ bytes) (omega (arith, h.0)) (zero_below bytes h.1))
bytes_of-sample_of Wave31 bytes h = raw_four bytes h.0 h.1

-- ---- they are those of a value

one_signed : (bytes : List ℕ) → ((i : ℕ) → get_or bytes i 0 < 256) → SFits w8 (to_z w8 (from_le_bytes w8 bytes))
one_signed bytes h = omega (arith, ints, h 0)

two_signed : (bytes : List ℕ) → ((i : ℕ) → get_or bytes i 0 < 256) → SFits w16 (to_z w16 (from_le_bytes w16 bytes))
two_signed bytes h = (let small : from_le_bytes w16 bytes < 2 ^ 16 = two_fit bytes h in omega (arith, ints, small))

four_signed : (bytes : List ℕ) → ((i : ℕ) → get_or bytes i 0 < 256) → SFits w32 (to_z w32 (from_le_bytes w32 bytes))
four_signed bytes h = (let small : from_le_bytes w32 bytes < 2 ^ 32 = four_fit bytes h in omega (arith, ints, small))

-- the sample of a number that is a multiple of 2^8
is_multiple : (k m : ℕ) → k ≡ m * 256 → k < 2 ^ 32 → (n : ℤ) × (to_z w32 k ≡ n *ℤ pos (2 ^ 8))
is_multiple k m e small =
    ⊎_elim
    (λ (low : k < 2 ^ 31). (pos m, omega (arith, ints)))
    (λ (high : 2 ^ 31 ≤ k). (pos m -ℤ pos (2 ^ 24), omega (arith, ints, of_z-to_z w32 k small)))
    (cases_lt k (2 ^ 31))

upper_three : (bytes : List ℕ) → from_le_bytes w32 (0 ∷ bytes) ≡
    (get_or bytes 0 0 + 256 * (get_or bytes 1 0 + 256 * get_or bytes 2 0)) * 256
upper_three bytes = omega arith

pub sample_of-IsValue : (coding : Coding) (bytes : List ℕ) → AreBytes (width coding) bytes →
    IsValue coding (sample_of coding bytes)
sample_of-IsValue Raw7 bytes h = one_signed bytes h.1
sample_of-IsValue Raw15 bytes h = two_signed bytes h.1
sample_of-IsValue Raw31 bytes h = four_signed bytes h.1
sample_of-IsValue Wave7 bytes h = omega (arith, ints, h.1 0)
sample_of-IsValue Wave15 bytes h = two_signed bytes h.1
sample_of-IsValue Wave24 bytes h =
    let below = zero_below bytes h.1 in
    let (n, e) = is_multiple (from_le_bytes w32 (0 ∷ bytes))
    (get_or bytes 0 0 + 256 * (get_or bytes 1 0 + 256 * get_or bytes 2 0)) (upper_three bytes)
    (four_fit (0 ∷ bytes) below) in
    (four_signed (0 ∷ bytes) below, n, e)
sample_of-IsValue Wave31 bytes h = four_signed bytes h.1
