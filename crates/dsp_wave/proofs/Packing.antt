-- Samples of 8 bits in lanes.
use Rattle.std.proofs.Common.{◌≡◌, ◌∙◌, refl, ap, sym, subst, arith, ℕ, zero, suc, ◌+◌, ◌-◌, ◌%◌, ◌^◌, ◌<◌, ◌≤◌}
use Rattle.std.proofs.Common.{List, [], ◌∷◌, ◌++◌, length, map, take, drop, take-add, replicate, All, w8, w32}
use Rattle.std.proofs.Common.{ℤ, pos, negsuc, ◌+ℤ◌, nat_abs}
use Rattle.std.specs.List.{flat_map}
use Rattle.std.proofs.lemmas.Int.{ints, to_z_pos}
use Rattle.std.proofs.lemmas.List.Elements.{All-head, All-tail, All-take, All-drop}
use Rattle.std.proofs.lemmas.Nat.{and_mask, mod_below}
use Rattle.std.proofs.lemmas.Simd.{length-chunk, take_more_put_chunk}
use Rattle.std.proofs.lemmas.Grind.{flat_map-append}
use lib.Lanes.{zip2, Each1, chunk, put_chunk}
use mir.Syntax.{bit_and, cast, signed, unsigned, wrap_add}
use mir.Val.{of_z}
use borrow.Table.Row.{s_int}
use borrow.Rule.Simd.Lanes.{Asks1, act1, act2}
use Rattle.dsp_defs.specs.Bytes.{IsValue, bytes_of}
use Rattle.dsp_defs.specs.declared.format.Coding.{Coding}
use Rattle.dsp_defs.specs.declared.format.Coding.TheVariants.{Raw7, Wave7}
use Rattle.dsp_wave.specs.Packed.{IsLastByte}

abbrev plus : ℕ → ℕ → ℕ
plus = act2 wrap_add (s_int w32) (s_int w32) (s_int w32)

abbrev both : ℕ → ℕ → ℕ
both = act2 bit_and (s_int w32) (s_int w32) (s_int w32)

abbrev to_byte : ℕ → ℕ
to_byte = act1 (cast signed unsigned w8) (s_int w32) (s_int w8)

byte_lane : (a b : ℕ) → both (plus a b) 255 ≡ (a + b) % 2 ^ 32 % 2 ^ 8
byte_lane a b = and_mask ((a + b) % 2 ^ 32) 8

cast_lane : (n : ℕ) → n < 2 ^ 8 → to_byte n ≡ n
cast_lane n h = ap nat_abs (to_z_pos w32 n (omega (arith, h)))

fits_byte : (n : ℕ) → n < 2 ^ 8 → Asks1 (cast signed unsigned w8) (s_int w32) n
fits_byte n h = rw (to_z_pos w32 n (omega (arith, h))) (tt, record { fits = h })

byte_fits : (a b : ℕ) → Asks1 (cast signed unsigned w8) (s_int w32) (both (plus a b) 255)
byte_fits a b = subst (Asks1 (cast signed unsigned w8) (s_int w32)) (sym (byte_lane a b))
    (fits_byte ((a + b) % 2 ^ 32 % 2 ^ 8) (mod_below ((a + b) % 2 ^ 32) (2 ^ 8) (omega arith)))

-- the last bytes of n lanes, each with so much more
abbrev lanes : ℕ → ℕ → List ℤ → List ℕ
lanes n above xs = zip2 both (zip2 plus (map (of_z w32) xs) (replicate n above)) (replicate n 255)

pub lanes_fit : (n above : ℕ) (xs : List ℤ) → length xs ≡ n
    → Each1 (Asks1 (cast signed unsigned w8) (s_int w32)) (lanes n above xs)
lanes_fit n above [] long = tt
lanes_fit zero above (x ∷ xs) long = absurd (omega (arith, long))
lanes_fit (suc n) above (x ∷ xs) long = (byte_fits (of_z w32 x) above, lanes_fit n above xs (omega (arith, long)))

pub lanes_are : (n : ℕ) (coding : Coding) (above : ℤ) → IsLastByte coding above → (xs : List ℤ) → length xs ≡ n
    → All (IsValue coding) xs → map to_byte (lanes n (of_z w32 above) xs) ≡ flat_map (bytes_of coding) xs
lanes_are n coding above last [] long fits = refl
lanes_are zero coding above last (x ∷ xs) long fits = absurd (omega (arith, long))
lanes_are (suc n) coding above last (x ∷ xs) long fits =
    let byte = byte_lane (of_z w32 x) (of_z w32 above) in
    let small = mod_below ((of_z w32 x + of_z w32 above) % 2 ^ 32) (2 ^ 8) (omega arith) in
    let head = ap to_byte byte ∙ cast_lane ((of_z w32 x + of_z w32 above) % 2 ^ 32 % 2 ^ 8) small in
    (λ i. head i ∷ lanes_are n coding above last xs (omega (arith, long)) (All-tail (IsValue coding) x xs fits) i) ∙
    ap (λ b. b ++ flat_map (bytes_of coding) xs) (sym (last x (All-head (IsValue coding) x xs fits)))

-- each sample has one byte
one-each : (coding : Coding) (above : ℤ) → IsLastByte coding above → (xs : List ℤ) → All (IsValue coding) xs
    → length (flat_map (bytes_of coding) xs) ≡ length xs
one-each coding above last [] fits = refl
one-each coding above last (x ∷ xs) fits =
    ap (λ b. length (b ++ flat_map (bytes_of coding) xs)) (last x (All-head (IsValue coding) x xs fits))
    ∙ ap suc (one-each coding above last xs (All-tail (IsValue coding) x xs fits))

-- a group more is written
pub one-more : (coding : Coding) (above : ℤ) → IsLastByte coding above → (n at : ℕ) (xs : List ℤ) (bytes : List ℕ)
    → All (IsValue coding) xs → at + n ≤ length xs → length bytes ≡ length xs
    → take at bytes ≡ flat_map (bytes_of coding) (take at xs)
    → take (at + n) (put_chunk at bytes (flat_map (bytes_of coding) (chunk at n xs)))
    ≡ flat_map (bytes_of coding) (take (at + n) xs)
one-more coding above last n at xs bytes fits within room before =
    let f = bytes_of coding in
    let given = chunk at n xs in
    let fit = All-take (IsValue coding) n (drop at xs) (All-drop (IsValue coding) at xs fits) in
    let size = one-each coding above last given fit ∙ length-chunk at n xs within in
    take_more_put_chunk at bytes (flat_map f given) (at + n) (omega (arith, size)) (omega (arith, size, within, room))
    ∙ ap (λ l. l ++ flat_map f given) before
    ∙ sym (flat_map-append f (take at xs) given)
    ∙ ap (flat_map f) (sym (take-add at n xs))

-- a raw sample is its last byte, and one of a WAVE file that of 128 more
pub raw-last : IsLastByte Raw7 (pos 0)
raw-last (pos n) fits =
    let same : n % 2 ^ 8 ≡ (n + 0) % 2 ^ 32 % 2 ^ 8 = omega (arith, fits.sfits) in ap (λ b. b ∷ []) same
raw-last (negsuc n) fits =
    let same : (2 ^ 8 - suc n) % 2 ^ 8 ≡ (2 ^ 32 - suc n + 0) % 2 ^ 32 % 2 ^ 8 = omega (arith, fits.sfits) in
    ap (λ b. b ∷ []) same

pub wave-last : IsLastByte Wave7 (pos 128)
wave-last (pos n) fits =
    let same : n + 128 ≡ (n + 128) % 2 ^ 32 % 2 ^ 8 = omega (arith, fits.sfits) in ap (λ b. b ∷ []) same
wave-last (negsuc n) fits =
    let same : nat_abs (negsuc n +ℤ pos 128) ≡ (2 ^ 32 - suc n + 128) % 2 ^ 32 % 2 ^ 8 =
    omega (arith, ints, fits.sfits) in ap (λ b. b ∷ []) same
