-- Shifts up in a word of 32 bits, by the greatest number shifted down: what they leave whole, and what saturates.
use Rattle.std.proofs.Common.{◌≡◌, ◌∙◌, ap, sym, Bool, ℕ, zero, suc, true, false, ◌%◌, ◌/◌, ◌+◌, ◌-◌, ◌*◌, ◌≤◌, ◌<◌}
use Rattle.std.proofs.Common.{ℤ, pos, negsuc, ◌^◌, ◌≤ℤ◌, SFits, to_z, of_z, arith, ⊎_elim}
use Rattle.std.specs.Prelude.{min, neg_ℤ}
use Rattle.std.specs.Int.{w32, int_max}
use Rattle.std.proofs.lemmas.Nat.{pow-add, pow_pos, div-mul-add, mod-mul-add}
use Rattle.std.proofs.lemmas.Int.{ints, int_max_is, to_z_pos, to_z-of_z}
use Rattle.std.proofs.Math.Nat.{add-mul, mul-le-mul, div-le_self}
use Rattle.std.proofs.lemmas.Bool.{cases_lt}
use lib.Signed.{lt_z}
use Rattle.dsp_defs.specs.Numbers.{saturate}
use Rattle.dsp_defs.specs.Elementwise.{shift_in}

quotient : (a b n : ℕ) → (a + 1) * (b + 1) ≡ n + 1 → n / (b + 1) ≡ a
quotient a b n e = ap (λ m. m / (b + 1)) (grind arith) ∙ div-mul-add a (b + 1) b (omega arith)

whole : (j k n : ℕ) → 2 ^ j * 2 ^ k ≡ n + 1 → (n / 2 ^ k + 1) * 2 ^ k ≡ n + 1
whole j k n e =
    let high = pow_pos j in
    let low = pow_pos k in
    let first : 2 ^ j ≡ (2 ^ j - 1) + 1 = omega arith in
    let second : 2 ^ k ≡ (2 ^ k - 1) + 1 = omega arith in
    let is : n / 2 ^ k ≡ 2 ^ j - 1 =
    ap (λ m. n / m) second ∙ quotient (2 ^ j - 1) (2 ^ k - 1) n
    (sym (ap (λ m. m * ((2 ^ k - 1) + 1)) first) ∙ ap (λ m. 2 ^ j * m) (sym second) ∙ e) in
    ap (λ m. (m + 1) * 2 ^ k) is ∙ ap (λ m. m * 2 ^ k) (sym first) ∙ e

-- the greatest number shifted down, and one, is 2^31 shifted down
top_is : (k : ℕ) → k ≤ 31 → (2147483647 / 2 ^ k + 1) * 2 ^ k ≡ 2147483648
top_is k few =
    let split : 31 - k + k ≡ 31 = omega arith in
    whole (31 - k) k 2147483647 (sym (pow-add 2 (31 - k) k) ∙ ap (λ n. 2 ^ n) split)

above : (a k : ℕ) → k ≤ 31 → 2147483647 / 2 ^ k < a → 2147483648 ≤ a * 2 ^ k
above a k few more = let top = top_is k few in let grown : (2147483647 / 2 ^ k + 1) * 2 ^ k ≤ a * 2 ^ k =
    mul-le-mul (omega arith) (omega arith) in omega arith

below : (a k : ℕ) → k ≤ 31 → a ≤ 2147483647 / 2 ^ k + 1 → a * 2 ^ k ≤ 2147483648
below a k few less = let top = top_is k few in let grown : a * 2 ^ k ≤ (2147483647 / 2 ^ k + 1) * 2 ^ k =
    mul-le-mul (omega arith) (omega arith) in omega arith

-- the greatest number shifted down, as a comparison has it
top_at : (k : ℕ) → to_z w32 (2147483647 / 2 ^ k) ≡ pos (2147483647 / 2 ^ k)
top_at k = to_z_pos w32 (2147483647 / 2 ^ k) (omega (arith, div-le_self 2147483647 (2 ^ k)))

compared : (x : ℤ) (k : ℕ) (b : Bool) → SFits w32 x →
    lt_z (to_z w32 (2147483647 / 2 ^ k)) (to_z w32 (of_z w32 x)) ≡ b → lt_z (pos (2147483647 / 2 ^ k)) x ≡ b
compared x k b fits is =
    ap (λ t. lt_z t x) (sym (top_at k)) ∙ ap (lt_z (to_z w32 (2147483647 / 2 ^ k))) (sym (to_z-of_z w32 x fits)) ∙ is

-- a number above the greatest one shifted down saturates
pub saturates :
    (x places : ℤ) → SFits w32 x → pos 0 ≤ℤ places → places ≤ℤ pos 31 →
    lt_z (to_z w32 (2147483647 / 2 ^ of_z w32 places)) (to_z w32 (of_z w32 x)) ≡ true →
    pos 2147483647 ≡ shift_in 32 x places
saturates x (negsuc k) fits up few more = absurd (omega (arith, ints))
saturates (pos a) (pos k) fits up few more =
    let greater = compared (pos a) k true fits more in
    let large : 2147483648 ≤ a * 2 ^ k = above a k (omega (arith, ints)) (omega (arith, ints, greater)) in
    ap pos (omega arith)
saturates (negsuc b) (pos k) fits up few more =
    let greater = compared (negsuc b) k true fits more in
    absurd (omega (arith, ints, greater))

-- the least number shifted down, as a comparison has it
bottom_at : (k : ℕ) → to_z w32 (4294967296 - suc (2147483647 / 2 ^ k)) ≡ negsuc (2147483647 / 2 ^ k)
bottom_at k = to_z-of_z w32 (negsuc (2147483647 / 2 ^ k))
    (record { sfits = omega (arith, div-le_self 2147483647 (2 ^ k)) })

-- the word of a negative number, shifted up
negative_up : (c k : ℕ) → c < 4294967296 → suc c * 2 ^ k ≤ 2147483648 →
    to_z w32 ((4294967296 - suc c) * 2 ^ k % 4294967296) ≡ negsuc (suc c * 2 ^ k - 1)
negative_up c k small few =
    let low = pow_pos k in
    let once : 2 ^ k ≤ suc c * 2 ^ k = grind arith in
    let sum : 4294967296 - suc c + suc c ≡ 4294967296 = omega arith in
    let both = sym (add-mul (4294967296 - suc c) (suc c) (2 ^ k)) ∙ ap (λ n. n * 2 ^ k) sum in
    let parts : (4294967296 - suc c) * 2 ^ k ≡ (2 ^ k - 1) * 4294967296 + (4294967296 - suc c * 2 ^ k) =
    omega (arith, both) in
    let word : 4294967296 - suc c * 2 ^ k ≡ 4294967296 - suc (suc c * 2 ^ k - 1) = omega arith in
    ap (λ n. to_z w32 (n % 4294967296)) parts
    ∙ ap (to_z w32) (mod-mul-add (2 ^ k - 1) 4294967296 (4294967296 - suc c * 2 ^ k) (omega arith) ∙ word)
    ∙ to_z-of_z w32 (negsuc (suc c * 2 ^ k - 1)) (record { sfits = omega arith })

negative_saturated : (q : ℕ) → 1 ≤ q → saturate 32 (neg_ℤ (pos q)) ≡ negsuc (min (q - 1) 2147483647)
negative_saturated zero some = absurd (omega arith)
negative_saturated (suc p) some = let one : p ≡ suc p - 1 = omega arith in ap (λ n. negsuc (min n 2147483647)) one

larger_negative : (b t : ℕ) → int_max (negsuc b) (negsuc t) ≡ negsuc (min b t)
larger_negative b t = grind (arith, ints, int_max_is)

negative_whole : (b k : ℕ) → k ≤ 31 → b < 2147483648 →
    to_z w32 ((4294967296 - suc (min b (2147483647 / 2 ^ k))) * 2 ^ k % 4294967296) ≡ saturate 32
    (neg_ℤ (pos (suc b * 2 ^ k)))
negative_whole b k few small =
    let t = 2147483647 / 2 ^ k in
    let c = min b t in
    let low = pow_pos k in
    let once : 2 ^ k ≤ suc b * 2 ^ k = grind arith in
    let fit : suc c * 2 ^ k ≤ 2147483648 = below (suc c) k few (omega arith) in
    let same : suc c * 2 ^ k - 1 ≡ min (suc b * 2 ^ k - 1) 2147483647 =
    ⊎_elim
    (λ (out : t < b). let top = top_is k few in let more = above (suc b) k few (omega arith) in let is : c ≡ t =
    omega arith in let next : suc t ≡ t + 1 = omega arith in let all : suc t * 2 ^ k ≡ 2147483648 =
    ap (λ n. n * 2 ^ k) next ∙ top in ap (λ n. suc n * 2 ^ k - 1) is ∙ omega (arith, all))
    (λ (within : b ≤ t). let is : c ≡ b = omega arith in let fits = below (suc b) k few (omega arith) in
    ap (λ n. suc n * 2 ^ k - 1) is ∙ omega (arith, fits))
    (cases_lt t b) in
    negative_up c k (omega arith) fit ∙ ap negsuc same ∙ sym (negative_saturated (suc b * 2 ^ k) (omega arith))

-- any other number is shifted whole, from the least one shifted down on
pub shifts_whole :
    (x places m : ℤ) → SFits w32 x → pos 0 ≤ℤ places → places ≤ℤ pos 31 →
    lt_z (to_z w32 (2147483647 / 2 ^ of_z w32 places)) (to_z w32 (of_z w32 x)) ≡ false →
    m ≡ int_max (to_z w32 (of_z w32 x)) (to_z w32 (4294967296 - suc (2147483647 / 2 ^ of_z w32 places))) →
    to_z w32 (of_z w32 m * 2 ^ of_z w32 places % 4294967296) ≡ shift_in 32 x places
shifts_whole x (negsuc k) m fits up few less is = absurd (omega (arith, ints))
shifts_whole (pos a) (pos k) m fits up few less is =
    let least = compared (pos a) k false fits less in
    let low = pow_pos k in
    let same : m ≡ pos a = is ∙ ap (λ t. int_max t (to_z w32 (4294967296 - suc (2147483647 / 2 ^ k))))
    (to_z-of_z w32 (pos a) fits) ∙ ap (int_max (pos a)) (bottom_at k) in
    let some : (a + 1) * 2 ^ k ≤ 2147483648 = below (a + 1) k (omega (arith, ints)) (omega (arith, ints, least)) in
    let more = add-mul a 1 (2 ^ k) in
    let room : a * 2 ^ k < 2147483648 = omega (arith, more) in
    let word : a * 2 ^ k % 4294967296 ≡ a * 2 ^ k = omega arith in
    let stays : a * 2 ^ k ≡ min (a * 2 ^ k) 2147483647 = omega arith in
    ap (λ t. to_z w32 (of_z w32 t * 2 ^ k % 4294967296)) same ∙ ap (to_z w32) word ∙ to_z_pos w32 (a * 2 ^ k) room ∙
    ap pos stays
shifts_whole (negsuc b) (pos k) m fits up few less is =
    let t = 2147483647 / 2 ^ k in
    let same : m ≡ negsuc (min b t) =
    is ∙ ap (λ z. int_max z (to_z w32 (4294967296 - suc t))) (to_z-of_z w32 (negsuc b) fits) ∙
    ap (int_max (negsuc b)) (bottom_at k) ∙ larger_negative b t in
    ap (λ z. to_z w32 (of_z w32 z * 2 ^ k % 4294967296)) same ∙
    negative_whole b k (omega (arith, ints)) (omega (arith, fits.sfits))
