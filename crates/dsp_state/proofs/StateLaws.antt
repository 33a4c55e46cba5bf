-- A state has one reading.
use Rattle.std.proofs.Common.{◌≡◌, ◌∙◌, ap, refl, sym, ℕ, ◌<◌, ◌≤◌, ◌^◌, ℤ, pos, negsuc, List, [], ◌∷◌, ◌++◌, length}
use Rattle.std.proofs.Common.{codes, flat_map, All, arith, SFits, to_z, of_z, append_assoc, length-append}
use Rattle.std.specs.Int.{w32, w64, to_le_bytes, from_le_bytes}
use Rattle.std.proofs.lemmas.List.{append_cancel_left}
use Rattle.std.proofs.lemmas.List.Elements.{All-head, All-tail}
use Rattle.std.proofs.lemmas.Int.{to_z-of_z}
use Rattle.std.proofs.lemmas.Nat.{from_le_bytes-to_le_bytes_4, from_le_bytes-to_le_bytes_8}
use Rattle.dsp_defs.specs.Canon.{canon}
use Rattle.dsp_defs.specs.declared.limits.TheConstants.{MAX_SCRIPT}
use Rattle.dsp_defs.specs.declared.script.Script.{Script}
use Rattle.dsp_defs.specs.StateBytes.{number_bytes, state_of}

-- ---- pieces of equal lengths

apart : {A : Type 0} (xs ys zs ws : List A) → length xs ≡ length ys → xs ++ zs ≡ ys ++ ws → (xs ≡ ys) × (zs ≡ ws)
apart [] [] zs ws size e = (refl, e)
apart [] (y ∷ ys) zs ws size e = absurd (omega (arith, size))
apart (x ∷ xs) [] zs ws size e = absurd (omega (arith, size))
apart (x ∷ xs) (y ∷ ys) zs ws size e =
    let rest = apart xs ys zs ws (omega (arith, size)) (cc e) in
    let first : x ≡ y = cc e in
    let later : xs ≡ ys = rest.0 in
    (cc, rest.1)

-- ---- numbers

pub below : (z : ℤ) → SFits w64 z → of_z w64 z < 2 ^ 64
below (pos n) fits = omega (arith, fits.sfits)
below (negsuc n) fits = omega arith

number_apart : (x y : ℤ) → SFits w64 x → SFits w64 y → number_bytes x ≡ number_bytes y → x ≡ y
number_apart x y fx fy e =
    let bits : of_z w64 x ≡ of_z w64 y =
    sym (from_le_bytes-to_le_bytes_8 (of_z w64 x) (below x fx)) ∙ ap (from_le_bytes w64) e ∙
    from_le_bytes-to_le_bytes_8 (of_z w64 y) (below y fy) in
    sym (to_z-of_z w64 x fx) ∙ ap (to_z w64) bits ∙ to_z-of_z w64 y fy

eight : (z : ℤ) → length (number_bytes z) ≡ 8
eight z = refl

numbers_apart : (xs ys : List ℤ) → All (SFits w64) xs → All (SFits w64) ys →
    flat_map number_bytes xs ≡ flat_map number_bytes ys → xs ≡ ys
numbers_apart [] [] fx fy e = refl
numbers_apart [] (y ∷ ys) fx fy e = absurd (let long = ap length e in
    omega (arith, long, eight y, length-append (number_bytes y) (flat_map number_bytes ys)))
numbers_apart (x ∷ xs) [] fx fy e = absurd (let long = ap length e in
    omega (arith, long, eight x, length-append (number_bytes x) (flat_map number_bytes xs)))
numbers_apart (x ∷ xs) (y ∷ ys) fx fy e =
    let (first, rest) = apart (number_bytes x) (number_bytes y) (flat_map number_bytes xs) (flat_map number_bytes ys)
    refl e in
    let here : x ≡ y = number_apart x y (All-head (SFits w64) x xs fx) (All-head (SFits w64) y ys fy) first in
    let later : xs ≡ ys = numbers_apart xs ys (All-tail (SFits w64) x xs fx) (All-tail (SFits w64) y ys fy) rest in
    cc

-- ---- states

four : (m n : ℕ) → m < 2 ^ 32 → n < 2 ^ 32 → to_le_bytes w32 m ≡ to_le_bytes w32 n → m ≡ n
four m n fm fn e = sym (from_le_bytes-to_le_bytes_4 m fm) ∙ ap (from_le_bytes w32) e ∙ from_le_bytes-to_le_bytes_4 n fn

-- the fields one behind another
pub fields : (s : Script) (m : ℕ) (xs : List ℤ)
    → state_of s m xs ≡ codes "DSPSTATE" ++ (to_le_bytes w32 1 ++
    (to_le_bytes w32 (length (canon s)) ++ (canon s ++ (to_le_bytes w32 m ++ flat_map number_bytes xs))))
fields s m xs =
    let a = codes "DSPSTATE" in
    let b = to_le_bytes w32 1 in
    let c = to_le_bytes w32 (length (canon s)) in
    let d = canon s in
    let e = to_le_bytes w32 m in
    let f = flat_map number_bytes xs in
    append_assoc a (b ++ (c ++ (d ++ e))) f
    ∙ ap (λ ys. a ++ ys) (append_assoc b (c ++ (d ++ e)) f ∙
    ap (λ ys. b ++ ys) (append_assoc c (d ++ e) f ∙ ap (λ ys. c ++ ys) (append_assoc d e f)))

module _ (s t : Script) (m n : ℕ) (xs ys : List ℤ) (short : length (canon s) ≤ MAX_SCRIPT)
    (short' : length (canon t) ≤ MAX_SCRIPT) (fm : m < 2 ^ 32) (fn : n < 2 ^ 32)
    (same : state_of s m xs ≡ state_of t n ys) where
  pub texts_apart : (canon s ≡ canon t) × (to_le_bytes w32 m ++ flat_map number_bytes xs ≡ to_le_bytes w32 n ++
      flat_map number_bytes ys)
  texts_apart =
      let all = sym (fields s m xs) ∙ same ∙ fields t n ys in
      let behind_mark = append_cancel_left (codes "DSPSTATE") _ _ all in
      let behind_version = append_cancel_left (to_le_bytes w32 1) _ _ behind_mark in
      let (lengths, behind_length) = apart (to_le_bytes w32 (length (canon s))) (to_le_bytes w32 (length (canon t))) _
      _ refl behind_version in
      let long : length (canon s) ≡ length (canon t) = four (length (canon s)) (length (canon t))
      (omega (arith, short)) (omega (arith, short')) lengths in
      apart (canon s) (canon t) _ _ long behind_length

  pub values_apart : All (SFits w64) xs → All (SFits w64) ys → (m ≡ n) × (xs ≡ ys)
  values_apart fx fy =
      let (frames, numbers) = apart (to_le_bytes w32 m) (to_le_bytes w32 n) _ _ refl texts_apart.1 in
      (four m n fm fn frames, numbers_apart xs ys fx fy numbers)
