-- The sections of a lattice, one after another.
use Rattle.std.proofs.Common.{◌≡◌, ◌∙◌, ap, sym, ℕ, ◌+◌, ◌<◌, ◌≤◌, ℤ, pos, ◌+ℤ◌, ◌-ℤ◌, List, [], ◌∷◌, ◌++◌, length}
use Rattle.std.proofs.Common.{drop, get_or, append_assoc, add-one, drop-cons, arith}
use Rattle.std.proofs.lemmas.List.{drop_all, drop-drop, get_or-drop}
use Rattle.dsp_defs.specs.Numbers.{saturate}
use Rattle.dsp_defs.specs.Formats.{word_bits}
use Rattle.dsp_defs.specs.Signal.{sample}
use Rattle.dsp_defs.specs.Lattice.{backward_values, reflected}
use Rattle.dsp_defs.specs.declared.format.Fmt.{Fmt}

-- one section, by its k and g
back-one : (format : Fmt) (f k g lower upper : ℤ) (ks before : List ℤ) → sample before 0 ≡ g
    → lower ≡ saturate (word_bits format) (f -ℤ reflected format k g)
    → upper ≡ saturate (word_bits format) (reflected format k lower +ℤ g)
    → upper ∷ backward_values format lower ks (drop 1 before) ≡ backward_values format f (k ∷ ks) before
back-one format f k g lower upper ks before is_g is_lower is_upper = rw (is_upper, is_lower, sym is_g)

-- and section m after those before it
pub step-back : (format : Fmt) (f : ℤ) (k before : List ℤ) (m : ℕ) (lower upper : ℤ) (ys zs r : List ℤ) → m < length k
    → lower ≡ saturate (word_bits format) (f -ℤ reflected format (get_or k m (pos 0)) (sample before (m + 1)))
    → upper ≡ saturate (word_bits format) (reflected format (get_or k m (pos 0)) lower +ℤ sample before (m + 1))
    → zs ≡ ys ++ upper ∷ [] → ys ++ backward_values format f (drop m k) (drop (m + 1) before) ≡ r
    → zs ++ backward_values format lower (drop (m + 1) k) (drop (m + 1 + 1) before) ≡ r
step-back format f k before m lower upper ys zs r inside is_lower is_upper pushed so_far =
    let same : m + 1 + 0 ≡ m + 1 = omega arith in
    let here = get_or-drop (m + 1) before 0 (pos 0) ∙ ap (sample before) same in
    let one = back-one format f _ _ lower upper (drop (m + 1) k) (drop (m + 1) before) here is_lower is_upper in
    let cut : drop m k ≡ get_or k m (pos 0) ∷ drop (m + 1) k = rw add-one (drop-cons k m (pos 0) inside) in
    let later = ap (λ b. upper ∷ backward_values format lower (drop (m + 1) k) b) (sym (drop-drop 1 (m + 1) before)) in
    rw (pushed, append_assoc) (ap (λ l. ys ++ l) (later ∙ one
    ∙ ap (λ l. backward_values format f l (drop (m + 1) before)) (sym cut)) ∙ so_far)

-- the last of them
pub back-ends : (format : Fmt) (f : ℤ) (k before : List ℤ) (m : ℕ) (ys zs r : List ℤ) → length k ≤ m
    → zs ≡ ys ++ f ∷ [] → ys ++ backward_values format f (drop m k) before ≡ r → zs ≡ r
back-ends format f k before m ys zs r end pushed so_far =
    pushed ∙ sym (ap (λ l. ys ++ backward_values format f l before) (drop_all m k end)) ∙ so_far
