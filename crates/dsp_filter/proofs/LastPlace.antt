-- Kept numbers that are samples and one number of a place behind them.
use Rattle.std.proofs.Common.{◌≡◌, ◌∙◌, ap, refl, sym, subst, ℕ, ◌+◌, ℤ, pos, List, [], ◌∷◌, ◌++◌, length, take, drop}
use Rattle.std.proofs.Common.{arith, length-append, length-take-le}
use Rattle.std.specs.Prelude.{All, FitsSigned}
use Rattle.std.proofs.lemmas.List.{length-replicate, length_push, take-append-drop, get_or_push}
use Rattle.std.proofs.lemmas.Int.{ints}
use Rattle.std.proofs.Common.{◌≤ℤ◌}
use Rattle.std.proofs.Common.{negsuc}
use Rattle.std.proofs.Common.{nat_abs}
use Rattle.dsp_defs.specs.declared.format.Fmt.{Fmt}
use Rattle.dsp_defs.specs.Formats.{word}
use Rattle.dsp_defs.specs.Signal.{sample}
use Rattle.dsp_defs.specs.Kept.{Kind, InWord, Fixed, Each, IsOfKind, in_words}
use Rattle.dsp_defs.proofs.KeptLaws.{Each-append}
use Rattle.dsp_unit.proofs.ChannelKept.{each-length, words-fit, fit-words}

-- the last number is of the last kind
pub each-last : (P : Kind → ℤ → Type 0) (ks : List Kind) (k : Kind) (xs : List ℤ) (z : ℤ) →
    Each P (ks ++ k ∷ []) (xs ++ z ∷ []) → P k z
each-last P [] k [] z h = h.0
each-last P [] k (x ∷ []) z h = absurd h.1
each-last P [] k (x ∷ y ∷ xs) z h = absurd h.1
each-last P (k' ∷ []) k [] z h = absurd h.1
each-last P (k' ∷ k'' ∷ ks) k [] z h = absurd h.1
each-last P (k' ∷ ks) k (x ∷ xs) z h = each-last P ks k xs z h.1

-- and those before it are of those before it
each-front : (P : Kind → ℤ → Type 0) (ks : List Kind) (k : Kind) (xs : List ℤ) (z : ℤ) →
    Each P (ks ++ k ∷ []) (xs ++ z ∷ []) → Each P ks xs
each-front P [] k [] z h = tt
each-front P [] k (x ∷ []) z h = absurd h.1
each-front P [] k (x ∷ y ∷ xs) z h = absurd h.1
each-front P (k' ∷ []) k [] z h = absurd h.1
each-front P (k' ∷ k'' ∷ ks) k [] z h = absurd h.1
each-front P (k' ∷ ks) k (x ∷ xs) z h = (h.0, each-front P ks k xs z h.1)

-- a list with a last number
split-last : (p : ℕ) (numbers : List ℤ) → length numbers ≡ p + 1 → numbers ≡ take p numbers ++ sample numbers p ∷ []
split-last p numbers whole =
    let rest = drop p numbers in
    let one : length rest ≡ 1 = omega (
      arith,
      ap length (take-append-drop p numbers),
      length-append (take p numbers) rest,
      length-take-le p numbers (omega (arith, whole)),
    ) in
    let single = only rest one in
    let parts : numbers ≡ take p numbers ++ sample rest 0 ∷ [] = sym (take-append-drop p numbers) ∙
    ap (λ l. take p numbers ++ l) single in
    let last : sample numbers p ≡ sample rest 0 = ap (λ l. sample l p) parts ∙
    get_or_push (take p numbers) (sample rest 0) (pos 0) p (length-take-le p numbers (omega (arith, whole))) in
    parts ∙ ap (λ z. take p numbers ++ z ∷ []) (sym last)
  where
    only : (xs : List ℤ) → length xs ≡ 1 → xs ≡ sample xs 0 ∷ []
    only [] e = absurd (omega (arith, e))
    only (x ∷ []) e = refl
    only (x ∷ y ∷ xs) e = absurd (omega (arith, e))

-- samples in the range of the format and then the number n are of their kinds
pub kinds-of : (format : Fmt) (count n : ℕ) (numbers : List ℤ) → length numbers ≡ count + 1 →
    All (FitsSigned (word format)) (take count numbers) → sample numbers count ≡ pos n →
    Each IsOfKind (in_words (word format) count ++ Fixed n ∷ []) numbers
kinds-of format count n numbers whole fit last =
    subst (λ l. Each IsOfKind (in_words (word format) count ++ Fixed n ∷ []) l) (sym (split-last count numbers whole))
    (Each-append IsOfKind (in_words (word format) count) (Fixed n ∷ []) (take count numbers) (sample numbers count ∷ [])
    (words-fit (word format) count (take count numbers) (length-take-le count numbers (omega (arith, whole))) fit)
    (last, tt))

-- and the other way round
pub record OfKinds (format : Fmt) (count n : ℕ) (numbers : List ℤ) : Type 0 where
  pub whole : length numbers ≡ count + 1
  pub fit : All (FitsSigned (word format)) (take count numbers)
  pub last : sample numbers count ≡ pos n

pub of-kinds : (format : Fmt) (count n : ℕ) (numbers : List ℤ) →
    Each IsOfKind (in_words (word format) count ++ Fixed n ∷ []) numbers → OfKinds format count n numbers
of-kinds format count n numbers h =
    let kinds = in_words (word format) count in
    let whole : length numbers ≡ count + 1 =
    each-length IsOfKind (kinds ++ Fixed n ∷ []) numbers h ∙ length_push kinds (Fixed n) ∙
    ap (λ k. k + 1) (length-replicate count (InWord (word format))) in
    let parts = subst (λ l. Each IsOfKind (kinds ++ Fixed n ∷ []) l) (split-last count numbers whole) h in
    record {
      whole = whole;
      fit = fit-words (word format) count (take count numbers)
          (each-front IsOfKind kinds (Fixed n) (take count numbers) (sample numbers count) parts);
      last = each-last IsOfKind kinds (Fixed n) (take count numbers) (sample numbers count) parts;
    }

-- equal whole numbers
pub same-number : (a b : ℕ) → pos a ≡ pos b → a ≡ b
same-number a b same = cc

-- a number that is not negative, read as a natural number
pub number-read : (read z : ℤ) → read ≡ z → pos 0 ≤ℤ z → pos (nat_abs read) ≡ z
number-read read (pos k) is low = ap (λ t. pos (nat_abs t)) is
number-read read (negsuc k) is low = absurd (omega (arith, ints, low))
