-- Cascades are chains of sections, and work on samples one by one: the laws of the impls. A ghost item cites nothing
-- of its own crate but specs, so they stand here. No clause cites them.
use Rattle.std.specs.Prelude.{ℕ, ◌≡◌, ℤ, List, [], ◌∷◌, ◌++◌, length, refl, ⊤, zero, suc, ◌+◌, ◌-◌, ◌*◌, ◌/◌, ◌≤◌}
use Rattle.std.specs.Prelude.{flat_map, replicate}
use Rattle.std.proofs.Common.{arith, ◌∙◌, ap, sym, subst}
use Rattle.dsp_defs.specs.Streaming.{then, chained}
use Rattle.dsp_defs.specs.declared.format.Fmt.{Fmt}
use Rattle.dsp_defs.specs.declared.format.Fmt.TheVariants.{Q7, Q15, Q31}
use Rattle.dsp_defs.specs.declared.script.Block.TheVariants.{Biquad, Biquad64}
use Rattle.dsp_biquad.specs.Sections.{wide_kinds, section_acts, wide_acts, size_in, section_of, block_acts, IsCascade}
use Rattle.dsp_biquad.specs.Sections.{AreParameters, IsBiquadIn, IsBiquad64, coefficients_of, post_shift_of}
use Rattle.std.specs.List.{range_with_len}
use Rattle.std.proofs.lemmas.List.{length-replicate}
use Rattle.dsp_defs.specs.Numbers.{Width}
use Rattle.dsp_defs.specs.Formats.{word}
use Rattle.dsp_defs.specs.Cost.{section_count}
use Rattle.dsp_unit.specs.Filter.{IsSteady, IsStepwise}
use Rattle.dsp_defs.specs.Kept.{Kind, InWord, Fixed, Below, Each, IsPlace, kinds_by, in_words}
use Rattle.dsp_defs.proofs.KeptLaws.{in_words-place}
use Rattle.dsp_defs.proofs.KeptLaws.{kept_of_channel-place}
use Rattle.dsp_filter.proofs.Units.{scaled, less-scaled}
use Rattle.dsp_defs.specs.declared.script.Block.{Block}
use Rattle.dsp_defs.specs.Parameters.{greatest_biquad_shift}

-- ---- a section and the rest

five-cascade : (P : List ℤ → Type 0) → ((a b c d e : ℤ) → P (a ∷ b ∷ c ∷ d ∷ e ∷ [])) → (front : List ℤ) →
    length front ≡ 5 → P front
five-cascade P five (a ∷ b ∷ c ∷ d ∷ e ∷ []) size = five a b c d e
five-cascade P five [] size = absurd (omega (arith, size))
five-cascade P five (a ∷ []) size = absurd (omega (arith, size))
five-cascade P five (a ∷ b ∷ []) size = absurd (omega (arith, size))
five-cascade P five (a ∷ b ∷ c ∷ []) size = absurd (omega (arith, size))
five-cascade P five (a ∷ b ∷ c ∷ d ∷ []) size = absurd (omega (arith, size))
five-cascade P five (a ∷ b ∷ c ∷ d ∷ e ∷ f ∷ front) size = absurd (omega (arith, size))

six-cascade : (P : List ℤ → Type 0) → ((a b c d e f : ℤ) → P (a ∷ b ∷ c ∷ d ∷ e ∷ f ∷ [])) → (front : List ℤ) →
    length front ≡ 6 → P front
six-cascade P six (a ∷ front) size = five-cascade (λ l. P (a ∷ l)) (λ b c d e f. six a b c d e f) front
    (omega (arith, size))
six-cascade P six [] size = absurd (omega (arith, size))

pub is-cascade : (format : Fmt) (p : ℕ) → IsCascade format (Biquad p) (size_in format)
    (λ numbers. section_acts format p (section_of (size_in format) numbers))
is-cascade Q7 p front rest size = five-cascade (λ l. block_acts Q7 (Biquad p (l ++ rest)) ≡ then
    (section_acts Q7 p (section_of 5 l)) (block_acts Q7 (Biquad p rest))) (λ a b c d e. refl) front size
is-cascade Q15 p front rest size = six-cascade (λ l. block_acts Q15 (Biquad p (l ++ rest)) ≡ then
    (section_acts Q15 p (section_of 6 l)) (block_acts Q15 (Biquad p rest))) (λ a b c d e f. refl) front size
is-cascade Q31 p front rest size = five-cascade (λ l. block_acts Q31 (Biquad p (l ++ rest)) ≡ then
    (section_acts Q31 p (section_of 5 l)) (block_acts Q31 (Biquad p rest))) (λ a b c d e. refl) front size

pub is-cascade64 : (p : ℕ) → IsCascade Q31 (Biquad64 p) 5 (λ numbers. wide_acts p (section_of 5 numbers))
is-cascade64 p front rest size = five-cascade (λ l. block_acts Q31 (Biquad64 p (l ++ rest)) ≡ then
    (wide_acts p (section_of 5 l)) (block_acts Q31 (Biquad64 p rest))) (λ a b c d e. refl) front size

-- ---- kinds

-- numbers of widths alone
AreWords : List Kind → Type 0
AreWords [] = ⊤
AreWords (InWord width ∷ kinds) = AreWords kinds
AreWords (kind ∷ kinds) = ⊥

-- as many of them are at any place
placed : (kinds : List Kind) (numbers : List ℤ) → AreWords kinds → length numbers ≡ length kinds →
    Each IsPlace kinds numbers
unfolding AreWords
placed [] [] words size = tt
placed [] (z ∷ zs) words size = absurd (omega (arith, size))
placed (InWord width ∷ kinds) [] words size = absurd (omega (arith, size))
placed (InWord width ∷ kinds) (z ∷ zs) words size = (tt, placed kinds zs words (omega (arith, size)))
placed (Fixed n ∷ kinds) numbers words size = absurd words
placed (Below n ∷ kinds) numbers words size = absurd words

wide-words : (n a : ℕ) → AreWords (flat_map (λ (_ : ℕ). wide_kinds) (range_with_len a n))
unfolding AreWords
wide-words zero a = tt
wide-words (suc n) a = wide-words n (a + 1)

-- the words of each section, one after another
pub words-of_sections : (width : Width) (n a : ℕ) → in_words width (4 * n) ≡ flat_map (λ (_ : ℕ). in_words width 4)
    (range_with_len a n)
words-of_sections width zero a = refl
words-of_sections width (suc n) a =
    let more : 4 * suc n ≡ suc (suc (suc (suc (4 * n)))) = omega arith in
    let rest = words-of_sections width n (a + 1) in
    ap (λ k. replicate k (InWord width)) more ∙ ap (λ l. InWord width ∷ InWord width ∷ InWord width ∷ InWord width ∷
    l) rest

-- ---- blocks

one : (n a : ℕ) → 1 * n * a ≡ n * a
one n a = omega arith

pub biquad-steady : (format : Fmt) (p : ℕ) (numbers : List ℤ) →
    IsSteady format (Biquad p numbers) (5 * section_count format numbers)
biquad-steady format p numbers = record {
  by_channel = record {
    live_is = refl;
    whole_is = refl;
    channels_same = λ c. refl;
    format_same = refl;
    keeps_is = λ c x. refl;
    kinds_are = λ c n. refl;
    keeps_place = λ x. kept_of_channel-place format (Biquad p numbers) x tt;
    no_measures = λ c number kept. refl;
    live_cost = λ c n. scaled c n (5 * section_count format numbers);
    so_far = λ c n taken given. scaled c taken (5 * section_count format numbers);
    turns = λ c m n. less-scaled c m n (5 * section_count format numbers);
  };
  taken = λ n. tt;
  whole_is_live = λ x. refl;
  most_same = λ n. refl;
  live_same = λ n. refl;
  whole_same = λ n. refl;
  kinds_same = λ n. refl;
  placed = λ zs size. in_words-place (word format) (4 * section_count format numbers) zs
      (size ∙ length-replicate (4 * section_count format numbers) (InWord (word format)));
  live_cost = λ n. one n (5 * section_count format numbers);
}

less-one : (m n a : ℕ) → 1 * n * a - 1 * m * a ≡ n * a - m * a
less-one m n a = (λ i. one n a i - one m a i)

pub biquad-stepwise : (format : Fmt) (block : Block) → IsBiquadIn format block →
    IsStepwise format block (5 * section_count format (coefficients_of block))
biquad-stepwise format (Biquad p numbers) is = record {
  steady = biquad-steady format p numbers;
  turns = λ m n. less-one m n (5 * section_count format numbers);
  no_place = λ n. refl;
  no_group = tt;
}
biquad-stepwise format block is = absurd is

pub biquad64-steady : (p : ℕ) (numbers : List ℤ) → IsSteady Q31 (Biquad64 p numbers) (5 * section_count Q31 numbers)
biquad64-steady p numbers = record {
  by_channel = record {
    live_is = refl;
    whole_is = refl;
    channels_same = λ c. refl;
    format_same = refl;
    keeps_is = λ c x. refl;
    kinds_are = λ c n. refl;
    keeps_place = λ x. kept_of_channel-place Q31 (Biquad64 p numbers) x tt;
    no_measures = λ c number kept. refl;
    live_cost = λ c n. scaled c n (5 * section_count Q31 numbers);
    so_far = λ c n taken given. scaled c taken (5 * section_count Q31 numbers);
    turns = λ c m n. less-scaled c m n (5 * section_count Q31 numbers);
  };
  taken = λ n. tt;
  whole_is_live = λ x. refl;
  most_same = λ n. refl;
  live_same = λ n. refl;
  whole_same = λ n. refl;
  kinds_same = λ n. refl;
  placed = λ zs size. placed (kinds_by Q31 (Biquad64 p numbers) 0) zs (wide-words (section_count Q31 numbers) 0) size;
  live_cost = λ n. one n (5 * section_count Q31 numbers);
}

pub biquad64-stepwise : (block : Block) → IsBiquad64 block →
    IsStepwise Q31 block (5 * section_count Q31 (coefficients_of block))
biquad64-stepwise (Biquad64 p numbers) is = record {
  steady = biquad64-steady p numbers;
  turns = λ m n. less-one m n (5 * section_count Q31 numbers);
  no_place = λ n. refl;
  no_group = tt;
}
biquad64-stepwise block is = absurd is

-- ---- their parameters

pub count-is : (format : Fmt) (numbers : List ℤ) → section_count format numbers ≡ length numbers / size_in format
count-is Q7 numbers = refl
count-is Q15 numbers = refl
count-is Q31 numbers = refl

pub is-biquad : (format : Fmt) (block : Block) → IsBiquadIn format block →
    block ≡ Biquad (post_shift_of block) (coefficients_of block)
is-biquad format (Biquad p numbers) is = refl
is-biquad format block is = absurd is

pub is-biquad64 : (block : Block) → IsBiquad64 block → block ≡ Biquad64 (post_shift_of block) (coefficients_of block)
is-biquad64 (Biquad64 p numbers) is = refl
is-biquad64 block is = absurd is

pub some-size : (format : Fmt) (size : ℕ) → size ≡ size_in format → 1 ≤ size
some-size Q7 size is = omega (arith, is)
some-size Q15 size is = omega (arith, is)
some-size Q31 size is = omega (arith, is)

pub empty-at : (format : Fmt) (p : ℕ) → block_acts format (Biquad p []) ≡ chained []
empty-at Q7 p = refl
empty-at Q15 p = refl
empty-at Q31 p = refl

pub cascade-at : (format : Fmt) (size : ℕ) → size ≡ size_in format → (p : ℕ) →
    IsCascade format (Biquad p) size (λ numbers. section_acts format p (section_of size numbers))
cascade-at format size is p = subst (λ (n : ℕ). IsCascade format (Biquad p) n
    (λ numbers. section_acts format p (section_of n numbers))) (sym is) (is-cascade format p)

pub count-at : (format : Fmt) (size : ℕ) → size ≡ size_in format → (numbers : List ℤ) →
    section_count format numbers ≡ length numbers / size
count-at format size is numbers = count-is format numbers ∙ ap (λ n. length numbers / n) (sym is)

pub one-le-five : 1 ≤ 5
one-le-five = omega arith

pub parameters-at : (format : Fmt) (greatest size : ℕ) → greatest ≡ greatest_biquad_shift format →
    size ≡ size_in format → (block : Block) → IsBiquadIn format block →
    AreParameters format greatest size (post_shift_of block) (coefficients_of block)
parameters-at format greatest size is is' (Biquad p numbers) fits =
    subst (λ (g : ℕ). AreParameters format g size p numbers) (sym is)
    (subst (λ (n : ℕ). AreParameters format (greatest_biquad_shift format) n p numbers) (sym is') fits)
parameters-at format greatest size is is' block fits = absurd fits

pub parameters64 : (block : Block) → IsBiquad64 block →
    AreParameters Q31 30 5 (post_shift_of block) (coefficients_of block)
parameters64 (Biquad64 p numbers) fits = fits
parameters64 block fits = absurd fits

pub five-le-six : 5 ≤ 6
five-le-six = omega arith

pub few-size : (format : Fmt) (size : ℕ) → size ≡ size_in format → size ≤ 6
few-size Q7 size is = omega (arith, is)
few-size Q15 size is = omega (arith, is)
few-size Q31 size is = omega (arith, is)

pub of-numbers : (format : Fmt) (greatest size : ℕ) → greatest ≡ greatest_biquad_shift format →
    size ≡ size_in format → (p : ℕ) (numbers : List ℤ) → AreParameters format greatest size p numbers →
    IsBiquadIn format (Biquad p numbers)
of-numbers format greatest size is is' p numbers fits =
    subst (λ (g : ℕ). AreParameters format g (size_in format) p numbers) is
    (subst (λ (n : ℕ). AreParameters format greatest n p numbers) is' fits)
