-- The rules of kept numbers count those that the blocks keep.
use Rattle.std.proofs.Common.{◌≡◌, ◌∙◌, ap, refl, sym, subst, ℕ, zero, suc, ◌+◌, ◌-◌, ◌*◌, ◌%◌, ◌^◌, ◌<◌, min, ℤ}
use Rattle.std.proofs.Common.{List, [], ◌∷◌, ◌++◌, length, flat_map, Option, Some, IfSome, arith, length-append}
use Rattle.std.specs.List.{range_with_len}
use Rattle.std.proofs.lemmas.List.{length-replicate}
use Rattle.dsp_defs.specs.Formats.{word}
use Rattle.dsp_defs.specs.Kept.{Kind, InWord, Fixed, Each, IsOfKind, FitsAfter, IsTaken, flag, in_words}
use Rattle.dsp_defs.specs.Kept.{extreme_kinds, kinds_by, kept_kinds, kept_count, place_of}
use Rattle.dsp_unit.proofs.ChannelKept.{length-pieces}
use Rattle.dsp_defs.specs.declared.format.Fmt.{Fmt}
use Rattle.dsp_defs.specs.declared.script.Block.{Block}
use Rattle.dsp_defs.specs.declared.script.Block.TheVariants.{Decimate, Conv, ConvPartial, Correlate, Lms, MatAdd}
use Rattle.dsp_defs.specs.declared.script.Block.TheVariants.{MatSub, MatScale, MatTrans, MatMult, Dot, CmplxDot, Max}
use Rattle.dsp_defs.specs.declared.script.Block.TheVariants.{Min}
use Rattle.dsp_shape.specs.KeptRule.{kept_rule, count_by, place_by}

-- ---- the least number of frames

rest-again : (n size : ℕ) → (n % size) % size ≡ n % size
rest-again n size = grind arith

flag-within : (n : ℕ) → flag n ≡ min n 1
flag-within zero = refl
flag-within (suc n) = omega arith

pub place-rule : (fixed channels : ℕ) (block : Block) (n : ℕ) → n < 2 ^ 62 →
    place_of block n ≡ place_by (kept_rule fixed channels block) n
place-rule fixed channels (Conv taps) n few = flag-within n ∙ omega (arith, few)
place-rule fixed channels block n few = omega (arith, few)

-- ---- the kinds of the numbers are those of the least number of frames

kinds-same : (format : Fmt) (block : Block) (n : ℕ) → kinds_by format block (place_of block n) ≡ kinds_by format block n
kinds-same format (Decimate factor taps) n = ap (λ k. in_words (word format) (length taps + factor - 2) ++ Fixed k ∷
    []) (rest-again n factor)
kinds-same format (Conv taps) zero = refl
kinds-same format (Conv taps) (suc n) = refl
kinds-same format (ConvPartial first count taps) n = (let same : min (min n (first + count)) (first + count) ≡ min n
    (first + count) = omega arith in ap (λ k. in_words (word format) (length taps - 1) ++ Fixed k ∷ []) same)
kinds-same format (MatAdd rows columns matrix) n = ap (in_words (word format)) (rest-again n (rows * columns))
kinds-same format (MatSub rows columns matrix) n = ap (in_words (word format)) (rest-again n (rows * columns))
kinds-same format (MatScale rows columns fract shift) n = ap (in_words (word format)) (rest-again n (rows * columns))
kinds-same format (MatTrans rows columns) n = ap (in_words (word format)) (rest-again n (rows * columns))
kinds-same format (MatMult rows columns given matrix) n = ap (in_words (word format)) (rest-again n (rows * columns))
kinds-same format block n = refl

kept-same : (format : Fmt) (channels : ℕ) (block : Block) (n : ℕ) →
    kept_kinds format channels block (place_of block n) ≡ kept_kinds format channels block n
kept-same format channels (Lms p mu taps) n = refl
kept-same format channels Dot n = refl
kept-same format channels CmplxDot n = refl
kept-same format channels block n = ap (λ kinds. flat_map (λ (_ : ℕ). kinds) (range_with_len 0 channels))
    (kinds-same format block n)

taken-same : (block : Block) (n : ℕ) → IsTaken block (place_of block n) → IsTaken block n
taken-same (Correlate taps) n taken = taken
taken-same Max n taken = taken
taken-same Min n taken = taken
taken-same block n taken = tt

-- numbers that fit at the least number of frames fit at each that has it
place-fits : (format : Fmt) (channels : ℕ) (block : Block) (n : ℕ) (numbers : List ℤ) →
    FitsAfter format channels block (place_of block n) numbers → FitsAfter format channels block n numbers
place-fits format channels block n numbers fits =
    (taken-same block n fits.0, subst (λ kinds. Each IsOfKind kinds numbers) (kept-same format channels block n) fits.1)

-- what the unit answers tells whether they fit
pub found-fits : (format : Fmt) (channels : ℕ) (block : Block) (n : ℕ) (numbers : List ℤ) (found : Option ℕ) →
    IfSome found (λ m. FitsAfter format channels block m numbers) → found ≡ Some (place_of block n) →
    FitsAfter format channels block n numbers
found-fits format channels block n numbers found fits is =
    place-fits format channels block n numbers (subst (λ o. IfSome o (λ m. FitsAfter format channels block m numbers))
    is fits)

-- ---- how many numbers

channels-count : (channels : ℕ) (kinds : List Kind) →
    length (flat_map (λ (_ : ℕ). kinds) (range_with_len 0 channels)) ≡ channels * length kinds
channels-count channels kinds = length-pieces (λ _. kinds) (length kinds) channels (λ c h. refl)

behind-words : (kinds : List Kind) (a b : Kind) → length (kinds ++ a ∷ []) ≡ length (kinds ++ b ∷ [])
behind-words kinds a b = omega (arith, length-append kinds (a ∷ []), length-append kinds (b ∷ []))

-- a filter that keeps as many at all times
steady : (channels : ℕ) (kinds first : List Kind) (m : ℕ) → length kinds ≡ length first
    → length (flat_map (λ (_ : ℕ). kinds) (range_with_len 0 channels)) ≡ length
    (flat_map (λ (_ : ℕ). first) (range_with_len 0 channels)) + 0 * m
steady channels kinds first m same =
    channels-count channels kinds ∙ ap (λ k. channels * k) same ∙ sym (channels-count channels first) ∙ omega arith

-- one that keeps the frames of its open group
grouped : (format : Fmt) (channels size n : ℕ)
    → length (flat_map (λ (_ : ℕ). in_words (word format) (n % size)) (range_with_len 0 channels)) ≡ length
    (flat_map (λ (_ : ℕ). in_words (word format) (0 % size)) (range_with_len 0 channels)) + channels * (n % size)
grouped format channels size n =
    let none : 0 % size ≡ 0 = omega arith in
    let first : length (flat_map (λ (_ : ℕ). in_words (word format) (0 % size)) (range_with_len 0 channels)) ≡
    channels * 0 =
    channels-count channels (in_words (word format) (0 % size)) ∙
    ap (λ k. channels * k) (length-replicate (0 % size) (InWord (word format)) ∙ none) in
    channels-count channels (in_words (word format) (n % size)) ∙
    ap (λ k. channels * k) (length-replicate (n % size) (InWord (word format))) ∙ omega (arith, first)

pub extreme-count : (format : Fmt) (n : ℕ) → length (extreme_kinds format n) ≡ 4
extreme-count format zero = refl
extreme-count format (suc n) = refl

pub count-rule : (format : Fmt) (channels : ℕ) (block : Block) (n : ℕ) → n < 2 ^ 62 →
    kept_count format channels block n ≡ count_by (kept_rule (kept_count format channels block 0) channels block) n
count-rule format channels (Decimate factor taps) n few =
    steady channels (kinds_by format (Decimate factor taps) n) (kinds_by format (Decimate factor taps) 0) _
    (behind-words _ _ _)
count-rule format channels (Conv taps) n few = steady channels (kinds_by format (Conv taps) n)
    (kinds_by format (Conv taps) 0) _ (behind-words _ _ _)
count-rule format channels (ConvPartial first count taps) n few =
    steady channels (kinds_by format (ConvPartial first count taps) n)
    (kinds_by format (ConvPartial first count taps) 0) _ (behind-words _ _ _)
count-rule format channels (Correlate taps) n few =
    let same : n % 2 ^ 62 ≡ n = omega (arith, few) in
    channels-count channels (in_words (word format) n) ∙
    ap (λ k. channels * k) (length-replicate n (InWord (word format)) ∙ sym same)
    ∙ omega (arith, channels-count channels (in_words (word format) 0))
count-rule format channels (MatAdd rows columns matrix) n few = grouped format channels (rows * columns) n
count-rule format channels (MatSub rows columns matrix) n few = grouped format channels (rows * columns) n
count-rule format channels (MatScale rows columns fract shift) n few = grouped format channels (rows * columns) n
count-rule format channels (MatTrans rows columns) n few = grouped format channels (rows * columns) n
count-rule format channels (MatMult rows columns given matrix) n few = grouped format channels (rows * columns) n
count-rule format channels Max n few = steady channels (kinds_by format Max n) (kinds_by format Max 0) _
    (extreme-count format n ∙ sym (extreme-count format 0))
count-rule format channels Min n few = steady channels (kinds_by format Min n) (kinds_by format Min 0) _
    (extreme-count format n ∙ sym (extreme-count format 0))
count-rule format channels (Lms p mu taps) n few = omega arith
count-rule format channels Dot n few = omega arith
count-rule format channels CmplxDot n few = omega arith
count-rule format channels block n few = steady channels (kinds_by format block n) (kinds_by format block 0) _ refl
