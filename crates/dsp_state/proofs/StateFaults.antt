-- The fields of a state are good and nothing stands behind them, so a state has no fault, and one reading.
use Rattle.std.proofs.Common.{◌≡◌, ◌∙◌, ap, refl, sym, subst, ℕ, zero, suc, ◌+◌, ◌*◌, ◌<◌, ◌≤◌, ◌^◌, ℤ, pos, List, []}
use Rattle.std.proofs.Common.{◌∷◌, ◌++◌, length, take, drop, get_or, codes, flat_map, All, SFits, to_z, arith}
use Rattle.std.proofs.Common.{length-append, length-take}
use Rattle.std.specs.Int.{w32, w64, to_le_bytes, from_le_bytes}
use Rattle.std.proofs.Math.Seq.{take-append_seam, drop-append_seam, drop-append-add}
use Rattle.std.proofs.lemmas.Int.{to_z-of_z}
use Rattle.std.proofs.lemmas.List.{drop-drop, ext_get_or}
use Rattle.std.proofs.lemmas.List.Elements.{All-head, All-tail}
use Rattle.std.proofs.lemmas.List.FromFn.{get_or-map-range_with_len, length-map-range_with_len}
use Rattle.std.proofs.lemmas.Nat.{from_le_bytes-to_le_bytes_4, from_le_bytes-to_le_bytes_8}
use Rattle.dsp_defs.specs.Block.{channels_after, format_after}
use Rattle.dsp_defs.specs.Canon.{canon}
use Rattle.dsp_defs.specs.Grammar.{Reads}
use Rattle.dsp_defs.specs.Kept.{FitsBlocks, kept_count_of_chain, kept_kinds, IsOfKind}
use Rattle.dsp_defs.specs.KeptOfScript.{Fits, kept_count}
use Rattle.dsp_defs.specs.Shape.{gathered, live_frames}
use Rattle.dsp_defs.specs.Signal.{values}
use Rattle.dsp_defs.specs.StateBytes.{IsState, number_bytes, number_of, state_of}
use Rattle.dsp_defs.specs.StateFields.{HasMark, HasVersion, HasLength, HasText, HasFrames, HasNumbers, IsCut}
use Rattle.dsp_defs.specs.StateFields.{InVersion, InLength, InText, InFrames, InNumbers, HasNoText, LongSize}
use Rattle.dsp_defs.specs.StateFields.{OtherText, HasNoValue, ManyFrames, OtherNumbers, HasStateFault, count_in}
use Rattle.dsp_defs.specs.StateFields.{frames_in_state, frames_place, numbers_in, numbers_place, state_end, text_size}
use Rattle.dsp_defs.specs.Wave.{u32_at}
use Rattle.dsp_defs.specs.declared.format.Fmt.{Fmt}
use Rattle.dsp_defs.specs.declared.limits.TheConstants.{MAX_GATHERED, MAX_SCRIPT}
use Rattle.dsp_defs.specs.declared.script.Block.{Block}
use Rattle.dsp_defs.specs.declared.script.Script.{Script}
use Rattle.dsp_defs.specs.declared.state_kind.StateKind.{StateKind}
use Rattle.dsp_defs.specs.declared.state_kind.StateKind.TheVariants.{NotState, Version, Text, Cut, Value, Extra}
use Rattle.dsp_defs.specs.declared.state_kind.StateKind.TheVariants.{TooLong, LongText}
use Rattle.dsp_script.proofs.CanonLaws.{canon_read}
use Rattle.dsp_script.proofs.ScriptLaws.{one_script}
use Rattle.dsp_unit.proofs.ChannelKept.{each-length}
use Rattle.dsp_state.proofs.StateLaws.{below, fields, texts_apart, values_apart}

-- ---- numbers

number_back : (z : ℤ) → SFits w64 z → number_of (number_bytes z) ≡ z
number_back z fits = ap (to_z w64) (from_le_bytes-to_le_bytes_8 _ (below z fits)) ∙ to_z-of_z w64 z fits

-- the bytes of the number at a place
eight_at : (xs : List ℤ) (i : ℕ) → i < length xs → take 8 (drop (i * 8) (flat_map number_bytes xs)) ≡ number_bytes
    (get_or xs i (pos 0))
eight_at [] i within = absurd (omega (arith, within))
eight_at (x ∷ xs) zero within = take-append_seam (number_bytes x) (flat_map number_bytes xs)
eight_at (x ∷ xs) (suc i) within =
    let place : suc i * 8 ≡ 8 + i * 8 = omega arith in
    ap (λ n. take 8 (drop n (number_bytes x ++ flat_map number_bytes xs))) place
    ∙ ap (take 8) (drop-append-add (number_bytes x) (flat_map number_bytes xs) (i * 8)) ∙
    eight_at xs i (omega (arith, within))

fits_at : (xs : List ℤ) (i : ℕ) → All (SFits w64) xs → i < length xs → SFits w64 (get_or xs i (pos 0))
fits_at [] i fits within = absurd (omega (arith, within))
fits_at (x ∷ xs) zero fits within = All-head (SFits w64) x xs fits
fits_at (x ∷ xs) (suc i) fits within = fits_at xs i (All-tail (SFits w64) x xs fits) (omega (arith, within))

numbers_read : (xs : List ℤ) → All (SFits w64) xs → values (length xs)
    (λ i. number_of (take 8 (drop (i * 8) (flat_map number_bytes xs)))) ≡ xs
numbers_read xs fits =
    let at : ℕ → ℤ = λ i. number_of (take 8 (drop (i * 8) (flat_map number_bytes xs))) in
    let long : length (values (length xs) at) ≡ length xs = length-map-range_with_len at 0 (length xs) in
    ext_get_or (pos 0) (values (length xs) at) xs long (λ i within.
    let less : i < length xs = omega (arith, within, long) in
    get_or-map-range_with_len at 0 (length xs) i i (pos 0) less (omega arith) ∙ ap number_of (eight_at xs i less) ∙
    number_back (get_or xs i (pos 0)) (fits_at xs i fits less))

-- they are as many as the blocks keep
fits_count : (format : Fmt) (channels : ℕ) (blocks : List Block) (n : ℕ) (numbers : List ℤ) →
    FitsBlocks format channels blocks n numbers
    → length numbers ≡ kept_count_of_chain format channels blocks n
fits_count format channels [] n numbers none = ap length none
fits_count format channels (block ∷ blocks) n numbers (here, later, split, fits, rest) =
    let first : length here ≡ length (kept_kinds format channels block n) =
    each-length IsOfKind (kept_kinds format channels block n) here fits.1 in
    let behind = fits_count (format_after format block) (channels_after channels block) blocks (live_frames block n)
    later rest in
    omega (arith, ap length split, length-append here later, first, behind)

-- ---- fields

-- what stands behind a front of so many bytes
behind : (size place : ℕ) (bytes front rest : List ℕ) → length front ≡ size → drop place bytes ≡ front ++ rest →
    drop (place + size) bytes ≡ rest
behind size place bytes front rest long is =
    sym (drop-drop size place bytes) ∙ (λ i. drop (sym long i) (is i)) ∙ drop-append_seam front rest

number_at : (bytes rest : List ℕ) (place n : ℕ) → n < 2 ^ 32 → drop place bytes ≡ to_le_bytes w32 n ++ rest →
    u32_at bytes place ≡ n
number_at bytes rest place n few is =
    ap (λ l. from_le_bytes w32 (take 4 l)) is ∙ ap (from_le_bytes w32) (take-append_seam (to_le_bytes w32 n) rest) ∙
    from_le_bytes-to_le_bytes_4 n few

-- what the fields of a state say
pub record Told (bytes : List ℕ) (script : Script) (at : ℕ) (numbers : List ℤ) : Type 0 where
  good : HasNumbers bytes script
  ends : length bytes ≡ state_end bytes script
  pub frames : frames_in_state bytes ≡ at

pub told : (bytes : List ℕ) (script : Script) (at : ℕ) (numbers : List ℤ) → IsState bytes script at numbers →
    Told bytes script at numbers
told bytes script at numbers is =
    let text = canon script in
    let size = length text in
    let tail = flat_map number_bytes numbers in
    let four_frames = to_le_bytes w32 at ++ tail in
    let all : bytes ≡ codes "DSPSTATE" ++ (to_le_bytes w32 1 ++ (to_le_bytes w32 size ++ (text ++ four_frames))) =
    is.bytes_are ∙ fields script at numbers in
    let at_8 : drop 8 bytes ≡ to_le_bytes w32 1 ++ (to_le_bytes w32 size ++ (text ++ four_frames)) = ap (drop 8) all ∙
    drop-append_seam (codes "DSPSTATE") (to_le_bytes w32 1 ++ (to_le_bytes w32 size ++ (text ++ four_frames))) in
    let at_12 : drop 12 bytes ≡ to_le_bytes w32 size ++ (text ++ four_frames) =
    behind 4 8 bytes (to_le_bytes w32 1) (to_le_bytes w32 size ++ (text ++ four_frames)) refl at_8 in
    let at_16 : drop 16 bytes ≡ text ++ four_frames = behind 4 12 bytes (to_le_bytes w32 size) (text ++ four_frames)
    refl at_12 in
    let size_is : text_size bytes ≡ size = number_at bytes (text ++ four_frames) 12 size
    (omega (arith, is.short_text)) at_12 in
    let at_text : drop (16 + size) bytes ≡ four_frames = behind size 16 bytes text four_frames refl at_16 in
    let place : frames_place bytes ≡ 16 + size = ap (λ n. 16 + n) size_is in
    let frames : frames_in_state bytes ≡ at = ap (u32_at bytes) place ∙
    number_at bytes tail (16 + size) at is.few at_text in
    let at_frames : drop (16 + size + 4) bytes ≡ tail =
    behind 4 (16 + size) bytes (to_le_bytes w32 at) tail refl at_text in
    let numbers_at : drop (numbers_place bytes) bytes ≡ tail =
    (let same : numbers_place bytes ≡ 16 + size + 4 = omega (arith, size_is) in ap (λ n. drop n bytes) same ∙
    at_frames) in
    let count : count_in bytes script ≡ length numbers =
    ap (kept_count script) frames ∙ sym (fits_count script.input.format script.input.channels script.blocks at numbers
    is.fits.fits) in
    let eight : length tail ≡ length numbers * 8 = tail_long numbers in
    let long : length bytes ≡ 20 + size + length numbers * 8 =
    ap length all ∙ omega (arith, length-append text four_frames, length-append (to_le_bytes w32 at) tail, eight) in
    let read : numbers_in bytes (count_in bytes script) ≡ numbers =
    (λ i. values (count i) (λ k. number_of (take 8 (drop (k * 8) (numbers_at i))))) ∙ numbers_read numbers is.words in
    let mark : HasMark bytes = record {
      long = omega (arith, long);
      mark = ap (take 8) all ∙
          take-append_seam (codes "DSPSTATE") (to_le_bytes w32 1 ++ (to_le_bytes w32 size ++ (text ++ four_frames)));
    } in
    let version : HasVersion bytes = record {
      before = mark;
      long = omega (arith, long);
      one =
          number_at bytes (to_le_bytes w32 size ++ (text ++ four_frames)) 8 1 (omega arith) at_8;
    } in
    let length_good : HasLength bytes = record {
      before = version;
      long = omega (arith, long);
      short =
          omega (arith, size_is, is.short_text);
    } in
    let text_good : HasText bytes script = record {
      before = length_good;
      long = omega (arith, long, size_is);
      runs = is.runs;
      text = sym ((λ i. take (size_is i) (at_16 i)) ∙ take-append_seam text four_frames);
    } in
    let frames_good : HasFrames bytes script = record {
      before = text_good;
      long = omega (arith, long, size_is);
      few = subst (λ n. gathered script.blocks n ≤ MAX_GATHERED) (sym frames) is.fits.gathers;
    } in
    record {
      good = record {
        before = frames_good;
        long = omega (arith, long, size_is, count);
        fit = subst (λ n. Fits script n (numbers_in bytes (count_in bytes script))) (sym frames)
            (subst (Fits script at) (sym read) is.fits);
      };
      ends = omega (arith, long, size_is, count);
      frames = frames;
    }
  where
    tail_long : (xs : List ℤ) → length (flat_map number_bytes xs) ≡ length xs * 8
    tail_long [] = refl
    tail_long (x ∷ xs) = omega (
      arith,
      length-append (number_bytes x) (flat_map number_bytes xs),
      tail_long xs,
      eight_long x,
    )
      where
        eight_long : (z : ℤ) → length (number_bytes z) ≡ 8
        eight_long z = refl

-- ---- no fault

-- bytes have the text of one script
one_text : (bytes : List ℕ) (s t : Script) → HasText bytes s → HasText bytes t → s ≡ t
one_text bytes s t here there =
    let short : (u : Script) → HasText bytes u → length (canon u) ≤ MAX_SCRIPT = λ u has. shorter bytes u has in
    one_script _ s t (canon_read s here.runs.sound (short s here))
    (subst (λ text. Reads text t) (there.text ∙ sym here.text) (canon_read t there.runs.sound (short t there)))
  where
    shorter : (bytes : List ℕ) (u : Script) → HasText bytes u → length (canon u) ≤ MAX_SCRIPT
    shorter bytes u has = omega (arith, ap length has.text, taken (text_size bytes) (drop 16 bytes), has.before.short)
      where
        taken : (n : ℕ) (xs : List ℕ) → length (take n xs) ≤ n
        taken n xs = omega (arith, length-take n xs)

pub no_fault : (bytes : List ℕ) (script : Script) (at : ℕ) (numbers : List ℤ) → IsState bytes script at numbers
    → (kind : StateKind) (offset : ℕ) → HasStateFault kind offset bytes → ⊥
no_fault bytes script at numbers is kind offset fault = by kind fault
  where
    says : Told bytes script at numbers
    says = told bytes script at numbers is

    frames_good : HasFrames bytes script
    frames_good = says.good.before

    text_good : HasText bytes script
    text_good = frames_good.before

    cut : IsCut bytes → ⊥
    cut (InVersion mark short) = omega (arith, short, text_good.before.before.long)
    cut (InLength version short) = omega (arith, short, text_good.before.long)
    cut (InText length_good short) = omega (arith, short, text_good.long)
    cut (InFrames other text short) = omega (arith, short, frames_good.long)
    cut (InNumbers other frames short) =
        let same : script ≡ other = one_text bytes script other text_good frames.before in
        let ends : state_end bytes other ≡ length bytes = ap (state_end bytes) (sym same) ∙ sym says.ends in
        omega (arith, short, ends)

    text : HasNoText bytes → ⊥
    text (LongSize version long over) = omega (arith, over, text_good.before.short)
    text (OtherText length_good long none) = none script text_good

    value : (offset : ℕ) → HasNoValue bytes offset → ⊥
    value offset (ManyFrames other has long many place) =
        let same : script ≡ other = one_text bytes script other text_good has in
        let few : gathered other.blocks (frames_in_state bytes) ≤ MAX_GATHERED =
        subst (λ (s : Script). gathered s.blocks (frames_in_state bytes) ≤ MAX_GATHERED) same frames_good.few in
        omega (arith, many, few)
    value offset (OtherNumbers other has long unfit place) =
        let same : script ≡ other = one_text bytes script other text_good has.before in
        unfit (subst (λ (s : Script). Fits s (frames_in_state bytes) (numbers_in bytes (count_in bytes s))) same
        says.good.fit)

    by : (kind : StateKind) → HasStateFault kind offset bytes → ⊥
    by NotState (short, fault) = fault.0 text_good.before.before.before
    by (Version got) (short, fault) = fault.3 (fault.2 ∙ text_good.before.before.one)
    by Text (short, fault) = text fault.0
    by Cut (short, fault) = cut fault.0
    by Value (short, fault) = value offset fault
    by Extra (short, fault) =
        let (other, has, more, place) = fault in
        let same : script ≡ other = one_text bytes script other text_good has.before.before in
        let ends : state_end bytes other ≡ length bytes = ap (state_end bytes) (sym same) ∙ sym says.ends in
        omega (arith, more, ends)
    by TooLong fault = omega (arith, fault.0, is.short)
    by (LongText size) (short, fault) = fault

-- ---- one reading

pub one_reading : (bytes : List ℕ) (s t : Script) (m n : ℕ) (xs ys : List ℤ) → IsState bytes s m xs →
    IsState bytes t n ys → (s ≡ t) × (m ≡ n) × (xs ≡ ys)
one_reading bytes s t m n xs ys here there =
    let same : state_of s m xs ≡ state_of t n ys = sym here.bytes_are ∙ there.bytes_are in
    let text = (texts_apart s t m n xs ys here.short_text there.short_text here.few there.few same).0 in
    let (frames, numbers) = values_apart s t m n xs ys here.short_text there.short_text here.few there.few same
    here.words there.words in (
      one_script _ s t (canon_read s here.runs.sound here.short_text)
          (subst (λ bytes. Reads bytes t) (sym text) (canon_read t there.runs.sound there.short_text)),
      frames,
      numbers,
    )
