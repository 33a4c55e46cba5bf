-- Bytes whose fields are good are a state.
use Rattle.std.proofs.Common.{◌≡◌, ◌∙◌, ap, refl, sym, ℕ, ◌+◌, ◌*◌, ◌<◌, ◌≤◌, ◌^◌, List, ◌++◌, length, take, drop}
use Rattle.std.proofs.Common.{codes, arith, length-take, length-drop}
use Rattle.std.specs.Int.{w32, to_le_bytes}
use Rattle.std.specs.List.{flat_map}
use Rattle.std.proofs.lemmas.List.{drop-drop, take-append-drop, take_all}
use Rattle.std.proofs.lemmas.List.Elements.{All-take, All-drop}
use Rattle.std.proofs.lemmas.Nat.{le_bytes_4}
use Rattle.dsp_defs.specs.Canon.{canon}
use Rattle.dsp_defs.specs.StateBytes.{IsState, number_bytes}
use Rattle.dsp_defs.specs.StateFields.{HasNumbers, count_in, frames_in_state, frames_place, numbers_in, numbers_place}
use Rattle.dsp_defs.specs.StateFields.{state_end, text_in, text_size}
use Rattle.dsp_defs.specs.Wave.{u32_at}
use Rattle.dsp_defs.specs.declared.limits.TheConstants.{MAX_STATE}
use Rattle.dsp_defs.specs.declared.script.Script.{Script}
use Rattle.dsp_state.proofs.NumberLaws.{AreBytes, byte_at, numbers_back, numbers_fit}
use Rattle.dsp_state.proofs.StateLaws.{fields}
use Rattle.dsp_defs.proofs.BytesLaws.{four_fit}

-- ---- numbers of 4 bytes

four_at : (bytes : List ℕ) (place : ℕ) → AreBytes bytes → AreBytes (take 4 (drop place bytes))
four_at bytes place are = All-take (λ b. b < 256) 4 (drop place bytes) (All-drop (λ b. b < 256) place bytes are)

u32_below : (bytes : List ℕ) (place : ℕ) → AreBytes bytes → u32_at bytes place < 2 ^ 32
u32_below bytes place are = four_fit (take 4 (drop place bytes))
    (byte_at (take 4 (drop place bytes)) (four_at bytes place are))

-- ---- fields

-- the bytes from a place on are those of the field there and those behind it
next : (bytes : List ℕ) (place size : ℕ) → drop place bytes ≡ take size (drop place bytes) ++ drop (place + size) bytes
next bytes place size = sym (take-append-drop size (drop place bytes)) ∙
    ap (λ l. take size (drop place bytes) ++ l) (drop-drop size place bytes)

-- and of a number of 4 bytes
number_next : (bytes : List ℕ) (place : ℕ) → AreBytes bytes → place + 4 ≤ length bytes →
    drop place bytes ≡ to_le_bytes w32 (u32_at bytes place) ++ drop (place + 4) bytes
number_next bytes place are within =
    let piece = take 4 (drop place bytes) in
    let long : length piece ≡ 4 = omega (arith, within, length-take 4 (drop place bytes), length-drop place bytes) in
    next bytes place 4 ∙ ap (λ l. l ++ drop (place + 4) bytes)
    (sym (le_bytes_4 piece (u32_at bytes place) long (byte_at piece (four_at bytes place are)) refl))

put_together : (bytes text : List ℕ) (count : ℕ) → AreBytes bytes → take 8 bytes ≡ codes "DSPSTATE" →
    u32_at bytes 8 ≡ 1 → text ≡ text_in bytes → length bytes ≡ numbers_place bytes + count * 8
    → bytes ≡ codes "DSPSTATE" ++ (to_le_bytes w32 1 ++
    (to_le_bytes w32 (length text) ++ (text ++ (to_le_bytes w32 (frames_in_state bytes) ++ flat_map number_bytes
    (numbers_in bytes count)))))
put_together bytes text count are mark one text_is ends =
    let size = text_size bytes in
    let rest = drop (20 + size) bytes in
    let all : length rest ≡ count * 8 = omega (arith, ends, length-drop (20 + size) bytes) in
    let long : size ≡ length text = omega (
      arith,
      ends,
      ap length text_is,
      length-take size (drop 16 bytes),
      length-drop 16 bytes,
    ) in
    let numbers : rest ≡ flat_map number_bytes (numbers_in bytes count) =
    sym (numbers_back rest (All-drop (λ b. b < 256) (20 + size) bytes are) count (omega (arith, all)) ∙
    take_all (count * 8) rest (omega (arith, all))) in
    let behind : 16 + size + 4 ≡ 20 + size = omega arith in
    sym (take-append-drop 8 bytes)
    ∙ (λ i. mark i ++ drop 8 bytes)
    ∙ ap (λ l. codes "DSPSTATE" ++ l)
    (number_next bytes 8 are (omega (arith, ends))
    ∙ (λ i. to_le_bytes w32 (one i) ++ drop 12 bytes)
    ∙ ap (λ l. to_le_bytes w32 1 ++ l)
    (number_next bytes 12 are (omega (arith, ends))
    ∙ (λ i. to_le_bytes w32 (long i) ++ drop 16 bytes)
    ∙ ap (λ l. to_le_bytes w32 (length text) ++ l)
    (next bytes 16 size
    ∙ (λ i. sym text_is i ++ drop (16 + size) bytes)
    ∙ ap (λ l. text ++ l)
    (number_next bytes (16 + size) are (omega (arith, ends))
    ∙ ap (λ n. to_le_bytes w32 (frames_in_state bytes) ++ drop n bytes) behind
    ∙ ap (λ l. to_le_bytes w32 (frames_in_state bytes) ++ l) numbers))))

-- ---- a state

pub is_state : (bytes : List ℕ) (script : Script) → AreBytes bytes → length bytes ≤ MAX_STATE →
    HasNumbers bytes script → length bytes ≡ state_end bytes script
    → IsState bytes script (frames_in_state bytes) (numbers_in bytes (count_in bytes script))
is_state bytes script are short has ends =
    let text = has.before.before in
    let size : length (canon script) ≡ text_size bytes = ap length text.text ∙ length_text bytes text.long in
    record {
      bytes_are =
          put_together bytes (canon script) (count_in bytes script) are text.before.before.before.mark
          text.before.before.one text.text ends
          ∙ sym (fields script (frames_in_state bytes) (numbers_in bytes (count_in bytes script)));
      runs = text.runs;
      short_text = shorter _ _ _ size text.before.short;
      few = u32_below bytes (frames_place bytes) are;
      words = numbers_fit (drop (numbers_place bytes) bytes) (All-drop (λ b. b < 256) (numbers_place bytes) bytes are)
          (count_in bytes script);
      fits = has.fit;
      short = short;
    }
  where
    length_text : (bytes : List ℕ) → frames_place bytes ≤ length bytes → length (text_in bytes) ≡ text_size bytes
    length_text bytes within = omega (
      arith,
      within,
      length-take (text_size bytes) (drop 16 bytes),
      length-drop 16 bytes,
    )

    shorter : (n m k : ℕ) → n ≡ m → m ≤ k → n ≤ k
    shorter n m k is few = omega (arith, is, few)
