-- The header that bytes have in a form is good, and where they are bytes its rate has 32 bits.
use Rattle.std.proofs.Common.{◌≡◌, ℕ, zero, suc, ◌+◌, ◌^◌, ◌<◌, ◌≤◌, Bool, true, false, not, if◌then◌else◌, List, []}
use Rattle.std.proofs.Common.{◌∷◌, codes, length, take, drop, nat_le, nat_lt, ◌&&◌, Option, Some, None, Result, Ok, Err}
use Rattle.std.proofs.Common.{refl, sym, ap, ◌∙◌, subst, arith, length-drop, length-take-le, w32}
use Rattle.std.specs.Int.{from_be_bytes}
use Rattle.std.specs.Result.{result_unwrap_or}
use Rattle.std.specs.Str.{bytes_eq}
use Rattle.std.proofs.lemmas.Bool.{ltb-false}
use Rattle.dsp_defs.specs.Au.{Form, WaveForm, AuForm, au_header_of, au_said, au_whole, big_u32_at, coding_of_encoding}
use Rattle.dsp_defs.specs.Au.{form_header_of}
use Rattle.dsp_defs.specs.Bytes.{AreBytes}
use Rattle.dsp_defs.specs.Open.{IsOpenGood, closed, open_header_of}
use Rattle.dsp_defs.specs.Wave.{Chunk, chunk_at, chunks, chunks_behind, declared_size, format_fault, has_id, header_in}
use Rattle.dsp_defs.specs.Wave.{header_of, padded, sampling, u32_at, unless}
use Rattle.dsp_defs.specs.declared.au.AuFault.{AuFault}
use Rattle.dsp_defs.specs.declared.au.AuFault.TheVariants.{NotAu, Offset, Encoding, Channels, Ended}
use Rattle.dsp_defs.specs.declared.format.Coding.{Coding}
use Rattle.dsp_defs.specs.declared.wave.Header.{Header}
use Rattle.dsp_defs.specs.declared.wave.HeaderFault.{HeaderFault}
use Rattle.dsp_defs.specs.declared.wave.HeaderFault.TheVariants.{NotRiff, NotWave, NoFormat}
use Rattle.dsp_defs.specs.declared.wave.OpenHeader.{OpenHeader}
use Rattle.dsp_defs.specs.declared.wave.Sampling.{Sampling}
use Rattle.dsp_defs.specs.declared.wave.Wanted.{Wanted}
use Rattle.dsp_defs.proofs.AuLaws.{au_said-good, open_header-good}
use Rattle.dsp_defs.proofs.WaveLemmas.{no_header}
use Rattle.dsp_au.proofs.ExchangeLaws.{Small, of_four, small-drop, small-take}
use Rattle.dsp_au.proofs.ShortLaws.{ok_of}

-- the bodies of chunks are bytes
abbrev AllSmall : List Chunk → Type 0
AllSmall [] = Unit {0}
AllSmall (c ∷ cs) = Small c.body × AllSmall cs

chunks_small : (skipped offset : ℕ) (bytes : List ℕ) → Small bytes → AllSmall (chunks_behind skipped offset bytes)
chunks_small zero offset [] h = tt
chunks_small (suc skipped) offset [] h = tt
chunks_small (suc skipped) offset (b ∷ bytes) h = chunks_small skipped (offset + 1) bytes (λ i. h (suc i))
chunks_small zero offset (b ∷ bytes) h =
    let c = chunk_at offset (b ∷ bytes) in
    by c (chunks_behind (7 + padded c.size) (offset + 1) bytes) (nat_lt (length bytes) 7)
    (small-take (u32_at (b ∷ bytes) 4) (drop 8 (b ∷ bytes)) (small-drop 8 (b ∷ bytes) h))
    (chunks_small (7 + padded c.size) (offset + 1) bytes (λ i. h (suc i)))
  where
    by : (c : Chunk) (cs : List Chunk) (short : Bool) → Small c.body → AllSmall cs →
        AllSmall (if short then [] else (c ∷ cs))
    by c cs true first later = tt
    by c cs false first later = (first, later)

u32_small : (bytes : List ℕ) (place : ℕ) → Small bytes → u32_at bytes place < 2 ^ 32
u32_small bytes place h =
    let piece = small-take 4 (drop place bytes) (small-drop place bytes h) in
    omega (arith, piece 0, piece 1, piece 2, piece 3)

abbrev KnownSmall : Option Sampling → Type 0
KnownSmall None = Unit {0}
KnownSmall (Some known) = known.rate < 2 ^ 32

module _ (wanted : Wanted) (total : ℕ) (header : Header) where
  abbrev Says : Option Sampling → List Chunk → Type 0
  Says known cs = KnownSmall known → header_in wanted total known cs ≡ Ok header → header.rate < 2 ^ 32

  at_known : (known : Sampling) (c : Chunk) (cs : List Chunk) → Says (Some known) cs → Says (Some known) (c ∷ cs)
  at_known known c cs later small e = by (has_id (codes "data") c) e
    where
      by : (is : Bool) → (if is then Ok (record {
        rate = known.rate;
        start = c.offset + 8;
        size =
            declared_size c.size;
        coding = known.coding;
      }) else header_in wanted total (Some known) cs) ≡ Ok header
          → header.rate < 2 ^ 32
      by true e = subst (λ rate. rate < 2 ^ 32) (ap (λ r. (result_unwrap_or r header).rate) e) small
      by false e = later small e

  at_none : (c : Chunk) (cs : List Chunk) → Small c.body → ((known : Option Sampling) → Says known cs) →
      Says None (c ∷ cs)
  at_none c cs body later small e = by (has_id (codes "data") c) (has_id (codes "fmt ") c) e
    where
      at_fault : (fault : Option (HeaderFault × ℕ)) → unless fault
          (header_in wanted total (Some (sampling wanted c)) cs) ≡ Ok header → header.rate < 2 ^ 32
      at_fault (Some f) e = no_header f header e
      at_fault None e = later (Some (sampling wanted c)) (u32_small c.body 4 body) e

      by : (is is' : Bool)
          → (if is then Err (NoFormat, c.offset) else (if is' then
          unless (format_fault wanted total c) (header_in wanted total (Some (sampling wanted c)) cs) else
          header_in wanted total None cs)) ≡ Ok header
          → header.rate < 2 ^ 32
      by true is' e = no_header _ header e
      by false true e = at_fault (format_fault wanted total c) e
      by false false e = later None tt e

  rate_in : (cs : List Chunk) → AllSmall cs → (known : Option Sampling) → Says known cs
  rate_in [] small None h e = no_header _ header e
  rate_in [] small (Some known) h e = no_header _ header e
  rate_in (c ∷ cs) small (Some known) h e = at_known known c cs (rate_in cs small.1 (Some known)) h e
  rate_in (c ∷ cs) small None h e = at_none c cs small.0 (rate_in cs small.1) h e

wave_rate : (bytes : List ℕ) (wanted : Wanted) (header : Header) → Small bytes → header_of bytes wanted ≡ Ok header →
    header.rate < 2 ^ 32
wave_rate bytes wanted header small e = by (not (bytes_eq (take 4 bytes) (codes "RIFF")))
    (not (bytes_eq (take 4 (drop 8 bytes)) (codes "WAVE"))) e
  where
    by : (r w : Bool) → (if r then Err (NotRiff, 0) else
        (if w then Err (NotWave, 8) else header_in wanted (length bytes) None (chunks bytes))) ≡ Ok header →
        header.rate < 2 ^ 32
    by true w e = no_header _ header e
    by false true e = no_header _ header e
    by false false e = rate_in wanted (length bytes) header (chunks bytes)
        (chunks_small 0 12 (drop 12 bytes) (small-drop 12 bytes small)) None tt e

au_rate : (fields : List ℕ) (header : OpenHeader) → au_said fields ≡ Ok header → header.rate ≡ big_u32_at fields 16
au_rate fields header e = by (nat_lt (big_u32_at fields 4) 24) (coding_of_encoding (big_u32_at fields 12))
    (nat_le 1 (big_u32_at fields 20) && nat_le (big_u32_at fields 20) 16) e
  where
    by : (low : Bool) (known : Option Coding) (few : Bool)
        → let at_start : AuFault × ℕ = (Offset (big_u32_at fields 4), 4) in
        let at_channels : AuFault × ℕ = (Channels (big_u32_at fields 20), 20) in
        let said : Result OpenHeader (AuFault × ℕ) = elim known [
          | Some coding ↦ if few then Ok (record {
            rate = big_u32_at fields 16;
            start = big_u32_at fields 4;
            size =
                declared_size (big_u32_at fields 8);
            coding = coding;
            channels = big_u32_at fields 20;
          }) else
              Err at_channels
          | None ↦ Err (Encoding (big_u32_at fields 12), 12)
        ] in
        let all : Result OpenHeader (AuFault × ℕ) = if low then Err at_start else said in
        all ≡ Ok header → header.rate ≡ big_u32_at fields 16
    by true known few e = absurd cc
    by false None few e = absurd cc
    by false (Some coding) false e = absurd cc
    by false (Some coding) true e = sym (ap (λ r. (result_unwrap_or r header).rate) e)

big_small : (bytes : List ℕ) → AreBytes 4 bytes → from_be_bytes w32 bytes < 2 ^ 32
big_small bytes h = of_four (λ bytes. from_be_bytes w32 bytes < 2 ^ 32) (λ a b c d ha hb hc hd. omega arith) bytes h

-- of a whole header the fields say so
au_whole_said : (bytes : List ℕ) (header : OpenHeader) → au_header_of bytes ≡ Ok header → (24 ≤ length bytes) ×
    (au_said (take 24 bytes) ≡ Ok header)
au_whole_said bytes header e = by (not (bytes_eq (take 4 bytes) (codes ".snd"))) (nat_lt (length bytes) 24) refl e
  where
    whole : 24 ≤ length bytes → (said : Result OpenHeader (AuFault × ℕ)) → au_said (take 24 bytes) ≡ said →
        au_whole (length bytes) said ≡ Ok header → (24 ≤ length bytes) × (au_said (take 24 bytes) ≡ Ok header)
    whole enough (Err fault) is e = absurd cc
    whole enough (Ok found) is e = by_end (nat_lt (length bytes) found.start) e
      where
        by_end : (cut : Bool) → let fault : AuFault × ℕ = (Ended, length bytes) in
            let all : Result OpenHeader (AuFault × ℕ) = if cut then Err fault else Ok found in
            all ≡ Ok header → (24 ≤ length bytes) × (au_said (take 24 bytes) ≡ Ok header)
        by_end true e = absurd cc
        by_end false e = (enough, is ∙ e)

    by : (other short : Bool) → nat_lt (length bytes) 24 ≡ short
        → let at_mark : AuFault × ℕ = (NotAu, 0) in let at_end : AuFault × ℕ = (Ended, length bytes) in
        let all : Result OpenHeader (AuFault × ℕ) = if other then Err at_mark else
        (if short then Err at_end else au_whole (length bytes) (au_said (take 24 bytes))) in
        all ≡ Ok header → (24 ≤ length bytes) × (au_said (take 24 bytes) ≡ Ok header)
    by true short is e = absurd cc
    by false true is e = absurd cc
    by false false is e = whole (ltb-false _ _ is) (au_said (take 24 bytes)) refl e

au_rate_small : (bytes : List ℕ) (header : OpenHeader) → Small bytes → au_header_of bytes ≡ Ok header →
    header.rate < 2 ^ 32
au_rate_small bytes header small e =
    let (enough, said) = au_whole_said bytes header e in
    let long : length (take 24 bytes) ≡ 24 = length-take-le 24 bytes enough in
    let piece : length (take 4 (drop 16 (take 24 bytes))) ≡ 4 =
    length-take-le 4 (drop 16 (take 24 bytes)) (omega (arith, long, length-drop 16 (take 24 bytes))) in
    subst (λ rate. rate < 2 ^ 32) (sym (au_rate (take 24 bytes) header said))
    (big_small (take 4 (drop 16 (take 24 bytes))) (
      piece,
      small-take 4 _ (small-drop 16 (take 24 bytes) (small-take 24 bytes small)),
    ))

-- what bytes head in a form
pub form_said : (form : Form) (bytes : List ℕ) (header : OpenHeader) → form_header_of form bytes ≡ Some header →
    IsOpenGood header × (Small bytes → header.rate < 2 ^ 32)
form_said WaveForm bytes header e =
    let (good, said) = open_header-good bytes header (ok_of (open_header_of bytes) header e) in
    (good, λ small. wave_rate bytes _ (closed header) small said)
form_said AuForm bytes header e =
    let is = ok_of (au_header_of bytes) header e in (
      (au_said-good (take 24 bytes) header (au_whole_said bytes header is).1).0,
      λ small. au_rate_small bytes header small is,
    )
