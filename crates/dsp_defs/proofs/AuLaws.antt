-- A written header is read back, of an AU file and of a WAVE file of which nothing is wanted; AU samples and their
-- bytes are inverse to each other.
use Rattle.std.proofs.Common.{◌≡◌, ℕ, nat_eq, nat_lt, nat_le, ◌&&◌, subst, Bool, ◌-◌, ◌*◌, ◌^◌, ◌<◌, ◌≤◌, true, false}
use Rattle.std.proofs.Common.{if◌then◌else◌, IfSome, List, [], ◌∷◌, ◌++◌, length, take, drop, codes, Option, Some}
use Rattle.std.proofs.Common.{None, Result, Ok, Err, refl, sym, ap, ap₂, ◌∙◌, arith, length-append}
use Rattle.std.proofs.lemmas.Grind.{common_steps}
use Rattle.std.proofs.lemmas.Nat.{from_be_bytes-to_be_bytes_4}
use Rattle.std.specs.Int.{to_le_bytes, from_le_bytes}
use Rattle.std.specs.Option.{option_map, unwrap_or}
use Rattle.std.specs.Result.{result_map_both, result_unwrap_or}
use Rattle.std.specs.Str.{bytes_eq}
use Rattle.dsp_defs.specs.Numbers.{w16}
use Rattle.dsp_defs.specs.Bytes.{format_in, width}
use Rattle.dsp_defs.specs.Wave.{Chunk, chunk_at, chunks, data_bytes, declared_size, file_coding, has_id, header_of}
use Rattle.dsp_defs.specs.Wave.{u16_at}
use Rattle.dsp_defs.specs.Open.{IsOpenGood, IsWave, OpenFits, channels_in_limit, format_of_bits, open_header_of}
use Rattle.dsp_defs.specs.Open.{open_wave_header, open_written_header, closed, opened, own_wanted, wanted_by}
use Rattle.dsp_defs.specs.Open.{wanted_in}
use Rattle.dsp_defs.specs.Au.{AuFits, au_channels_said, au_header, au_header_of, au_said, au_whole, au_written_header}
use Rattle.dsp_defs.specs.Au.{big_u32_at, coding_of_encoding}
use Rattle.dsp_defs.specs.declared.format.Container.TheVariants.{Wave}
use Rattle.dsp_defs.specs.declared.format.Coding.{Coding}
use Rattle.dsp_defs.specs.declared.format.Coding.TheVariants.{Raw7, Raw15, Raw31, Wave7, Wave15, Wave24, Wave31}
use Rattle.dsp_defs.specs.declared.wave.OpenHeader.{OpenHeader}
use Rattle.dsp_defs.specs.declared.wave.Wanted.{Wanted}
use Rattle.dsp_defs.specs.declared.au.AuFault.{AuFault}
use Rattle.dsp_defs.specs.declared.au.AuFault.TheVariants.{Channels, Encoding, Offset}
use Rattle.dsp_defs.specs.declared.format.Fmt.{Fmt}
use Rattle.dsp_defs.specs.declared.format.Fmt.TheVariants.{Q7, Q15, Q31}
use Rattle.dsp_defs.specs.declared.wave.Header.{Header}
use Rattle.dsp_defs.specs.declared.wave.HeaderFault.{HeaderFault}
use Rattle.dsp_defs.proofs.HeaderCoding.{declared-small, good_header, header_coding}
use Rattle.dsp_defs.proofs.WaveLaws.{header_of-header_of_width, first_format}

-- ---- a WAVE file of which nothing is wanted

-- a coding of WAVE is known by the format and the bits
wave_is_read : (coding : Coding) → IsWave coding → file_coding (format_in coding)
    (from_le_bytes w16 (to_le_bytes w16 (8 * width coding))) ≡ coding
wave_is_read Wave7 h = refl
wave_is_read Wave15 h = refl
wave_is_read Wave24 h = refl
wave_is_read Wave31 h = refl
wave_is_read Raw7 h = absurd h
wave_is_read Raw15 h = absurd h
wave_is_read Raw31 h = absurd h

bits_are : (coding : Coding) → IsWave coding → format_of_bits (8 * width coding) ≡ format_in coding
bits_are Wave7 h = refl
bits_are Wave15 h = refl
bits_are Wave24 h = refl
bits_are Wave31 h = refl
bits_are Raw7 h = absurd h
bits_are Raw15 h = absurd h
bits_are Raw31 h = absurd h

pub width-few : (coding : Coding) → width coding ≤ 4
width-few Raw7 = omega arith
width-few Raw15 = omega arith
width-few Raw31 = omega arith
width-few Wave7 = omega arith
width-few Wave15 = omega arith
width-few Wave24 = omega arith
width-few Wave31 = omega arith

in_limit : (channels : ℕ) → 1 ≤ channels → channels ≤ 16 → channels_in_limit channels ≡ channels
in_limit channels some few = grind (arith, common_steps, some, few)

first_wants : (chunk : Chunk) (more : List Chunk) → has_id (codes "fmt ") chunk ≡ true →
    wanted_in (chunk ∷ more) ≡ own_wanted chunk.body
first_wants chunk more is = ap (λ b. if b then own_wanted chunk.body else wanted_in more) is

module _ (coding : Coding) (wave : IsWave coding) (channels rate : ℕ) (frames : Option ℕ) (rest : List ℕ)
    (some : 1 ≤ channels) (few : channels ≤ 16) (small : rate < 2 ^ 32) where
  abbrev file : List ℕ
  file = open_wave_header coding channels rate frames ++ rest

  abbrev wanted : Wanted
  wanted = record { format = format_in coding; channels = channels }

  wants : wanted_by file ≡ wanted
  wants =
      let (more, e, is, said, bits) = first_format (format_in coding) coding (width coding) (wave_is_read coding wave)
      refl (width-few coding) channels rate frames rest few small Wave in
      ap wanted_in e
      ∙ first_wants (chunk_at 12 (drop 12 file)) more is
      ∙ ap₂ {C = Wanted} (λ b c. record { format = format_of_bits b; channels = channels_in_limit c }) bits said
      ∙ ap₂ {C = Wanted} (λ f c. record { format = f; channels = c }) (bits_are coding wave)
      (in_limit channels some few)

  pub open_header_of-open_wave_header : OpenFits coding channels frames →
      open_header_of file ≡ Ok (open_written_header coding channels rate frames)
  open_header_of-open_wave_header fits =
      ap (λ (w : Wanted). result_map_both (opened w) (λ fault. fault) (header_of file w)) wants
      ∙ ap (result_map_both (opened wanted) (λ fault. fault))
      (header_of-header_of_width (format_in coding) coding (width coding) (wave_is_read coding wave) refl
      (width-few coding) channels rate frames rest few small Wave fits)

-- ---- an AU file

size_is_read : (width channels : ℕ) (frames : Option ℕ) →
    IfSome frames (λ n. data_bytes width channels (Some n) < 2 ^ 32 - 1)
    → (data_bytes width channels frames < 2 ^ 32) × (declared_size (data_bytes width channels frames) ≡ option_map
    (λ n. data_bytes width channels (Some n)) frames)
size_is_read width channels None h = (omega arith, refl)
size_is_read width channels (Some n) h = (omega (arith, h), grind (arith, common_steps, h))

channels_said : (fields : List ℕ) (coding : Coding) (channels : ℕ) → big_u32_at fields 20 ≡ channels → 1 ≤ channels →
    channels ≤ 16
    → au_channels_said fields coding ≡ Ok (record {
      rate = big_u32_at fields 16;
      start = big_u32_at fields 4;
      size =
          declared_size (big_u32_at fields 8);
      coding = coding;
      channels = channels;
    })
channels_said fields coding channels is some few = grind (arith, common_steps, is, some, few)

pub au_is_whole : (total : ℕ) (header : OpenHeader) → header.start ≤ total → au_whole total (Ok header) ≡ Ok header
au_is_whole total header within = grind (arith, common_steps, within)

module _ (channels rate : ℕ) (frames : Option ℕ) (rest : List ℕ) (some : 1 ≤ channels) (few : channels ≤ 16)
    (small : rate < 2 ^ 32) where
  abbrev au_file : Coding → List ℕ
  au_file coding = au_header coding channels rate frames ++ rest

  long : (coding : Coding) → 24 ≤ length (au_file coding)
  long coding = omega (arith, length-append (au_header coding channels rate frames) rest)

  -- what is said, where the encoding is known
  said_as : (coding : Coding) → AuFits coding channels frames
      → au_channels_said (take 24 (au_file coding)) coding ≡ Ok (au_written_header coding channels rate frames)
  said_as coding fits =
      let (size, declared) = size_is_read (width coding) channels frames fits in
      channels_said (take 24 (au_file coding)) coding channels
      (from_be_bytes-to_be_bytes_4 channels (omega (arith, few))) some few
      ∙ ap₂ {C = Result OpenHeader (AuFault × ℕ)} (λ (r : ℕ) (n : Option ℕ). Ok
      (record { rate = r; start = 24; size = n; coding = coding; channels = channels }))
      (from_be_bytes-to_be_bytes_4 rate small)
      (ap declared_size (from_be_bytes-to_be_bytes_4 (data_bytes (width coding) channels frames) size) ∙ declared)

  said : (coding : Coding) → IsWave coding → AuFits coding channels frames →
      au_said (take 24 (au_file coding)) ≡ Ok (au_written_header coding channels rate frames)
  said Wave7 wave fits = said_as Wave7 fits
  said Wave15 wave fits = said_as Wave15 fits
  said Wave24 wave fits = said_as Wave24 fits
  said Wave31 wave fits = said_as Wave31 fits
  said Raw7 wave fits = absurd wave
  said Raw15 wave fits = absurd wave
  said Raw31 wave fits = absurd wave

  -- the fields of a whole header are judged
  by_fields : (bytes : List ℕ) → bytes_eq (take 4 bytes) (codes ".snd") ≡ true → 24 ≤ length bytes →
      au_header_of bytes ≡ au_whole (length bytes) (au_said (take 24 bytes))
  by_fields bytes is enough = grind (arith, common_steps, is, enough)

  pub au_header_of-au_header : (coding : Coding) → IsWave coding → AuFits coding channels frames →
      au_header_of (au_file coding) ≡ Ok (au_written_header coding channels rate frames)
  au_header_of-au_header coding wave fits =
      by_fields (au_file coding) refl (long coding)
      ∙ ap (au_whole (length (au_file coding))) (said coding wave fits)
      ∙ au_is_whole (length (au_file coding)) (au_written_header coding channels rate frames) (long coding)

-- ---- what a good header says

file_coding-wave : (format : Fmt) (bits : ℕ) → IsWave (file_coding format bits)
file_coding-wave Q7 bits = tt
file_coding-wave Q15 bits = tt
file_coding-wave Q31 bits = by_bits (nat_eq bits 24)
  where
    by_bits : (b : Bool) → IsWave (if b then Wave24 else Wave31)
    by_bits true = tt
    by_bits false = tt

limited : (n : ℕ) → (1 ≤ channels_in_limit n) × (channels_in_limit n ≤ 16)
limited n = (grind (arith, common_steps), grind (arith, common_steps))

wanted_channels : (cs : List Chunk) → (1 ≤ (wanted_in cs).channels) × ((wanted_in cs).channels ≤ 16)
wanted_channels [] = limited (u16_at [] 2)
wanted_channels (c ∷ cs) = by_id (has_id (codes "fmt ") c) (wanted_channels cs)
  where
    by_id : (b : Bool) → (1 ≤ (wanted_in cs).channels) × ((wanted_in cs).channels ≤ 16) → let wanted : Wanted =
        if b then own_wanted c.body else wanted_in cs in (1 ≤ wanted.channels) × (wanted.channels ≤ 16)
    by_id true later = limited (u16_at c.body 2)
    by_id false later = later

-- of a header with its channels
opened-good : (wanted : Wanted) (said : Result Header (HeaderFault × ℕ)) (header : OpenHeader) →
    result_map_both (opened wanted) (λ fault. fault) said ≡ Ok header
    → (plain : Header) × (said ≡ Ok plain) × (header ≡ opened wanted plain)
opened-good wanted (Ok plain) header e = (plain, refl, sym (ap (λ r. result_unwrap_or r header) e))
opened-good wanted (Err fault) header e = absurd cc

pub open_header-good : (bytes : List ℕ) (header : OpenHeader) → open_header_of bytes ≡ Ok header
    → IsOpenGood header × (header_of bytes (record { format = format_in header.coding; channels = header.channels }) ≡
    Ok (closed header))
open_header-good bytes header e =
    let wanted = wanted_by bytes in
    let (plain, said, is) = opened-good wanted (header_of bytes wanted) header e in
    let (wave, size) = good_header bytes wanted plain IsWave (file_coding-wave wanted.format) said in
    let (some, few) = wanted_channels (chunks bytes) in
    let format : format_in plain.coding ≡ wanted.format = header_coding bytes wanted plain said in
    rw is (
      record { wave = wave; some = some; few = few; size = size },
      ap (λ (f : Fmt). header_of bytes (record { format = f; channels = wanted.channels })) format ∙ said,
    )

-- ---- what a good AU header says

au_coding-good : (encoding : ℕ) (coding : Coding) → coding_of_encoding encoding ≡ Some coding → IsWave coding
au_coding-good encoding coding e = by_tests (nat_eq encoding 2) (nat_eq encoding 3) (nat_eq encoding 4)
    (nat_eq encoding 5) e
  where
    by_tests : (two three four five : Bool) → (if two then Some Wave7 else
        (if three then Some Wave15 else (if four then Some Wave24 else (if five then Some Wave31 else None)))) ≡ Some
        coding → IsWave coding
    by_tests true three four five is = subst IsWave (ap (λ c. unwrap_or c Wave7) is) tt
    by_tests false true four five is = subst IsWave (ap (λ c. unwrap_or c Wave15) is) tt
    by_tests false false true five is = subst IsWave (ap (λ c. unwrap_or c Wave24) is) tt
    by_tests false false false true is = subst IsWave (ap (λ c. unwrap_or c Wave31) is) tt
    by_tests false false false false is = absurd cc

module _ (fields : List ℕ) (header : OpenHeader) where
  abbrev IsGood : Type 0
  IsGood = IsOpenGood header × (24 ≤ header.start)

  abbrev read : Coding → OpenHeader
  read coding = record {
    rate = big_u32_at fields 16;
    start = big_u32_at fields 4;
    size =
        declared_size (big_u32_at fields 8);
    coding = coding;
    channels = big_u32_at fields 20;
  }

  by_channels : (coding : Coding) (b : Bool) → IsWave coding → 24 ≤ big_u32_at fields 4 →
      (nat_le 1 (big_u32_at fields 20) && nat_le (big_u32_at fields 20) 16) ≡ b
      → let fault : AuFault × ℕ = (Channels (big_u32_at fields 20), 20) in let all : Result OpenHeader (AuFault × ℕ) =
      if b then Ok (read coding) else Err fault in all ≡ Ok header → IsGood
  by_channels coding true wave start is e =
      let header_is : header ≡ read coding = sym (ap (λ r. result_unwrap_or r header) e) in
      rw header_is (
        record {
          wave = wave;
          some = grind (arith, common_steps, is);
          few = grind (arith, common_steps, is);
          size = declared-small (big_u32_at fields 8);
        },
        start,
      )
  by_channels coding false wave start is e = absurd cc

  by_coding : (known : Option Coding) → coding_of_encoding (big_u32_at fields 12) ≡ known → 24 ≤ big_u32_at fields 4
      → let all : Result OpenHeader (AuFault × ℕ) = elim known
      [ Some coding ↦ au_channels_said fields coding | None ↦ Err (Encoding (big_u32_at fields 12), 12) ] in
      all ≡ Ok header → IsGood
  by_coding (Some coding) is start e = by_channels coding _ (au_coding-good (big_u32_at fields 12) coding is) start
      refl e
  by_coding None is start e = absurd cc

  by_start : (b : Bool) → nat_lt (big_u32_at fields 4) 24 ≡ b
      → let fault : AuFault × ℕ = (Offset (big_u32_at fields 4), 4) in
      let said : Result OpenHeader (AuFault × ℕ) = elim (coding_of_encoding (big_u32_at fields 12))
      [ Some coding ↦ au_channels_said fields coding | None ↦ Err (Encoding (big_u32_at fields 12), 12) ] in
      let all : Result OpenHeader (AuFault × ℕ) = if b then Err fault else said in all ≡ Ok header → IsGood
  by_start true is e = absurd cc
  by_start false is e = by_coding _ refl (grind (arith, common_steps, is)) e

  pub au_said-good : au_said fields ≡ Ok header → IsOpenGood header × (24 ≤ header.start)
  au_said-good e = by_start (nat_lt (big_u32_at fields 4) 24) refl e

-- ---- what the fields say, test by test

module _ (fields : List ℕ) (coding : Coding) (enough : 24 ≤ big_u32_at fields 4)
    (is : coding_of_encoding (big_u32_at fields 12) ≡ Some coding) where
  by_coding_known : au_said fields ≡ au_channels_said fields coding
  by_coding_known =
      let test : nat_lt (big_u32_at fields 4) 24 ≡ false = grind (arith, common_steps, enough) in
      ap (λ (b : Bool). let fault : AuFault × ℕ = (Offset (big_u32_at fields 4), 4) in
      let said : Result OpenHeader (AuFault × ℕ) = elim (coding_of_encoding (big_u32_at fields 12))
      [ Some coding ↦ au_channels_said fields coding | None ↦ Err (Encoding (big_u32_at fields 12), 12) ] in
      let all : Result OpenHeader (AuFault × ℕ) = if b then Err fault else said in all) test
      ∙ ap (λ (known : Option Coding). let all : Result OpenHeader (AuFault × ℕ) =
      elim known [ Some coding ↦ au_channels_said fields coding | None ↦ Err (Encoding (big_u32_at fields 12), 12) ]
      in all) is

  by_channels_known : (b : Bool) → (nat_le 1 (big_u32_at fields 20) && nat_le (big_u32_at fields 20) 16) ≡ b
      → let fault : AuFault × ℕ = (Channels (big_u32_at fields 20), 20) in
      let all : Result OpenHeader (AuFault × ℕ) = if b then
      Ok (record {
        rate = big_u32_at fields 16;
        start = big_u32_at fields 4;
        size =
            declared_size (big_u32_at fields 8);
        coding = coding;
        channels = big_u32_at fields 20;
      }) else Err fault in
      au_said fields ≡ all
  by_channels_known b e =
      by_coding_known
      ∙ ap (λ (b : Bool). let fault : AuFault × ℕ = (Channels (big_u32_at fields 20), 20) in
      let all : Result OpenHeader (AuFault × ℕ) = if b then
      Ok (record {
        rate = big_u32_at fields 16;
        start = big_u32_at fields 4;
        size =
            declared_size (big_u32_at fields 8);
        coding = coding;
        channels = big_u32_at fields 20;
      }) else Err fault in
      all) e

  pub fields_good : (nat_le 1 (big_u32_at fields 20) && nat_le (big_u32_at fields 20) 16) ≡ true
      → au_said fields ≡ Ok (record {
        rate = big_u32_at fields 16;
        start = big_u32_at fields 4;
        size =
            declared_size (big_u32_at fields 8);
        coding = coding;
        channels = big_u32_at fields 20;
      })
  fields_good e = by_channels_known true e

  pub fields_bad : (nat_le 1 (big_u32_at fields 20) && nat_le (big_u32_at fields 20) 16) ≡ false →
      au_said fields ≡ Err (Channels (big_u32_at fields 20), 20)
  fields_bad e = by_channels_known false e
