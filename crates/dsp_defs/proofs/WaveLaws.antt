-- A written header is read back.
use Rattle.std.proofs.Common.{◌≡◌, ℕ, ◌+◌, ◌*◌, ◌^◌, ◌<◌, ◌≤◌, true, if◌then◌else◌, List, ◌∷◌, ◌++◌, length, drop}
use Rattle.std.proofs.Common.{drop-drop, codes, Option, Some, None, Ok, refl, sym, ap, ap₂, ◌∙◌, arith, inl, inr}
use Rattle.std.proofs.lemmas.Grind.{common_steps}
use Rattle.std.proofs.lemmas.Nat.{from_le_bytes-to_le_bytes_2, from_le_bytes-to_le_bytes_4}
use Rattle.std.specs.Int.{to_le_bytes, from_le_bytes}
use Rattle.std.specs.Option.{option_map}
use Rattle.dsp_defs.specs.Numbers.{w16, w32}
use Rattle.dsp_defs.specs.Bytes.{coding_of, width, word_bytes}
use Rattle.dsp_defs.specs.Wave.{Chunk, chunk_at, padded, chunks_behind, chunks, file_coding, format_size, has_id}
use Rattle.dsp_defs.specs.Wave.{sampling, unless, header_in, header_of, declared_size, data_bytes, header_of_width}
use Rattle.dsp_defs.specs.Wave.{header_size, wave_header, written_header, HeaderFits, WidthFits, u16_at, u32_at}
use Rattle.dsp_defs.specs.declared.format.Fmt.{Fmt}
use Rattle.dsp_defs.specs.declared.format.Fmt.TheVariants.{Q7, Q15, Q31}
use Rattle.dsp_defs.specs.declared.format.Container.{Container}
use Rattle.dsp_defs.specs.declared.format.Container.TheVariants.{Wave as Plain, Wavex}
use Rattle.dsp_defs.specs.declared.wave.Sampling.{Sampling}
use Rattle.dsp_defs.specs.declared.format.Coding.{Coding}
use Rattle.dsp_defs.specs.declared.wave.Header.{Header}
use Rattle.dsp_defs.specs.declared.wave.Wanted.{Wanted}
use Rattle.dsp_defs.proofs.CodingLemmas.{width-coding_of, word_bytes-small}
use Rattle.dsp_defs.proofs.WaveLemmas.{GoodFormat, found, good_format, chunks_behind-more}

data_fits : (container : Container) (width channels : ℕ) (frames : Option ℕ) →
    WidthFits container width channels frames → data_bytes width channels frames < 2 ^ 32
data_fits container width channels None h = omega arith
data_fits container width channels (Some frames) h = omega (arith, h)

size_is_read : (container : Container) (width channels : ℕ) (frames : Option ℕ) →
    WidthFits container width channels frames
    → declared_size (data_bytes width channels frames) ≡ option_map (λ n. data_bytes width channels (Some n)) frames
size_is_read container width channels None h = refl
size_is_read container width channels (Some frames) h = grind (arith, common_steps, h)

coding_is_read : (format : Fmt) → file_coding format (from_le_bytes w16 (to_le_bytes w16 (8 * word_bytes format))) ≡
    coding_of Plain format
coding_is_read Q7 = refl
coding_is_read Q15 = refl
coding_is_read Q31 = refl

-- the chunks of a file whose first chunk ends before a place
two_chunks : (place : ℕ) (bytes : List ℕ) → 12 + (8 + padded (u32_at (drop 12 bytes) 4)) ≡ place →
    8 ≤ length (drop 12 bytes) → 8 ≤ length (drop place bytes)
    → (more : List Chunk) × (chunks bytes ≡ chunk_at 12 (drop 12 bytes) ∷ chunk_at place (drop place bytes) ∷ more)
two_chunks place bytes is first second =
    let skipped = 8 + padded (u32_at (drop 12 bytes) 4) in
    let later = chunks_behind 0 (place + (8 + padded (u32_at (drop place bytes) 4)))
    (drop (8 + padded (u32_at (drop place bytes) 4)) (drop place bytes)) in
    let behind : drop skipped (drop 12 bytes) ≡ drop place bytes = drop-drop skipped 12 bytes ∙
    ap (λ k. drop k bytes) is in (
      later,
      chunks_behind-more 12 (drop 12 bytes) first
          ∙ ap (λ cs. chunk_at 12 (drop 12 bytes) ∷ cs) (ap₂ (chunks_behind 0) is behind ∙
          chunks_behind-more place (drop place bytes) second),
    )

-- the header of a file whose samples have so many bytes each, of a coding that is known by the format and the bits
module _ (format : Fmt) (coding : Coding) (bytes : ℕ)
    (is_read : file_coding format (from_le_bytes w16 (to_le_bytes w16 (8 * bytes))) ≡ coding)
    (bytes_are : width coding ≡ bytes) (little : bytes ≤ 4) (channels rate : ℕ) (frames : Option ℕ) (rest : List ℕ)
    (few : channels ≤ 16) (small : rate < 2 ^ 32) where
  abbrev file : Container → List ℕ
  file container = header_of_width container bytes channels rate frames ++ rest

  abbrev wanted : Wanted
  wanted = record { format = format; channels = channels }

  abbrev format_chunk : Container → Chunk
  format_chunk container = chunk_at 12 (drop 12 (file container))

  abbrev data_chunk : Container → Chunk
  data_chunk container = chunk_at (20 + format_size container) (drop (20 + format_size container) (file container))

  narrow : channels * bytes < 2 ^ 16
  narrow = grind (arith, little, few)

  read_channels : from_le_bytes w16 (to_le_bytes w16 channels) ≡ channels
  read_channels = from_le_bytes-to_le_bytes_2 channels (omega (arith, few))

  read_width : width (file_coding format (from_le_bytes w16 (to_le_bytes w16 (8 * bytes)))) ≡ bytes
  read_width = ap width is_read ∙ bytes_are

  read_bits : from_le_bytes w16 (to_le_bytes w16 (8 * bytes)) ≡ 8 * width
      (file_coding format (from_le_bytes w16 (to_le_bytes w16 (8 * bytes))))
  read_bits = from_le_bytes-to_le_bytes_2 (8 * bytes) (omega (arith, little)) ∙ ap (λ k. 8 * k) (sym read_width)

  read_own : from_le_bytes w16 (to_le_bytes w16 (8 * bytes)) ≡ 8 * bytes
  read_own = from_le_bytes-to_le_bytes_2 (8 * bytes) (omega (arith, little))

  read_align : from_le_bytes w16 (to_le_bytes w16 (channels * bytes)) ≡ channels * width
      (file_coding format (from_le_bytes w16 (to_le_bytes w16 (8 * bytes))))
  read_align = from_le_bytes-to_le_bytes_2 (channels * bytes) narrow ∙ ap (λ k. channels * k) (sym read_width)

  good : (container : Container) → GoodFormat wanted (format_chunk container)
  good Wavex = record {
    size = omega arith;
    body = omega arith;
    pcm = inr (record { tag = refl; size = omega arith; body = omega arith; subformat = refl });
    channels = read_channels;
    bits = read_bits;
    align = read_align;
  }
  good _ = record {
    size = omega arith;
    body = omega arith;
    pcm = inl refl;
    channels = read_channels;
    bits =
        read_bits;
    align = read_align;
  }

  read_sampling : (container : Container) → sampling wanted (format_chunk container) ≡ record
      { rate = rate; coding = coding }
  read_sampling Wavex = ap₂ {C = Sampling} (λ r coding. record { rate = r; coding = coding })
      (from_le_bytes-to_le_bytes_4 rate small) is_read
  read_sampling _ = ap₂ {C = Sampling} (λ r coding. record { rate = r; coding = coding })
      (from_le_bytes-to_le_bytes_4 rate small) is_read

  the_chunks : (container : Container) → (more : List Chunk) ×
      (chunks (file container) ≡ format_chunk container ∷ data_chunk container ∷ more)
  the_chunks Wavex = two_chunks 60 (file Wavex) refl (omega arith) (omega arith)
  the_chunks plain = two_chunks 36 (file plain) refl (omega arith) (omega arith)

  is_data : (container : Container) → has_id (codes "data") (data_chunk container) ≡ true
  is_data Wavex = refl
  is_data _ = refl

  size_said : (container : Container) → (data_chunk container).size ≡ from_le_bytes w32
      (to_le_bytes w32 (data_bytes bytes channels frames))
  size_said Wavex = refl
  size_said _ = refl

  -- what that header says
  abbrev said : Container → Header
  said container = record {
    rate = rate;
    start = header_size container;
    size =
        option_map (λ n. data_bytes bytes channels (Some n)) frames;
    coding = coding;
  }

  -- the `fmt ` chunk is the first
  pub first_format : (container : Container) → (more : List Chunk) ×
      (chunks (file container) ≡ format_chunk container ∷ more) ×
      (has_id (codes "fmt ") (format_chunk container) ≡ true)
      × (u16_at (format_chunk container).body 2 ≡ channels) × (u16_at (format_chunk container).body 14 ≡ 8 * bytes)
  first_format Wavex = let (more, e) = the_chunks Wavex in (_, e, refl, read_channels, read_own)
  first_format plain = let (more, e) = the_chunks plain in (_, e, refl, read_channels, read_own)

  pub header_of-header_of_width : (container : Container) → WidthFits container bytes channels frames →
      header_of (file container) wanted ≡ Ok (said container)
  header_of-header_of_width container fits =
      let (more, e) = the_chunks container in
      let total = length (file container) in
      let start : 20 + format_size container + 8 ≡ 28 + format_size container = omega arith in
      let read_size : declared_size (data_chunk container).size ≡ option_map (λ n. data_bytes bytes channels (Some n))
      frames =
      ap declared_size (size_said container ∙ from_le_bytes-to_le_bytes_4 (data_bytes bytes channels frames)
      (data_fits container bytes channels frames fits)) ∙ size_is_read container bytes channels frames fits in
      ap (header_in wanted total None) e
      ∙ ap (λ f. unless f (header_in wanted total (Some (sampling wanted (format_chunk container)))
      (data_chunk container ∷ more))) (good_format wanted total (format_chunk container) (good container))
      ∙ ap (λ b. if b then Ok (found (sampling wanted (format_chunk container)) (data_chunk container)) else
      header_in wanted total (Some (sampling wanted (format_chunk container))) more) (is_data container)
      ∙ ap₂ (λ (s : Sampling) (size : Option ℕ). Ok (record
      { rate = s.rate; start = 20 + format_size container + 8; size = size; coding = s.coding }))
      (read_sampling container) read_size
      ∙ ap (λ (k : ℕ). Ok (record {
        rate = rate;
        start = k;
        size =
            option_map (λ n. data_bytes bytes channels (Some n)) frames;
        coding = coding;
      })) start

pub header_of-wave_header : (format : Fmt) (channels rate : ℕ) (frames : Option ℕ) (rest : List ℕ) → channels ≤ 16 →
    rate < 2 ^ 32 → (container : Container) → HeaderFits container format channels frames
    → header_of (wave_header container format channels rate frames ++ rest)
    (record { format = format; channels = channels }) ≡ Ok (written_header container format channels rate frames)
header_of-wave_header format channels rate frames rest few small container fits =
    header_of-header_of_width format (coding_of Plain format) (word_bytes format) (coding_is_read format)
    (width-coding_of Plain format) (word_bytes-small format) channels rate frames rest few small container fits
