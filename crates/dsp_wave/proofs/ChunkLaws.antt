-- The chunks of a WAVE file, one after another.
use Rattle.std.proofs.Common.{◌≡◌, ℕ, ◌+◌, ◌-◌, ◌<◌, ◌≤◌, true, false, ◌&&◌, if◌then◌else◌, List, [], ◌∷◌, ◌++◌, length}
use Rattle.std.proofs.Common.{take, drop, codes, Option, Some, None, Err, refl, sym, ap, ap₂, ◌∙◌, arith, length-append}
use Rattle.std.proofs.Common.{append_assoc}
use Rattle.std.proofs.lemmas.Grind.{common_steps}
use Rattle.std.proofs.lemmas.List.{take-append-le, drop-drop, drop_all, drop_at, take_all}
use Rattle.std.specs.Int.{from_le_bytes}
use Rattle.dsp_defs.specs.Numbers.{w32}
use Rattle.std.specs.Option.{is_none}
use Rattle.std.specs.Str.{bytes_eq}
use Rattle.dsp_ports.specs.Ports.{SourceState}
use Rattle.dsp_defs.specs.Wave.{Chunk, extensible_tag, sampling, chunks_behind, padded, u16_at, u32_at, format_fault}
use Rattle.dsp_defs.specs.Wave.{unless, header_in}
use Rattle.dsp_defs.proofs.WaveLemmas.{same_sampling, chunks_behind-end, chunks_behind-more, piece-append}
use Rattle.dsp_defs.proofs.WaveLemmas.{u16_at-append}
use Rattle.dsp_defs.specs.declared.wave.Sampling.{Sampling}
use Rattle.dsp_defs.specs.declared.wave.Wanted.{Wanted}
use Rattle.dsp_defs.specs.declared.wave.HeaderFault.{HeaderFault}
use Rattle.dsp_defs.specs.declared.wave.HeaderFault.TheVariants.{NoFormat, FormatSize, NoSamples}
use Rattle.dsp_wave.specs.Reading.{said_from}
use Rattle.dsp_wave.specs.declared.reader.Next.TheVariants.{Other}
use Rattle.dsp_wave.specs.Taking.{Came, FormatRead, IsEnough, format_chunk, said_behind, Chunked}
use Rattle.dsp_wave.proofs.ReaderLaws.{both_came, bytes_eq-same, cut_extension, longer_piece, same_fault, tag}
use Rattle.dsp_wave.proofs.ReaderLaws.{take-no_longer}

-- ---- the end of the chunks

no_chunks : (wanted : Wanted) (total : ℕ) (known : Option Sampling) →
    header_in wanted total known [] ≡ Err (NoSamples, total)
no_chunks wanted total None = refl
no_chunks wanted total (Some known) = refl

pub needs_head : (wanted : Wanted) (place : ℕ) (known : Option Sampling) (bytes : List ℕ) → length bytes < 8 →
    said_from wanted place known bytes ≡ Err (NoSamples, place + length bytes)
needs_head wanted place known bytes short = ap (header_in wanted (place + length bytes) known)
    (chunks_behind-end place bytes short) ∙ no_chunks wanted (place + length bytes) known

-- ---- a chunk whose id and size came

module _ (wanted : Wanted) (place : ℕ) (head : List ℕ) (long : length head ≡ 8) where
  abbrev pub size : ℕ
  size = u32_at head 4

  abbrev pub chunk : List ℕ → Chunk
  chunk more = record { offset = place; id = take 4 head; size = size; body = take size more }

  -- where the bytes behind the head end
  total : (more : List ℕ) → place + length (head ++ more) ≡ place + 8 + length more
  total more = omega (arith, long, length-append head more)

  pub head_chunks : (more : List ℕ) → chunks_behind 0 place (head ++ more) ≡ chunk more ∷ chunks_behind 0
      (place + (8 + padded size)) (drop (padded size) more)
  head_chunks more =
      let id : take 4 (head ++ more) ≡ take 4 head = take-append-le 4 head more (omega (arith, long)) in
      let same : u32_at (head ++ more) 4 ≡ size = ap (from_le_bytes w32)
      (piece-append 4 4 head more (omega (arith, long))) in
      let behind : drop 8 (head ++ more) ≡ more = drop_at head more 8 long in
      let rest : drop (8 + padded size) (head ++ more) ≡ drop (padded size) more =
      sym (drop-drop (padded size) 8 (head ++ more)) ∙ ap (drop (padded size)) behind in
      chunks_behind-more place (head ++ more) (omega (arith, long, length-append head more))
      ∙ rw (same, id, behind, rest) refl

  module _ (known later : Option Sampling) (more : List ℕ)
      (pass : (total : ℕ) (cs : List Chunk) → header_in wanted total known (chunk more ∷ cs) ≡ header_in wanted total
      later cs) where
    passes : said_from wanted place known (head ++ more) ≡ header_in wanted (place + length (head ++ more)) later
        (chunks_behind 0 (place + (8 + padded size)) (drop (padded size) more))
    passes = ap (header_in wanted (place + length (head ++ more)) known) (head_chunks more) ∙
        pass (place + length (head ++ more)) (chunks_behind 0 (place + (8 + padded size)) (drop (padded size) more))

    pub passes_short : length more < padded size → said_from wanted place known (head ++ more) ≡ Err
        (NoSamples, place + length (head ++ more))
    passes_short short =
        passes
        ∙ ap (λ xs. header_in wanted (place + length (head ++ more)) later
        (chunks_behind 0 (place + (8 + padded size)) xs)) (drop_all (padded size) more (omega (arith, short)))
        ∙ no_chunks wanted (place + length (head ++ more)) later

  pub passes_whole : (known later : Option Sampling) (body more : List ℕ) → length body ≡ padded size →
      ((total : ℕ) (cs : List Chunk) → header_in wanted total known (chunk (body ++ more) ∷ cs) ≡ header_in wanted total
      later cs)
      → said_from wanted place known (head ++ (body ++ more)) ≡ said_from wanted (place + 8 + padded size) later more
  passes_whole known later body more whole pass =
      let all : place + length (head ++ (body ++ more)) ≡ place + 8 + padded size + length more =
      omega (arith, long, whole, length-append head (body ++ more), length-append body more) in
      let behind : drop (padded size) (body ++ more) ≡ more = drop_at body more (padded size) whole in
      let at : place + (8 + padded size) ≡ place + 8 + padded size = omega arith in
      passes known later (body ++ more) pass
      ∙ rw (all, behind, at) refl

  pub samples_too_early : (more : List ℕ) → bytes_eq (take 4 head) (codes "data") ≡ true →
      said_from wanted place None (head ++ more) ≡ Err (NoFormat, place)
  samples_too_early more is = ap (header_in wanted (place + length (head ++ more)) None) (head_chunks more) ∙
      grind (arith, common_steps, is)

  -- another chunk
  pub other_passes : (known : Option Sampling) (more : List ℕ) → bytes_eq (take 4 head) (codes "data") ≡ false →
      (is_none known && bytes_eq (take 4 head) (codes "fmt ")) ≡ false → (total : ℕ) (cs : List Chunk) →
      header_in wanted total known (chunk more ∷ cs) ≡ header_in wanted total known cs
  other_passes None more no_samples format total cs = grind (arith, common_steps, no_samples, format)
  other_passes (Some known) more no_samples format total cs = grind (arith, common_steps, no_samples)

  -- ---- the first `fmt ` chunk

  module _ (format : bytes_eq (take 4 head) (codes "fmt ") ≡ true) where
    no_samples : bytes_eq (take 4 head) (codes "data") ≡ false
    no_samples = ap (λ id. bytes_eq id (codes "data")) (bytes_eq-same (take 4 head) (codes "fmt ") format)

    format_said : (total : ℕ) (more : List ℕ) (cs : List Chunk) →
        header_in wanted total None (chunk more ∷ cs) ≡ unless (format_fault wanted total (chunk more))
        (header_in wanted total (Some (sampling wanted (chunk more))) cs)
    format_said total more cs =
        ap (λ b. if b then Err (NoFormat, place) else
        (if bytes_eq (take 4 head) (codes "fmt ") then unless (format_fault wanted total (chunk more))
        (header_in wanted total (Some (sampling wanted (chunk more))) cs) else header_in wanted total None cs))
        no_samples
        ∙ ap (λ b. if b then unless (format_fault wanted total (chunk more))
        (header_in wanted total (Some (sampling wanted (chunk more))) cs) else header_in wanted total None cs)
        format

    format_ends : (more : List ℕ) (fault : HeaderFault) (offset : ℕ) →
        format_fault wanted (place + length (head ++ more)) (chunk more) ≡ Some (fault, offset) →
        said_behind wanted place head more ≡ Err (fault, offset)
    format_ends more fault offset is =
        let end = place + length (head ++ more) in
        let cs = chunks_behind 0 (place + (8 + padded size)) (drop (padded size) more) in
        ap (header_in wanted end None) (head_chunks more)
        ∙ format_said end more cs
        ∙ ap (λ f. unless f (header_in wanted end (Some (sampling wanted (chunk more))) cs)) is

    -- more bytes are missing
    format_cut : (more : List ℕ) → format_fault wanted (place + length (head ++ more)) (chunk more) ≡ Some
        (NoSamples, place + length (head ++ more)) → said_behind wanted place head more ≡ Err
        (NoSamples, place + 8 + length more)
    format_cut more is = format_ends more NoSamples (place + length (head ++ more)) is ∙
        ap (λ (end : ℕ). Err (NoSamples, end)) (total more)

    pub format_too_small : (more : List ℕ) → size < 16 →
        said_behind wanted place head more ≡ Err (FormatSize size, place + 4)
    format_too_small more small = format_ends more (FormatSize size) (place + 4) (grind (arith, common_steps, small))

    pub format_short : 16 ≤ size → (more : List ℕ) → length more < 16 →
        said_behind wanted place head more ≡ Err (NoSamples, place + 8 + length more)
    format_short enough more short =
        let all : length (take size more) < 16 = omega (arith, short, take-no_longer size more) in
        format_cut more (grind (arith, common_steps, enough, all))

    pub extension_short : (front : List ℕ) → length front ≡ 16 → 40 ≤ size → u16_at front 0 ≡ extensible_tag →
        (more : List ℕ) → length more < 24 → said_behind wanted place head (front ++ more) ≡ Err
        (NoSamples, place + 8 + length (front ++ more))
    extension_short front sixteen enough tag more short =
        let many : length (front ++ more) ≡ 16 + length more = omega (arith, sixteen, length-append front more) in
        let all : take size (front ++ more) ≡ front ++ more =
        take_all size (front ++ more) (omega (arith, many, short, enough)) in
        let same : u16_at (front ++ more) 0 ≡ extensible_tag = u16_at-append front more 0 (omega (arith, sixteen)) ∙
        tag in
        format_cut (front ++ more) (rw all (cut_extension wanted _
        (record { offset = place; id = take 4 head; size = size; body = front ++ more }) enough
        (omega (arith, many)) (omega (arith, many, short)) same))

    module _ (body : List ℕ) (enough : IsEnough size body) where
      judged : (more : List ℕ) (total : ℕ) → format_fault wanted total (chunk (body ++ more)) ≡ format_fault wanted 0
          (format_chunk place size body)
      judged more total = let (rest, e) = longer_piece size body more enough.within in
          ap (λ b. format_fault wanted total (record { offset = place; id = take 4 head; size = size; body = b })) e ∙
          same_fault wanted place size body rest enough total

      said : (more : List ℕ) → sampling wanted (chunk (body ++ more)) ≡ sampling wanted (format_chunk place size body)
      said more = let (rest, e) = longer_piece size body more enough.within in
          ap (λ b. sampling wanted (record { offset = place; id = take 4 head; size = size; body = b })) e ∙
          same_sampling wanted (format_chunk place size body) rest enough.plain

      pub faulty_ends : (fault : HeaderFault) (offset : ℕ) →
          format_fault wanted 0 (format_chunk place size body) ≡ Some (fault, offset) → (more : List ℕ) →
          said_behind wanted place head (body ++ more) ≡ Err (fault, offset)
      faulty_ends fault offset is more = format_ends (body ++ more) fault offset (judged more _ ∙ is)

      -- what came of it is good
      module _ (good : format_fault wanted 0 (format_chunk place size body) ≡ None) where
        good_passes : (more : List ℕ) (total : ℕ) (cs : List Chunk) →
            header_in wanted total None (chunk (body ++ more) ∷ cs) ≡ header_in wanted total
            (Some (sampling wanted (format_chunk place size body))) cs
        good_passes more total cs =
            format_said total (body ++ more) cs
            ∙ ap₂ (λ f s. unless f (header_in wanted total (Some s) cs)) (judged more total ∙ good) (said more)

        module _ (count : ℕ) (counted : length body ≡ count) where
          pub rest_short : (more : List ℕ) → length more < padded size - count →
              said_behind wanted place head (body ++ more) ≡ Err (NoSamples, place + 8 + length (body ++ more))
          rest_short more short =
              passes_short None (Some (sampling wanted (format_chunk place size body))) (body ++ more)
              (good_passes more) (omega (arith, short, counted, length-append body more))
              ∙ ap (λ (end : ℕ). Err (NoSamples, end)) (total (body ++ more))

          pub rest_all : (old mid now : SourceState) (rest : List ℕ) → Came (place + 8) count old mid body →
              Came (place + 8 + count) (padded size - count) mid now rest →
              Came (place + 8) (padded size) old now (body ++ rest)
          rest_all old mid now rest first second =
              let within : count ≤ size = omega (arith, counted, enough.within) in
              let all : count + (padded size - count) ≡ padded size = omega (arith, within) in
              rw all at (both_came (place + 8) count (padded size - count) old mid now body rest first second)

          pub rest_said : (rest more : List ℕ) → length (body ++ rest) ≡ padded size
              → said_behind wanted place head ((body ++ rest) ++ more) ≡ said_from wanted (place + 8 + padded size)
              (Some (sampling wanted (format_chunk place size body))) more
          rest_said rest more whole =
              passes_whole None (Some (sampling wanted (format_chunk place size body))) (body ++ rest) more whole
              (λ total cs. ap (λ b. header_in wanted total None (chunk b ∷ cs)) (append_assoc body rest more) ∙
              good_passes (rest ++ more) total cs)

          pub rest_came : (old mid now : SourceState) (rest : List ℕ) → Came (place + 8) count old mid body →
              Came (place + 8 + count) (padded size - count) mid now rest
              → FormatRead wanted place head old now (sampling wanted (format_chunk place size body))
          rest_came old mid now rest first second =
              let came = rest_all old mid now rest first second in
              record { body = body ++ rest; came = came; said = λ more. rest_said rest more came.long }

-- the whole of a chunk behind the format came, and what is behind it goes on
pub chunk_came : (place : ℕ) (known : Sampling) (head : List ℕ) → length head ≡ 8 →
    bytes_eq (take 4 head) (codes "data") ≡ false
    → (old mid now : SourceState) (body : List ℕ) → Came place 8 old mid head →
    Came (place + 8) (padded (u32_at head 4)) mid now body
    → Chunked place known old now (Other (place + 8 + padded (u32_at head 4)))
chunk_came place known head long other old mid now body first second =
    let all = both_came place 8 (padded (u32_at head 4)) old mid now head body first second in
    let whole : length (head ++ body) ≡ 8 + padded (u32_at head 4) = all.long in (
      head ++ body,
      rw (sym whole) at all,
      omega (arith, whole),
      omega (arith, whole),
      λ wanted more.
          ap (said_from wanted place (Some known)) (append_assoc head body more)
          ∙ passes_whole wanted place head long (Some known) (Some known) body more second.long
          (other_passes wanted place head long (Some known) (body ++ more) other refl),
    )
