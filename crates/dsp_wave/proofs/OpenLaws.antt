-- Reading a header of which nothing is wanted: what a file wants of itself is known with its first `fmt ` chunk.
use Rattle.std.proofs.Common.{◌≡◌, ℕ, ◌+◌, ◌-◌, true, List, ◌++◌, length, take, codes, Some, None, Result, Ok, sym}
use Rattle.std.proofs.Common.{ap, ◌∙◌, arith, length-append, append_assoc}
use Rattle.std.proofs.lemmas.List.{drop_at}
use Rattle.std.specs.Str.{bytes_eq}
use Rattle.std.specs.Result.{result_map_both}
use Rattle.dsp_ports.specs.Ports.{SourceState}
use Rattle.dsp_ports.proofs.Moved.{Gave-append}
use Rattle.dsp_defs.specs.Wave.{chunks_behind, format_fault, header_of, padded, sampling, u32_at}
use Rattle.dsp_defs.specs.Open.{opened, open_header_of, own_wanted, wanted_by, wanted_in}
use Rattle.dsp_defs.specs.declared.wave.Header.{Header}
use Rattle.dsp_defs.specs.declared.wave.HeaderFault.{HeaderFault}
use Rattle.dsp_defs.specs.declared.wave.Sampling.{Sampling}
use Rattle.dsp_defs.specs.declared.wave.Wanted.{Wanted}
use Rattle.dsp_defs.proofs.AuLaws.{open_header-good}
use Rattle.dsp_wave.specs.Reading.{Headed, Stopped, said_from}
use Rattle.dsp_wave.specs.Taking.{Came, FormatFound, IsEnough, RiffRead, format_chunk, said_behind}
use Rattle.dsp_wave.specs.Opening.{OpenHeaded, OwnRead, own_header_of, own_said_behind, own_said_from}
use Rattle.dsp_wave.specs.declared.reader.FormatHead.{FormatHead}
use Rattle.dsp_wave.proofs.ChunkLaws as chunk_laws
use Rattle.dsp_wave.proofs.StartLaws as start_laws
use Rattle.dsp_wave.proofs.FirstFormat.{front, front_came, front_ends, regroup, wants_format}
use Rattle.dsp_wave.specs.declared.reader.HeaderOr.{HeaderOr}

-- ---- the whole header

-- behind the first twelve bytes
own_said : (bytes more : List ℕ) → length bytes ≡ 12 →
    ((wanted : Wanted) → header_of (bytes ++ more) wanted ≡ said_from wanted 12 None more) →
    own_header_of (bytes ++ more) ≡ own_said_from 12 more
own_said bytes more twelve said =
    said (wanted_by (bytes ++ more)) ∙ ap (λ xs. said_from (wanted_in (chunks_behind 0 12 xs)) 12 None more)
    (drop_at bytes more 12 twelve)

pub own_stops : (old mid now : SourceState) (riff : RiffRead old mid) (error : HeaderOr) →
    Stopped (own_said_from 12) 12 mid now error → Stopped own_header_of 0 old now error
own_stops old mid now riff error stopped =
    start_laws.stopped_sooner own_header_of (own_said_from 12) 0 12 12 (omega arith) old mid now riff.bytes riff.came
    (λ more. own_said riff.bytes more riff.came.long (λ w. riff.said w more)) error stopped

-- up to the id and the size of the first `fmt ` chunk
pub own_behind : (bytes : List ℕ) (place : ℕ) (head more : List ℕ)
    → ((wanted : Wanted) → said_from wanted 12 None (bytes ++ more) ≡ said_behind wanted place head more)
    → wanted_in (chunks_behind 0 12 (bytes ++ more)) ≡ wanted_in (chunks_behind 0 place (head ++ more))
    → own_said_from 12 (bytes ++ more) ≡ own_said_behind place head more
own_behind bytes place head more said wants =
    said (wanted_in (chunks_behind 0 12 (bytes ++ more))) ∙ ap (λ w. said_from w place None (head ++ more)) wants

-- with its channels
module _ (old mid between after now : SourceState) (riff : RiffRead old mid) (first : FormatHead)
    (found : FormatFound mid between first)
    (wanted : Wanted) (known : Sampling) (read : OwnRead first.offset first.head between after wanted known) where
  abbrev all : List ℕ
  all = front old mid between after riff first found read.body read.came

  abbrev place : ℕ
  place = first.offset + 8 + padded (u32_at first.head 4)

  all_came : Came 0 (length all) old after all
  all_came = front_came old mid between after riff first found read.body read.came

  all_ends : place ≡ 0 + length all
  all_ends = front_ends old mid between after riff first found read.body read.came

  group : (more : List ℕ) → all ++ more ≡ riff.bytes ++ (found.bytes ++ (read.body ++ more))
  group = regroup old mid between after riff first found read.body read.came

  all_wants : (more : List ℕ) → wanted_by (all ++ more) ≡ wanted
  all_wants more =
      ap wanted_by (group more)
      ∙ ap (λ xs. wanted_in (chunks_behind 0 12 xs)) (drop_at riff.bytes (found.bytes ++ (read.body ++ more)) 12
      riff.came.long)
      ∙ found.wants (read.body ++ more)
      ∙ read.wants more

  all_said : (more : List ℕ) → own_header_of (all ++ more) ≡ said_from wanted place (Some known) more
  all_said more =
      ap own_header_of (group more)
      ∙ own_said riff.bytes (found.bytes ++ (read.body ++ more)) riff.came.long
      (λ w. riff.said w (found.bytes ++ (read.body ++ more)))
      ∙ own_behind found.bytes first.offset first.head (read.body ++ more) (λ w. found.said w (read.body ++ more))
      (found.wants (read.body ++ more))
      ∙ read.said more

  pub open_stopped : (error : HeaderOr) → Stopped (said_from wanted place (Some known)) place after now error →
      Stopped own_header_of 0 old now error
  open_stopped error stopped =
      start_laws.stopped_sooner own_header_of (said_from wanted place (Some known)) 0 (length all) place
      all_ends old after
      now all all_came all_said error stopped

  pub open_headed : (header : Header) → Headed (said_from wanted place (Some known)) place after now header →
      OpenHeaded old now (opened wanted header)
  open_headed header h =
      let bytes = all ++ h.bytes in
      let said : (more : List ℕ) → open_header_of (bytes ++ more) ≡ Ok (opened wanted header) = λ more.
      ap (λ (r : Result Header (HeaderFault × ℕ)). result_map_both (opened (wanted_by (bytes ++ more)))
      (λ fault. fault) r)
      (ap own_header_of (append_assoc all h.bytes more) ∙ all_said (h.bytes ++ more) ∙ h.said more)
      ∙ ap (λ (w : Wanted). Ok (opened w header)) (ap wanted_by (append_assoc all h.bytes more) ∙
      all_wants (h.bytes ++ more)) in
      record {
        bytes = bytes;
        gave = Gave-append old after now all h.bytes all_came.going all_came.gave h.gave;
        in_limit = omega (arith, length-append all h.bytes, all_ends, h.in_limit);
        said = said;
        heads = λ more. (open_header-good (bytes ++ more) (opened wanted header) (said more)).1;
        start = omega (arith, h.start, length-append all h.bytes, all_ends);
        no_fault = h.no_fault ∙ all_came.no_fault;
        going = h.going ∙ all_came.going;
      }

-- ---- the first `fmt ` chunk came, and what it wants is known

pub own_read : (place : ℕ) (head : List ℕ) (long : length head ≡ 8)
    (is : bytes_eq (take 4 head) (codes "fmt ") ≡ true) (body : List ℕ) (enough : IsEnough (u32_at head 4) body)
    (wanted : Wanted) → wanted ≡ own_wanted body
    → (good : format_fault wanted 0 (format_chunk place (u32_at head 4) body) ≡ None) (count : ℕ)
    (counted : length body ≡ count) (old mid now : SourceState) (rest : List ℕ)
    → Came (place + 8) count old mid body → Came (place + 8 + count) (padded (u32_at head 4) - count) mid now rest
    → OwnRead place head old now wanted (sampling wanted (format_chunk place (u32_at head 4) body))
own_read place head long is body enough wanted wanted_is good count counted old mid now rest first second =
    let came = chunk_laws.rest_all wanted place head long is body enough good count counted old mid now
    rest first second in
    let wants : (more : List ℕ) → wanted_in (chunks_behind 0 place (head ++ ((body ++ rest) ++ more))) ≡ wanted =
    λ more.
    ap (λ xs. wanted_in (chunks_behind 0 place (head ++ xs))) (append_assoc body rest more) ∙
    wants_format place head long is body (rest ++ more) enough ∙ sym wanted_is in
    record {
      body = body ++ rest;
      came = came;
      said = λ more. ap (λ w. said_from w place None (head ++ ((body ++ rest) ++ more))) (wants more) ∙
          chunk_laws.rest_said wanted place head long is body enough good count counted rest more came.long;
      wants = wants;
    }
