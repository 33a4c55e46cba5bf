-- The chunks before the first `fmt ` chunk: what their bytes say, for any format that is wanted, and what that chunk
-- wants.
use Rattle.std.proofs.Common.{◌≡◌, ℕ, ◌+◌, true, false, ◌&&◌, if◌then◌else◌, List, [], ◌++◌, length, take, drop}
use Rattle.std.proofs.Common.{codes, None, refl, sym, ap, ap₂, ◌∙◌, arith, length-append, append_assoc, subst, ◌≤◌}
use Rattle.std.proofs.Common.{Some}
use Rattle.std.proofs.lemmas.List.{drop_at}
use Rattle.std.specs.Str.{bytes_eq}
use Rattle.dsp_ports.specs.Ports.{SourceState}
use Rattle.dsp_defs.specs.Wave.{chunks_behind, padded, u32_at, header_of}
use Rattle.dsp_defs.specs.Open.{own_wanted, wanted_in, channels_in_limit, format_of_bits}
use Rattle.dsp_defs.specs.declared.wave.HeaderFault.TheVariants.{NoFormat}
use Rattle.dsp_defs.specs.declared.wave.Wanted.{Wanted}
use Rattle.dsp_wave.specs.Reading.{IsSaidFrom, Says, Stopped, said_from}
use Rattle.dsp_wave.specs.Taking.{Came, FormatFound, Missing, said_behind, RiffRead, IsEnough}
use Rattle.dsp_wave.specs.declared.reader.HeaderOr.{HeaderOr}
use Rattle.dsp_wave.specs.declared.reader.HeaderOr.TheVariants.{Fault}
use Rattle.dsp_defs.proofs.WaveLemmas.{u16_at-append}
use Rattle.dsp_defs.specs.declared.wave.Sampling.{Sampling}
use Rattle.dsp_wave.specs.declared.reader.FormatHead.{FormatHead}
use Rattle.dsp_wave.proofs.ReaderLaws as laws
use Rattle.dsp_wave.proofs.ChunkLaws as chunk_laws
use Rattle.dsp_wave.proofs.StartLaws as start_laws

-- ---- what a chunk wants

-- what the first 16 bytes want stays
same_wanted : (body rest : List ℕ) → 16 ≤ length body → own_wanted (body ++ rest) ≡ own_wanted body
same_wanted body rest long =
    ap₂ {C = Wanted} (λ (bits channels : ℕ). record {
      format = format_of_bits bits;
      channels =
          channels_in_limit channels;
    })
    (u16_at-append body rest 14 (omega (arith, long))) (u16_at-append body rest 2 (omega (arith, long)))

-- a chunk whose id and size came
module _ (place : ℕ) (head : List ℕ) (long : length head ≡ 8) where
  abbrev pub size : ℕ
  size = u32_at head 4

  wants_of : (more : List ℕ) → wanted_in (chunks_behind 0 place (head ++ more)) ≡
      (if bytes_eq (take 4 head) (codes "fmt ") then own_wanted (take size more) else
      wanted_in (chunks_behind 0 (place + (8 + padded size)) (drop (padded size) more)))
  wants_of more = ap wanted_in (chunk_laws.head_chunks record { format = format_of_bits 0; channels = 0 }
      place head long
      more)

  -- of a `fmt ` chunk
  pub wants_format : bytes_eq (take 4 head) (codes "fmt ") ≡ true → (body more : List ℕ) → IsEnough size body →
      wanted_in (chunks_behind 0 place (head ++ (body ++ more))) ≡ own_wanted body
  wants_format is body more enough =
      let (rest, e) = laws.longer_piece size body more enough.within in
      wants_of (body ++ more)
      ∙ ap (λ b. if b then own_wanted (take size (body ++ more)) else
      wanted_in (chunks_behind 0 (place + (8 + padded size)) (drop (padded size) (body ++ more)))) is
      ∙ ap own_wanted e
      ∙ same_wanted body rest enough.plain

  -- of another one
  wants_other : bytes_eq (take 4 head) (codes "fmt ") ≡ false → (body more : List ℕ) → length body ≡ padded size
      → wanted_in (chunks_behind 0 place (head ++ (body ++ more))) ≡ wanted_in
      (chunks_behind 0 (place + 8 + padded size) more)
  wants_other is body more whole =
      let at : place + (8 + padded size) ≡ place + 8 + padded size = omega arith in
      wants_of (body ++ more)
      ∙ ap (λ b. if b then own_wanted (take size (body ++ more)) else
      wanted_in (chunks_behind 0 (place + (8 + padded size)) (drop (padded size) (body ++ more)))) is
      ∙ ap₂ (λ p xs. wanted_in (chunks_behind 0 p xs)) at (drop_at body more (padded size) whole)

-- ---- chunk after chunk

-- all chunks before this place came, and none is of the format or of samples
pub record GoesOn (old now : SourceState) (place : ℕ) : Type 0 where
  pub bytes : List ℕ
  pub came : Came 12 (length bytes) old now bytes
  pub here : place ≡ 12 + length bytes
  pub said : (wanted : Wanted) (more : List ℕ) → said_from wanted 12 None (bytes ++ more) ≡ said_from wanted place
      None more
  pub wants : (more : List ℕ) → wanted_in (chunks_behind 0 12 (bytes ++ more)) ≡ wanted_in (chunks_behind 0 place more)

pub begins : (now : SourceState) → GoesOn now now 12
begins now = record {
  bytes = [];
  came = laws.nothing_came 12 now (omega arith);
  here = refl;
  said =
      λ wanted more. refl;
  wants = λ more. refl;
}

module _ (old mid between : SourceState) (place : ℕ) (goes : GoesOn old mid place) where
  -- a fault behind them is one of the whole
  module _ (says : Says) (by_any : IsSaidFrom 12 says) where
    is_behind : (more : List ℕ) → (wanted : Wanted) × (says (goes.bytes ++ more) ≡ said_from wanted place None more)
    is_behind more = let (wanted, is) = by_any (goes.bytes ++ more) in (wanted, is ∙ goes.said wanted more)

    sooner : (error : HeaderOr) → Stopped (λ more. says (goes.bytes ++ more)) place mid between error →
        Stopped says 12 old between error
    sooner error stopped =
        start_laws.stopped_sooner says (λ more. says (goes.bytes ++ more)) 12 (length goes.bytes) place
        goes.here old mid
        between goes.bytes goes.came (λ more. refl) error stopped

    -- an id and a size did not come
    pub head_missing : (error : HeaderOr) → Missing place 8 mid between error → Stopped says 12 old between error
    head_missing error missing =
        sooner error (laws.stops_missing (λ more. says (goes.bytes ++ more)) place mid between 8 error
        (λ bytes short. let (wanted, is) = is_behind bytes in is ∙ chunk_laws.needs_head wanted place None bytes short)
        missing)

    module _ (head : List ℕ) (long : length head ≡ 8) where
      -- samples before a format
      pub too_early : bytes_eq (take 4 head) (codes "data") ≡ true → Came place 8 mid between head →
          Stopped says 12 old between (Fault NoFormat place)
      too_early samples came =
          sooner (Fault NoFormat place) (laws.stops_sure (λ more. says (goes.bytes ++ more)) place mid between 8 head
          NoFormat place came
          (λ more. let (wanted, is) = is_behind (head ++ more) in is ∙
          chunk_laws.samples_too_early wanted place head long more samples))

      -- another chunk is cut
      pub chunk_missing : bytes_eq (take 4 head) (codes "data") ≡ false → bytes_eq (take 4 head) (codes "fmt ") ≡ false
          → (after : SourceState) → Came place 8 mid after head → (error : HeaderOr) →
          Missing (place + 8) (padded (u32_at head 4)) after between error
          → Stopped says 12 old between error
      chunk_missing no_samples no_format after came error missing =
          sooner error (laws.stops_later (λ more. says (goes.bytes ++ more)) place mid between 8
          (padded (u32_at head 4)) after head error
          (λ more short.
          let (wanted, is) = is_behind (head ++ more) in
          is ∙ chunk_laws.passes_short wanted place head long None None more
          (chunk_laws.other_passes wanted place head long None more no_samples (ap (λ b. true && b) no_format)) short)
          came missing)

  -- what came behind them
  module _ (now : SourceState) (count : ℕ) (piece : List ℕ) (came : Came place count mid now piece) where
    all_came : Came 12 (length (goes.bytes ++ piece)) old now (goes.bytes ++ piece)
    all_came =
        let sooner : Came (12 + length goes.bytes) count mid now piece =
        subst (λ p. Came p count mid now piece) goes.here came in
        let all = laws.both_came 12 (length goes.bytes) count old mid now goes.bytes piece goes.came sooner in
        subst (λ n. Came 12 n old now (goes.bytes ++ piece)) (sym all.long) all

    ends : place + count ≡ 12 + length (goes.bytes ++ piece)
    ends = omega (arith, goes.here, came.long, length-append goes.bytes piece)

  module _ (head : List ℕ) (long : length head ≡ 8) (first : Came place 8 mid between head) where
    -- another chunk came
    pub another : (now : SourceState) (body : List ℕ) → Came (place + 8) (padded (u32_at head 4)) between now body
        → bytes_eq (take 4 head) (codes "data") ≡ false → bytes_eq (take 4 head) (codes "fmt ") ≡ false →
        GoesOn old now (place + 8 + padded (u32_at head 4))
    another now body second no_samples no_format =
        let size = padded (u32_at head 4) in
        let whole = laws.both_came place 8 size mid between now head body first second in
        let regroup : (more : List ℕ) → (goes.bytes ++ (head ++ body)) ++ more ≡ goes.bytes ++
        (head ++ (body ++ more)) =
        λ more. append_assoc goes.bytes (head ++ body) more ∙
        ap (λ xs. goes.bytes ++ xs) (append_assoc head body more) in
        record {
          bytes = goes.bytes ++ (head ++ body);
          came = all_came now (8 + size) (head ++ body) whole;
          here = omega (arith, ends now (8 + size) (head ++ body) whole);
          said = λ wanted more.
              ap (said_from wanted 12 None) (regroup more)
              ∙ goes.said wanted (head ++ (body ++ more))
              ∙ chunk_laws.passes_whole wanted place head long None None body more second.long
              (chunk_laws.other_passes wanted place head long None (body ++ more) no_samples
              (ap (λ b. true && b) no_format));
          wants = λ more.
              ap (λ xs. wanted_in (chunks_behind 0 12 xs)) (regroup more)
              ∙ goes.wants (head ++ (body ++ more))
              ∙ wants_other place head long no_format body more second.long;
        }

    -- the id and the size of the format came
    pub found : bytes_eq (take 4 head) (codes "fmt ") ≡ true →
        FormatFound old between (record { head = head; offset = place })
    found is = record {
      bytes = goes.bytes ++ head;
      came = all_came between 8 head first;
      here = ends between 8 head first;
      head = record { long = long; id = is };
      said = λ wanted more. ap (said_from wanted 12 None) (append_assoc goes.bytes head more) ∙
          goes.said wanted (head ++ more);
      wants = λ more. ap (λ xs. wanted_in (chunks_behind 0 12 xs)) (append_assoc goes.bytes head more) ∙
          goes.wants (head ++ more);
    }

-- ---- up to the end of the first `fmt ` chunk

module _ (old mid between after : SourceState) (riff : RiffRead old mid) (first : FormatHead)
    (found : FormatFound mid between first)
    (body : List ℕ) (came : Came (first.offset + 8) (padded (u32_at first.head 4)) between after body) where
  abbrev pub front : List ℕ
  front = riff.bytes ++ (found.bytes ++ body)

  abbrev pub behind : ℕ
  behind = first.offset + 8 + padded (u32_at first.head 4)

  pub regroup : (more : List ℕ) → front ++ more ≡ riff.bytes ++ (found.bytes ++ (body ++ more))
  regroup more = append_assoc riff.bytes (found.bytes ++ body) more ∙
      ap (λ xs. riff.bytes ++ xs) (append_assoc found.bytes body more)

  pub front_came : Came 0 (length front) old after front
  front_came =
      let size = padded (u32_at first.head 4) in
      let second : Came (12 + length found.bytes) size between after body =
      subst (λ p. Came p size between after body) found.here came in
      let both = laws.both_came 12 (length found.bytes) size mid between after found.bytes body found.came second in
      let all = laws.both_came 0 12 (length found.bytes + size) old mid after riff.bytes (found.bytes ++ body)
      riff.came both in
      subst (λ n. Came 0 n old after front) (sym all.long) all

  pub front_ends : behind ≡ 0 + length front
  front_ends = omega (
    arith,
    found.here,
    came.long,
    riff.came.long,
    length-append riff.bytes (found.bytes ++ body),
    length-append found.bytes body,
  )

  -- what they say of a header of which this is wanted
  pub front_said : (wanted : Wanted) (known : Sampling)
      → ((more : List ℕ) → said_behind wanted first.offset first.head (body ++ more) ≡ said_from wanted behind
      (Some known) more)
      → (more : List ℕ) → header_of (front ++ more) wanted ≡ said_from wanted behind (Some known) more
  front_said wanted known says more =
      ap (λ xs. header_of xs wanted) (regroup more)
      ∙ riff.said wanted (found.bytes ++ (body ++ more))
      ∙ found.said wanted (body ++ more)
      ∙ says more

-- what the id and the size of the format and the bytes behind them say is what all say
pub stops_behind : (wanted : Wanted) (old mid now : SourceState) (riff : RiffRead old mid) (error : HeaderOr)
    → Stopped (said_from wanted 12 None) 12 mid now error → Stopped (λ bytes. header_of bytes wanted) 0 old now error
stops_behind wanted old mid now riff error stopped =
    start_laws.stopped_sooner (λ bytes. header_of bytes wanted) (said_from wanted 12 None) 0 12 12
    (omega arith) old mid now
    riff.bytes riff.came (riff.said wanted) error stopped
