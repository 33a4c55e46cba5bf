-- What stays of a part of an input where more bytes stand behind it, and that what stops a stream over a part stands
-- in its way.
use Rattle.std.proofs.Common.{◌≡◌, ℕ, ◌+◌, ◌-◌, ◌*◌, ◌/◌, ◌<◌, ◌≤◌, min, false, nat_lt, if◌then◌else◌, List, []}
use Rattle.std.proofs.Common.{◌++◌, length, take, drop, replicate, Option, Some, None, IfSome, Ok, Err, refl, sym, ap}
use Rattle.std.proofs.Common.{◌∙◌, subst, arith, append-nil, append_assoc, length-append, inl, inr}
use Rattle.std.proofs.Math.Seq.{take-append-add}
use Rattle.std.proofs.lemmas.Bool.Decides.{nat_tests}
use Rattle.std.proofs.lemmas.List.{take_all, take_at, take-append-drop, drop-append-le, length-take, length-drop}
use Rattle.std.proofs.lemmas.List.{length-replicate}
use Rattle.std.proofs.lemmas.Nat.{mul-le}
use Rattle.std.specs.Io.KnownBytes.{IsAtEnd}
use Rattle.std.specs.Option.{option_map}
use Rattle.std.specs.Result.{IsOk}
use Rattle.dsp_ports.specs.Ports.{SourceState, SinkState, Rose}
use Rattle.dsp_defs.specs.Block.{Frame}
use Rattle.dsp_defs.specs.Bytes.{samples}
use Rattle.dsp_defs.specs.Counts.{Counts}
use Rattle.dsp_defs.specs.Output.{HasHeader, HeaderIsThere, wanted_of, declared_frames, input_header, input_signal}
use Rattle.dsp_defs.specs.Output.{live_bytes, output_header, output_pad, sample_bytes, whole_bytes}
use Rattle.dsp_defs.specs.Wave.{header_of}
use Rattle.dsp_defs.specs.declared.format.InputKind.{InputKind}
use Rattle.dsp_defs.specs.declared.format.InputKind.TheVariants as kind
use Rattle.dsp_defs.specs.declared.limits.TheConstants.{MAX_INPUT}
use Rattle.dsp_defs.specs.declared.script.Script.{Script}
use Rattle.dsp_defs.specs.declared.wave.Header.{Header}
use Rattle.dsp_defs.specs.declared.wave.HeaderFault.{HeaderFault}
use Rattle.dsp_defs.specs.declared.wave.HeaderFault.TheVariants.{Short}
use Rattle.dsp_defs.proofs.SampleLaws.{length-samples, samples-append}
use Rattle.dsp_defs.proofs.WaveLemmas.{header_of-append}
use Rattle.dsp_defs.proofs.OutputLaws.{input_header-append}
use Rattle.dsp_unit.proofs.CostLaws.{quotient_more}
use Rattle.dsp_input.specs.Taking.{frame_bytes, in_whole_frames}
use Rattle.dsp_session.specs.Resuming.{FirstStopped, RestStopped, IsFirstCause, IsRestCause, IsOfInput, CountsPartFault}
use Rattle.dsp_session.specs.Resuming.{first_output, later_frames}
use Rattle.dsp_session.specs.Session.{IsReady}
use Rattle.dsp_session.specs.SessionState.{SessionState}
use Rattle.dsp_session.specs.Stream.{IsCause, IsTakenWhole, frames_in_bytes, input_fault, short_fault, wave_fault}
use Rattle.dsp_session.specs.Stream.{HasFault}
use Rattle.dsp_session.specs.declared.fault.LengthFault.{LengthFault}
use Rattle.dsp_session.specs.declared.fault.LengthFault.TheVariants as length_fault
use Rattle.dsp_session.specs.declared.fault.PartFault.{PartFault}
use Rattle.dsp_session.specs.declared.fault.PartFault.TheVariants as part_fault
use Rattle.dsp_session.specs.declared.fault.StreamFault.TheVariants as fault
use Rattle.dsp_input.proofs.FaultLaws.{ok_header}
use Rattle.dsp_session.proofs.OpeningLaws.{some_frame}
use Rattle.dsp_cli.specs.Run.{IsStoppable, IsResumable}
use Rattle.dsp_cli.proofs.GatherLaws.{gathered_more}
use Rattle.dsp_input.proofs.InputLaws.{frame_in, frames_of_bytes, frames_stay, signal_stays}
use Rattle.dsp_input.proofs.InputLaws.{some_not_none, fault_told, quotient_is}
use Rattle.dsp_cli.proofs.ReportLaws.{rose}
use Rattle.dsp_cli.proofs.StopLaws.{fits_not_long, length_blocks}
use Rattle.dsp_cli.proofs.Told.{told_split}

floor_below : (n f : ℕ) → 0 < f → n / f * f ≤ n
floor_below n f some = grind arith

at_least : (k m f : ℕ) → 0 < f → k * f ≤ m → k ≤ m / f
at_least k m f some h = grind arith

-- ---- headers and frames

-- a header that is there stays
has_stays : (script : Script) (bytes more : List ℕ) → HasHeader script bytes → HasHeader script (bytes ++ more)
has_stays script bytes more has = by script.input.kind has
  where
    by : (k : InputKind) → HeaderIsThere k (wanted_of script) bytes → HeaderIsThere k (wanted_of script) (bytes ++ more)
    by (kind.Raw rate) there = tt
    by kind.Wave there =
        let (header, is) = ok_header (wanted_of script) bytes there in
        subst IsOk (sym (header_of-append bytes more (wanted_of script) header is)) refl

-- so many frames are there, where their bytes are and as many are declared
module _ (script : Script) (bytes : List ℕ) (some : 0 < frame_in script bytes) (at : ℕ) where
  enough : (input_header script bytes).start + at * frame_in script bytes ≤ length bytes
      → IfSome (declared_frames script (input_header script bytes)) (λ n. at ≤ n) → at ≤ frames_in_bytes script bytes
  enough reached declared =
      let header = input_header script bytes in
      let frame = frame_in script bytes in
      let behind = drop header.start bytes in
      let long : at * frame ≤ length behind = omega (arith, reached, length-drop header.start bytes) in
      subst (λ n. at ≤ n) (sym (frames_of_bytes script bytes))
      (at_least at (length (sample_bytes header bytes)) frame some (by header.size behind long declared))
    where
      by : (size : Option ℕ) (behind : List ℕ) → at * frame_in script bytes ≤ length behind →
          IfSome (option_map (λ n. n / frame_in script bytes) size) (λ n. at ≤ n)
          → at * frame_in script bytes ≤ length {A = ℕ} (elim size [ Some n ↦ take n behind | None ↦ behind ])
      by None behind long declared = long
      by (Some n) behind long declared =
          let floor = floor_below n (frame_in script bytes) some in
          let more = mul-le at (frame_in script bytes) (n / frame_in script bytes) (frame_in script bytes) declared
          (omega arith) in
          omega (arith, long, floor, more, length-take n behind)

  -- and no more than are declared
  no_more : (n : ℕ) → declared_frames script (input_header script bytes) ≡ Some n → frames_in_bytes script bytes ≤ n
  no_more n is = subst (λ k. k ≤ n) (sym (frames_of_bytes script bytes)) (by (input_header script bytes).size is)
    where
      by : (size : Option ℕ) → option_map (λ k. k / frame_in script bytes) size ≡ Some n
          → length {A = ℕ} (elim size [
            | Some k ↦ take k (drop (input_header script bytes).start bytes)
            | None ↦ drop
                (input_header script bytes).start bytes
          ]) / frame_in script bytes ≤ n
      by None none = absurd (cc none)
      by (Some k) same =
          let quotient : k / frame_in script bytes ≡ n = cc same in
          omega (
            arith,
            quotient,
            quotient_more (length (take k (drop (input_header script bytes).start bytes))) k (frame_in script bytes)
                (omega (arith, length-take k (drop (input_header script bytes).start bytes))),
          )

-- ---- what was written

module _ (script : Script) (given more : List ℕ) (has : HasHeader script given) (some : 0 < frame_in script given) where
  abbrev header : Header
  header = input_header script given

  abbrev frame : ℕ
  frame = frame_in script given

  abbrev behind : List ℕ
  behind = drop header.start given

  abbrev At : Option ℕ → List ℕ → List ℕ
  At size xs = elim size [ Some n ↦ take n xs | None ↦ xs ]

  -- the samples are those that were given, and others behind them
  pieces : (size : Option ℕ) (frames : ℕ) → length behind ≡ frames * frame → frames ≡ length (At size behind) / frame
      → (rest : List ℕ) × (At size (behind ++ more) ≡ behind ++ rest) × (At size behind ≡ behind)
  pieces None frames long count = (more, refl, refl)
  pieces (Some n) frames long count =
      let all = floor_below (length (take n behind)) frame some in
      let whole : frames * frame ≤ length (take n behind) =
      subst (λ k. k * frame ≤ length (take n behind)) (sym count) all in
      let low : length behind ≤ n = omega (arith, whole, long, length-take n behind) in
      let split : n ≡ length behind + (n - length behind) = omega (arith, low) in (
        take (n - length behind) more,
        ap (λ k. take k (behind ++ more)) split ∙
            take-append-add behind more (n - length behind),
        take_all n behind low,
      )

  -- the first frames stay, where exactly these were given
  first_signal : (frames : ℕ) → length given ≡ header.start + frames * frame → frames ≡ frames_in_bytes script given
      → take frames (input_signal script (given ++ more)) ≡ input_signal script given
  first_signal frames exact count =
      let long : length behind ≡ frames * frame = omega (arith, exact, length-drop header.start given) in
      let split : drop header.start (given ++ more) ≡ behind ++ more =
      drop-append-le header.start given more (omega (arith, exact)) in
      let (rest, later, here) = pieces header.size frames long (count ∙ frames_of_bytes script given) in
      let channels = script.input.channels in
      let signal = samples header.coding channels behind in
      let all : length signal ≡ frames = length-samples header.coding channels behind ∙
      quotient_is frames frame (length behind) some (omega (arith, long)) (omega (arith, long, some)) in
      ap (λ (h : Header). take frames (samples h.coding channels (sample_bytes h (given ++ more))))
      (input_header-append script given more has)
      ∙ ap (λ xs. take frames (samples header.coding channels (At header.size xs))) split
      ∙ ap (λ xs. take frames (samples header.coding channels xs)) later
      ∙ ap (take frames) (samples-append header.coding channels frames behind rest some long)
      ∙ take_at signal (samples header.coding channels rest) frames all
      ∙ ap (samples header.coding channels) (sym here)

  pub first_stays : (frames : ℕ) → length given ≡ header.start + frames * frame → frames ≡ frames_in_bytes script given
      → first_output script frames (given ++ more) ≡ first_output script frames given
  first_stays frames exact count =
      let same = input_header-append script given more has in
      let own : take frames (input_signal script given) ≡ input_signal script given =
      take_all frames (input_signal script given) (omega (arith, count)) in
      (λ i. output_header script (same i) ++ live_bytes script ((first_signal frames exact count ∙ sym own) i))

-- what follows the live bytes of a signal that goes on with the later frames
abbrev pub rest_output : Script → ℕ → List Frame → List ℕ → List ℕ
rest_output script at x bytes = whole_bytes script (x ++ later_frames script at bytes) ++ output_pad script
    (input_header script bytes)

pub rest_stays : (script : Script) (at : ℕ) (given more : List ℕ) → HasHeader script given →
    0 < frame_in script given → (now : SourceState) → now.left ≡ Some more
    → IsTakenWhole script given now → (x : List Frame) →
    rest_output script at x (given ++ more) ≡ rest_output script at x given
rest_stays script at given more has some now left whole x =
    let signal = signal_stays script given more has some now left whole in
    let same = input_header-append script given more has in
    (λ i. whole_bytes script (x ++ drop at (signal i)) ++ output_pad script (same i))

-- ---- what stands in the way

raw_fault : (script : Script) (bytes : List ℕ) (rate : ℕ) → script.input.kind ≡ kind.Raw rate →
    input_fault script bytes ≡ None
raw_fault script bytes rate is = ap (λ k. elim k [ kind.Raw rate ↦ None | kind.Wave ↦ wave_fault script bytes ]) is

-- what is missing of the declared samples, where so many are
abbrev Missing : Script → Header → ℕ → Option ℕ → Option (HeaderFault × ℕ)
Missing script header count size = elim size [
  | Some declared ↦ if nat_lt count (header.start + in_whole_frames script header.coding declared)
      then Some (Short declared (count - header.start), count) else None
  | None ↦ None
]

-- a header is no fault where its declared samples are all there
fault_of_good : (script : Script) (bytes : List ℕ) (header : Header) → script.input.kind ≡ kind.Wave →
    header_of bytes (wanted_of script) ≡ Ok header
    → ((declared : ℕ) → header.size ≡ Some declared → header.start + declared ≤ length bytes) →
    input_fault script bytes ≡ None
fault_of_good script bytes header wave is enough =
    ap (λ k. elim k [ kind.Raw rate ↦ None | kind.Wave ↦ wave_fault script bytes ]) wave
    ∙ ap (λ r. elim r [ Err fault ↦ Some fault | Ok header ↦ short_fault script header (length bytes) ]) is ∙
    by header.size enough
  where
    by : (size : Option ℕ) → ((declared : ℕ) → size ≡ Some declared → header.start + declared ≤ length bytes)
        → Missing script header (length bytes) size ≡ None
    by None within = refl
    by (Some declared) within =
        let less : in_whole_frames script header.coding declared ≤ declared =
        whole_below declared (frame_bytes script header.coding) in
        let test : nat_lt (length bytes) (header.start + in_whole_frames script header.coding declared) ≡ false =
        (let far = within declared refl in grind (arith, nat_tests, far, less)) in
        rw test refl
      where
        whole_below : (n f : ℕ) → n / f * f ≤ n
        whole_below n f = grind arith

-- with a header, bytes that go on far enough have no fault
no_fault_far : (script : Script) (bytes : List ℕ) → HasHeader script bytes → (fault : HeaderFault × ℕ) →
    ((more : List ℕ) → input_fault script (bytes ++ more) ≡ Some fault) → ⊥
no_fault_far script bytes has fault all = by script.input.kind refl
  where
    far : (header : Header) → header_of bytes (wanted_of script) ≡ Ok header → (size : Option ℕ) →
        header.size ≡ size → script.input.kind ≡ kind.Wave → ⊥
    far header is None none wave =
        let found : input_fault script (bytes ++ []) ≡ None =
        fault_of_good script (bytes ++ []) header wave (header_of-append bytes [] (wanted_of script) header is)
        (λ declared some. absurd (let clash : None ≡ Some declared = sym none ∙ some in cc)) in
        some_not_none (input_fault script (bytes ++ [])) fault (all []) found
    far header is (Some n) some wave =
        let pad = replicate (header.start + n) 0 in
        let found : input_fault script (bytes ++ pad) ≡ None =
        fault_of_good script (bytes ++ pad) header wave (header_of-append bytes pad (wanted_of script) header is)
        (λ declared same. (let equal : n ≡ declared = (let both : Some n ≡ Some declared = sym some ∙ same in cc) in
        omega (arith, equal, length-append bytes pad, length-replicate {A = ℕ} (header.start + n) 0))) in
        some_not_none (input_fault script (bytes ++ pad)) fault (all pad) found

    by : (k : InputKind) → script.input.kind ≡ k → ⊥
    by (kind.Raw rate) is =
        let none : input_fault script (bytes ++ []) ≡ None = raw_fault script (bytes ++ []) rate is in
        some_not_none (input_fault script (bytes ++ [])) fault (all []) none
    by kind.Wave is =
        let (header, good) = ok_header (wanted_of script) bytes
        (subst (λ k. HeaderIsThere k (wanted_of script) bytes) is has) in
        far header good header.size refl is

-- where no more bytes come, all were given
all_given : (given more : List ℕ) (now : SourceState) → now.left ≡ Some more → IsAtEnd now.left →
    given ++ more ≡ given
all_given given more now left end =
    let nothing : more ≡ [] = subst IsAtEnd left end in
    ap (λ xs. given ++ xs) nothing ∙ append-nil given

-- so many frames were declared, or came to the end of the input
abbrev Counted : Script → List ℕ → SourceState → ℕ → Option ℕ → Type 0
Counted script given now got declared = elim declared
    [ Some n ↦ got ≡ n | None ↦ (got ≡ frames_in_bytes script given) × IsAtEnd now.left ]

-- of the first frames, where no port has failed
module _ (script : Script) (block at : ℕ) (stop : PartFault) (ready : IsReady script block) (input now : SourceState)
    (sink after : SinkState) (before counts : Counts) where
  pub first_hinders : FirstStopped false script block at stop input now sink after before counts → (bytes : List ℕ) →
      input.left ≡ Some bytes → IsStoppable script at bytes → (Rose input.faults now.faults → ⊥) →
      (Rose sink.faults after.faults → ⊥) → ⊥
  first_hinders stopped bytes is_told free input_kept output_kept =
      by stop stopped.cause stopped.faults stopped.in_part stopped.missing
    where
      given : List ℕ
      given = stopped.given

      split : (more : List ℕ) × (now.left ≡ Some more) × (bytes ≡ given ++ more)
      split = told_split input.left now.left given bytes stopped.gave.front is_told

      more : List ℕ
      more = split.0

      here : IsStoppable script at (given ++ more)
      here = subst (IsStoppable script at) split.2 free

      some : 0 < frame_in script given
      some = some_frame script (input_header script given).coding block ready

      -- the header that was given says what all bytes say
      start_is : HasHeader script given → (input_header script given).start + at * frame_in script given ≤ min
          (length (given ++ more)) MAX_INPUT
      start_is has = subst (λ (h : Header). h.start + at * frame_bytes script h.coding ≤ min (length (given ++ more))
          MAX_INPUT) (input_header-append script given more has) here.reached

      declares : HasHeader script given → IfSome (declared_frames script (input_header script given)) (λ n. at ≤ n)
      declares has = subst (λ (h : Header). IfSome (declared_frames script h) (λ n. at ≤ n))
          (input_header-append script given more has) here.declared

      -- where no more bytes come, all frames are there
      ended : HasHeader script given → IsAtEnd now.left → at ≤ frames_in_bytes script given
      ended has end = enough script given some at
          (omega (arith, start_is has, ap length (all_given given more now split.1 end))) (declares has)

      has_all : HasHeader script (given ++ more)
      has_all = subst (HasHeader script) (take-append-drop MAX_INPUT (given ++ more))
          (has_stays script (take MAX_INPUT (given ++ more)) (drop MAX_INPUT (given ++ more)) here.good)

      not_behind : (got : ℕ) → HasHeader script given → got < at → (declared : Option ℕ) → IfSome declared (λ n. at ≤ n)
          → Counted script given now got declared → ⊥
      not_behind got has fewer None none (count, end) = omega (arith, fewer, count, ended has end)
      not_behind got has fewer (Some n) most same = omega (arith, fewer, most, same)

      at_fault : (fault : HeaderFault × ℕ) → HasFault script given now fault →
          (HasHeader script given → frames_in_bytes script given < at) → ⊥
      at_fault fault (inl all) missing =
          no_fault_far script (given ++ more) has_all fault
          (λ later. ap (input_fault script) (append_assoc given more later) ∙ all (more ++ later))
      at_fault fault (inr (end, found)) missing =
          let has = subst (HasHeader script) (all_given given more now split.1 end) has_all in
          omega (arith, missing has, ended has end)

      by : (stop : PartFault) → IsFirstCause stop script block at given now →
          CountsPartFault stop input now sink after → (HasHeader script given → frames_in_bytes script given ≤ at)
          → (IsOfInput stop → HasHeader script given → frames_in_bytes script given < at) → ⊥
      by (part_fault.Behind place got) (has, at_is, fewer, frames) faults few missing =
          not_behind got has fewer (declared_frames script (input_header script given)) (declares has) frames
      by (part_fault.Stream fault.Input) cause faults few missing = input_kept (rose _ _ faults.0)
      by (part_fault.Stream fault.Output) cause faults few missing = output_kept (rose _ _ faults.1)
      by (part_fault.Stream (fault.Header said offset)) cause faults few missing =
          at_fault (said, offset) cause (missing tt)
      by (part_fault.Stream (fault.Lengths (length_fault.Input taken limit))) (all, taken_is, limit_is, wants) faults
          few missing =
          let has : HasHeader script given = subst (HasHeader script) (take_at given more MAX_INPUT all) here.good in
          let reached = enough script given some at (omega (arith, start_is has, all)) (declares has) in
          omega (arith, missing tt has, reached)
      by (part_fault.Stream (fault.Lengths (length_fault.Gather held rest))) (has, full) faults few missing =
          let later = gathered_more script.blocks (frames_in_bytes script given) at (few has) in
          omega (arith, full.over, later, here.limits.not_full)
      by (part_fault.Stream (fault.Lengths (length_fault.Window end full))) none faults few missing = none
      by (part_fault.Stream (fault.Lengths (length_fault.Riff size limit))) (has, alone, long, limit_is) faults few
          missing = fits_not_long script given more size has long here.limits.fits

-- and of the rest
module _ (script : Script) (block : ℕ) (start : SessionState) (at : ℕ) (stop : PartFault)
    (ready : IsReady script block) (input now : SourceState) (sink after : SinkState) (before counts : Counts) where
  pub rest_hinders : RestStopped script block start at stop input now sink after before counts → (bytes : List ℕ) →
      input.left ≡ Some bytes → IsResumable script at bytes → (Rose input.faults now.faults → ⊥) →
      (Rose sink.faults after.faults → ⊥) → ⊥
  rest_hinders stopped bytes is_told free input_kept output_kept = by stop stopped.cause stopped.faults
    where
      given : List ℕ
      given = stopped.given

      split : (more : List ℕ) × (now.left ≡ Some more) × (bytes ≡ given ++ more)
      split = told_split input.left now.left given bytes stopped.gave.front is_told

      more : List ℕ
      more = split.0

      here : IsResumable script at (given ++ more)
      here = subst (IsResumable script at) split.2 free

      some : (xs : List ℕ) → 0 < frame_in script xs
      some xs = some_frame script (input_header script xs).coding block ready

      not_behind : (got : ℕ) → HasHeader script given → got < at → (declared : Option ℕ) →
          declared_frames script (input_header script given) ≡ declared
          → Counted script given now got declared → ⊥
      not_behind got has fewer None none (count, end) =
          let all = ap (frames_in_bytes script) (all_given given more now split.1 end) in
          omega (arith, fewer, count, all, here.reached)
      not_behind got has fewer (Some n) is same =
          let later : declared_frames script (input_header script (given ++ more)) ≡ Some n =
          ap (declared_frames script) (input_header-append script given more has) ∙ is in
          omega (arith, fewer, same, no_more script (given ++ more) (some (given ++ more)) at n later, here.reached)

      stopped_by : (length : LengthFault) → IsCause (fault.Lengths length) script block given now → ⊥
      stopped_by length cause = length_blocks script block given more now split.1 (some given) length cause
          here.good.1 here.no_window here.limits

      by : (stop : PartFault) → IsRestCause stop script block at given now →
          CountsPartFault stop input now sink after → ⊥
      by (part_fault.Behind place got) (has, at_is, fewer, frames) faults =
          not_behind got has fewer (declared_frames script (input_header script given)) refl frames
      by (part_fault.Stream fault.Input) cause faults = input_kept (rose _ _ faults.0)
      by (part_fault.Stream fault.Output) cause faults = output_kept (rose _ _ faults.1)
      by (part_fault.Stream (fault.Header said offset)) cause faults =
          some_not_none (input_fault script (given ++ more)) (said, offset)
          (fault_told script given more now (said, offset) split.1 cause) here.good.0
      by (part_fault.Stream (fault.Lengths (length_fault.Gather held rest))) (has, some_frames, full) faults =
          let later = gathered_more script.blocks (frames_in_bytes script given)
          (frames_in_bytes script (given ++ more)) (frames_stay script given more has) in
          omega (arith, full.over, later, here.limits.not_full)
      by (part_fault.Stream (fault.Lengths length)) cause faults = stopped_by length cause
