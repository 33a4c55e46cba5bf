-- Where a stream stops before the first sample.
use Rattle.std.proofs.Common.{◌≡◌, ◌≢◌, ℕ, ◌*◌, ◌/◌, ◌<◌, ◌≤◌, Bool, List, [], ◌++◌, length, take, drop}
use Rattle.std.proofs.Common.{Option, Some, None, refl, sym, ap, ◌∙◌, subst, arith, append-nil}
use Rattle.std.proofs.Common.{append_assoc, length-append, length-take-le, inl}
use Rattle.std.proofs.lemmas.List.{take-append-drop}
use Rattle.dsp_ports.specs.Ports.{append_put}
use Rattle.dsp_ports.specs.Ports.{SourceState, SinkState, one_more, Gave, Took, settled_after}
use Rattle.dsp_ports.proofs.Moved.{Took-nil}
use Rattle.dsp_defs.specs.Counts.{Counts}
use Rattle.dsp_defs.specs.Output.{HasHeader, input_header, output_header, output_pad, live_bytes}
use Rattle.dsp_defs.specs.Output.{known_frames, format_of, channels_of, part}
use Rattle.dsp_defs.specs.Wave.{pad}
use Rattle.dsp_defs.specs.declared.format.Coding.{Coding}
use Rattle.dsp_defs.specs.declared.format.Container.TheVariants as container
use Rattle.dsp_defs.specs.declared.script.Script.{Script}
use Rattle.dsp_defs.specs.declared.wave.Header.{Header}
use Rattle.dsp_defs.specs.declared.wave.HeaderFault.TheVariants.{NoSamples}
use Rattle.dsp_shape.proofs.Paces.{legal_parts}
use Rattle.dsp_defs.specs.Shape.{gathered}
use Rattle.dsp_defs.specs.declared.limits.TheConstants.{MAX_GATHERED, MAX_INPUT, MAX_RIFF_SIZE}
use Rattle.dsp_chain.proofs.NewChain.{gathered-nothing}
use Rattle.dsp_input.specs.declared.fault.InputFault.{InputFault}
use Rattle.dsp_input.specs.declared.fault.InputFault.TheVariants as input_fault
use Rattle.dsp_input.specs.Taking.{Fits, InDeclared, IsInputCause, IsTooLong, IsUnopened, Opened}
use Rattle.dsp_input.specs.Taking.{Unopened, WantsMore, declared_bytes, frames_in_bytes, in_whole_frames}
use Rattle.dsp_session.specs.declared.fault.LengthFault.TheVariants as length_fault
use Rattle.dsp_session.specs.declared.fault.StreamFault.{StreamFault}
use Rattle.dsp_session.specs.declared.fault.StreamFault.TheVariants as fault
use Rattle.dsp_session.specs.SessionState.{SessionState}
use Rattle.dsp_session.specs.Session.{IsReady, block_bytes, signal}
use Rattle.dsp_session.specs.Opening.{Untaken, NoHeader, LongOutput, of_input}
use Rattle.dsp_session.specs.Stream.{IsUnflushed, IsCause, HasWritten, CountsFault, Stopped, StaysRefused, Nothing}
use Rattle.dsp_session.specs.Stream.{KeepsLimits, LagsByOne, IsInDeclared, in_whole_blocks}
use Rattle.dsp_input.proofs.FaultLaws.{fault_by_header, header_fault, no_header}
pub use Rattle.dsp_input.proofs.CauseLaws.{fits_known, known_fits, none_behind, unopened_none}
use Rattle.dsp_input.proofs.CauseLaws.{unopened_by}
use Rattle.dsp_input.proofs.Places.{headed_choice}
use Rattle.dsp_session.proofs.OpeningLaws.{some_frame, part_blocks, frames_are, signal-nil}
use Rattle.std.proofs.Math.Nat.{mul-le-mul}

pub some_block : (script : Script) (coding : Coding) (block : ℕ) → IsReady script block →
    0 < block_bytes script coding block
some_block script coding block ready = mul-le-mul (legal_parts script.input.channels script.blocks block
    ready.legal).some (some_frame script coding block ready)

-- what stands behind the samples of an output with a header
pub pad_bytes : (script : Script) (header : Header) → script.output ≢ container.Raw →
    output_pad script header ≡ pad (format_of script) (channels_of script) (known_frames script header)
pad_bytes script header headed = headed_choice script.output [] _ headed

-- a sink that took these bytes and was not flushed
pub unflushed_by : (fault : StreamFault) (sink after : SinkState) (written : List ℕ) →
    after.settled ≡ settled_after sink.settled (length written) → IsUnflushed fault sink after written
unflushed_by fault.Output sink after written same = tt
unflushed_by fault.Input sink after written same = same
unflushed_by (fault.Header f offset) sink after written same = same
unflushed_by (fault.Lengths length) sink after written same = same

-- nothing was written before the header of the input was there
module _ (banked : Bool) (script : Script) (block : ℕ) (counts : Counts) (input now : SourceState) (sink : SinkState)
  where
    unwritten : (fault : StreamFault) (given : List ℕ) → Gave input now given → length given ≤ MAX_INPUT →
        (HasHeader script given → ⊥) → IsCause fault script block given now →
        HasWritten fault script block given [] now sink sink counts counts → CountsFault fault input now sink sink
        → Stopped banked script block fault input now sink sink counts counts
    unwritten fault given gave limit none cause wrote faults =
        record {
          given = given;
          written = [];
          gave = gave;
          in_limit = limit;
          put = (Took-nil sink).put;
          unflushed = unflushed_by fault sink sink [] refl;
          cause = cause;
          wrote = wrote;
          faults = faults;
          in_declared = λ has. absurd (none has);
          lag = λ has. absurd (none has);
          cost = omega arith;
          turns = omega arith;
        }

    by_cause : (error : InputFault) (given : List ℕ) → Gave input now given → length given ≤ MAX_INPUT →
        IsUnopened error script given input now → Stopped banked script block (of_input error) input now
        sink sink counts
        counts
    by_cause input_fault.Failed given gave within cause =
        unwritten fault.Input given gave within cause.2 (cause.1, λ has. absurd (cause.2 has)) (Nothing cause.2 refl)
        (cause.0, refl)
    by_cause (input_fault.Header f offset) given gave within cause =
        let none = no_header script f offset given now cause.0 cause.1 in
        unwritten (fault.Header f offset) given gave within none
        (header_fault script f offset given now cause.0 cause.1) (Nothing none refl) (cause.2, refl)
    by_cause (input_fault.Limit taken limit) given gave within cause =
        let unheaded = cause.3 in
        let more : WantsMore script given = record {
          cut =
              λ _. fault_by_header script given NoSamples (length given) unheaded.wave unheaded.cut;
          declared =
              λ has. absurd (unheaded.none has);
        } in
        unwritten (fault.Lengths (length_fault.Input taken limit)) given gave within unheaded.none
        (cause.0, cause.1, cause.2, more) (Nothing unheaded.none refl) (cause.4, refl)

    stops_unopened : (error : InputFault) → Unopened script error input now →
        Stopped banked script block (of_input error) input now sink sink counts counts
    stops_unopened error u = by_cause error u.given u.gave u.in_limit u.cause

-- a fault of the input is that of a stream
pub input_cause : (error : InputFault) (script : Script) (block : ℕ) (given : List ℕ) (now : SourceState) →
    IsInputCause error script given now → IsCause (of_input error) script block given now
input_cause input_fault.Failed script block given now cause = cause
input_cause (input_fault.Header f offset) script block given now cause = cause
input_cause (input_fault.Limit taken limit) script block given now cause = cause

pub unopened_cause : (error : InputFault) (script : Script) (block : ℕ) (given : List ℕ) (input now : SourceState) →
    IsUnopened error script given input now → IsCause (of_input error) script block given now
unopened_cause error script block given input now unopened =
    input_cause error script block given now (unopened_by error script given input now unopened)

-- none of these faults is that of a full correlation
pub input_stays : (error : InputFault) (s : SessionState) → StaysRefused (of_input error) s
input_stays input_fault.Failed s = tt
input_stays (input_fault.Header said offset) s = tt
input_stays (input_fault.Limit taken limit) s = tt

none_whole : (block : ℕ) → in_whole_blocks block 0 ≡ 0
none_whole block =
    let none : 0 / block ≡ 0 = omega arith in
    let nothing : 0 * block ≡ 0 = omega arith in
    ap (λ q. q * block) none ∙ nothing

pub unopened_faults : (error : InputFault) (script : Script) (given : List ℕ) (input now : SourceState)
    (sink : SinkState) → IsUnopened error script given input now → CountsFault (of_input error) input now sink sink
unopened_faults input_fault.Failed script given input now sink cause = (cause.0, refl)
unopened_faults (input_fault.Header f offset) script given input now sink cause = (cause.2, refl)
unopened_faults (input_fault.Limit taken limit) script given input now sink cause = (cause.4, refl)

-- the header of the input is there, and no sample was taken
module _ (script : Script) (block : ℕ) (counts : Counts) (ready : IsReady script block) (header : Header)
    (input now : SourceState) (sink : SinkState) (opened : Opened script header input now) where
  abbrev first : List ℕ
  first = opened.first

  header_is : input_header script first ≡ header
  header_is = ap (input_header script) (sym (append-nil first)) ∙ opened.opens.said []

  pub has : HasHeader script first
  has = subst (HasHeader script) (append-nil first) (opened.opens.has [])

  pub lags_none : (written : List ℕ) → LagsByOne script block first written
  lags_none written =
      let start : (input_header script first).start ≡ length first = ap (λ (h : Header). h.start) header_is ∙
      opened.opens.start in
      record { blocks = 0; taken = omega (arith, start); wrote = inl refl; one = omega (arith, start) }

  pub none_declared : InDeclared (declared_bytes script header) 0
  none_declared = by_size header.size
    where
      by_size : (size : Option ℕ) → InDeclared (elim size
          [ Some s ↦ Some (in_whole_frames script header.coding s) | None ↦ None ]) 0
      by_size None = tt
      by_size (Some size) = omega arith

  stops_first : (banked : Bool) (fault : StreamFault) (after : SinkState) (written : List ℕ) →
      after.put ≡ append_put sink.put written → IsUnflushed fault sink after written →
      IsCause fault script block first now → HasWritten fault script block first written now sink after counts counts →
      CountsFault fault input now sink after
      → Stopped banked script block fault input now sink after counts counts
  stops_first banked fault after written put unflushed cause wrote faults =
      record {
        given = first;
        written = written;
        gave = opened.gave;
        in_limit = opened.opens.in_limit;
        put = put;
        unflushed = unflushed;
        cause = cause;
        wrote = wrote;
        faults = faults;
        in_declared = λ _. subst (IsInDeclared script) (append-nil first)
            (none_behind script header first opened.opens [] none_declared);
        lag = λ _. lags_none written;
        cost = omega arith;
        turns = omega arith;
      }

  pub long_cause : (size : ℕ) → IsTooLong script (known_frames script header) size →
      IsCause (fault.Lengths (length_fault.Riff size MAX_RIFF_SIZE)) script block first now
  long_cause size long = (
    has,
    sym (ap (λ (h : Header). h.start) header_is ∙ opened.opens.start),
    subst (λ count. IsTooLong script count size) (sym (ap (known_frames script) header_is)) long,
    refl,
  )

  stops_too_long : (banked : Bool) (size : ℕ) → IsTooLong script (known_frames script header) size →
      Stopped banked script block (fault.Lengths (length_fault.Riff size MAX_RIFF_SIZE)) input now sink sink counts
      counts
  stops_too_long banked size long =
      stops_first banked (fault.Lengths (length_fault.Riff size MAX_RIFF_SIZE)) sink [] (Took-nil sink).put refl
      (long_cause size long) refl (opened.no_fault, refl)

  pub no_frames : frames_in_bytes script first ≡ 0
  no_frames =
      ap (frames_in_bytes script) (sym (append-nil first)) ∙
      frames_are script header (some_frame script header.coding block ready) first opened.opens [] none_declared
      ∙ ap length (signal-nil script header.coding (some_frame script header.coding block ready))

  pub stops_unwritten : (banked : Bool) → Fits script header → (after : SinkState) (count : ℕ) →
      count < length (output_header script header) → Took sink after (take count (output_header script header)) →
      after.faults ≡ one_more sink.faults → Stopped banked script block fault.Output input now sink after counts counts
  stops_unwritten banked fits after count less took risen =
      let all = output_header script header in
      let parted : part script block first ≡ all ++ live_bytes script (signal script header.coding []) =
      ap (part script block) (sym (append-nil first)) ∙ part_blocks script header
      (some_frame script header.coding block ready) first opened.opens block 0 [] [] (omega arith)
      (some_block script header.coding block ready) none_declared in
      let split : part script block first ≡ take count all ++
      (drop count all ++ live_bytes script (signal script header.coding [])) =
      parted ∙ ap (λ xs. xs ++ live_bytes script (signal script header.coding [])) (sym (take-append-drop count all))
      ∙ append_assoc (take count all) (drop count all) (live_bytes script (signal script header.coding [])) in
      let fewer : length (take count all) < length (part script block first) =
      omega (
        arith,
        less,
        length-take-le count all (omega (arith, less)),
        ap length parted,
        length-append all (live_bytes script (signal script header.coding [])),
      ) in
      let limits : KeepsLimits script (input_header script first)
      (in_whole_blocks block (frames_in_bytes script first)) =
      record {
        fits = subst (Fits script) (sym header_is) fits;
        not_full = subst (λ n. gathered script.blocks n ≤ MAX_GATHERED)
            (sym (ap (in_whole_blocks block) no_frames ∙ none_whole block))
            (omega (arith, gathered-nothing script.blocks));
      } in
      stops_first banked fault.Output after (take count all) took.put tt has
      (limits, inl ((drop count all ++ live_bytes script (signal script header.coding []), split), fewer))
      (opened.no_fault, risen)

-- no header came, or the output would be too long
pub stops_untaken : (banked : Bool) (script : Script) (block : ℕ) (counts : Counts) → IsReady script block →
    (stop : StreamFault) (input now : SourceState) (sink : SinkState) → Untaken script stop input now →
    Stopped banked script block stop input now sink sink counts counts
stops_untaken banked script block counts ready stop input now sink (NoHeader error is unopened) =
    subst (λ f. Stopped banked script block f input now sink sink counts counts) (sym is)
    (stops_unopened banked script block counts input now sink error unopened)
stops_untaken banked script block counts ready stop input now sink (LongOutput header size opened is long) =
    subst (λ f. Stopped banked script block f input now sink sink counts counts) (sym is)
    (stops_too_long script block counts ready header input now sink opened banked size long)

pub untaken_stays : (stop : StreamFault) (script : Script) (input now : SourceState) (s : SessionState) →
    Untaken script stop input now → StaysRefused stop s
untaken_stays stop script input now s (NoHeader error is unopened) =
    subst (λ f. StaysRefused f s) (sym is) (input_stays error s)
untaken_stays stop script input now s (LongOutput header size opened is long) =
    subst (λ f. StaysRefused f s) (sym is) tt
