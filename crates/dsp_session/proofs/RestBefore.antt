-- The ends of a stream over the rest of an input before its first frame.
use Rattle.std.proofs.Common.{◌≡◌, ℕ, ◌+◌, ◌*◌, ◌/◌, ◌<◌, ◌≤◌, List, [], ◌++◌, length, Option, Some, None}
use Rattle.std.proofs.Common.{IfSome, refl, sym, ap, ◌∙◌, subst, arith, append-nil, length-append, inl, inr}
use Rattle.std.proofs.lemmas.List.{drop_all}
use Rattle.std.proofs.Math.Seq.{take-nil}
use Rattle.std.specs.Io.KnownBytes.{IsAtEnd}
use Rattle.std.specs.Option.{option_map}
use Rattle.dsp_ports.specs.Ports.{SourceState, SinkState, Gave}
use Rattle.dsp_ports.proofs.Moved.{Took-nil, Gave-nil, Gave-append}
use Rattle.dsp_defs.specs.Block.{Frame}
use Rattle.dsp_defs.specs.Counts.{Counts}
use Rattle.dsp_defs.specs.Output.{HasHeader, declared_frames, input_header, input_signal, live_bytes, whole_blocks}
use Rattle.dsp_defs.specs.declared.limits.TheConstants.{MAX_INPUT, MAX_RIFF_SIZE}
use Rattle.dsp_defs.specs.declared.script.Script.{Script}
use Rattle.dsp_defs.specs.declared.wave.Header.{Header}
use Rattle.dsp_unit.proofs.CostLaws.{live_cost_within}
use Rattle.dsp_input.specs.declared.fault.InputFault.{InputFault}
use Rattle.dsp_input.specs.Taking.{AreAll, InDeclared, Opened, PartLost, declared_bytes, frame_bytes, frames_in_bytes}
use Rattle.dsp_input.specs.Taking.{in_whole_frames}
use Rattle.dsp_session.specs.SessionState.{SessionState}
use Rattle.dsp_session.specs.Session.{IsReady, block_bytes}
use Rattle.dsp_session.specs.Opening.{Untaken, NoHeader, LongOutput, of_input}
use Rattle.dsp_session.specs.Resuming.{IsRestCause, CountsPartFault, RestStopped, RestWritten, Skipped}
use Rattle.dsp_session.specs.Resuming.{later_blocks_end, later_frames}
use Rattle.dsp_session.specs.declared.fault.LengthFault.TheVariants as length_fault
use Rattle.dsp_session.specs.declared.fault.StreamFault.{StreamFault}
use Rattle.dsp_session.specs.declared.fault.StreamFault.TheVariants as fault
use Rattle.dsp_session.specs.declared.fault.PartFault.{PartFault}
use Rattle.dsp_session.specs.declared.fault.PartFault.TheVariants as part_fault
use Rattle.dsp_session.proofs.OpeningLaws.{some_frame, frames_are, length-signal, less}
use Rattle.dsp_session.proofs.OpenLaws.{unopened_cause, unopened_none, unopened_faults, long_cause, no_frames}
use Rattle.dsp_session.proofs.PartLaws.{input_rest, input_wrote_rest, part_unflushed, unread_cause, unread_faults}
use Rattle.dsp_session.proofs.FirstClose.{fewer_bytes}

module _ (script : Script) (block : ℕ) (ready : IsReady script block) (start : SessionState) (from : ℕ)
    (input : SourceState) (sink : SinkState) (before : Counts) where
  -- so few frames have none behind the first
  none_later : (given : List ℕ) → frames_in_bytes script given ≤ from → (x : List Frame) →
      live_bytes script x ++ [] ≡ live_bytes script (x ++ whole_blocks block (later_frames script from given))
  none_later given few x =
      let none : later_frames script from given ≡ [] = drop_all from (input_signal script given) few in
      append-nil (live_bytes script x) ∙ ap (live_bytes script) (sym (append-nil x)) ∙
      ap (λ (y : List Frame). live_bytes script (x ++ y)) (sym (take-nil _) ∙ ap (whole_blocks block) (sym none))

  nothing_done : (stop : PartFault) (given : List ℕ) (now : SourceState) → Gave input now given →
      length given ≤ MAX_INPUT
      → ((x : List Frame) → RestWritten stop script block x from given [] now sink sink)
      → (HasHeader script given → length given ≤ later_blocks_end script block from (input_header script given) 1) →
      IsRestCause stop script block from given now → CountsPartFault stop input now sink sink
      → RestStopped script block start from stop input now sink sink before before
  nothing_done stop given now gave limit wrote lag cause faults = record {
    given = given;
    written = [];
    gave = gave;
    in_limit = limit;
    put = (Took-nil sink).put;
    unflushed = part_unflushed stop sink sink [] refl;
    cause = cause;
    idle = λ fewer. (refl, refl);
    wrote = λ x is. wrote x;
    lag = λ has. record { blocks = 0; wrote = inl refl; one = lag has };
    faults = faults;
    cost = λ enough. (let within = live_cost_within script.input.format script.input.channels script.blocks from
        (frames_in_bytes script given) enough in omega (arith, within));
    turns = λ enough. omega arith;
  }

  -- the bytes of the first frames, or of some of them, are no block ahead
  within_one : (header : Header) (mid : SourceState) (opened : Opened script header input mid) (bytes : List ℕ) →
      length bytes ≤ from * frame_bytes script header.coding
      → (given : List ℕ) → given ≡ opened.first ++ bytes →
      length given ≤ later_blocks_end script block from (input_header script given) 1
  within_one header mid opened bytes few given is =
      let ends : later_blocks_end script block from (input_header script given) 1 ≡ header.start + 1 * block_bytes
      script header.coding block + from * frame_bytes script header.coding =
      ap (λ (h : Header). later_blocks_end script block from h 1)
      (ap (input_header script) is ∙ opened.opens.said bytes) in
      omega (arith, ends, few, opened.opens.start, ap length is, length-append opened.first bytes)

  pub rest_untaken : (stop : StreamFault) (now : SourceState) → Untaken script stop input now →
      RestStopped script block start from (part_fault.Stream stop) input now sink sink before before
  rest_untaken stop now (NoHeader error is u) =
      subst (λ f. RestStopped script block start from (part_fault.Stream f) input now sink sink before before) (sym is)
      (nothing_done (part_fault.Stream (of_input error)) u.given now u.gave u.in_limit
      (λ x. input_wrote_rest error script block x from u.given [] now sink sink
      (inl (unopened_none error script u.given input now u.cause, refl)))
      (λ has. absurd (unopened_none error script u.given input now u.cause has))
      (input_rest error script block from u.given now (unopened_cause error script block u.given input now u.cause))
      (unopened_faults error script u.given input now sink u.cause))
  rest_untaken stop now (LongOutput header size opened is long) =
      subst (λ f. RestStopped script block start from (part_fault.Stream f) input now sink sink before before) (sym is)
      (nothing_done (part_fault.Stream (fault.Lengths (length_fault.Riff size MAX_RIFF_SIZE))) opened.first now
      opened.gave opened.opens.in_limit
      (λ x. inr (none_later opened.first
      (omega (arith, no_frames script block before ready header input now sink opened)) x))
      (λ _. within_one header now opened [] (omega arith) (opened.first) (sym (append-nil opened.first)))
      (long_cause script block before ready header input now sink opened size long) (opened.no_fault, refl))

  module _ (header : Header) (mid : SourceState) (opened : Opened script header input mid) where
    abbrev frame : ℕ
    frame = frame_bytes script header.coding

    some : 0 < frame
    some = some_frame script header.coding block ready

    abbrev given : List ℕ → List ℕ
    given bytes = opened.first ++ bytes

    -- so many frames are declared, or came
    abbrev Counted : ℕ → List ℕ → SourceState → Option ℕ → Type 0
    Counted got bytes now size = elim size [
      | Some declared ↦ got ≡ declared
      | None ↦
          (got ≡ frames_in_bytes script bytes) × IsAtEnd now.left
    ]

    -- the bytes of the whole frames that are declared
    abbrev whole : Option ℕ → Option ℕ
    whole size = elim size [ Some s ↦ Some (in_whole_frames script header.coding s) | None ↦ None ]

    behind : (got : ℕ) (bytes : List ℕ) (now : SourceState) → got < from → Gave mid now bytes →
        header.start + length bytes ≤ MAX_INPUT → length bytes ≤ from * frame → now.faults ≡ mid.faults →
        frames_in_bytes script (given bytes) ≤ from → Counted got (given bytes) now (declared_frames script header)
        → RestStopped script block start from (part_fault.Behind from got) input now sink sink before before
    behind got bytes now fewer gave limit few clean before_rest counted =
        nothing_done (part_fault.Behind from got) (given bytes) now
        (Gave-append input mid now opened.first bytes opened.going opened.gave gave)
        (omega (arith, limit, opened.opens.start, length-append opened.first bytes))
        (λ x. inr (none_later (given bytes) before_rest x))
        (λ _. within_one header mid opened bytes few (given bytes) refl) (
          opened.opens.has bytes,
          refl,
          fewer,
          subst (λ (h : Header). Counted got (given bytes) now
              (declared_frames script h)) (sym (opened.opens.said bytes)) counted,
        )
        (clean ∙ opened.no_fault, refl)

    -- the header declares fewer frames than are passed over
    pub declares_fewer : (got : ℕ) → got < from → declared_frames script header ≡ Some got →
        RestStopped script block start from (part_fault.Behind from got) input mid sink sink before before
    declares_fewer got fewer declared = behind got [] mid fewer (Gave-nil mid)
        (omega (arith, opened.opens.start, opened.opens.in_limit)) (omega arith) refl
        (omega (
          arith,
          no_frames script block before ready header input mid sink opened,
          ap (frames_in_bytes script) (append-nil opened.first),
        ))
        (subst (Counted got (given []) mid) (sym declared) refl)

    -- the samples have ended before the rest begins
    pub ends_before : (end skipped : ℕ) (now : SourceState) → end ≡ from * frame →
        Skipped script header end skipped mid now → skipped < end →
        IfSome (declared_frames script header) (λ got. from ≤ got)
        → RestStopped script block start from (part_fault.Behind from (skipped / frame)) input now sink sink before
        before
    ends_before end skipped now end_is skips cut enough =
        behind (skipped / frame) skips.bytes now (less skipped from frame some (omega (arith, cut, end_is)))
        skips.gave (omega (arith, skips.in_limit, skips.long)) (omega (arith, skips.in_part, skips.long, end_is))
        skips.no_fault (omega (arith, came, less skipped from frame some (omega (arith, cut, end_is))))
        (by_size header.size enough ended)
      where
        ended : AreAll (declared_bytes script header) skipped now
        ended = elim skips.ended [ inl is ↦ absurd (omega (arith, is, cut)) | inr all ↦ all ]

        declared : InDeclared (declared_bytes script header) (length skips.bytes)
        declared = subst (InDeclared (declared_bytes script header)) (sym skips.long) skips.declared

        came : skipped / frame ≡ frames_in_bytes script (given skips.bytes)
        came = sym (frames_are script header some opened.first opened.opens skips.bytes declared ∙
            length-signal script header.coding some skips.bytes ∙ ap (λ n. n / frame) skips.long)

        by_size : (size : Option ℕ) → IfSome (option_map (λ s. s / frame) size) (λ got. from ≤ got) →
            AreAll (whole size) skipped now
            → Counted (skipped / frame) (given skips.bytes) now (option_map (λ s. s / frame) size)
        by_size None enough at_end = (came, at_end)
        by_size (Some size) enough is = absurd (let more = fewer_bytes from (size / frame) frame enough in
            omega (arith, more, is, cut, end_is))

    -- or they did not come
    pub unskipped : (end : ℕ) (error : InputFault) (now : SourceState) → end ≡ from * frame →
        PartLost script header end error mid now → RestStopped script block start from
        (part_fault.Stream (of_input error)) input now sink sink before before
    unskipped end error now end_is u =
        nothing_done (part_fault.Stream (of_input error)) (given u.bytes) now
        (Gave-append input mid now opened.first u.bytes opened.going opened.gave u.gave)
        (omega (arith, u.in_limit, opened.opens.start, length-append opened.first u.bytes))
        (λ x. input_wrote_rest error script block x from (given u.bytes) [] now sink sink
        (inr (none_later (given u.bytes) lost x)))
        (λ _. within_one header mid opened u.bytes (omega (arith, u.in_part, end_is)) (given u.bytes) refl)
        (input_rest error script block from (given u.bytes) now
        (unread_cause script block header opened.first opened.opens u.bytes (length u.bytes) refl u.between now
        error u.cause))
        (unread_faults error script header (length u.bytes) input u.between now sink sink u.cause
        (u.no_fault ∙ opened.no_fault) refl)
      where
        lost : frames_in_bytes script (given u.bytes) ≤ from
        lost = omega (
          arith,
          frames_are script header some opened.first opened.opens u.bytes u.declared,
          length-signal script header.coding some u.bytes,
          less (length u.bytes) from frame some (omega (arith, u.in_part, end_is)),
        )
