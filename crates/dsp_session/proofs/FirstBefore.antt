-- The ends of a stream over the first frames of an input before its first sample.
use Rattle.std.proofs.Common.{◌≡◌, ◌⊎◌, Bool, ℕ, ◌+◌, ◌<◌, ◌≤◌, List, [], ◌++◌, length, take, drop, Option, Some}
use Rattle.std.proofs.Common.{None, refl, sym, ap, ◌∙◌, subst, arith, append_assoc, append-nil, length-append, inl}
use Rattle.std.proofs.lemmas.List.{take-append-drop}
use Rattle.std.specs.Io.KnownBytes.{IsAtEnd}
use Rattle.dsp_ports.specs.Ports.{append_put}
use Rattle.dsp_ports.specs.Ports.{SourceState, SinkState, one_more, Gave, Took}
use Rattle.dsp_ports.proofs.Moved.{Took-nil, Gave-nil, Gave-append}
use Rattle.dsp_defs.specs.Counts.{Counts}
use Rattle.dsp_defs.specs.Output.{HasHeader, declared_frames, output_header, live_bytes, part}
use Rattle.dsp_defs.specs.Streaming.{Begins}
use Rattle.dsp_defs.specs.declared.script.Script.{Script}
use Rattle.dsp_defs.specs.declared.wave.Header.{Header}
use Rattle.dsp_input.specs.declared.fault.InputFault.{InputFault}
use Rattle.dsp_input.specs.declared.fault.InputFault.TheVariants as input_fault
use Rattle.dsp_input.specs.Taking.{InDeclared, Opened, declared_bytes, frame_bytes, frames_in_bytes}
use Rattle.dsp_input.specs.Taking.{in_whole_frames}
use Rattle.dsp_session.specs.Session.{IsReady, signal, live_cost_of}
use Rattle.dsp_defs.specs.declared.limits.TheConstants.{MAX_INPUT}
use Rattle.dsp_session.specs.Opening.{Untaken, NoHeader, LongOutput, of_input}
use Rattle.dsp_session.specs.Stream.{LagsByOne}
use Rattle.dsp_session.specs.Resuming.{IsFirstCause, IsOfInput, IsPartUnflushed, CountsPartFault, FirstStopped}
use Rattle.dsp_session.specs.Resuming.{FirstWritten, first_output, part_turns}
use Rattle.dsp_session.specs.declared.fault.StreamFault.{StreamFault}
use Rattle.dsp_session.specs.declared.fault.StreamFault.TheVariants as fault
use Rattle.dsp_session.specs.declared.fault.PartFault.{PartFault}
use Rattle.dsp_session.specs.declared.fault.PartFault.TheVariants as part_fault
use Rattle.dsp_session.proofs.OpeningLaws.{some_frame, frames_are, signal-nil}
use Rattle.dsp_session.proofs.OpenLaws.{unopened_cause, unopened_none, unopened_faults, long_cause}
use Rattle.dsp_session.proofs.OpenLaws as opening
use Rattle.dsp_session.proofs.PartLaws.{first_is}
use Rattle.dsp_session.proofs.PartLaws.{input_first, part_unflushed}

-- behind the header, where these bytes of samples were taken and a front of their first output was written
module _ (banked : Bool) (script : Script) (block : ℕ) (ready : IsReady script block) (frames : ℕ) (header : Header)
    (input mid : SourceState) (sink : SinkState) (opened : Opened script header input mid) where
  some : 0 < frame_bytes script header.coding
  some = some_frame script header.coding block ready

  pub first_stops : (stop : PartFault) (bytes written : List ℕ) (now : SourceState) (after : SinkState)
      (before counts : Counts)
      → InDeclared (declared_bytes script header) (length bytes) → header.start + length bytes ≤ MAX_INPUT →
      LagsByOne script block (opened.first ++ bytes) written
      → Gave mid now bytes → after.put ≡ append_put sink.put written → IsPartUnflushed stop sink after written
      → FirstWritten stop script block (opened.first ++ bytes) written sink after
      → IsFirstCause stop script block frames (opened.first ++ bytes) now → CountsPartFault stop input now sink after
      → length (signal script header.coding bytes) ≤ frames
      → (IsOfInput stop → length (signal script header.coding bytes) < frames)
      → counts.multiplies ≤ before.multiplies + live_cost_of script (length (signal script header.coding bytes))
      → counts.turns ≤ before.turns + part_turns banked script block 0 (length (signal script header.coding bytes))
      → FirstStopped banked script block frames stop input now sink after before counts
  first_stops stop bytes written now after before counts declared limit lag gave put unflushed wrote cause faults few
      fewer cost turned =
      let count = frames_are script header some opened.first opened.opens bytes declared in
      record {
        given = opened.first ++ bytes;
        written = written;
        gave = Gave-append input mid now opened.first bytes opened.going opened.gave gave;
        in_limit = omega (arith, limit, opened.opens.start, length-append opened.first bytes);
        put = put;
        unflushed = unflushed;
        cause = cause;
        wrote = wrote;
        faults = faults;
        lag = λ _. lag;
        in_part = λ _. omega (arith, count, few);
        missing = λ of _. omega (arith, count, fewer of);
        cost = rw count cost;
        turns = rw count turned;
      }

  -- a front of the output of the frames that came
  pub front_of : (bytes written : List ℕ) → InDeclared (declared_bytes script header) (length bytes)
      → Begins written (output_header script header ++ live_bytes script (signal script header.coding bytes))
      → Begins written (first_output script (frames_in_bytes script (opened.first ++ bytes)) (opened.first ++ bytes))
  front_of bytes written declared = subst (Begins written)
      (sym (first_is script header some opened.first opened.opens bytes declared))

  none_declared : InDeclared (declared_bytes script header) 0
  none_declared = by_size header.size
    where
      by_size : (size : Option ℕ) → InDeclared (elim size
          [ Some s ↦ Some (in_whole_frames script header.coding s) | None ↦ None ]) 0
      by_size None = tt
      by_size (Some size) = omega arith

  none_taken : header.start + 0 ≤ MAX_INPUT
  none_taken = omega (arith, opened.opens.start, opened.opens.in_limit)

  lags_none : (before : Counts) (written : List ℕ) → LagsByOne script block (opened.first ++ []) written
  lags_none before written = subst (λ given. LagsByOne script block given written) (sym (append-nil opened.first))
      (opening.lags_none script block before ready header input mid sink opened written)

  no_frames : length (signal script header.coding []) ≡ 0
  no_frames = ap length (signal-nil script header.coding some)

  -- so many frames are declared, or came with the header
  abbrev Counted : ℕ → Option ℕ → Type 0
  Counted got size = elim size [
    | Some declared ↦ got ≡ declared
    | None ↦
        (got ≡ frames_in_bytes script (opened.first ++ [])) × IsAtEnd mid.left
  ]

  -- nothing was written where frames are declared
  abbrev NoneWritten : Option ℕ → Type 0
  NoneWritten size = elim size [ Some declared ↦ sink ≡ sink | None ↦ [] ≡ part script block (opened.first ++ []) ]

  -- the header declares fewer frames than are wanted
  pub declares_fewer : (got : ℕ) → got < frames → declared_frames script header ≡ Some got → (before : Counts) →
      FirstStopped banked script block frames (part_fault.Behind frames got) input mid sink sink before before
  declares_fewer got fewer declared before =
      first_stops (part_fault.Behind frames got) [] [] mid sink before before none_declared none_taken
      (lags_none before []) (Gave-nil mid) (Took-nil sink).put refl
      (subst (λ (h : Header). NoneWritten (declared_frames script h)) (sym (opened.opens.said []))
      (subst NoneWritten (sym declared) refl)) (
        opened.opens.has [],
        refl,
        fewer,
        subst (λ (h : Header). Counted got (declared_frames script h))
            (sym (opened.opens.said [])) (subst (Counted got) (sym declared) refl),
      )
      (opened.no_fault, refl) (omega (arith, no_frames)) (λ none. absurd none) (omega arith) (omega arith)

  -- the output failed within its header
  pub headless : (after : SinkState) (count : ℕ) → Took sink after (take count (output_header script header)) →
      after.faults ≡ one_more sink.faults → (before : Counts)
      → FirstStopped banked script block frames (part_fault.Stream fault.Output) input mid sink after before before
  headless after count took risen before =
      let all = output_header script header in
      let live = live_bytes script (signal script header.coding []) in
      first_stops (part_fault.Stream fault.Output) [] (take count all) mid after before before none_declared
      none_taken (lags_none before (take count all)) (Gave-nil mid) took.put tt
      (front_of [] (take count all) none_declared (
        drop count all ++ live,
        ap (λ xs. xs ++ live) (sym (take-append-drop count all)) ∙
            append_assoc (take count all) (drop count all) live,
      ))
      (opened.opens.has []) (opened.no_fault, risen) (omega (arith, no_frames)) (λ none. absurd none) (omega arith)
      (omega arith)

-- ---- before the first sample

-- a fault of the input leaves what was written so far
pub input_wrote : (error : InputFault) (script : Script) (block : ℕ) (given written : List ℕ) (sink after : SinkState) →
    ((HasHeader script given → ⊥) × (after ≡ sink)) ⊎ (written ≡ part script block given)
    → FirstWritten (part_fault.Stream (of_input error)) script block given written sink after
input_wrote input_fault.Failed script block given written sink after wrote = wrote
input_wrote (input_fault.Header f offset) script block given written sink after wrote = wrote
input_wrote (input_fault.Limit taken limit) script block given written sink after wrote = wrote

module _ (banked : Bool) (script : Script) (block : ℕ) (ready : IsReady script block) (frames : ℕ) (stop : StreamFault)
    (input now : SourceState) (sink : SinkState) (before : Counts) where
  pub first_untaken : Untaken script stop input now → FirstStopped banked script block frames (part_fault.Stream stop)
      input
      now sink sink before before
  first_untaken (NoHeader error is u) = subst (λ f. FirstStopped banked script block frames (part_fault.Stream f)
      input now
      sink sink before before) (sym is) (record {
        given = u.given;
        written = [];
        gave = u.gave;
        in_limit = u.in_limit;
        put = (Took-nil sink).put;
        unflushed = part_unflushed (part_fault.Stream (of_input error)) sink sink [] refl;
        cause = input_first error script block frames u.given now
            (unopened_cause error script block u.given input now u.cause);
        wrote = input_wrote error script block u.given [] sink sink
            (inl (unopened_none error script u.given input now u.cause, refl));
        faults = unopened_faults error script u.given input now sink u.cause;
        lag = λ has. absurd (unopened_none error script u.given input now u.cause has);
        in_part = λ has. absurd (unopened_none error script u.given input now u.cause has);
        missing = λ _ has. absurd (unopened_none error script u.given input now u.cause has);
        cost = omega arith;
        turns = omega arith;
      })
  first_untaken (LongOutput header size opened is long) =
      subst (λ f. FirstStopped banked script block frames (part_fault.Stream f) input now sink sink before before)
      (sym is)
      (record {
        given = opened.first;
        written = [];
        gave = opened.gave;
        in_limit = opened.opens.in_limit;
        put = (Took-nil sink).put;
        unflushed = refl;
        cause = long_cause script block before ready header input now sink opened size long;
        wrote = refl;
        faults = (opened.no_fault, refl);
        lag = λ _. opening.lags_none script block before ready header input now sink opened [];
        in_part = λ has. omega (arith, opening.no_frames script block before ready header input now sink opened);
        missing = λ none _. absurd none;
        cost = omega arith;
        turns = omega arith;
      })
