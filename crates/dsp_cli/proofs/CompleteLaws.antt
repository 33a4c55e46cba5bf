-- What cannot come where nothing stands in the way of a command.
use Rattle.std.proofs.Common.{◌≡◌, ◌⊎◌, ℕ, ℤ, List, refl, subst, arith, inl, inr, Some, None, IfSome, IsFalse}
use Rattle.dsp_ports.specs.Ports.{SinkState, Rose}
use Rattle.dsp_defs.specs.StateBytes.{IsState}
use Rattle.dsp_defs.specs.declared.au.Direction.{Direction}
use Rattle.dsp_defs.specs.declared.script.Script.{Script}
use Rattle.dsp_command.specs.Words.{command_of}
use Rattle.dsp_command.specs.declared.command.Command.TheVariants.{Stop, Go, Convert}
use Rattle.dsp_session.specs.Session.{IsReady}
use Rattle.dsp_cli.specs.Call.{Call, Ending, Went, Printed, Saved, Resumed, Turned, Stopped, InFirst, InRest, OfText}
use Rattle.dsp_cli.specs.Call.{OfState, OfBytes, OfScript, Happened, Reported}
use Rattle.dsp_cli.specs.Causes.{NoneFailed}
use Rattle.dsp_cli.specs.Run.{IsStream, IsPrint, IsFree, IsStoppable, IsResumable, read_from}
use Rattle.dsp_cli.specs.Perform.{ReadsAs}
use Rattle.dsp_cli.specs.Script.{ReadsBytes, IfScript, IfState, chosen, chosen_block, is_legal_for}
use Rattle.dsp_cli.specs.declared.fault.Fault.TheVariants.{ScriptRead, Script as BadText, BlockLength, Memory, Stream}
use Rattle.dsp_cli.specs.declared.fault.Fault.TheVariants.{State, Part, Conversion}
use Rattle.dsp_au.specs.Convert.{IsPortFault, CountsFault, IsFree as IsConvertible}
use Rattle.dsp_au.specs.declared.fault.ConvertFault.{ConvertFault}
use Rattle.dsp_au.specs.declared.fault.ConvertFault.TheVariants as convert_fault
use Rattle.dsp_cli.proofs.DoneLaws.{ready_of}
use Rattle.dsp_cli.proofs.Endings.{ends_in}
use Rattle.dsp_cli.proofs.PartTold.{first_hinders, rest_hinders}
use Rattle.dsp_cli.proofs.ReportLaws.{rose, reported_zero}
use Rattle.dsp_cli.proofs.StateTold.{IfState-always, told_state, told_no_state}
use Rattle.dsp_cli.proofs.StatusLaws.{legal_not}
use Rattle.dsp_cli.proofs.StopLaws.{stop_blocks}
use Rattle.dsp_cli.proofs.Told.{IfScript-always, IfSome-always, IfSome-each, IfSome-map, told_script, told_faulty}
use Rattle.dsp_cli.proofs.Told.{told_illegal}

module _ (c : Call) (status : ℕ) (report told : SinkState) where
  -- ---- what must not come

  abbrev Done0 : Type 0
  Done0 = (status ≡ 0) ⊎ (status ≡ 10)

  abbrev Runs : Script → List ℕ → Type 0
  Runs s bytes = IsFree (command_of c.words) s (chosen_block c.words s) bytes → NoneFailed c report told → Done0

  abbrev RunsOver : Script → Type 0
  RunsOver s = IfSome (read_from (command_of c.words) s.input c.port).left (Runs s)

  runs_always : ((s : Script) (bytes : List ℕ) → Runs s bytes) → IfScript c.source.left RunsOver
  runs_always always = IfScript-always c.source.left RunsOver (λ s. IfSome-always _ _ (always s))

  pub runs_by : (ending : Ending) → Happened ending c → Reported ending status report told → IsStream c.words →
      IfScript c.source.left RunsOver
  runs_by (Went script frames found) went reported stream =
      runs_always (λ _ _ _ none. inl (reported_zero reported none.report_kept))
  runs_by (Stopped ScriptRead) happened reported stream =
      runs_always (λ _ _ _ none. absurd (none.script_kept (rose _ _ happened.0.1)))
  runs_by (Stopped (BadText fault)) happened reported stream =
      told_faulty c.source c.read fault RunsOver happened.0.1
  runs_by (Stopped (BlockLength block divisor)) (OfText blocks read, untouched) reported stream =
      told_illegal c refl block divisor read RunsOver
      (λ s illegal. IfSome-always _ (Runs s) (λ _ free _. absurd (legal_not free.legal illegal)))
  runs_by (Stopped Memory) happened reported stream = runs_always (λ _ _ _ _. inr reported.0)
  runs_by (Stopped (Stream fault)) (script, streams) reported stream =
      told_script c.source c.read script RunsOver streams.read
      (IfSome-each (read_from (command_of c.words) script.input c.port).left (Runs script) (λ bytes is_told free none.
      absurd (stop_blocks c script streams.read.holds.fit.channels report told stream (ready_of c script _ streams)
      streams.now streams.reading bytes is_told free none fault streams.did)))
  runs_by ending happened reported (inl (named, banked, is)) = absurd (ends_in c ending happened is)
  runs_by ending happened reported (inr (seed, frames, is)) = absurd (ends_in c ending happened is)

  abbrev Prints : Type 0
  Prints = (Rose c.source.faults c.read.faults → ⊥) → (Rose report.faults told.faults → ⊥) → Done0

  prints_always : Prints → IfScript c.source.left (λ _. Prints)
  prints_always prints = IfScript-always c.source.left (λ _. Prints) (λ _. prints)

  pub prints_by : (ending : Ending) → Happened ending c → Reported ending status report told → IsPrint c.words →
      IfScript c.source.left (λ _. Prints)
  prints_by (Printed script) printed reported print = prints_always (λ _ kept. inl (reported_zero reported kept))
  prints_by (Stopped ScriptRead) happened reported print =
      prints_always (λ kept _. absurd (kept (rose _ _ happened.0.1)))
  prints_by (Stopped (BadText fault)) happened reported print =
      told_faulty c.source c.read fault (λ _. Prints) happened.0.1
  prints_by (Stopped Memory) happened reported print = prints_always (λ _ _. inr reported.0)
  prints_by ending happened reported print = absurd (ends_in c ending happened print)

  -- ---- parts, and conversions

  abbrev Stops : ℕ → Script → Type 0
  Stops at s = IfSome c.port.left (λ bytes. IsStoppable s at bytes → NoneFailed c report told → Done0)

  stops_always : (at : ℕ) → ((s : Script) (bytes : List ℕ) → IsStoppable s at bytes → NoneFailed c report told →
      Done0) → IfScript c.source.left (Stops at)
  stops_always at always = IfScript-always c.source.left (Stops at) (λ s. IfSome-always c.port.left _ (always s))

  stops_told : (at : ℕ) (script : Script) → ReadsAs c.source c.read script
      → ((bytes : List ℕ) → c.port.left ≡ Some bytes → IsStoppable script at bytes → NoneFailed c report told → Done0)
      → IfScript c.source.left (Stops at)
  stops_told at script read each = told_script c.source c.read script (Stops at) read (IfSome-each c.port.left _ each)

  pub stops_by : (ending : Ending) → Happened ending c → Reported ending status report told → (at : ℕ) →
      command_of c.words ≡ Some (Stop at) → IfScript c.source.left (Stops at)
  stops_by (Saved script frames x) saved reported at stop =
      stops_always at (λ _ _ _ none. inl (reported_zero reported none.report_kept))
  stops_by (Stopped ScriptRead) happened reported at stop =
      stops_always at (λ _ _ _ none. absurd (none.script_kept (rose _ _ happened.0.1)))
  stops_by (Stopped (BadText fault)) happened reported at stop =
      told_faulty c.source c.read fault (Stops at) happened.0.1
  stops_by (Stopped (BlockLength block divisor)) (OfText blocks read, untouched) reported at stop =
      told_illegal c stop block divisor read (Stops at)
      (λ s illegal. IfSome-always c.port.left _ (λ _ free _. absurd (legal_not free.legal illegal)))
  stops_by (Stopped (State kind offset)) (OfScript frames is read, untouched) reported at stop =
      let (script, reads, legal, long, kind_is, offset_is) = read.holds in
      stops_told at script (record { text = read.text; read = read.read; holds = reads })
      (λ _ _ free _. absurd (omega (arith, free.short, long)))
  stops_by (Stopped Memory) happened reported at stop = stops_always at (λ _ _ _ _. inr reported.0)
  stops_by (Stopped (Part fault)) (InFirst script frames first) reported at stop =
      let ready : IsReady script (chosen None script) = record
      { sound = (first.read.text, first.read.holds); legal = first.legal } in
      let same : at ≡ frames = ends_in c (Stopped (Part fault)) (InFirst script frames first) stop in
      stops_told at script first.read (λ bytes is_told free none.
      absurd (first_hinders script (chosen None script) frames fault ready c.port c.later c.sink c.after c.before
      c.counts first.did bytes is_told (subst (λ n. IsStoppable script n bytes) same free) none.input_kept
      none.output_kept))
  stops_by ending happened reported at stop = absurd (ends_in c ending happened stop)

  abbrev Goes : Script → ℕ → List ℤ → Type 0
  Goes s at numbers = IfSome c.port.left (λ bytes. IsResumable s at bytes → NoneFailed c report told → Done0)

  goes_always : ((s : Script) (at : ℕ) (bytes : List ℕ) → IsResumable s at bytes → NoneFailed c report told → Done0) →
      IfState c.source.left Goes
  goes_always always = IfState-always c.source.left Goes (λ s at numbers. IfSome-always c.port.left _ (always s at))

  goes_told : (script : Script) (at : ℕ) (numbers : List ℤ) →
      ReadsBytes c.source c.read (λ bytes. IsState bytes script at numbers)
      → ((bytes : List ℕ) → c.port.left ≡ Some bytes → IsResumable script at bytes → NoneFailed c report told → Done0)
      → IfState c.source.left Goes
  goes_told script at numbers read each = told_state c.source c.read script at numbers Goes read
      (IfSome-each c.port.left _ each)

  pub goes_by : (ending : Ending) → Happened ending c → Reported ending status report told →
      command_of c.words ≡ Some Go → IfState c.source.left Goes
  goes_by (Resumed script frames found) resumed reported go =
      goes_always (λ _ _ _ _ none. inl (reported_zero reported none.report_kept))
  goes_by (Stopped ScriptRead) happened reported go = goes_always
      (λ _ _ _ _ none. absurd (none.script_kept (rose _ _ happened.0.1)))
  goes_by (Stopped (BlockLength block divisor)) (OfState is read, untouched) reported go =
      let (script, at, numbers, state, illegal, block_is, unit_is) = read.holds in
      goes_told script at numbers (record { text = read.text; read = read.read; holds = state })
      (λ _ _ free _. absurd (legal_not free.legal (subst (λ n. IsFalse (is_legal_for script n)) block_is illegal)))
  goes_by (Stopped (State kind offset)) (OfBytes is read, untouched) reported go =
      told_no_state c.source c.read kind offset Goes read
  goes_by (Stopped Memory) happened reported go = goes_always (λ _ _ _ _ _. inr reported.0)
  goes_by (Stopped (Part fault)) (InRest script rest) reported go =
      let ready : IsReady script (chosen None script) = record
      { sound = rest.read.holds.runs.sound; legal = rest.legal } in
      goes_told script rest.at rest.numbers rest.read (λ bytes is_told free none.
      absurd (rest_hinders script (chosen None script) rest.start rest.at fault ready c.port c.later c.sink c.after
      c.before c.counts rest.did bytes is_told free none.input_kept none.output_kept))
  goes_by ending happened reported go = absurd (ends_in c ending happened go)

  abbrev Turns : Direction → Type 0
  Turns direction = IfSome c.port.left (λ bytes. IsConvertible direction bytes → NoneFailed c report told → status ≡ 0)

  conversion_kept : (fault : ConvertFault) → IsPortFault fault → CountsFault fault c.port c.later c.sink c.after →
      NoneFailed c report told → ⊥
  conversion_kept convert_fault.Read fails faults none = none.input_kept (rose _ _ faults.0)
  conversion_kept convert_fault.Write fails faults none = none.output_kept (rose _ _ faults.1)
  conversion_kept fault fails faults none = fails

  pub turns_by : (ending : Ending) → Happened ending c → Reported ending status report told →
      (direction : Direction) → command_of c.words ≡ Some (Convert direction) → Turns direction
  turns_by (Turned totals) turned reported direction is =
      IfSome-always c.port.left _ (λ bytes free none. reported_zero reported none.report_kept)
  turns_by (Stopped (Conversion fault)) stop reported direction is =
      let same : direction ≡ stop.direction = ends_in c (Stopped (Conversion fault)) stop is in
      IfSome-map c.port.left _ _
      (λ bytes hinders free none. absurd (conversion_kept fault
      (hinders (subst (λ d. IsConvertible d bytes) same free)) stop.did.faults none)) stop.did.hinders
  turns_by ending happened reported direction is = absurd (ends_in c ending happened is)
