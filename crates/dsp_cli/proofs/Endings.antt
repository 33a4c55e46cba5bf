-- Which commands may end in each way.
use Rattle.std.proofs.Common.{◌≡◌, ℕ, sym, subst, Option, None, Some, refl}
use Rattle.dsp_command.specs.Words.{command_of}
use Rattle.dsp_command.specs.declared.command.Command.{Command}
use Rattle.dsp_command.specs.declared.command.Command.TheVariants.{Run, Gen, Print, Stop, Go, Convert, Check}
use Rattle.dsp_cli.specs.Call.{Call, Ending, Went, Printed, Saved, Resumed, Turned, Checked, Stopped, InFirst, InRest}
use Rattle.dsp_cli.specs.Call.{OfText, OfState, OfBytes, OfScript, Happened, RefusesLength, RefusesState, StopsInPart}
use Rattle.dsp_defs.specs.declared.state_kind.StateKind.{StateKind}
use Rattle.dsp_session.specs.declared.fault.PartFault.{PartFault}
use Rattle.dsp_cli.specs.Run.{HasSource, HasText, HasBlocks}
use Rattle.dsp_cli.specs.declared.fault.Fault.TheVariants.{Usage, ScriptRead, Script as BadText, BlockLength, Memory}
use Rattle.dsp_cli.specs.declared.fault.Fault.TheVariants.{Stream, State, Part, Conversion, Comparison}
use Rattle.dsp_cli.proofs.StatusLaws.{of_stream}

module _ (c : Call) where
  -- the block length that was refused is that of a script that was read, or that of the script of a state
  abbrev IsOfText : {block divisor : ℕ} → RefusesLength block divisor c → Type 0
  IsOfText (OfText blocks read) = Unit {0}
  IsOfText (OfState go read) = ⊥

  abbrev IsOfState : {block divisor : ℕ} → RefusesLength block divisor c → Type 0
  IsOfState (OfText blocks read) = ⊥
  IsOfState (OfState go read) = Unit {0}

  -- a state was refused that was read, or one behind so many frames
  abbrev IsOfBytes : {kind : StateKind} {offset : ℕ} → RefusesState kind offset c → Type 0
  IsOfBytes (OfBytes go read) = Unit {0}
  IsOfBytes (OfScript at is read) = ⊥

  abbrev IsOfScript : {kind : StateKind} {offset : ℕ} → ℕ → RefusesState kind offset c → Type 0
  IsOfScript frames (OfBytes go read) = ⊥
  IsOfScript frames (OfScript at is read) = frames ≡ at

  -- the first frames were stopped at so many, or the rest
  abbrev IsInFirst : {fault : PartFault} → ℕ → StopsInPart fault c → Type 0
  IsInFirst frames (InFirst script at stop) = frames ≡ at
  IsInFirst frames (InRest script stop) = ⊥

  abbrev IsInRest : {fault : PartFault} → StopsInPart fault c → Type 0
  IsInRest (InFirst script at stop) = ⊥
  IsInRest (InRest script stop) = Unit {0}

  -- the command is one of those that may end so
  abbrev EndsIn : (ending : Ending) → Happened ending c → Option Command → Type 0
  EndsIn (Went script frames found) went (Some (Run named banked)) = Unit {0}
  EndsIn (Went script frames found) went (Some (Gen seed count)) = Unit {0}
  EndsIn (Printed script) printed (Some Print) = Unit {0}
  EndsIn (Saved script at x) saved (Some (Stop frames)) = frames ≡ at
  EndsIn (Resumed script frames found) resumed (Some Go) = Unit {0}
  EndsIn (Turned totals) turned (Some (Convert direction)) = direction ≡ turned.direction
  EndsIn (Checked script size) checked (Some Check) = Unit {0}
  EndsIn (Stopped Usage) happened None = Unit {0}
  EndsIn (Stopped ScriptRead) happened command = HasSource command
  EndsIn (Stopped (BadText fault)) happened command = HasText command
  EndsIn (Stopped (BlockLength block divisor)) happened None = ⊥
  EndsIn (Stopped (BlockLength block divisor)) happened (Some Print) = ⊥
  EndsIn (Stopped (BlockLength block divisor)) happened (Some (Convert direction)) = ⊥
  EndsIn (Stopped (BlockLength block divisor)) happened (Some Go) = IsOfState happened.0
  EndsIn (Stopped (BlockLength block divisor)) happened command = IsOfText happened.0
  EndsIn (Stopped Memory) happened command = HasSource command
  EndsIn (Stopped (State kind offset)) happened (Some Go) = IsOfBytes happened.0
  EndsIn (Stopped (State kind offset)) happened (Some (Stop frames)) = IsOfScript frames happened.0
  EndsIn (Stopped (Stream fault)) happened (Some (Run named banked)) = Unit {0}
  EndsIn (Stopped (Stream fault)) happened (Some (Gen seed count)) = Unit {0}
  EndsIn (Stopped (Part fault)) happened (Some (Stop frames)) = IsInFirst frames happened
  EndsIn (Stopped (Part fault)) happened (Some Go) = IsInRest happened
  EndsIn (Stopped (Conversion fault)) stop (Some (Convert direction)) = direction ≡ stop.direction
  EndsIn (Stopped (Comparison fault)) stop (Some Check) = Unit {0}
  EndsIn ending happened command = ⊥

  of_text : {block divisor : ℕ} (happened : Happened (Stopped (BlockLength block divisor)) c) → IsOfText happened.0 →
      (command : Option Command) → HasBlocks command → EndsIn (Stopped (BlockLength block divisor)) happened command
  of_text happened is None blocks = absurd blocks
  of_text happened is (Some Print) blocks = absurd blocks
  of_text happened is (Some Go) blocks = absurd blocks
  of_text happened is (Some (Convert direction)) blocks = absurd blocks
  of_text happened is command blocks = is

  -- that of the words is
  own : (ending : Ending) (happened : Happened ending c) → EndsIn ending happened (command_of c.words)
  own (Went script frames found) went =
      of_stream c.words (EndsIn (Went script frames found) went) went.stream (λ _ _ _. tt) (λ _ _ _. tt)
  own (Printed script) printed = subst (EndsIn (Printed script) printed) (sym printed.0) tt
  own (Saved script at x) saved = subst (EndsIn (Saved script at x) saved) (sym saved.asked) refl
  own (Resumed script frames found) resumed =
      subst (EndsIn (Resumed script frames found) resumed) (sym resumed.asked) tt
  own (Turned totals) turned = subst (EndsIn (Turned totals) turned) (sym turned.asked) refl
  own (Checked script size) checked = subst (EndsIn (Checked script size) checked) (sym checked.asked) tt
  own (Stopped Usage) happened = subst (EndsIn (Stopped Usage) happened) (sym happened.0.0) tt
  own (Stopped ScriptRead) happened = happened.0.0
  own (Stopped (BadText fault)) happened = happened.0.0
  own (Stopped (BlockLength block divisor)) (OfText blocks read, untouched) =
      of_text (OfText blocks read, untouched) tt (command_of c.words) blocks
  own (Stopped (BlockLength block divisor)) (OfState go read, untouched) =
      subst (EndsIn (Stopped (BlockLength block divisor)) (OfState go read, untouched)) (sym go) tt
  own (Stopped Memory) happened = happened.0
  own (Stopped (State kind offset)) (OfBytes go read, untouched) =
      subst (EndsIn (Stopped (State kind offset)) (OfBytes go read, untouched)) (sym go) tt
  own (Stopped (State kind offset)) (OfScript at is read, untouched) =
      subst (EndsIn (Stopped (State kind offset)) (OfScript at is read, untouched)) (sym is) refl
  own (Stopped (Stream fault)) (script, stop) =
      of_stream c.words (EndsIn (Stopped (Stream fault)) (script, stop)) stop.stream (λ _ _ _. tt) (λ _ _ _. tt)
  own (Stopped (Part fault)) (InFirst script at stop) =
      subst (EndsIn (Stopped (Part fault)) (InFirst script at stop)) (sym stop.asked) refl
  own (Stopped (Part fault)) (InRest script stop) =
      subst (EndsIn (Stopped (Part fault)) (InRest script stop)) (sym stop.asked) tt
  own (Stopped (Conversion fault)) stop = subst (EndsIn (Stopped (Conversion fault)) stop) (sym stop.asked) refl
  own (Stopped (Comparison fault)) (script, stop) =
      subst (EndsIn (Stopped (Comparison fault)) (script, stop)) (sym stop.asked) tt

  pub ends_in : {command : Option Command} (ending : Ending) (happened : Happened ending c) →
      command_of c.words ≡ command → EndsIn ending happened command
  ends_in ending happened is = subst (EndsIn ending happened) is (own ending happened)
