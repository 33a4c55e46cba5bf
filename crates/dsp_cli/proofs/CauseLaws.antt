-- Which status a call ends with by how it ended, and where a status must come.
use Rattle.std.proofs.Common.{◌≡◌, ℕ, ◌<◌, ◌≤◌, ℤ, List, length, refl, sym, subst, arith, inl, inr, Option, Some, None}
use Rattle.std.proofs.Common.{IsSome, IfSome, IsTrue, IsFalse}
use Rattle.dsp_ports.specs.Ports.{SinkState}
use Rattle.dsp_defs.specs.Canon.{canon}
use Rattle.dsp_defs.specs.Reading.{first_fault}
use Rattle.dsp_defs.specs.StateBytes.{IsState}
use Rattle.dsp_defs.specs.StateFields.{HasStateFault}
use Rattle.dsp_defs.specs.declared.limits.TheConstants.{MAX_SCRIPT}
use Rattle.dsp_defs.specs.declared.script.Script.{Script}
use Rattle.dsp_defs.specs.declared.state_kind.StateKind.{StateKind}
use Rattle.dsp_command.specs.Words.{command_of}
use Rattle.dsp_command.specs.declared.command.Command.{Command}
use Rattle.dsp_command.specs.declared.command.Command.TheVariants.{Stop, Go}
use Rattle.dsp_session.specs.declared.fault.StreamFault.TheVariants.{Header, Input, Output, Lengths}
use Rattle.dsp_cli.specs.Call.{Call, Ending, Went, Printed, Saved, Resumed, Turned, Checked, Stopped, InFirst, InRest}
use Rattle.dsp_cli.specs.Call.{OfText, OfState, OfBytes, OfScript, Happened, Reported}
use Rattle.dsp_cli.specs.Causes.{EndsEarly}
use Rattle.dsp_cli.specs.Fault.{status_of}
use Rattle.dsp_cli.specs.Run.{HasText, HasBlocks, IsDone, IsAnswer}
use Rattle.dsp_cli.specs.Perform.{ReadsAs}
use Rattle.dsp_cli.specs.Script.{ReadsBytes, IfScript, IfState, chosen, chosen_block, is_legal_for, named_by}
use Rattle.dsp_cli.specs.declared.fault.Fault.{Fault}
use Rattle.dsp_cli.specs.declared.fault.Fault.TheVariants.{Usage, ScriptRead, Script as BadText, BlockLength, Memory}
use Rattle.dsp_cli.specs.declared.fault.Fault.TheVariants.{Stream, State, Part, Conversion, Comparison}
use Rattle.dsp_cli.proofs.Endings.{ends_in}
use Rattle.dsp_cli.proofs.StateTold.{IfState-always, told_state, told_good, told_no_state}
use Rattle.dsp_cli.proofs.StatusLaws.{block_legal, legal_not, conversion_status, length_answers, reports_done}
use Rattle.dsp_cli.proofs.StatusLaws.{any_answers, source_answers, part_status, comparison_status, stream_answers}
use Rattle.dsp_cli.proofs.StopLaws.{gen_reads, gen_faulty}
use Rattle.dsp_cli.proofs.Told.{IfScript-always, IfSome-always, IfSome-map, told_script, told_sound, told_faulty}
use Rattle.dsp_cli.proofs.Told.{told_illegal}

module _ (c : Call) (status : ℕ) (report told : SinkState) where
  -- ---- which statuses come

  own : {command : Option Command} (n : ℕ) → command_of c.words ≡ command → IsAnswer command n →
      IsAnswer (command_of c.words) n
  own n is may = subst (λ command. IsAnswer command n) (sym is) may

  stop_answers : (fault : Fault) → Happened (Stopped fault) c → IsAnswer (command_of c.words) (status_of fault)
  stop_answers Usage happened = own 1 happened.0.0 refl
  stop_answers ScriptRead happened = source_answers (command_of c.words) 6 happened.0.0 (inl refl)
  stop_answers (BadText fault) happened = any_answers (command_of c.words) 2 happened.0.0 (inl refl)
  stop_answers (BlockLength block divisor) (OfText blocks read, untouched) = length_answers (command_of c.words) blocks
  stop_answers (BlockLength block divisor) (OfState is read, untouched) = own 3 is (grind arith)
  stop_answers Memory happened = source_answers (command_of c.words) 10 happened.0 (inr refl)
  stop_answers (State kind offset) (OfBytes is read, untouched) = own 13 is (grind arith)
  stop_answers (State kind offset) (OfScript at is read, untouched) = own 13 is (grind arith)
  stop_answers (Part fault) (InFirst script at stop) =
      own (status_of (Part fault)) stop.asked (grind (arith, part_status fault))
  stop_answers (Part fault) (InRest script stop) =
      own (status_of (Part fault)) stop.asked (grind (arith, part_status fault))
  stop_answers (Conversion fault) stop = own (status_of (Conversion fault)) stop.asked (inr (conversion_status fault))
  stop_answers (Comparison fault) (script, stop) =
      own (status_of (Comparison fault)) stop.asked (grind (arith, comparison_status fault))
  stop_answers (Stream (Header fault offset)) (script, stop) =
      stream_answers c.words 4 stop.stream (omega arith) (grind arith)
      (λ gen. absurd (gen_faulty c script stop.read.holds.fit.channels gen stop.now stop.did.given (fault, offset)
      stop.did.gave stop.did.cause))
  stop_answers (Stream Input) (script, stop) =
      stream_answers c.words 7 stop.stream (omega arith) (grind arith)
      (λ gen. absurd (gen_reads c script stop.read.holds.fit.channels gen stop.now stop.reading stop.did.faults.0))
  stop_answers (Stream (Lengths fault)) (script, stop) =
      stream_answers c.words 5 stop.stream (omega arith) (grind arith) (λ _. grind arith)
  stop_answers (Stream Output) (script, stop) =
      stream_answers c.words 8 stop.stream (omega arith) (grind arith) (λ _. grind arith)

  pub answer_by : (ending : Ending) → Happened ending c → Reported ending status report told →
      IsAnswer (command_of c.words) status
  answer_by (Went script frames found) went reported =
      let done : IsDone status = reports_done reported in
      stream_answers c.words status went.stream (omega (arith, done)) (grind (arith, done)) (λ _. grind (arith, done))
  answer_by (Printed script) printed reported = own status printed.0 (inl (reports_done reported))
  answer_by (Turned totals) turned reported = own status turned.asked (inl (reports_done reported))
  answer_by (Saved script at x) saved reported =
      (let done : IsDone status = reports_done reported in own status saved.asked (grind (arith, done)))
  answer_by (Resumed script frames found) resumed reported =
      (let done : IsDone status = reports_done reported in own status resumed.asked (grind (arith, done)))
  answer_by (Checked script size) checked reported =
      (let done : IsDone status = reports_done reported in own status checked.asked (grind (arith, done)))
  answer_by (Stopped fault) happened reported = subst (IsAnswer (command_of c.words)) (sym reported.0)
      (stop_answers fault happened)

  -- ---- where they must come

  abbrev Faulty : Type 0
  Faulty = IfSome c.source.left (λ text. IsSome (first_fault text) → EndsEarly 2 status)

  always_faulty : EndsEarly 2 status → Faulty
  always_faulty ends = IfSome-always c.source.left _ (λ _ _. ends)

  sound : {script : Script} → ReadsAs c.source c.read script → Faulty
  sound read = told_sound c.source c.read _ (EndsEarly 2 status) read

  pub faulty_by : (ending : Ending) → Happened ending c → Reported ending status report told →
      HasText (command_of c.words) → Faulty
  faulty_by (Went script frames found) went reported text = sound went.read
  faulty_by (Printed script) printed reported text = sound printed.1
  faulty_by (Saved script at x) saved reported text = sound saved.read
  faulty_by (Resumed script frames found) resumed reported text = absurd (subst HasText resumed.asked text)
  faulty_by (Turned totals) turned reported text = absurd (subst HasText turned.asked text)
  faulty_by (Checked script size) checked reported text = sound checked.read
  faulty_by (Stopped Usage) happened reported text = absurd (subst HasText happened.0.0 text)
  faulty_by (Stopped ScriptRead) happened reported text = always_faulty (inr (inl reported.0))
  faulty_by (Stopped (BadText fault)) happened reported text = always_faulty (inl reported.0)
  faulty_by (Stopped (BlockLength block divisor)) (OfText blocks read, untouched) reported text =
      sound (record { text = read.text; read = read.read; holds = read.holds.1 })
  faulty_by (Stopped (BlockLength block divisor)) (OfState go read, untouched) reported text =
      absurd (subst HasText go text)
  faulty_by (Stopped Memory) happened reported text = always_faulty (inr (inr reported.0))
  faulty_by (Stopped (State kind offset)) (OfBytes go read, untouched) reported text = absurd (subst HasText go text)
  faulty_by (Stopped (State kind offset)) (OfScript at stop read, untouched) reported text =
      sound (record { text = read.text; read = read.read; holds = read.holds.1 })
  faulty_by (Stopped (Stream fault)) (script, stop) reported text = sound stop.read
  faulty_by (Stopped (Part fault)) (InFirst script at stop) reported text = sound stop.read
  faulty_by (Stopped (Part fault)) (InRest script stop) reported text = absurd (subst HasText stop.asked text)
  faulty_by (Stopped (Conversion fault)) stop reported text = absurd (subst HasText stop.asked text)
  faulty_by (Stopped (Comparison fault)) (script, stop) reported text = sound stop.read

  abbrev IllegalEnds : Script → Type 0
  IllegalEnds s = IsFalse (is_legal_for s (chosen_block c.words s)) → EndsEarly 3 status

  always_illegal : EndsEarly 3 status → IfScript c.source.left IllegalEnds
  always_illegal ends = IfScript-always c.source.left IllegalEnds (λ _ _. ends)

  legal : {command : Option Command} → command_of c.words ≡ command → {script : Script} →
      ReadsAs c.source c.read script → IsTrue (is_legal_for script (chosen (named_by command) script)) →
      IfScript c.source.left IllegalEnds
  legal is read good = told_script c.source c.read _ IllegalEnds read
      (λ illegal. absurd (legal_not (block_legal c.words is _ good) illegal))

  pub illegal_by : (ending : Ending) → Happened ending c → Reported ending status report told →
      HasBlocks (command_of c.words) → IfScript c.source.left IllegalEnds
  illegal_by (Went script frames found) went reported blocks = legal refl went.read went.legal
  illegal_by (Printed script) printed reported blocks = absurd (subst HasBlocks printed.0 blocks)
  illegal_by (Saved script at x) saved reported blocks = legal saved.asked saved.read saved.legal
  illegal_by (Resumed script frames found) resumed reported blocks = absurd (subst HasBlocks resumed.asked blocks)
  illegal_by (Turned totals) turned reported blocks = absurd (subst HasBlocks turned.asked blocks)
  illegal_by (Checked script size) checked reported blocks = legal checked.asked checked.read checked.legal
  illegal_by (Stopped Usage) happened reported blocks = absurd (subst HasBlocks happened.0.0 blocks)
  illegal_by (Stopped ScriptRead) happened reported blocks = always_illegal (inr (inl reported.0))
  illegal_by (Stopped (BadText fault)) happened reported blocks =
      told_faulty c.source c.read fault IllegalEnds happened.0.1
  illegal_by (Stopped (BlockLength block divisor)) happened reported blocks = always_illegal (inl reported.0)
  illegal_by (Stopped Memory) happened reported blocks = always_illegal (inr (inr reported.0))
  illegal_by (Stopped (State kind offset)) (OfBytes go read, untouched) reported blocks =
      absurd (subst HasBlocks go blocks)
  illegal_by (Stopped (State kind offset)) (OfScript at stop read, untouched) reported blocks =
      let (script, reads, good, long, kind_is, offset_is) = read.holds in
      legal stop (record { text = read.text; read = read.read; holds = reads }) good
  illegal_by (Stopped (Stream fault)) (script, stop) reported blocks = legal refl stop.read stop.legal
  illegal_by (Stopped (Part fault)) (InFirst script at stop) reported blocks = legal stop.asked stop.read stop.legal
  illegal_by (Stopped (Part fault)) (InRest script stop) reported blocks = absurd (subst HasBlocks stop.asked blocks)
  illegal_by (Stopped (Conversion fault)) stop reported blocks = absurd (subst HasBlocks stop.asked blocks)
  illegal_by (Stopped (Comparison fault)) (script, stop) reported blocks = legal stop.asked stop.read stop.legal

  -- ---- a state

  abbrev HasBadState : Type 0
  HasBadState = IfSome c.source.left (λ bytes. (kind : StateKind) (offset : ℕ) → HasStateFault kind offset bytes →
      EndsEarly 13 status)

  bad_always : EndsEarly 13 status → HasBadState
  bad_always ends = IfSome-always c.source.left _ (λ _ _ _ _. ends)

  bad_never : (script : Script) (at : ℕ) (numbers : List ℤ) →
      ReadsBytes c.source c.read (λ bytes. IsState bytes script at numbers) → HasBadState
  bad_never script at numbers read =
      IfSome-map c.source.left _ _ (λ bytes good kind offset fault. absurd (good kind offset fault))
      (told_good c.source c.read script at numbers read)

  pub bad_state_by : (ending : Ending) → Happened ending c → Reported ending status report told →
      command_of c.words ≡ Some Go → HasBadState
  bad_state_by (Resumed script frames found) resumed reported go =
      bad_never script resumed.at resumed.numbers resumed.read
  bad_state_by (Stopped ScriptRead) happened reported go = bad_always (inr (inl reported.0))
  bad_state_by (Stopped (BlockLength block divisor)) (OfState is read, untouched) reported go =
      let (script, at, numbers, state, illegal, block_is, unit_is) = read.holds in
      bad_never script at numbers (record { text = read.text; read = read.read; holds = state })
  bad_state_by (Stopped (State kind offset)) happened reported go = bad_always (inl reported.0)
  bad_state_by (Stopped Memory) happened reported go = bad_always (inr (inr reported.0))
  bad_state_by (Stopped (Part fault)) (InRest script stop) reported go = bad_never script stop.at stop.numbers stop.read
  bad_state_by ending happened reported go = absurd (ends_in c ending happened go)

  abbrev IllegalState : Script → ℕ → List ℤ → Type 0
  IllegalState s at numbers = IsFalse (is_legal_for s (chosen None s)) → EndsEarly 3 status

  legal_state : (script : Script) (at : ℕ) (numbers : List ℤ) →
      ReadsBytes c.source c.read (λ bytes. IsState bytes script at numbers)
      → IsTrue (is_legal_for script (chosen None script)) → IfState c.source.left IllegalState
  legal_state script at numbers read legal = told_state c.source c.read script at numbers IllegalState read
      (λ illegal. absurd (legal_not legal illegal))

  pub illegal_state_by : (ending : Ending) → Happened ending c → Reported ending status report told →
      command_of c.words ≡ Some Go → IfState c.source.left IllegalState
  illegal_state_by (Resumed script frames found) resumed reported go =
      legal_state script resumed.at resumed.numbers resumed.read resumed.legal
  illegal_state_by (Stopped ScriptRead) happened reported go =
      IfState-always c.source.left IllegalState (λ _ _ _ _. inr (inl reported.0))
  illegal_state_by (Stopped (BlockLength block divisor)) happened reported go =
      IfState-always c.source.left IllegalState (λ _ _ _ _. inl reported.0)
  illegal_state_by (Stopped (State kind offset)) (OfBytes is read, untouched) reported go =
      told_no_state c.source c.read kind offset IllegalState read
  illegal_state_by (Stopped Memory) happened reported go =
      IfState-always c.source.left IllegalState (λ _ _ _ _. inr (inr reported.0))
  illegal_state_by (Stopped (Part fault)) (InRest script stop) reported go =
      legal_state script stop.at stop.numbers stop.read stop.legal
  illegal_state_by ending happened reported go = absurd (ends_in c ending happened go)

  -- ---- a text that is too long for a state

  abbrev LongEnds : Script → Type 0
  LongEnds s = IsTrue (is_legal_for s (chosen None s)) → MAX_SCRIPT < length (canon s) → EndsEarly 13 status

  short_ends : (script : Script) → ReadsAs c.source c.read script →
      length (canon script) ≤ MAX_SCRIPT → IfScript c.source.left LongEnds
  short_ends script read short = told_script c.source c.read script LongEnds read
      (λ legal long. absurd (omega (arith, short, long)))

  pub long_by : (ending : Ending) → Happened ending c → Reported ending status report told → (at : ℕ) →
      command_of c.words ≡ Some (Stop at) → IfScript c.source.left LongEnds
  long_by (Saved script frames x) saved reported at stop = short_ends script saved.read saved.short
  long_by (Stopped ScriptRead) happened reported at stop =
      IfScript-always c.source.left LongEnds (λ _ _ _. inr (inl reported.0))
  long_by (Stopped (BadText fault)) happened reported at stop = told_faulty c.source c.read fault LongEnds happened.0.1
  long_by (Stopped (BlockLength block divisor)) (OfText blocks read, untouched) reported at stop =
      told_illegal c stop block divisor read LongEnds (λ s illegal legal long. absurd (legal_not legal illegal))
  long_by (Stopped (State kind offset)) happened reported at stop =
      IfScript-always c.source.left LongEnds (λ _ _ _. inl reported.0)
  long_by (Stopped Memory) happened reported at stop =
      IfScript-always c.source.left LongEnds (λ _ _ _. inr (inr reported.0))
  long_by (Stopped (Part fault)) (InFirst script frames first) reported at stop =
      short_ends script first.read first.short
  long_by ending happened reported at stop = absurd (ends_in c ending happened stop)
