-- The clauses of the top call on checks, from how it ended.
use Rattle.std.proofs.Common.{◌≡◌, ◌⊎◌, ℕ, List, sym, ap, ◌∙◌, inl, inr, None, Some, IfSome, IsTrue}
use Rattle.dsp_ports.specs.Ports.{SinkState}
use Rattle.dsp_defs.specs.Output.{input_header, output}
use Rattle.dsp_command.specs.Words.{command_of}
use Rattle.dsp_command.specs.declared.command.Command.TheVariants.{Check}
use Rattle.dsp_defs.specs.declared.script.Script.{Script}
use Rattle.dsp_input.proofs.InputLaws.{output_stays}
use Rattle.dsp_check.specs.Check.{IsFree as IsCheckable}
use Rattle.dsp_check.specs.declared.fault.CheckFault.{CheckFault}
use Rattle.dsp_session.specs.Session.{IsReady}
use Rattle.dsp_session.proofs.OpeningLaws.{some_frame}
use Rattle.dsp_cli.specs.Call.{Call, Ending, Checked, Stopped, OfText, Checks, Happened, Reported}
use Rattle.dsp_cli.specs.Causes.{Judges, NoneFailed}
use Rattle.dsp_cli.specs.Script.{IfScript, chosen, is_legal_for}
use Rattle.dsp_cli.specs.declared.fault.Fault.TheVariants.{ScriptRead, Script as BadText, BlockLength, Memory}
use Rattle.dsp_cli.specs.declared.fault.Fault.TheVariants.{Comparison}
use Rattle.dsp_cli.proofs.CheckTold.{stop_ends}
use Rattle.dsp_cli.proofs.Endings.{ends_in}
use Rattle.dsp_cli.proofs.ReportLaws.{rose, reported_zero}
use Rattle.dsp_cli.proofs.StatusLaws.{legal_not}
use Rattle.dsp_cli.proofs.Told.{IfSome-always, IfSome-each, IfSome-map, told_whole, told_split, told_script}
use Rattle.dsp_cli.proofs.Told.{told_faulty, told_illegal}

-- the script was read, and may be checked
pub ready_of : (c : Call) (script : Script) (Did : Type 0) → Checks script Did c → IsReady script (chosen None script)
ready_of c script Did checks = record { sound = (checks.read.text, checks.read.holds); legal = checks.legal }

module _ (c : Call) (status : ℕ) (report told : SinkState) where
  -- ---- what was done

  -- the ports tell a script, its input and a file, and P holds of them
  abbrev IfTold : (Script → List ℕ → List ℕ → Type 0) → Type 0
  IfTold P = IfScript c.source.left (λ s. IfSome c.port.left (λ bytes. IfSome c.other.left (P s bytes)))

  pub same_by : (script : Script) (size : ℕ) → Happened (Checked script size) c →
      IfTold (λ s bytes file. file ≡ output s bytes)
  same_by script size checked =
      let did = checked.did in
      let some = some_frame script (input_header script did.given).coding (chosen None script)
      (ready_of c script _ checked) in
      let whole = told_whole c.other.left c.seen.left (output script did.given) did.all.gave.front did.all.end in
      told_script c.source c.read script (λ s. IfSome c.port.left
      (λ bytes. IfSome c.other.left (λ file. file ≡ output s bytes))) checked.read
      (IfSome-each c.port.left _ (λ bytes is_told.
      let (more, left, all) = told_split _ c.later.left did.given bytes did.gave.front is_told in
      let same : output script bytes ≡ output script did.given = ap (output script) all ∙
      output_stays script did.given more did.has some c.later left did.whole in
      IfSome-map c.other.left _ (λ file. file ≡ output script bytes) (λ file is. is ∙ sym same) whole))

  -- ---- what must not come

  abbrev Judged : Script → List ℕ → List ℕ → Type 0
  Judged s bytes file =
      IsTrue (is_legal_for s (chosen None s)) → IsCheckable s bytes → NoneFailed c report told →
      Judges (file ≡ output s bytes) status ⊎ (status ≡ 10)

  always : ((s : Script) (bytes file : List ℕ) → Judged s bytes file) → IfTold Judged
  always each = IfSome-always c.source.left _ (λ _ s _. IfSome-always c.port.left _
      (λ bytes. IfSome-always c.other.left _ (each s bytes)))

  went_judged : (script : Script) (size : ℕ) → Happened (Checked script size) c →
      Reported (Checked script size) status report told → IfTold Judged
  went_judged script size checked reported =
      IfSome-map c.source.left _ _ (λ text all s reads.
      IfSome-map c.port.left _ _ (λ bytes here.
      IfSome-map c.other.left _ (Judged s bytes) (λ file same legal free none. inl
      (inl (same, reported_zero reported none.report_kept))) here) (all s reads))
      (same_by script size checked)

  stop_judged : (fault : CheckFault) → Happened (Stopped (Comparison fault)) c →
      Reported (Stopped (Comparison fault)) status report told → IfTold Judged
  stop_judged fault (script, stop) reported =
      told_script c.source c.read script (λ s. IfSome c.port.left (λ bytes. IfSome c.other.left (Judged s bytes)))
      stop.read
      (IfSome-each c.port.left _ (λ bytes is_told. IfSome-each c.other.left (Judged script bytes)
      (λ file file_told legal free none.
      elim (stop_ends script (chosen None script) (ready_of c script _ stop) stop.read.holds.fit.channels.0 c.port
      c.later c.other c.seen c.before c.counts fault stop.did bytes file is_told file_told free) [
        | inl risen ↦ absurd (none.input_kept risen)
        | inr (inl risen) ↦ absurd (none.other_kept risen)
        | inr (inr (inl ten)) ↦ inr (reported.0 ∙ ten)
        | inr (inr (inr (eleven, not))) ↦ inl (inr (not, reported.0 ∙ eleven))
      ])))

  pub judged_by : (ending : Ending) → Happened ending c → Reported ending status report told →
      command_of c.words ≡ Some Check → IfTold Judged
  judged_by (Checked script size) checked reported check = went_judged script size checked reported
  judged_by (Stopped ScriptRead) happened reported check =
      always (λ _ _ _ _ _ none. absurd (none.script_kept (rose _ _ happened.0.1)))
  judged_by (Stopped (BadText fault)) happened reported check =
      told_faulty c.source c.read fault (λ s. IfSome c.port.left (λ bytes. IfSome c.other.left (Judged s bytes)))
      happened.0.1
  judged_by (Stopped (BlockLength block divisor)) (OfText blocks read, untouched) reported check =
      told_illegal c check block divisor read
      (λ s. IfSome c.port.left (λ bytes. IfSome c.other.left (Judged s bytes)))
      (λ s illegal. IfSome-always c.port.left _ (λ bytes. IfSome-always c.other.left (Judged s bytes)
      (λ file legal free none. absurd (legal_not legal illegal))))
  judged_by (Stopped Memory) happened reported check = always (λ _ _ _ _ _ _. inr reported.0)
  judged_by (Stopped (Comparison fault)) stop reported check = stop_judged fault stop reported
  judged_by ending happened reported check = absurd (ends_in c ending happened check)
