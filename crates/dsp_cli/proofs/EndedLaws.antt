-- The clauses of the top call, from how it ended.
use Rattle.std.proofs.Common.{ℕ, List, subst, Result, Ok, Err, IfOk, IfErr}
use Rattle.dsp_ports.specs.Ports.{SinkState}
use Rattle.dsp_cli.specs.Call.{Call, Ending, Stopped, Happened, Reported, Ended, text_of}
use Rattle.dsp_cli.specs.Causes.{Causes, Completes}
use Rattle.dsp_cli.specs.Fault.{summary_text}
use Rattle.dsp_cli.specs.Perform.{IsWhole, Made, Performed, HasStatus}
use Rattle.dsp_cli.specs.Run.{ReportsText}
use Rattle.dsp_cli.specs.declared.fault.Fault.{Fault}
use Rattle.dsp_cli.specs.declared.top.Outcome.{Outcome}
use Rattle.dsp_cli.specs.declared.top.Outcome.TheVariants as outcome
use Rattle.dsp_cli.proofs.CheckLaws as check
use Rattle.dsp_cli.proofs.CauseLaws as cause
use Rattle.dsp_cli.proofs.CompleteLaws as complete

module _ (c : Call) (status : ℕ) (report told : SinkState) where
  -- ---- how it ended

  reported_by : (ending : Ending) → IsWhole ending → ReportsText (text_of ending) status report told →
      Reported ending status report told
  reported_by (Stopped fault) whole has = absurd whole
  reported_by ending whole has = has

  made_ended : (text : List ℕ) → Made text c → ReportsText text status report told → Ended c status report told
  made_ended text made has =
      record {
        ending = made.ending;
        happened = made.happened;
        reported = reported_by made.ending made.whole (subst (λ text. ReportsText text status report told)
            made.text_is has);
      }

  pub ended : (result : Result Outcome Fault) → IfOk result (λ done. Performed done c) →
      IfErr result (λ fault. Happened (Stopped fault) c) → HasStatus result status report told →
      Ended c status report told
  ended (Ok (outcome.Ran summary)) made none has = made_ended (summary_text summary) made has
  ended (Ok (outcome.Printed text)) made none has = made_ended text.items made has
  ended (Ok (outcome.Noted text)) made none has = made_ended text.items made has
  ended (Err fault) none happened has = record { ending = Stopped fault; happened = happened; reported = has }

  -- ---- the clauses

  module _ (end : Ended c status report told) where
    pub causes : Causes c status
    causes = record {
      answer = cause.answer_by c status report told end.ending end.happened end.reported;
      faulty = cause.faulty_by c status report told end.ending end.happened end.reported;
      illegal = cause.illegal_by c status report told end.ending end.happened end.reported;
      bad_state = cause.bad_state_by c status report told end.ending end.happened end.reported;
      illegal_state = cause.illegal_state_by c status report told end.ending end.happened end.reported;
      long = cause.long_by c status report told end.ending end.happened end.reported;
    }

    pub completes : Completes c status report told
    completes = record {
      runs = complete.runs_by c status report told end.ending end.happened end.reported;
      prints = complete.prints_by c status report told end.ending end.happened end.reported;
      stops = complete.stops_by c status report told end.ending end.happened end.reported;
      goes = complete.goes_by c status report told end.ending end.happened end.reported;
      converts = complete.turns_by c status report told end.ending end.happened end.reported;
      checks = check.judged_by c status report told end.ending end.happened end.reported;
    }
