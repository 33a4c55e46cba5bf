use Rattle.std.proofs.Common.{ap, sym, refl, ◌∙◌, subst, Some}
use Rattle.dsp_cli.specs.Call.{Printed, Turned}
use Rattle.dsp_cli.specs.Run.{HasSource}
use Rattle.dsp_cli.proofs.Asking.{draws_nothing, draws_of}
use Rattle.dsp_cli.proofs.WordLaws.{gen_makes_few}
use Rattle.dsp_cli.proofs.PerformLaws.{run_went, run_stops, gen_went, gen_stops, check_went, check_stops, first_ran}
use Rattle.dsp_cli.proofs.PerformLaws.{err_of, first_stops, rest_ran, rest_stops}
use Rattle.dsp_cli.proofs.top.perform.Goals as goal

pub returns-in_default-clause-err : goal.returns-in_default-clause-err
returns-in_default-clause-err g c = (
  (sym c.command.ensures ∙ c.in_default.is, refl),
  record
      { input_same = refl; output_same = refl; other_same = refl; counts_same = refl },
)

pub generate-requires-clause-few : goal.generate-requires-clause-few
generate-requires-clause-few g c = gen_makes_few c.args.words.now _ _ (sym c.in-Some.ensures ∙ ap Some c.in-Gen.is)

pub returns-in-Ok-clause-ok : goal.returns-in-Ok-clause-ok
returns-in-Ok-clause-ok g c =
    record {
      ending = Turned c.in-Ok.totals;
      happened = record {
        direction = c.in-Convert.direction;
        asked = sym c.in-Some.ensures ∙ ap Some c.in-Convert.is;
        did = c.in-Ok.ensures.ok;
        spared = record { script_same = refl; other_same = refl; counts_same = refl };
      };
      whole = tt;
      text_is = c.converted_report.ensures;
    }

pub returns-in-Convert-clause-err : goal.returns-in-Convert-clause-err
returns-in-Convert-clause-err g c =
    record {
      direction = c.in-Convert.direction;
      asked = sym c.in-Some.ensures ∙ ap Some c.in-Convert.is;
      did = c.in-Err.ensures.err;
      spared = record { script_same = refl; other_same = refl; counts_same = refl };
    }

pub returns-in-Ok-print-clause-ok : goal.returns-in-Ok-print-clause-ok
returns-in-Ok-print-clause-ok g c =
    record {
      ending = Printed c.in_ok-script-in-Print.script;
      happened = (
        sym c.in-Some.ensures ∙ ap Some c.in-Print.is,
        c.in_ok-script-in-Print.ensures.ok,
        record { input_same = refl; output_same = refl; other_same = refl; counts_same = refl },
      );
      whole = tt;
      text_is = c.in-Ok-print.ensures;
    }

pub returns-in-Print-clause-err : goal.returns-in-Print-clause-err
returns-in-Print-clause-err g c = (
  subst HasSource (sym (sym c.in-Some.ensures ∙ ap Some c.in-Print.is)) tt,
  record { input_same = refl; output_same = refl; other_same = refl; counts_same = refl },
)

pub returns-in-Run-clause-ok : goal.returns-in-Run-clause-ok
returns-in-Run-clause-ok g c =
    run_went _ _ _ _ _ _ _ _ _ _ _ c.in_ok-script-in-Run.ensures.ok _ _ (sym c.in-Some.ensures ∙ ap Some c.in-Run.is)
    _ c.in_ok-summary-in-Run.ensures.ok

pub returns-in_err-summary-in-Run-clause-err : goal.returns-in_err-summary-in-Run-clause-err
returns-in_err-summary-in-Run-clause-err g c =
    err_of _ _ c.from_residual-in_err-summary-in-Run.ensures.1
    (run_stops _ _ _ _ _ _ _ _ _ _ _ c.in_ok-script-in-Run.ensures.ok _ _
    (sym c.in-Some.ensures ∙ ap Some c.in-Run.is) _ c.in_err-summary-in-Run.ensures.err)

pub returns-in-Gen-clause-ok : goal.returns-in-Gen-clause-ok
returns-in-Gen-clause-ok g c =
    gen_went _ _ _ _ _ _ _ _ _ _ c.in_ok-script-in-Gen.ensures.ok _ _ (sym c.in-Some.ensures ∙ ap Some c.in-Gen.is) _
    c.in_ok-summary-in-Gen.ensures.ok

pub returns-in_err-summary-in-Gen-clause-err : goal.returns-in_err-summary-in-Gen-clause-err
returns-in_err-summary-in-Gen-clause-err g c =
    err_of _ _ c.from_residual-in_err-summary-in-Gen.ensures.1
    (gen_stops _ _ _ _ _ _ _ _ _ _ c.in_ok-script-in-Gen.ensures.ok _ _ (sym c.in-Some.ensures ∙ ap Some c.in-Gen.is)
    _ c.in_err-summary-in-Gen.ensures.err)

pub returns-in-Stop-clause-ok : goal.returns-in-Stop-clause-ok
returns-in-Stop-clause-ok g c =
    first_ran _ _ _ _ _ _ _ _ _ _ _ c.in_ok-script-in-Stop.ensures.ok _ (sym c.in-Some.ensures ∙ ap Some c.in-Stop.is)
    _ c.in_ok-state-in-Stop.ensures.ok

pub returns-in_err-state-in-Stop-clause-err : goal.returns-in_err-state-in-Stop-clause-err
returns-in_err-state-in-Stop-clause-err g c =
    err_of _ _ c.from_residual-in_err-state-in-Stop.ensures.1
    (first_stops _ _ _ _ _ _ _ _ _ _ _ c.in_ok-script-in-Stop.ensures.ok _
    (sym c.in-Some.ensures ∙ ap Some c.in-Stop.is) _ c.in_err-state-in-Stop.ensures.err)

pub returns-in-Go-clause-ok : goal.returns-in-Go-clause-ok
returns-in-Go-clause-ok g c =
    rest_ran _ _ _ _ _ _ _ _ _ _ _ c.in_ok-saved-in-Go.ensures.ok (sym c.in-Some.ensures ∙ ap Some c.in-Go.is) _
    c.in_ok-summary-in-Go.ensures.ok

pub returns-in_err-summary-in-Go-clause-err : goal.returns-in_err-summary-in-Go-clause-err
returns-in_err-summary-in-Go-clause-err g c =
    err_of _ _ c.from_residual-in_err-summary-in-Go.ensures.1
    (rest_stops _ _ _ _ _ _ _ _ _ _ _ c.in_ok-saved-in-Go.ensures.ok (sym c.in-Some.ensures ∙ ap Some c.in-Go.is) _
    c.in_err-summary-in-Go.ensures.err)

pub returns-clause-ok : goal.returns-clause-ok
returns-clause-ok g c =
    rw c.same_report.ensures
    (check_went _ _ _ _ _ _ _ _ _ _ _ c.in_ok-script-in-Check.ensures.ok
    (sym c.in-Some.ensures ∙ ap Some c.in-Check.is) _ c.in_ok-size-in-Check.ensures.ok)

pub returns-in_err-size-in-Check-clause-err : goal.returns-in_err-size-in-Check-clause-err
returns-in_err-size-in-Check-clause-err g c =
    err_of _ _ c.from_residual-in_err-size-in-Check.ensures.1
    (check_stops _ _ _ _ _ _ _ _ _ _ _ c.in_ok-script-in-Check.ensures.ok
    (sym c.in-Some.ensures ∙ ap Some c.in-Check.is) _ c.in_err-size-in-Check.ensures.err)

-- what was asked of the port of the script
pub returns-in_default-clause-asks : goal.returns-in_default-clause-asks
returns-in_default-clause-asks g c = draws_nothing _ _ _ _

pub returns-in-Ok-clause-asks : goal.returns-in-Ok-clause-asks
returns-in-Ok-clause-asks g c = draws_nothing _ _ _ _

pub returns-in-Convert-clause-asks : goal.returns-in-Convert-clause-asks
returns-in-Convert-clause-asks g c = draws_nothing _ _ _ _

pub returns-in_err-script-in-Print-clause-asks : goal.returns-in_err-script-in-Print-clause-asks
returns-in_err-script-in-Print-clause-asks g c =
    draws_of _ c.in-Some.ensures c.in-Print.is refl c.load_script.ensures.asks

pub returns-in-Ok-print-clause-asks : goal.returns-in-Ok-print-clause-asks
returns-in-Ok-print-clause-asks g c = draws_of _ c.in-Some.ensures c.in-Print.is refl c.load_script.ensures.asks

pub returns-in-Print-clause-asks : goal.returns-in-Print-clause-asks
returns-in-Print-clause-asks g c = draws_of _ c.in-Some.ensures c.in-Print.is refl c.load_script.ensures.asks

pub returns-in_err-script-in-Run-clause-asks : goal.returns-in_err-script-in-Run-clause-asks
returns-in_err-script-in-Run-clause-asks g c =
    draws_of _ c.in-Some.ensures c.in-Run.is refl c.load_script-in-Run.ensures.asks

pub returns-in_err-summary-in-Run-clause-asks : goal.returns-in_err-summary-in-Run-clause-asks
returns-in_err-summary-in-Run-clause-asks g c =
    draws_of _ c.in-Some.ensures c.in-Run.is refl c.load_script-in-Run.ensures.asks

pub returns-in-Run-clause-asks : goal.returns-in-Run-clause-asks
returns-in-Run-clause-asks g c = draws_of _ c.in-Some.ensures c.in-Run.is refl c.load_script-in-Run.ensures.asks

pub returns-in_err-script-in-Stop-clause-asks : goal.returns-in_err-script-in-Stop-clause-asks
returns-in_err-script-in-Stop-clause-asks g c =
    draws_of _ c.in-Some.ensures c.in-Stop.is refl c.load_script-in-Stop.ensures.asks

pub returns-in_err-state-in-Stop-clause-asks : goal.returns-in_err-state-in-Stop-clause-asks
returns-in_err-state-in-Stop-clause-asks g c =
    draws_of _ c.in-Some.ensures c.in-Stop.is refl c.load_script-in-Stop.ensures.asks

pub returns-in-Stop-clause-asks : goal.returns-in-Stop-clause-asks
returns-in-Stop-clause-asks g c = draws_of _ c.in-Some.ensures c.in-Stop.is refl c.load_script-in-Stop.ensures.asks

pub returns-in_err-saved-in-Go-clause-asks : goal.returns-in_err-saved-in-Go-clause-asks
returns-in_err-saved-in-Go-clause-asks g c = draws_of _ c.in-Some.ensures c.in-Go.is refl c.load_state.ensures.asks

pub returns-in_err-summary-in-Go-clause-asks : goal.returns-in_err-summary-in-Go-clause-asks
returns-in_err-summary-in-Go-clause-asks g c = draws_of _ c.in-Some.ensures c.in-Go.is refl c.load_state.ensures.asks

pub returns-in-Go-clause-asks : goal.returns-in-Go-clause-asks
returns-in-Go-clause-asks g c = draws_of _ c.in-Some.ensures c.in-Go.is refl c.load_state.ensures.asks

pub returns-in_err-script-in-Gen-clause-asks : goal.returns-in_err-script-in-Gen-clause-asks
returns-in_err-script-in-Gen-clause-asks g c =
    draws_of _ c.in-Some.ensures c.in-Gen.is refl c.load_script-in-Gen.ensures.asks

pub returns-in_err-summary-in-Gen-clause-asks : goal.returns-in_err-summary-in-Gen-clause-asks
returns-in_err-summary-in-Gen-clause-asks g c =
    draws_of _ c.in-Some.ensures c.in-Gen.is refl c.load_script-in-Gen.ensures.asks

pub returns-in-Gen-clause-asks : goal.returns-in-Gen-clause-asks
returns-in-Gen-clause-asks g c = draws_of _ c.in-Some.ensures c.in-Gen.is refl c.load_script-in-Gen.ensures.asks

pub returns-in_err-script-in-Check-clause-asks : goal.returns-in_err-script-in-Check-clause-asks
returns-in_err-script-in-Check-clause-asks g c =
    draws_of _ c.in-Some.ensures c.in-Check.is refl c.load_script-in-Check.ensures.asks

pub returns-in_err-size-in-Check-clause-asks : goal.returns-in_err-size-in-Check-clause-asks
returns-in_err-size-in-Check-clause-asks g c =
    draws_of _ c.in-Some.ensures c.in-Check.is refl c.load_script-in-Check.ensures.asks

pub returns-clause-asks : goal.returns-clause-asks
returns-clause-asks g c = draws_of _ c.in-Some.ensures c.in-Check.is refl c.load_script-in-Check.ensures.asks
