-- How the ports were asked, from how the top call ended.
use Rattle.std.proofs.Common.{◌≡◌, ap, subst, Some, Option, inl, inr, List, ℕ}
use Rattle.dsp_ports.specs.Ports.{SourceState, SinkState, Put, IsInOrder}
use Rattle.dsp_defs.specs.declared.format.Input.{Input}
use Rattle.dsp_command.specs.Words.{command_of}
use Rattle.dsp_command.specs.declared.command.Command.{Command}
use Rattle.dsp_command.specs.declared.command.Command.TheVariants.{Gen}
use Rattle.dsp_check.specs.Check.{HasCompared}
use Rattle.dsp_check.specs.declared.fault.CheckFault.{CheckFault}
use Rattle.dsp_check.specs.declared.fault.CheckFault.TheVariants as check_fault
use Rattle.dsp_cli.specs.Asking.{AsksInOrder}
use Rattle.dsp_cli.specs.Call.{Call, Ending, Went, Printed, Saved, Resumed, Turned, Checked, Stopped, InFirst, InRest}
use Rattle.dsp_cli.specs.Call.{Happened, Reported, Untouched}
use Rattle.dsp_cli.specs.Run.{IsReading, ReportsText, Wrote, read_from}
use Rattle.dsp_cli.specs.declared.fault.Fault.TheVariants.{Stream, Part, Conversion, Comparison}

-- a source that was left alone
same_order : (old new : SourceState) → new ≡ old → IsInOrder old new
same_order old new same _ = ap (λ (s : SourceState). s.strayed) same

-- a sink that was left alone, and one that accepted some bytes
same_put : (old new : SinkState) → new ≡ old → new.put.strayed ≡ old.put.strayed
same_put old new same = ap (λ (s : SinkState). s.put.strayed) same

more_put : (old new : SinkState) (bytes : List ℕ) → Wrote bytes old new → new.put.strayed ≡ old.put.strayed
more_put old new bytes wrote = ap (λ (put : Put). put.strayed) wrote

-- what a command reads is its port, or the port was left alone
reading_order : (command : Option Command) (input : Input) (port later now : SourceState)
    → IsReading command port later now → IsInOrder (read_from command input port) now → IsInOrder port later
reading_order (Some (Gen seed frames)) input port later now reading order = same_order port later reading.0
reading_order command input port later now reading order = subst (IsInOrder port) reading order

-- what was read of the file that is checked
compared_order : (fault : CheckFault) (wanted : List ℕ) (other seen : SourceState) → HasCompared fault wanted other seen
    → IsInOrder other seen
compared_order (check_fault.Differs offset) wanted other seen compared = compared.gave.in_order
compared_order check_fault.Other wanted other seen compared = compared.gave.in_order
compared_order fault wanted other seen compared = same_order other seen compared

-- what was reported
text_put : (text : List ℕ) (status : ℕ) (report told : SinkState) → ReportsText text status report told →
    told.put.strayed ≡ report.put.strayed
text_put text status report told (inl (zero, clean, wrote, settled)) = more_put report told text wrote
text_put text status report told (inr (nine, risen, tells)) = more_put report told _ tells.put

reported_put : (ending : Ending) (status : ℕ) (report told : SinkState) → Reported ending status report told →
    told.put.strayed ≡ report.put.strayed
reported_put (Stopped fault) status report told reported = more_put report told _ reported.1.put
reported_put ending status report told reported = text_put _ status report told reported

module _ (c : Call) (report told : SinkState) (reported : told.put.strayed ≡ report.put.strayed) where
  untouched_order : Untouched c → AsksInOrder c report told
  untouched_order untouched = record {
    of_input = same_order c.port c.later untouched.input_same;
    of_other = same_order c.other c.seen untouched.other_same;
    of_output = same_put c.sink c.after untouched.output_same;
    of_report = reported;
  }

  happened_order : (ending : Ending) → Happened ending c → AsksInOrder c report told
  happened_order (Went script frames found) went = record {
    of_input = reading_order (command_of c.words) script.input c.port c.later went.now went.reading
        went.did.gave.in_order;
    of_other = same_order c.other c.seen went.other_same;
    of_output = more_put c.sink c.after _ went.did.put;
    of_report = reported;
  }
  happened_order (Printed script) printed = untouched_order printed.2
  happened_order (Saved script at x) saved = let (session, _, _, done, is) = saved.did in record {
    of_input = done.gave.in_order;
    of_other = same_order c.other c.seen saved.other_same;
    of_output = more_put c.sink c.after _ done.put;
    of_report = reported;
  }
  happened_order (Resumed script frames found) goes = record {
    of_input = goes.did.gave.in_order;
    of_other = same_order c.other c.seen goes.other_same;
    of_output = more_put c.sink c.after _ goes.did.put;
    of_report = reported;
  }
  happened_order (Turned totals) turned = record {
    of_input = turned.did.gave.in_order;
    of_other = same_order c.other c.seen turned.spared.other_same;
    of_output = more_put c.sink c.after _ turned.did.put;
    of_report = reported;
  }
  happened_order (Checked script size) checked = record {
    of_input = checked.did.gave.in_order;
    of_other = checked.did.all.gave.in_order;
    of_output = same_put c.sink c.after checked.output_same;
    of_report = reported;
  }
  happened_order (Stopped (Conversion fault)) turned = record {
    of_input = turned.did.gave.in_order;
    of_other = same_order c.other c.seen turned.spared.other_same;
    of_output = more_put c.sink c.after _ turned.did.put;
    of_report = reported;
  }
  happened_order (Stopped (Comparison fault)) (script, checked) = record {
    of_input = checked.did.gave.in_order;
    of_other = compared_order fault _ c.other c.seen checked.did.compared;
    of_output = same_put c.sink c.after checked.output_same;
    of_report = reported;
  }
  happened_order (Stopped (Stream fault)) (script, went) = record {
    of_input = reading_order (command_of c.words) script.input c.port c.later went.now went.reading
        went.did.gave.in_order;
    of_other = same_order c.other c.seen went.other_same;
    of_output = more_put c.sink c.after _ went.did.put;
    of_report = reported;
  }
  happened_order (Stopped (Part fault)) (InFirst script at first) = record {
    of_input = first.did.gave.in_order;
    of_other = same_order c.other c.seen first.other_same;
    of_output = more_put c.sink c.after _ first.did.put;
    of_report = reported;
  }
  happened_order (Stopped (Part fault)) (InRest script rest) = record {
    of_input = rest.did.gave.in_order;
    of_other = same_order c.other c.seen rest.other_same;
    of_output = more_put c.sink c.after _ rest.did.put;
    of_report = reported;
  }
  happened_order (Stopped fault) happened = untouched_order happened.1

pub order_by : (c : Call) (status : ℕ) (report told : SinkState) (ending : Ending) → Happened ending c →
    Reported ending status report told → AsksInOrder c report told
order_by c status report told ending happened reported =
    happened_order c report told (reported_put ending status report told reported) ending happened
