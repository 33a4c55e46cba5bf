use Rattle.std.proofs.Common.{arith, rules, ◌∙◌, length-take-le}
use Rattle.std.proofs.lemmas.Grind.{common_steps}
use Rattle.dsp_ports.proofs.Moved.{Gave-append, Gave-asked, still_going}
use Rattle.dsp_cli.specs.Asking.{Read}
use Rattle.dsp_cli.proofs.Asking.{draws_all}
use Rattle.dsp_cli.proofs.script.read_whole.Goals as goal

pub returns-then-count-eq0-clause-asks : goal.returns-then-count-eq0-clause-asks
returns-then-count-eq0-clause-asks g c = search rules

pub returns-then-is_err-clause-asks : goal.returns-then-is_err-clause-asks
returns-then-is_err-clause-asks g c =
    let given = c.in-Ok.ensures in
    let asked = length-take-le c.min-want.result c.reading.chunk (search rules) in
    let long = length-take-le c.in-Ok.count c.read.new.into given.within in
    draws_all _ _ _ _ _ (Read _ _ _ c.reading.invariant.drawn (search rules)
    (omega (arith, asked, c.min-want.ensures, c.len.ensures, c.len-in-reading.ensures, c.reading.invariant.gave.count))
    given.asks
    (omega (arith, given.gave.count, long, c.if-count-eq0.false)))

pub reading-preserved : goal.reading-preserved
reading-preserved g c =
    let given = c.in-Ok.ensures in
    let long = length-take-le c.in-Ok.count c.read.new.into given.within in
    record {
      within = grind (arith, common_steps);
      gave = record {
        front = grind (arith, common_steps);
        count = grind (arith, common_steps);
        in_order = (Gave-append _ _ _ _ _ c.reading.invariant.going c.reading.invariant.gave
            (Gave-asked _ _ _ _ (search rules) given.gave)).in_order;
      };
      drawn = Read _ _ _ c.reading.invariant.drawn (search rules)
          (grind (arith, common_steps)) given.asks
          (omega (arith, given.gave.count, long, c.if-count-eq0.false));
      going = still_going _ _ c.in-Ok.count (omega (arith, c.if-count-eq0.false)) given.ended ∙
          c.reading.invariant.going;
      no_fault = given.faults ∙ c.reading.invariant.no_fault;
    }
