use Rattle.dsp_cli.proofs.AskedLaws as asked
use Rattle.dsp_cli.proofs.DoneLaws as did
use Rattle.dsp_cli.proofs.EndedLaws as laws
use Rattle.dsp_cli.proofs.top.run.Goals as goal

pub returns-clause-ended : goal.returns-clause-ended
returns-clause-ended g c = laws.ended _ _ _ _ c.perform-outcome.result c.perform-outcome.ensures.ok
    c.perform-outcome.ensures.err c.settle.ensures

pub returns-clause-done : goal.returns-clause-done
returns-clause-done g c =
    let end = returns-clause-ended g c in did.done_by _ _ _ _ end.ending end.happened end.reported

pub returns-clause-settled : goal.returns-clause-settled
returns-clause-settled g c =
    let end = returns-clause-ended g c in did.settled_by _ _ _ _ end.ending end.happened end.reported

pub returns-clause-untouched : goal.returns-clause-untouched
returns-clause-untouched g c =
    let end = returns-clause-ended g c in did.untouched_by _ _ _ _ end.ending end.happened end.reported

pub returns-clause-spared : goal.returns-clause-spared
returns-clause-spared g c = let end = returns-clause-ended g c in did.spared_by _ end.ending end.happened

pub returns-clause-counted : goal.returns-clause-counted
returns-clause-counted g c =
    let end = returns-clause-ended g c in did.counted_by _ _ _ _ end.ending end.happened end.reported

pub returns-clause-in_order : goal.returns-clause-in_order
returns-clause-in_order g c =
    let end = returns-clause-ended g c in asked.order_by _ _ _ _ end.ending end.happened end.reported

pub returns-clause-causes : goal.returns-clause-causes
returns-clause-causes g c = laws.causes _ _ _ _ (returns-clause-ended g c)

pub returns-clause-completes : goal.returns-clause-completes
returns-clause-completes g c = laws.completes _ _ _ _ (returns-clause-ended g c)
