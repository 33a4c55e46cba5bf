use Rattle.dsp_fir.proofs.DelayLemmas.{delays-few, delays-some}
use Rattle.dsp_fir.proofs.making.check_delays.Goals as goal

pub returns-clause-some : goal.returns-clause-some
returns-clause-some c = delays-some c.args.delays.now

pub returns-clause-few : goal.returns-clause-few
returns-clause-few c = delays-few c.args.delays.now c.loop-delay.delay-index c.loop-delay-test.false
    c.loop-delay.invariant
