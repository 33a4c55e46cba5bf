use Rattle.dsp_bank.proofs.Groups.{four-set}
use Rattle.dsp_bank.proofs.past.put_four.Goals as goal

pub returns : goal.returns
returns g c =
    four-set g.T.Sample.number c.args.out.now c.args.first c.args.second c.args.third c.args.fourth c.requires
