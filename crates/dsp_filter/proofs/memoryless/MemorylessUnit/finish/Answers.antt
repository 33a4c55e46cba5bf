use Rattle.std.proofs.Common.{refl}
use Rattle.dsp_unit.proofs.MemorylessLaws.{no-output, idle-finishes}
use Rattle.dsp_filter.proofs.memoryless.MemorylessUnit.finish.Goals as goal

pub returns-clause-output : goal.returns-clause-output
returns-clause-output g c = no-output c.args.self.now _

pub returns-clause-finished : goal.returns-clause-finished
returns-clause-finished g c =
    rw (← c.self.view_is)
    (idle-finishes _ _ c.args._steps.now (record {
      block = refl;
      format = refl;
      channels = refl;
      capacity =
          refl;
      banked = refl;
    }) refl refl refl refl)
