use Rattle.dsp_filter.proofs.memoryless.MemorylessUnit.restore.Goals as goal

pub returns : goal.returns
returns g c = c.keeps_nothing.ensures.restores c.args._numbers.now c.requires.running c.requires.fits
