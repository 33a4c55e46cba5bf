use Rattle.std.proofs.Common.{◌≡◌, drop}
use Rattle.dsp_defs.specs.Places.{judged}
use Rattle.dsp_script.proofs.places.judged.Given as goal

abbrev pub invariant-loop-count : goal.invariant-loop-count
invariant-loop-count l = judged l.rule l.count l.item.offset (drop l.count l.numbers) ≡ judged l.rule 0 l.item.offset
    l.numbers
