use Rattle.std.proofs.Common.{◌≡◌, map, take}
use Rattle.dsp_c.proofs.program.split_words.Given as goal

abbrev pub invariant-loop-part : goal.invariant-loop-part
invariant-loop-part l = l.words ≡ map (λ x. x.now) (take l.part-index l.part-items)
