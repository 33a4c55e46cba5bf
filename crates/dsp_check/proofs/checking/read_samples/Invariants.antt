use Rattle.std.proofs.Common.{◌≡◌, ◌-◌, length}
use Rattle.dsp_input.specs.Taking.{TakenSoFar}
use Rattle.dsp_check.proofs.checking.read_samples.Given as goal

-- the bytes so far are the first of the samples
abbrev pub invariant-reading : goal.invariant-reading
invariant-reading g l = record {
  so_far : TakenSoFar l.script l.header l.most l.bytes.items (g.S.Source.state l.fn.input) (g.S.Source.state l.input);
  going : (g.S.Source.state l.input).ended ≡ (g.S.Source.state l.fn.input).ended;
}

abbrev pub decreases-reading : goal.decreases-reading
decreases-reading g l = l.most - length l.bytes.items
