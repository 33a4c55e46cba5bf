use Rattle.std.proofs.Common.{ℕ, ◌≡◌, ◌-◌, ◌*◌, ◌≤◌, length, take, map}
use Rattle.dsp_defs.specs.Elementwise.{scale}
use Rattle.dsp_defs.specs.Counts.{Rises}
use Rattle.dsp_lanes.specs.Turns.{RisesWithin}
use Rattle.dsp_lanes.proofs.lanes.Lanes.scale.Given as goal

abbrev pub invariant-doubles : goal.invariant-doubles
invariant-doubles g l = record {
  within : l.at ≤ length l.out;
  done : take l.at (map g.T.Sample.number l.out) ≡ map (scale g.T.Sample.format (g.T.Sample.number l.factor) l.places)
      (take l.at (map g.T.Sample.number l.a));
  counted : (k : ℕ) × (k * g.row.L ≡ l.at) × RisesWithin l.fn.steps l.steps (1 * l.at) (1 * k);
}

abbrev pub decreases-doubles : goal.decreases-doubles
decreases-doubles g l = length l.out - l.at

abbrev pub invariant-groups : goal.invariant-groups
invariant-groups g l = record {
  within : l.at ≤ length l.out;
  done : take l.at (map g.T.Sample.number l.out) ≡ map (scale g.T.Sample.format (g.T.Sample.number l.factor) l.places)
      (take l.at (map g.T.Sample.number l.a));
  counted : (k : ℕ) × (k * g.row.L ≡ l.at) × RisesWithin l.fn.steps l.steps (1 * l.at) (1 * k);
}

abbrev pub decreases-groups : goal.decreases-groups
decreases-groups g l = length l.out - l.at

abbrev pub invariant-rest : goal.invariant-rest
invariant-rest g l = record {
  within : l.at ≤ length l.out;
  started : l.initial.at ≤ l.at;
  done : take l.at (map g.T.Sample.number l.out) ≡ map (scale g.T.Sample.format (g.T.Sample.number l.factor) l.places)
      (take l.at (map g.T.Sample.number l.a));
  counted : Rises l.initial.steps l.steps (1 * (l.at - l.initial.at)) (1 * (l.at - l.initial.at));
}

abbrev pub decreases-rest : goal.decreases-rest
decreases-rest g l = length l.out - l.at
