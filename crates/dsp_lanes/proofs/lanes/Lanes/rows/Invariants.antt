use Rattle.std.proofs.Common.{ℕ, ◌≡◌, ◌+◌, ◌-◌, ◌*◌, ◌≤◌, ◌*ℤ◌, length, take, map}
use Rattle.dsp_defs.specs.Formats.{close}
use Rattle.dsp_defs.specs.Signal.{sample, sum_below, values}
use Rattle.dsp_defs.specs.Counts.{Rises}
use Rattle.dsp_lanes.specs.Turns.{RisesWithin}
use Rattle.dsp_lanes.proofs.lanes.Lanes.rows.Given as goal

abbrev pub invariant-quads : goal.invariant-quads
invariant-quads g l = record {
  within : l.at ≤ length l.out;
  done : take l.at (map g.T.Sample.number l.out) ≡ values l.at
      (λ i. close g.T.Sample.format (sum_below (length l.taps)
      (λ j. sample (map g.T.Sample.number l.taps) j *ℤ sample (map g.T.Sample.number l.window) (i + j))));
  counted : (k : ℕ) × (k * g.row.L ≡ l.at) × RisesWithin l.fn.steps l.steps (length l.taps * l.at) (length l.taps * k);
}

abbrev pub decreases-quads : goal.decreases-quads
decreases-quads g l = length l.out - l.at

abbrev pub invariant-doubles : goal.invariant-doubles
invariant-doubles g l = record {
  within : l.at ≤ length l.out;
  done : take l.at (map g.T.Sample.number l.out) ≡ values l.at
      (λ i. close g.T.Sample.format (sum_below (length l.taps)
      (λ j. sample (map g.T.Sample.number l.taps) j *ℤ sample (map g.T.Sample.number l.window) (i + j))));
  counted : (k : ℕ) × (k * g.row.L ≡ l.at) × RisesWithin l.fn.steps l.steps (length l.taps * l.at) (length l.taps * k);
}

abbrev pub decreases-doubles : goal.decreases-doubles
decreases-doubles g l = length l.out - l.at

abbrev pub invariant-groups : goal.invariant-groups
invariant-groups g l = record {
  within : l.at ≤ length l.out;
  done : take l.at (map g.T.Sample.number l.out) ≡ values l.at
      (λ i. close g.T.Sample.format (sum_below (length l.taps)
      (λ j. sample (map g.T.Sample.number l.taps) j *ℤ sample (map g.T.Sample.number l.window) (i + j))));
  counted : (k : ℕ) × (k * g.row.L ≡ l.at) × RisesWithin l.fn.steps l.steps (length l.taps * l.at) (length l.taps * k);
}

abbrev pub decreases-groups : goal.decreases-groups
decreases-groups g l = length l.out - l.at

abbrev pub invariant-rest : goal.invariant-rest
invariant-rest g l = record {
  within : l.at ≤ length l.out;
  started : l.initial.at ≤ l.at;
  done : take l.at (map g.T.Sample.number l.out) ≡ values l.at
      (λ i. close g.T.Sample.format (sum_below (length l.taps)
      (λ j. sample (map g.T.Sample.number l.taps) j *ℤ sample (map g.T.Sample.number l.window) (i + j))));
  counted : Rises l.initial.steps l.steps (length l.taps * (l.at - l.initial.at))
      (length l.taps * (l.at - l.initial.at));
}

abbrev pub decreases-rest : goal.decreases-rest
decreases-rest g l = length l.out - l.at
