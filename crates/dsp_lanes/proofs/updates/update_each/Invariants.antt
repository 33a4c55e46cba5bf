use Rattle.std.proofs.Common.{ℕ, ◌≡◌, ◌-◌, ◌*◌, ◌≤◌, length, take, drop, map}
use Rattle.std.specs.Simd.Lanes.{zip2}
use Rattle.dsp_defs.specs.Counts.{Rises}
use Rattle.dsp_lanes.specs.Turns.{RisesWithin}
use Rattle.dsp_lanes.proofs.updates.update_each.Given as goal

abbrev pub invariant-doubles : goal.invariant-doubles
invariant-doubles g l = record {
  within : l.at ≤ length l.slots;
  left : drop l.at (map g.U.Update.number l.slots) ≡ drop l.at (map g.U.Update.number l.fn.slots);
  done : take l.at (map g.U.Update.number l.slots) ≡ zip2 (g.U.Update.next l.factor)
      (take l.at (map g.U.Update.number l.fn.slots)) (take l.at (map g.T.Sample.number l.window));
  counted : (k : ℕ) × (k * l.size ≡ l.at) × RisesWithin l.fn.steps l.steps (1 * l.at) (1 * k);
}

abbrev pub decreases-doubles : goal.decreases-doubles
decreases-doubles g l = length l.slots - l.at

abbrev pub invariant-groups : goal.invariant-groups
invariant-groups g l = record {
  within : l.at ≤ length l.slots;
  left : drop l.at (map g.U.Update.number l.slots) ≡ drop l.at (map g.U.Update.number l.fn.slots);
  done : take l.at (map g.U.Update.number l.slots) ≡ zip2 (g.U.Update.next l.factor)
      (take l.at (map g.U.Update.number l.fn.slots)) (take l.at (map g.T.Sample.number l.window));
  counted : (k : ℕ) × (k * l.size ≡ l.at) × RisesWithin l.fn.steps l.steps (1 * l.at) (1 * k);
}

abbrev pub decreases-groups : goal.decreases-groups
decreases-groups g l = length l.slots - l.at

abbrev pub invariant-rest : goal.invariant-rest
invariant-rest g l = record {
  within : l.at ≤ length l.slots;
  started : l.initial.at ≤ l.at;
  left : drop l.at (map g.U.Update.number l.slots) ≡ drop l.at (map g.U.Update.number l.fn.slots);
  done : take l.at (map g.U.Update.number l.slots) ≡ zip2 (g.U.Update.next l.factor)
      (take l.at (map g.U.Update.number l.fn.slots)) (take l.at (map g.T.Sample.number l.window));
  counted : Rises l.initial.steps l.steps (1 * (l.at - l.initial.at)) (1 * (l.at - l.initial.at));
}

abbrev pub decreases-rest : goal.decreases-rest
decreases-rest g l = length l.slots - l.at
