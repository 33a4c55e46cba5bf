use Rattle.std.proofs.Common.{◌≡◌, ℕ, ◌≤◌, ◌<◌, ◌-◌, true, length, get_or}
use Rattle.dsp_defs.specs.Token.{is_run_byte}
use Rattle.dsp_script.proofs.token.run_end.Given as goal

abbrev pub invariant-loop-at : goal.invariant-loop-at
invariant-loop-at l = record {
  least : l.from ≤ l.at;
  most : l.at ≤ length l.text;
  run : (k : ℕ) → l.from ≤ k → k < l.at → is_run_byte (get_or l.text k 0) ≡ true;
}

abbrev pub decreases-loop-at : goal.decreases-loop-at
decreases-loop-at l = length l.text - l.at
