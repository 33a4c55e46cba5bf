use Rattle.std.proofs.Common.{◌≡◌, ◌+◌, ◌-◌, ◌*◌, ◌++◌, ℤ, List, [], length, map, take}
use Rattle.dsp_defs.specs.Streaming.{last_of}
use Rattle.dsp_lanes.specs.Turns.{RisesWithin}
use Rattle.dsp_adapt.specs.LmsState.{Adapts, first_pairs, inputs_of}
use Rattle.dsp_adapt.proofs.adapting.adapt_block.Given as goal

-- the samples so far are those that the filter gives, and are counted
abbrev pub invariant-loop-i : goal.invariant-loop-i
invariant-loop-i g l = record {
  adapts :
      (taps inputs : List ℤ) (x : List (ℤ × ℤ)) → length taps ≡ length l.initial.weights →
      length inputs ≡ length l.references → map g.T.Sample.number l.window ≡ last_of (length taps - 1) (inputs_of x)
      ++ inputs →
      Adapts g.T.Sample.format l.post_shift (g.T.Sample.number l.mu) taps x []
      (map g.T.Sample.number l.initial.weights) [] [] →
      Adapts g.T.Sample.format l.post_shift (g.T.Sample.number l.mu) taps x
      (first_pairs l.i inputs (map g.T.Sample.number l.references)) (map g.T.Sample.number l.weights)
      (map g.T.Sample.number (take l.i l.outputs)) (map g.T.Sample.number (take l.i l.errors));
  counted : RisesWithin l.initial.steps l.steps (l.i * (2 * length l.initial.weights + 1))
      (l.i * (2 * length l.initial.weights + 1));
}
