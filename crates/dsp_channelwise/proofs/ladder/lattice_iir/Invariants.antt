use Rattle.std.proofs.Common.{◌≡◌, ◌+◌, ◌*◌, ◌≤◌, ℤ, List, [], take, reverse, get_or, length}
use Rattle.std.specs.Prelude.{All, FitsSigned, map}
use Rattle.dsp_defs.specs.Formats.{word}
use Rattle.dsp_defs.specs.Lattice.{ladder_close, ladder_output, ladder_sum}
use Rattle.dsp_defs.specs.Signal.{outputs}
use Rattle.dsp_channelwise.proofs.ladder.lattice_iir.Given as goal

-- the lists so far are summed, and the newest of them is kept
abbrev pub invariant-loop-n : goal.invariant-loop-n
invariant-loop-n g l = record {
  values : l.y.items ≡ map (λ (w : List ℤ). ladder_close l.format (ladder_sum l.v w))
      (outputs (ladder_output l.format l.k) (take l.n l.x));
  newest : l.g.items ≡ get_or (reverse (outputs (ladder_output l.format l.k) (take l.n l.x))) 0 [];
  fits : All (FitsSigned (word l.format)) l.y.items;
  products : l.steps.multiplies ≤ l.initial.steps.multiplies + l.n * (length l.k * 2 + length l.v);
}
