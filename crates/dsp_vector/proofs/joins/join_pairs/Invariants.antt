use Rattle.std.proofs.Common.{◌≡◌, ◌+◌, ◌*◌, take, All, FitsSigned}
use Rattle.dsp_defs.specs.Counts.{Rises}
use Rattle.dsp_defs.specs.Formats.{word}
use Rattle.dsp_defs.specs.Signal.{sample, values}
use Rattle.dsp_vector.proofs.joins.join_pairs.Given as goal

-- the frames so far are written
abbrev pub invariant-loop-n : goal.invariant-loop-n
invariant-loop-n g l = record {
  values : take l.n l.out ≡ values l.n (λ n. g.O.Join.value (sample l.samples (n * 2)) (sample l.samples (n * 2 + 1)));
  fits : All (FitsSigned (word g.T.Sample.format)) (take l.n l.out);
  steps : Rises l.fn.steps l.steps (l.n * g.O.Join.price) (l.n * g.O.Join.price);
}
