use Rattle.std.proofs.Common.{◌≡◌, ◌+◌, ◌*◌, map, take}
use Rattle.dsp_defs.specs.Signal.{sample, values}
use Rattle.dsp_adapt.proofs.pairs.split_pairs.Given as goal

-- the samples so far are read
abbrev pub invariant-loop-n : goal.invariant-loop-n
invariant-loop-n g l = record {
  left : take l.n (map g.T.Sample.number l.first) ≡ values l.n (λ n. sample l.frames (n * 2));
  right : take l.n (map g.T.Sample.number l.second) ≡ values l.n (λ n. sample l.frames (n * 2 + 1));
}
