-- Of more frames no fewer are gathered.
use Rattle.std.proofs.Common.{ℕ, ◌≤◌, List, [], ◌∷◌, arith}
use Rattle.dsp_defs.specs.Shape.{whole_frames, gathered}
use Rattle.dsp_defs.specs.declared.script.Block.{Block}
use Rattle.dsp_defs.specs.declared.script.Block.TheVariants.{Correlate}
use Rattle.dsp_unit.proofs.TurnLaws.{whole_frames_more}

pub gathered_more : (blocks : List Block) (n m : ℕ) → n ≤ m → gathered blocks n ≤ gathered blocks m
gathered_more [] n m h = omega arith
gathered_more (Correlate taps ∷ blocks) n m h = h
gathered_more (block ∷ blocks) n m h = gathered_more blocks (whole_frames block n) (whole_frames block m)
    (whole_frames_more block n m h)
