use Rattle.std.proofs.Common.{◌≡◌, ◌+◌, ◌*◌, ◌<◌, ℕ, length, nat_abs}
use Rattle.dsp_defs.specs.Signal.{sample}
use Rattle.dsp_vector.proofs.routes.route_frames.Given as goal

-- the channels so far are written
abbrev pub invariant-loop-to : goal.invariant-loop-to
invariant-loop-to l = (n c : ℕ) → n < l.count → c < l.to →
    sample l.out (n * length l.list + c) ≡ sample l.frames (n * l.channels + nat_abs (sample l.list c))
