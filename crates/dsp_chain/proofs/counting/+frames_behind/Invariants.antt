use Rattle.std.proofs.Common.{length}
use Rattle.dsp_chain.proofs.counting.+frames_behind.Given as goal

abbrev pub decreases-frames_behind : goal.decreases-frames_behind
decreases-frames_behind g l = length l.links.now
