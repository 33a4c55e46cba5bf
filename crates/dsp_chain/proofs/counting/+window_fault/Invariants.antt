use Rattle.std.proofs.Common.{length}
use Rattle.dsp_chain.proofs.counting.+window_fault.Given as goal

abbrev pub decreases-window_fault : goal.decreases-window_fault
decreases-window_fault g l = length l.links.now
