use Rattle.std.proofs.Common.{◌≡◌, ◌<◌, ◌≤◌, [], ℕ, get_or, take}
use Rattle.dsp_check.proofs.signal.cut_back.Given as goal

-- the channels before this one are cut, and the others are as they were
abbrev pub invariant-loop-channel : goal.invariant-loop-channel
invariant-loop-channel l = record {
  before : (k : ℕ) → k < l.channel-index → get_or l.channels k [] ≡ take l.n (get_or l.fn.channels k []);
  behind : (k : ℕ) → l.channel-index ≤ k → get_or l.channels k [] ≡ get_or l.fn.channels k [];
}
