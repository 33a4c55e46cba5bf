use Rattle.std.proofs.Common.{◌≡◌, ◌-◌, length}
use Rattle.dsp_library_tests.proofs.bank.feed_pieces.Given as goal

-- the bank is for rows and blocks as before
abbrev pub invariant-loop-at : goal.invariant-loop-at
invariant-loop-at g l = (l.bank.channels ≡ l.row) × (l.bank.capacity ≡ 7)
    × (length l.bank.kept ≡ length l.initial.bank.kept)

abbrev pub decreases-loop-at : goal.decreases-loop-at
decreases-loop-at g l = length l.frames - l.at
