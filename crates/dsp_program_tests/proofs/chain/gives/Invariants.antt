use Rattle.std.proofs.Common.{◌≡◌, ◌<◌, ◌≤◌, false, vec_len}
use Rattle.dsp_unit.specs.Line.{place_room}
use Rattle.dsp_chain.specs.Chain.{output_of, input_place}
use Rattle.dsp_program_tests.proofs.chain.gives.Given as goal

abbrev pub invariant-loop-piece : goal.invariant-loop-piece
invariant-loop-piece g l =
    (goal.iterator-loop-piece g).can_next l.piece-iterator
    × (goal.iterator-loop-piece g).is_finite l.piece-iterator
    × (l.chain.ended ≡ false)
    × (l.chain.input ≡ input_place l.fn.script l.fn.block)
    × (place_room (output_of l.chain) ≤ vec_len l.out)
    × (l.chain.frames ≡ l.taken)
    × (l.taken < 100)
