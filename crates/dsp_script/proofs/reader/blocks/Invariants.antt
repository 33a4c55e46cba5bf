use Rattle.std.proofs.Common.{◌≡◌, ◌<◌, ◌^◌, false}
use Rattle.dsp_defs.specs.declared.limits.TheConstants.{MAX_BLOCKS}
use Rattle.dsp_defs.specs.Grammar.{input_flow}
use Rattle.dsp_defs.specs.Reading.{blocks_at}
use Rattle.dsp_script.proofs.Loops.{with_blocks}
use Rattle.dsp_script.proofs.reader.blocks.Given as goal

abbrev pub invariant-loop-blocks : goal.invariant-loop-blocks
invariant-loop-blocks l = (l.flow.channels < 2 ^ 8)
    × (with_blocks l.blocks (blocks_at l.lists.tables l.left l.correlated l.flow l.cursor) ≡ blocks_at
    l.fn.lists.tables MAX_BLOCKS false (input_flow l.fn.input) l.initial.cursor)

abbrev pub decreases-loop-blocks : goal.decreases-loop-blocks
decreases-loop-blocks l = l.left
