use Rattle.dsp_chain.specs.Chain.{input_place}
use Rattle.dsp_chain.proofs.Making.{Making}
use Rattle.dsp_chain.proofs.chain.Chain.made.Given as goal

abbrev pub invariant-loop-block : goal.invariant-loop-block
invariant-loop-block g l =
    Making l.fn.banked (input_place l.fn.script l.fn.block)
    (record { format = l.flow.format; channels = l.flow.channels; capacity = l.frames }) l.blocks l.block-index
    l.links.items
