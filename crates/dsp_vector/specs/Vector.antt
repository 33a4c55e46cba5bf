-- The blocks of this crate.
use Rattle.dsp_defs.specs.declared.script.Block.{Block}
use Rattle.dsp_defs.specs.declared.script.Block.TheVariants.{Offset, Negate, Abs, Scale, Shift, Clip, To, Add, Sub}
use Rattle.dsp_defs.specs.declared.script.Block.TheVariants.{Mult, Route}
use Rattle.dsp_vector.specs.declared.operation.Operation.{Operation}
use Rattle.dsp_vector.specs.declared.operation.Operation.TheVariants as operation

-- the block whose work it does
abbrev pub block_of : Operation → Block
block_of (operation.Offset value) = Offset value
block_of operation.Negate = Negate
block_of operation.Abs = Abs
block_of (operation.Scale fract shift) = Scale fract shift
block_of (operation.Shift shift) = Shift shift
block_of (operation.Clip low high) = Clip low high
block_of (operation.To format) = To format
block_of operation.Add = Add
block_of operation.Sub = Sub
block_of operation.Mult = Mult
block_of (operation.Route channels) = Route channels

-- the block is one of this crate's
abbrev pub IsVectorBlock : Block → Type 0
IsVectorBlock (Offset value) = Unit {0}
IsVectorBlock Negate = Unit {0}
IsVectorBlock Abs = Unit {0}
IsVectorBlock (Scale fract shift) = Unit {0}
IsVectorBlock (Shift shift) = Unit {0}
IsVectorBlock (Clip low high) = Unit {0}
IsVectorBlock (To format) = Unit {0}
IsVectorBlock Add = Unit {0}
IsVectorBlock Sub = Unit {0}
IsVectorBlock Mult = Unit {0}
IsVectorBlock (Route channels) = Unit {0}
IsVectorBlock _ = ⊥
