-- The blocks of this crate.
use Rattle.dsp_defs.specs.declared.script.Block.{Block}
use Rattle.dsp_defs.specs.declared.script.Block.TheVariants.{Conj, CmplxMult, CmplxMultReal, MagSquared}
use Rattle.dsp_complex.specs.declared.operation.Operation.{Operation}
use Rattle.dsp_complex.specs.declared.operation.Operation.TheVariants as operation

-- the block whose work it does
abbrev pub block_of : Operation → Block
block_of operation.Conj = Conj
block_of operation.CmplxMult = CmplxMult
block_of operation.CmplxMultReal = CmplxMultReal
block_of operation.MagSquared = MagSquared

-- the block is one of this crate's
abbrev pub IsComplexBlock : Block → Type 0
IsComplexBlock Conj = Unit {0}
IsComplexBlock CmplxMult = Unit {0}
IsComplexBlock CmplxMultReal = Unit {0}
IsComplexBlock MagSquared = Unit {0}
IsComplexBlock _ = ⊥
