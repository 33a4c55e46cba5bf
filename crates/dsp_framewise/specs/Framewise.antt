-- Blocks that give a frame for each frame alone.
use Rattle.std.specs.Prelude.{ℕ}
use Rattle.dsp_defs.specs.declared.script.Block.{Block}
use Rattle.dsp_defs.specs.declared.script.Block.TheVariants.{Offset, Negate, Abs, Scale, Shift, Clip, To, Add, Sub}
use Rattle.dsp_defs.specs.declared.script.Block.TheVariants.{Mult, Conj, CmplxMult, CmplxMultReal, MagSquared, Power}
use Rattle.dsp_defs.specs.declared.script.Block.TheVariants.{Dot, CmplxDot, Max, Min, Route}

-- the block is one of these; a measure passes its frames on
abbrev pub IsFramewise : Block → Type 0
IsFramewise (Offset value) = Unit {0}
IsFramewise Negate = Unit {0}
IsFramewise Abs = Unit {0}
IsFramewise (Scale fract shift) = Unit {0}
IsFramewise (Shift shift) = Unit {0}
IsFramewise (Clip low high) = Unit {0}
IsFramewise (To format) = Unit {0}
IsFramewise Add = Unit {0}
IsFramewise Sub = Unit {0}
IsFramewise Mult = Unit {0}
IsFramewise Conj = Unit {0}
IsFramewise CmplxMult = Unit {0}
IsFramewise CmplxMultReal = Unit {0}
IsFramewise MagSquared = Unit {0}
IsFramewise Power = Unit {0}
IsFramewise Dot = Unit {0}
IsFramewise CmplxDot = Unit {0}
IsFramewise Max = Unit {0}
IsFramewise Min = Unit {0}
IsFramewise (Route channels) = Unit {0}
IsFramewise _ = ⊥

-- the products of one sample
abbrev pub sample_price : Block → ℕ
sample_price (Scale fract shift) = 1
sample_price Mult = 1
sample_price CmplxMult = 2
sample_price CmplxMultReal = 1
sample_price MagSquared = 2
sample_price _ = 0
