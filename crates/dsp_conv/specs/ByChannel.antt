-- The blocks whose filters are convolutions and correlations.
use Rattle.std.specs.Prelude.{⊤, ℤ, List, []}
use Rattle.dsp_filter.specs.Making.{AreTaps}
use Rattle.dsp_defs.specs.declared.format.Fmt.{Fmt}
use Rattle.dsp_defs.specs.declared.script.Block.{Block}
use Rattle.dsp_defs.specs.declared.script.Block.TheVariants.{Conv, ConvPartial, Correlate}

-- the block is one of this crate's
abbrev pub IsConvBlock : Block → Type 0
IsConvBlock (Conv taps) = ⊤
IsConvBlock (ConvPartial first count taps) = ⊤
IsConvBlock (Correlate taps) = ⊤
IsConvBlock block = ⊥

-- it is a convolution, or a part of one
abbrev pub HasExtent : Block → Type 0
HasExtent (Conv taps) = ⊤
HasExtent (ConvPartial first count taps) = ⊤
HasExtent block = ⊥

-- its taps
abbrev pub taps_of : Block → List ℤ
taps_of (Conv taps) = taps
taps_of (ConvPartial first count taps) = taps
taps_of (Correlate taps) = taps
taps_of _ = []

-- the block is a convolution, or a part of one
abbrev pub IsConvIn : Fmt → Block → Type 0
IsConvIn format (Conv taps) = AreTaps format taps
IsConvIn format (ConvPartial first count taps) = AreTaps format taps
IsConvIn format block = ⊥

-- ---- correlations

-- the block is a correlation
abbrev pub IsCorrelateIn : Fmt → Block → Type 0
IsCorrelateIn format (Correlate taps) = AreTaps format taps
IsCorrelateIn format block = ⊥
