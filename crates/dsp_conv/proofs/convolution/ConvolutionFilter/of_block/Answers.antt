use Rattle.std.proofs.Common.{◌≡◌, ◌∙◌, ◌≤◌, ap, sym, subst, ℕ, ℤ, List, Result, Ok, Err, length, map}
use Rattle.std.specs.Prelude.{All, FitsSigned, IfOk}
use Rattle.dsp_defs.specs.Formats.{word}
use Rattle.dsp_defs.specs.declared.format.Fmt.{Fmt}
use Rattle.dsp_defs.specs.declared.script.Block.{Block}
use Rattle.dsp_defs.specs.declared.script.Block.TheVariants as block
use Rattle.dsp_unit.specs.Filter.{IsNewFilter}
use Rattle.dsp_conv.specs.declared.extent.Extent.{Extent}
use Rattle.dsp_conv.specs.Extent.{block_of}
use Rattle.dsp_conv.specs.ConvState.{ConvState, conv_channel, new_conv}
use Rattle.dsp_conv.specs.ByChannel.{HasExtent, IsConvBlock, IsConvIn, taps_of}
use Rattle.dsp_conv.proofs.ChannelLemmas.{are-taps, new-channel}
use Rattle.dsp_conv.proofs.convolution.ConvolutionFilter.of_block.Goals as goal

-- such a block is one of this crate's, and gives what it says
of-crate : (format : Fmt) (block : Block) → IsConvIn format block → IsConvBlock block
of-crate format (block.Conv taps) is = tt
of-crate format (block.ConvPartial first count taps) is = tt
of-crate format block is = absurd is

has-extent : (format : Fmt) (block : Block) → IsConvIn format block → HasExtent block
has-extent format (block.Conv taps) is = tt
has-extent format (block.ConvPartial first count taps) is = tt
has-extent format block is = absurd is

pub taps_of-requires : goal.taps_of-requires
taps_of-requires g c = of-crate g.T.Sample.format c.args.block.now c.requires.block

pub samples_of-requires : goal.samples_of-requires
samples_of-requires g c =
    let format = g.T.Sample.format in
    subst (λ l. All (FitsSigned (word format)) l) (sym c.taps_of.ensures)
    (are-taps format c.args.block.now c.requires.block).2

pub of_block-requires : goal.of_block-requires
of_block-requires g c = has-extent g.T.Sample.format c.args.block.now c.requires.block

-- a new convolution is a new filter
new-filter :
    {X E : Type 0} (view : X → ConvState) (e : Extent) (taps : List ℤ) (capacity : ℕ) (r : Result X E) →
    IfOk r (λ f. view f ≡ new_conv e taps capacity) →
    (format : Fmt) (block : Block) → block_of e taps ≡ block → 1 ≤ capacity → 1 ≤ length taps →
    IfOk r (λ f. IsNewFilter block format capacity (conv_channel format (view f)))
new-filter view e taps capacity (Ok f) made format block is some filled =
    subst (λ (s : ConvState). IsNewFilter block format capacity (conv_channel format s)) (sym made)
    (subst (λ (b : Block). IsNewFilter b format capacity (conv_channel format (new_conv e taps capacity))) is
    (new-channel format e taps capacity some filled))
new-filter view e taps capacity (Err fault) made format block is some filled = tt

pub returns : goal.returns
returns g c =
    let T = g.T.Sample in
    let given : map T.number c.deref.result.now ≡ taps_of c.args.block.now = ap (map T.number) c.deref.ensures.value ∙
    c.in_ok-taps.ensures ∙ c.taps_of.ensures in
    let filled = subst (λ l. 1 ≤ length l) (sym given) (are-taps T.format c.args.block.now c.requires.block).0 in
    new-filter _ c.of_block.result (map T.number c.deref.result.now) c.args.capacity c.of_taps.result
    c.of_taps.ensures.made T.format c.args.block.now (ap (block_of c.of_block.result) given ∙ c.of_block.ensures)
    c.requires.some filled
