-- What stands in the header of an output.
use Rattle.std.proofs.Common.{◌≡◌, ◌≢◌, ℕ, ◌≤◌, List, [], ◌∷◌, fold, refl}
use Rattle.dsp_defs.specs.Block.{channels_after}
use Rattle.dsp_defs.specs.Grammar.{IsChain, IsSound}
use Rattle.dsp_defs.specs.Output.{channels_of, format_of, known_frames, output_header, rate_of}
use Rattle.dsp_defs.specs.Table.{flow_after}
use Rattle.dsp_defs.specs.Wave.{wave_header}
use Rattle.dsp_defs.specs.declared.flow.Flow.{Flow}
use Rattle.dsp_defs.specs.declared.format.Container.{Container}
use Rattle.dsp_defs.specs.declared.format.Container.TheVariants as container
use Rattle.dsp_defs.specs.declared.limits.TheConstants.{MAX_CHANNELS}
use Rattle.dsp_defs.specs.declared.script.Block.{Block}
use Rattle.dsp_defs.specs.declared.script.Script.{Script}
use Rattle.dsp_defs.specs.declared.wave.Header.{Header}
use Rattle.dsp_unit.proofs.ChainPlaces.{few_channels_after}

channels_stay_few : (flow : Flow) (blocks : List Block) → IsChain flow blocks → flow.channels ≤ MAX_CHANNELS →
    fold channels_after flow.channels blocks ≤ MAX_CHANNELS
channels_stay_few flow [] chain few = few
channels_stay_few flow (block ∷ blocks) chain few = channels_stay_few (flow_after block flow) blocks chain.1
    (few_channels_after flow block chain.0 few)

pub few_channels : (script : Script) → IsSound script → channels_of script ≤ MAX_CHANNELS
few_channels script sound =
    let fit = sound.1.fit in
    channels_stay_few (record { format = script.input.format; channels = script.input.channels }) script.blocks
    fit.chain fit.channels.1

-- a choice of outputs with a header
pub headed_choice : (c : Container) (none all : List ℕ) → c ≢ container.Raw →
    elim c [ container.Raw ↦ none | _ ↦ all ] ≡ all
headed_choice container.Raw none all headed = absurd (headed refl)
headed_choice container.Wave none all headed = refl
headed_choice container.Wavex none all headed = refl

-- what stands before the samples of an output with a header
pub header_bytes : (script : Script) (header : Header) → script.output ≢ container.Raw →
    output_header script header ≡ wave_header script.output (format_of script) (channels_of script)
    (rate_of script header.rate) (known_frames script header)
header_bytes script header headed = headed_choice script.output [] _ headed
