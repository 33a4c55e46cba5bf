-- What blocks and scripts give of samples that stand frame by frame.
use Rattle.std.specs.Prelude.{ℕ, ℤ, List, flat_map, None}
use Rattle.dsp_defs.specs.Block.{Frame, frames_in, whole, whole_chain, live_chain}
use Rattle.dsp_defs.specs.Measure.{block_measures}
use Rattle.dsp_defs.specs.declared.format.Fmt.{Fmt}
use Rattle.dsp_defs.specs.declared.format.Container.{Container}
use Rattle.dsp_defs.specs.declared.format.Container.TheVariants as Containers
use Rattle.dsp_defs.specs.declared.format.InputKind.TheVariants.{Wave, Raw}
use Rattle.dsp_defs.specs.declared.measure.Measure.{Measure}
use Rattle.dsp_defs.specs.declared.script.Block.{Block}
use Rattle.dsp_defs.specs.declared.script.Script.{Script}

abbrev pub samples_of : List Frame → List ℤ
samples_of frames = flat_map (λ frame. frame) frames

-- the samples that a block gives of the whole signal
abbrev pub given : Fmt → ℕ → Block → List ℤ → List ℤ
given format channels block x = samples_of (whole format channels block (frames_in channels x))

-- the measures of the block, as the first of a script
abbrev pub measured : Fmt → ℕ → Block → List ℤ → List Measure
measured format channels block x = block_measures format channels 1 block (frames_in channels x)

-- the samples that a chain gives of the whole signal, and of one that may go on
abbrev pub given_by_chain : Fmt → ℕ → List Block → List ℤ → List ℤ
given_by_chain format channels blocks x = samples_of (whole_chain format channels blocks (frames_in channels x))

abbrev pub live_by_chain : Fmt → ℕ → List Block → List ℤ → List ℤ
live_by_chain format channels blocks x = samples_of (live_chain format channels blocks (frames_in channels x))

-- a script from raw samples at 8000 frames a second to raw samples
abbrev pub raw_script : Fmt → ℕ → List Block → Script
raw_script format channels blocks = record {
  version = 1;
  input = record { kind = Raw 8000; format = format; channels = channels };
  block = None;
  blocks = blocks;
  output = Containers.Raw;
}

-- a script from a WAVE file to a file
abbrev pub wave_script : Fmt → ℕ → List Block → Container → Script
wave_script format channels blocks output = record {
  version = 1;
  input = record { kind = Wave; format = format; channels = channels };
  block = None;
  blocks = blocks;
  output = output;
}
