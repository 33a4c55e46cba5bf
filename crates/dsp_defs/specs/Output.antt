-- The output file: the header, the samples of what the chain gives, and the pad byte.
use Rattle.std.specs.Prelude.{ℕ, ◌*◌, ◌/◌, List, [], ◌++◌, length, take, drop, fold, Option, Some, None, IsOk}
use Rattle.std.specs.Option.{option_map}
use Rattle.std.specs.Result.{result_unwrap_or}
use Rattle.dsp_defs.specs.Block.{Frame, live_chain, whole_chain, format_after, channels_after}
use Rattle.dsp_defs.specs.Shape.{frames_given, rate_after}
use Rattle.dsp_defs.specs.Bytes.{coding_of, width, coded, samples}
use Rattle.dsp_defs.specs.Wave.{header_of, wave_header, pad}
use Rattle.dsp_defs.specs.declared.format.Fmt.{Fmt}
use Rattle.dsp_defs.specs.declared.format.Coding.{Coding}
use Rattle.dsp_defs.specs.declared.format.Container.TheVariants as Containers
use Rattle.dsp_defs.specs.declared.format.InputKind.{InputKind}
use Rattle.dsp_defs.specs.declared.format.InputKind.TheVariants.{Wave, Raw}
use Rattle.dsp_defs.specs.declared.wave.Header.{Header}
use Rattle.dsp_defs.specs.declared.wave.Wanted.{Wanted}
use Rattle.dsp_defs.specs.declared.script.Script.{Script}

-- ---- the input

-- what the header of a script's input is to say
abbrev pub wanted_of : Script → Wanted
wanted_of script = record { format = script.input.format; channels = script.input.channels }

-- where the samples stand in an input: raw samples are all of it, and without a good header there are none
abbrev pub header_by : InputKind → Wanted → List ℕ → Header
header_by (Raw rate) wanted bytes = record {
  rate = rate;
  start = 0;
  size = None;
  coding =
      coding_of Containers.Raw wanted.format;
}
header_by Wave wanted bytes =
    result_unwrap_or (header_of bytes wanted) (record {
      rate = 0;
      start = length bytes;
      size = None;
      coding =
          coding_of Containers.Wave wanted.format;
    })

-- of a script
abbrev pub input_header : Script → List ℕ → Header
input_header script bytes = header_by script.input.kind (wanted_of script) bytes

-- the bytes hold all of the input's header; raw samples have none
abbrev pub HeaderIsThere : InputKind → Wanted → List ℕ → Type 0
HeaderIsThere (Raw rate) wanted bytes = Unit {0}
HeaderIsThere Wave wanted bytes = IsOk (header_of bytes wanted)

-- of a script
abbrev pub HasHeader : Script → List ℕ → Type 0
HasHeader script bytes = HeaderIsThere script.input.kind (wanted_of script) bytes

-- the bytes of samples that begin at a place: so many, or all to the end
abbrev pub sample_bytes_at : ℕ → Option ℕ → List ℕ → List ℕ
sample_bytes_at start size bytes = elim size [ Some size ↦ take size (drop start bytes) | None ↦ drop start bytes ]

-- the bytes at which a header says that there are samples
abbrev pub sample_bytes : Header → List ℕ → List ℕ
sample_bytes header bytes = sample_bytes_at header.start header.size bytes

-- the signal of all whole frames of the input, in the coding that its header says
abbrev pub input_signal : Script → List ℕ → List Frame
input_signal script bytes =
    let header = input_header script bytes in
    samples header.coding script.input.channels (sample_bytes header bytes)

-- the whole frames that a header declares, if it does
abbrev pub declared_frames : Script → Header → Option ℕ
declared_frames script header = option_map (λ size. size / (script.input.channels * width header.coding)) header.size

-- ---- the output

-- the format of the output
abbrev pub format_of : Script → Fmt
format_of script = fold format_after script.input.format script.blocks

-- its channels
abbrev pub channels_of : Script → ℕ
channels_of script = fold channels_after script.input.channels script.blocks

-- its rate, where the input has this one
abbrev pub rate_of : Script → ℕ → ℕ
rate_of script rate = fold rate_after rate script.blocks

-- how its samples stand as bytes
abbrev pub output_coding : Script → Coding
output_coding script = coding_of script.output (format_of script)

-- the bytes of what the chain has given of a signal that may go on
abbrev pub live_bytes : Script → List Frame → List ℕ
live_bytes script x = coded (output_coding script) (live_chain script.input.format script.input.channels script.blocks
    x)

-- and of what it gives of a whole one
abbrev pub whole_bytes : Script → List Frame → List ℕ
whole_bytes script x = coded (output_coding script) (whole_chain script.input.format script.input.channels
    script.blocks x)

-- the frames that the output is to have, where the input declares its own
abbrev pub known_frames : Script → Header → Option ℕ
known_frames script header = option_map (frames_given script.blocks) (declared_frames script header)

-- the bytes before the samples; raw output has none
abbrev pub output_header : Script → Header → List ℕ
output_header script header = elim script.output [
  | Containers.Raw ↦ []
  | _ ↦ wave_header script.output (format_of script) (channels_of script) (rate_of script header.rate)
      (known_frames script header)
]

-- the pad byte behind them, if there is one
abbrev pub output_pad : Script → Header → List ℕ
output_pad script header = elim script.output [
  | Containers.Raw ↦ []
  | _ ↦ pad (format_of script) (channels_of script) (known_frames script header)
]

-- the output of a whole input: the header, the samples of the whole signal's values, and the pad byte
abbrev pub output : Script → List ℕ → List ℕ
output script bytes =
    let header = input_header script bytes in
    output_header script header ++ whole_bytes script (input_signal script bytes) ++ output_pad script header

-- the whole blocks of `block` frames of a signal
abbrev pub whole_blocks : ℕ → List Frame → List Frame
whole_blocks block x = take (length x / block * block) x

-- what stands in the output when these bytes were taken: the header, and the samples of the live values of the whole
-- blocks
abbrev pub part : Script → ℕ → List ℕ → List ℕ
part script block bytes =
    output_header script (input_header script bytes) ++ live_bytes script
    (whole_blocks block (input_signal script bytes))
