-- The lines that a run ends with.
use Rattle.std.specs.Prelude.{ℕ, ℤ, List, [], ◌++◌, codes, flat_map, Option, Some, None}
use Rattle.std.specs.Fmt.{decimal, signed_decimal}
use Rattle.dsp_defs.specs.declared.format.Fmt.{Fmt}
use Rattle.dsp_defs.specs.declared.measure.Measure.{Measure}
use Rattle.dsp_defs.specs.declared.measure.Measure.TheVariants.{Power, Dot, CmplxDot, Max, Min}
use Rattle.dsp_defs.specs.declared.script.Script.{Script}
use Rattle.dsp_defs.specs.declared.script_fault.ScriptFault.{ScriptFault}
use Rattle.dsp_defs.specs.declared.script_fault.ScriptKind.{ScriptKind}
use Rattle.dsp_defs.specs.declared.script_fault.ScriptKind.TheVariants.{TooLong, BadByte, UnknownWord, BadNumber}
use Rattle.dsp_defs.specs.declared.script_fault.ScriptKind.TheVariants.{OutOfRange, Missing, NoSuchForm, ChannelsHere}
use Rattle.dsp_defs.specs.declared.script_fault.ScriptKind.TheVariants.{Length, TooMany, BadName, NameTaken}
use Rattle.dsp_defs.specs.declared.state_kind.StateKind.{StateKind}
use Rattle.dsp_defs.specs.declared.state_kind.StateKind.TheVariants as state
use Rattle.dsp_defs.specs.declared.wave.HeaderFault.{HeaderFault}
use Rattle.dsp_defs.specs.declared.wave.HeaderFault.TheVariants.{NotRiff, NotWave, NoFormat, FormatSize, Tag, Bits}
use Rattle.dsp_defs.specs.declared.wave.HeaderFault.TheVariants.{Channels, Align, NoSamples, Short}
use Rattle.dsp_defs.specs.declared.au.AuFault.{AuFault}
use Rattle.dsp_defs.specs.declared.au.AuFault.TheVariants as au
use Rattle.dsp_defs.specs.Canon.{line}
use Rattle.dsp_defs.specs.Cost.{cost}
use Rattle.dsp_defs.specs.Output.{format_of, channels_of}
use Rattle.dsp_defs.specs.Shape.{frames_given}
use Rattle.dsp_defs.specs.Table.{format_name}

-- `, NAME VALUE`
abbrev pub field : List ℕ → List ℕ → List ℕ
field name value = codes ", " ++ name ++ codes " " ++ value

-- `, NAME VALUE, NAME VALUE`
abbrev pub fields : List ℕ → ℕ → List ℕ → ℕ → List ℕ
fields first a second b = field first (decimal a) ++ field second (decimal b)

-- ---- a run that isn't done

-- a kind of fault in a script: its name, and its fields in their order
abbrev pub kind_text : ScriptKind → List ℕ × List ℕ
kind_text TooLong = (codes "TooLong", [])
kind_text BadByte = (codes "BadByte", [])
kind_text UnknownWord = (codes "UnknownWord", [])
kind_text BadNumber = (codes "BadNumber", [])
kind_text (OutOfRange low high) = (
  codes "OutOfRange",
  field (codes "low") (signed_decimal low) ++ field (codes "high") (signed_decimal high),
)
kind_text Missing = (codes "Missing", [])
kind_text (NoSuchForm format) = (codes "NoSuchForm", field (codes "format") (format_name format))
kind_text (ChannelsHere got wanted) = (codes "ChannelsHere", fields (codes "got") got (codes "wanted") wanted)
kind_text (Length taps factor) = (codes "Length", fields (codes "taps") taps (codes "factor") factor)
kind_text (TooMany limit) = (codes "TooMany", field (codes "limit") (decimal limit))
kind_text BadName = (codes "BadName", [])
kind_text NameTaken = (codes "NameTaken", [])

-- a fault of a WAVE input: its name, and its fields in their order
abbrev pub header_text : HeaderFault → List ℕ × List ℕ
header_text NotRiff = (codes "NotRiff", [])
header_text NotWave = (codes "NotWave", [])
header_text NoFormat = (codes "NoFormat", [])
header_text (FormatSize got) = (codes "FormatSize", field (codes "got") (decimal got))
header_text (Tag got) = (codes "Tag", field (codes "got") (decimal got))
header_text (Bits got wanted) = (codes "Bits", fields (codes "got") got (codes "wanted") wanted)
header_text (Channels got wanted) = (codes "Channels", fields (codes "got") got (codes "wanted") wanted)
header_text (Align got wanted) = (codes "Align", fields (codes "got") got (codes "wanted") wanted)
header_text NoSamples = (codes "NoSamples", [])
header_text (Short declared got) = (codes "Short", fields (codes "declared") declared (codes "got") got)

-- a fault of an AU input
abbrev pub au_text : AuFault → List ℕ × List ℕ
au_text au.NotAu = (codes "NotAu", [])
au_text (au.Offset got) = (codes "Offset", field (codes "got") (decimal got))
au_text (au.Encoding got) = (codes "Encoding", field (codes "got") (decimal got))
au_text (au.Channels got) = (codes "Channels", field (codes "got") (decimal got))
au_text au.Ended = (codes "Ended", [])
au_text (au.Short declared got) = (codes "Short", fields (codes "declared") declared (codes "got") got)

-- a fault of a state
abbrev pub state_text : StateKind → List ℕ × List ℕ
state_text state.NotState = (codes "NotState", [])
state_text (state.Version got) = (codes "Version", field (codes "got") (decimal got))
state_text state.Text = (codes "Text", [])
state_text state.Cut = (codes "Cut", [])
state_text state.Value = (codes "Value", [])
state_text state.Extra = (codes "Extra", [])
state_text state.TooLong = (codes "TooLong", [])
state_text (state.LongText size) = (codes "LongText", field (codes "size") (decimal size))

-- `NAME at OFFSET` and the fields
abbrev pub located : List ℕ × List ℕ → ℕ → List ℕ
located text offset = text.0 ++ codes " at " ++ decimal offset ++ text.1

-- the words are no command
abbrev pub usage_line : List ℕ
usage_line = line (codes
    "dspfx: usage: run SCRIPT IN OUT [block N], gen SEED FRAMES SCRIPT OUT, print SCRIPT, resume stop K SCRIPT IN OUT, resume go STATE IN OUT, bank SCRIPT IN OUT [block N], convert wave au IN OUT, convert au wave IN OUT, check SCRIPT IN OUT")

-- `dspfx: script: ` and the fault where it stands
abbrev pub script_line : ScriptFault → List ℕ
script_line fault = line (codes "dspfx: script: " ++ located (kind_text fault.kind) fault.offset)

-- `dspfx: block length N, unit U`
abbrev pub block_length_line : ℕ → ℕ → List ℕ
block_length_line block unit = line (codes "dspfx: block length " ++ decimal block ++ field (codes "unit")
    (decimal unit))

-- `dspfx: header: ` and the fault where it stands
abbrev pub header_line : HeaderFault → ℕ → List ℕ
header_line fault offset = line (codes "dspfx: header: " ++ located (header_text fault) offset)

-- the same of an AU file
abbrev pub au_line : AuFault → ℕ → List ℕ
au_line fault offset = line (codes "dspfx: header: " ++ located (au_text fault) offset)

-- `dspfx: state: ` and the fault where it stands
abbrev pub state_line : StateKind → ℕ → List ℕ
state_line kind offset = line (codes "dspfx: state: " ++ located (state_text kind) offset)

-- `dspfx: lengths: ` and two numbers with their names
abbrev pub lengths_line : List ℕ → ℕ → List ℕ → ℕ → List ℕ
lengths_line first a second b = line (codes "dspfx: lengths: " ++ first ++ codes " " ++ decimal a ++ field second
    (decimal b))

-- `input taken T, limit L`
abbrev pub input_limit_line : ℕ → ℕ → List ℕ
input_limit_line taken limit = lengths_line (codes "input taken") taken (codes "limit") limit

-- `gather held H, more M`
abbrev pub gather_line : ℕ → ℕ → List ℕ
gather_line held more = lengths_line (codes "gather held") held (codes "more") more

-- `window end E, length L`
abbrev pub window_line : ℕ → ℕ → List ℕ
window_line end length = lengths_line (codes "window end") end (codes "length") length

-- `resume at K, input G`
abbrev pub behind_line : ℕ → ℕ → List ℕ
behind_line at got = lengths_line (codes "resume at") at (codes "input") got

-- `riff size S, limit L`
abbrev pub riff_line : ℕ → ℕ → List ℕ
riff_line size limit = lengths_line (codes "riff size") size (codes "limit") limit

-- `check size S, limit L`
abbrev pub check_size_line : ℕ → ℕ → List ℕ
check_size_line size limit = lengths_line (codes "check size") size (codes "limit") limit

-- the file is not the output from this byte on
abbrev pub differs_line : ℕ → List ℕ
differs_line offset = line (codes "dspfx: differs at " ++ decimal offset)

-- the script's source failed
abbrev pub script_read_line : List ℕ
script_read_line = line (codes "dspfx: script not read")

-- the input failed
abbrev pub input_read_line : List ℕ
input_read_line = line (codes "dspfx: input not read")

-- the other file that is read failed
abbrev pub other_read_line : List ℕ
other_read_line = line (codes "dspfx: other input not read")

-- the output failed
abbrev pub output_line : List ℕ
output_line = line (codes "dspfx: output not written")

-- want of memory
abbrev pub memory_line : List ℕ
memory_line = line (codes "dspfx: want of memory")

-- ---- a run that is done

-- `dspfx: done`
abbrev pub done_line : List ℕ
done_line = line (codes "dspfx: done")

-- `WORD N frames of C channels FORMAT`
abbrev pub frames_line : List ℕ → ℕ → ℕ → Fmt → List ℕ
frames_line word frames channels format =
    line (word ++ codes " " ++ decimal frames ++ codes " frames of " ++ decimal channels ++ codes " channels " ++
    format_name format)

-- `multiplies COST`
abbrev pub multiplies_line : ℕ → List ℕ
multiplies_line multiplies = line (codes "multiplies " ++ decimal multiplies)

-- `WORD B channel C = `
abbrev pub channel_text : List ℕ → ℕ → ℕ → List ℕ
channel_text word number channel = word ++ codes " " ++ decimal number ++ codes " channel " ++ decimal channel ++
    codes " = "

-- `V at I`, or `none`
abbrev pub found_text : Option (ℤ × ℕ) → List ℕ
found_text (Some best) = signed_decimal best.0 ++ codes " at " ++ decimal best.1
found_text None = codes "none"

-- WORD NUMBER channel CHANNEL = VALUE at INDEX, or = none
abbrev pub extreme_line : List ℕ → ℕ → ℕ → Option (ℤ × ℕ) → List ℕ
extreme_line word number channel found = line (channel_text word number channel ++ found_text found)

-- a second sum behind a space
abbrev pub second_text : Option ℤ → List ℕ
second_text (Some sum) = codes " " ++ signed_decimal sum
second_text None = []

-- `WORD B = V`, or `WORD B = RE IM`
abbrev pub sums_line : List ℕ → ℕ → ℤ → Option ℤ → List ℕ
sums_line word number first second = line (word ++ codes " " ++ decimal number ++ codes " = " ++ signed_decimal first
    ++ second_text second)

-- the line of a measure
abbrev pub measure_line : Measure → List ℕ
measure_line (Power number channel value) = line (channel_text (codes "power") number channel ++ signed_decimal value)
measure_line (Dot number value) = sums_line (codes "dot") number value None
measure_line (CmplxDot number re im) = sums_line (codes "cmplx_dot") number re (Some im)
measure_line (Max number channel found) = extreme_line (codes "max") number channel found
measure_line (Min number channel found) = extreme_line (codes "min") number channel found

-- `N frames of C channels, W bits`
abbrev pub converted_line : ℕ → ℕ → ℕ → List ℕ
converted_line frames channels bits =
    line (decimal frames ++ codes " frames of " ++ decimal channels ++ codes " channels, " ++ decimal bits ++ codes
    " bits")

-- what a conversion reports
abbrev pub converted_text : ℕ → ℕ → ℕ → List ℕ
converted_text frames channels bits = done_line ++ converted_line frames channels bits

-- `dspfx: same`
abbrev pub same_line : List ℕ
same_line = line (codes "dspfx: same")

-- `bytes N`
abbrev pub bytes_line : ℕ → List ℕ
bytes_line size = line (codes "bytes " ++ decimal size)

-- what a check reports, over a file of so many bytes that is the output
abbrev pub same_text : ℕ → List ℕ
same_text size = same_line ++ bytes_line size

-- what a run over n frames of input reports: what came in, what went out, the multiplies, and the measures
abbrev pub report_text : Script → ℕ → List Measure → List ℕ
report_text script n measures =
    done_line ++ frames_line (codes "in") n script.input.channels script.input.format
    ++ frames_line (codes "out") (frames_given script.blocks n) (channels_of script) (format_of script)
    ++ multiplies_line (cost script.input.format script.input.channels script.blocks n)
    ++ flat_map measure_line measures
