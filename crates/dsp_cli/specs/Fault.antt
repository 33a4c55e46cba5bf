-- What a run answers: a status, and the lines of its report.
use Rattle.std.specs.Prelude.{ℕ, List, ◌++◌, codes, flat_map}
use Rattle.dsp_command.specs.Report.{usage_line, script_line, block_length_line, header_line, input_limit_line}
use Rattle.dsp_command.specs.Report.{behind_line, state_line, gather_line, window_line, riff_line, check_size_line}
use Rattle.dsp_command.specs.Report.{au_line, differs_line, other_read_line, script_read_line, input_read_line}
use Rattle.dsp_command.specs.Report.{output_line, memory_line, done_line, frames_line, multiplies_line, measure_line}
use Rattle.dsp_cli.specs.declared.fault.Fault.{Fault}
use Rattle.dsp_cli.specs.declared.fault.Fault.TheVariants.{Usage, ScriptRead, Script, BlockLength, Memory, Stream}
use Rattle.dsp_cli.specs.declared.fault.Fault.TheVariants.{State, Part, Conversion, Comparison}
use Rattle.dsp_au.specs.declared.fault.ConvertFault.TheVariants as convert_fault
use Rattle.dsp_check.specs.declared.fault.CheckFault.TheVariants as check_fault
use Rattle.dsp_cli.specs.declared.report.Summary.{Summary}
use Rattle.dsp_session.specs.declared.fault.LengthFault.{LengthFault}
use Rattle.dsp_session.specs.declared.fault.LengthFault.TheVariants as length_fault
use Rattle.dsp_session.specs.declared.fault.PartFault.TheVariants as part_fault
use Rattle.dsp_session.specs.declared.fault.StreamFault.{StreamFault}
use Rattle.dsp_session.specs.declared.fault.StreamFault.TheVariants.{Header, Lengths, Input, Output}

-- ---- faults

-- the status of a stream's fault
abbrev pub stream_status : StreamFault → ℕ
stream_status (Header fault offset) = 4
stream_status (Lengths fault) = 5
stream_status Input = 7
stream_status Output = 8

-- the status of each fault
abbrev pub status_of : Fault → ℕ
status_of Usage = 1
status_of (Script fault) = 2
status_of (BlockLength block unit) = 3
status_of ScriptRead = 6
status_of Memory = 10
status_of (State kind offset) = 13
status_of (Stream fault) = stream_status fault
status_of (Part (part_fault.Behind at got)) = 5
status_of (Part (part_fault.Stream fault)) = stream_status fault
status_of (Conversion (convert_fault.Wave fault offset)) = 4
status_of (Conversion (convert_fault.Au fault offset)) = 4
status_of (Conversion (convert_fault.Input taken limit)) = 5
status_of (Conversion (convert_fault.Riff size limit)) = 5
status_of (Conversion convert_fault.Read) = 7
status_of (Conversion convert_fault.Write) = 8
status_of (Comparison (check_fault.Header fault offset)) = 4
status_of (Comparison (check_fault.Input taken limit)) = 5
status_of (Comparison (check_fault.Window end length)) = 5
status_of (Comparison (check_fault.Riff size limit)) = 5
status_of (Comparison (check_fault.Size size limit)) = 5
status_of (Comparison check_fault.Read) = 7
status_of (Comparison check_fault.Memory) = 10
status_of (Comparison (check_fault.Differs offset)) = 11
status_of (Comparison check_fault.Other) = 14

-- the line of a length past its limit
abbrev pub length_fault_line : LengthFault → List ℕ
length_fault_line (length_fault.Input taken limit) = input_limit_line taken limit
length_fault_line (length_fault.Gather held more) = gather_line held more
length_fault_line (length_fault.Window end length) = window_line end length
length_fault_line (length_fault.Riff size limit) = riff_line size limit

-- the line of a stream's fault
abbrev pub stream_line : StreamFault → List ℕ
stream_line (Header fault offset) = header_line fault offset
stream_line (Lengths fault) = length_fault_line fault
stream_line Input = input_read_line
stream_line Output = output_line

-- the line of each fault
abbrev pub fault_line : Fault → List ℕ
fault_line Usage = usage_line
fault_line (Script fault) = script_line fault
fault_line (BlockLength block unit) = block_length_line block unit
fault_line ScriptRead = script_read_line
fault_line Memory = memory_line
fault_line (State kind offset) = state_line kind offset
fault_line (Stream fault) = stream_line fault
fault_line (Part (part_fault.Behind at got)) = behind_line at got
fault_line (Part (part_fault.Stream fault)) = stream_line fault
fault_line (Conversion (convert_fault.Wave fault offset)) = header_line fault offset
fault_line (Conversion (convert_fault.Au fault offset)) = au_line fault offset
fault_line (Conversion (convert_fault.Input taken limit)) = input_limit_line taken limit
fault_line (Conversion (convert_fault.Riff size limit)) = riff_line size limit
fault_line (Conversion convert_fault.Read) = input_read_line
fault_line (Conversion convert_fault.Write) = output_line
fault_line (Comparison (check_fault.Header fault offset)) = header_line fault offset
fault_line (Comparison (check_fault.Input taken limit)) = input_limit_line taken limit
fault_line (Comparison (check_fault.Window end length)) = window_line end length
fault_line (Comparison (check_fault.Riff size limit)) = riff_line size limit
fault_line (Comparison (check_fault.Size size limit)) = check_size_line size limit
fault_line (Comparison check_fault.Read) = input_read_line
fault_line (Comparison check_fault.Memory) = memory_line
fault_line (Comparison (check_fault.Differs offset)) = differs_line offset
fault_line (Comparison check_fault.Other) = other_read_line

-- the report of a run that is done: its head, and a line for each measure
abbrev pub head_text : Summary → List ℕ
head_text summary =
    let totals = summary.totals in
    done_line ++ frames_line (codes "in") totals.frames_taken summary.input.channels summary.input.format
    ++ frames_line (codes "out") totals.frames_given summary.output.channels summary.output.format ++ multiplies_line
    totals.multiplies

-- its head, and a line for each measure
abbrev pub summary_text : Summary → List ℕ
summary_text summary = head_text summary ++ flat_map measure_line summary.measures.items
