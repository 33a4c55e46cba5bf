-- A read of the part that no samples end is a read of all samples.
use Rattle.std.proofs.Common.{ℕ, ◌-◌, ◌^◌, List}
use Rattle.dsp_defs.specs.declared.script.Script.{Script}
use Rattle.dsp_defs.specs.declared.wave.Header.{Header}
use Rattle.dsp_ports.specs.Ports.{SourceState}
use Rattle.dsp_wave.proofs.SampleReads as reads
use Rattle.dsp_input.specs.Taking.{BlockRead, PartRead, stored}

pub whole_read : (script : Script) (header : Header) (taken : ℕ) (block : List ℕ) (count : ℕ) (input now : SourceState)
    → PartRead script header (2 ^ 64 - 1) taken block count input now →
    BlockRead script header taken block count input now
whole_read script header taken block count input now read =
    reads.whole_read (stored script header) taken block count input now read
