use Rattle.std.proofs.Common.{◌≡◌, ◌+◌, ◌-◌, ℕ, List, ◌++◌, Some}
use Rattle.dsp_defs.specs.declared.limits.TheConstants.{MAX_INPUT}
use Rattle.dsp_defs.specs.declared.wave.Wanted.{Wanted}
use Rattle.dsp_wave.specs.Reading.{said_from}
use Rattle.dsp_wave.specs.Taking.{Came}
use Rattle.dsp_wave.proofs.reader.read_chunks.Given as goal

abbrev pub invariant-header : goal.invariant-header
invariant-header g l =
    record {
      read : (count : ℕ) × (bytes : List ℕ) × Came l.fn.offset count (g.S.Source.state l.fn.source)
          (g.S.Source.state l.source) bytes × (l.offset ≡ l.fn.offset + count)
          × ((wanted : Wanted) (more : List ℕ) → said_from wanted l.fn.offset (Some l.known) (bytes ++ more) ≡
          said_from wanted l.offset (Some l.known) more);
    }

abbrev pub decreases-header : goal.decreases-header
decreases-header g l = MAX_INPUT - l.offset
