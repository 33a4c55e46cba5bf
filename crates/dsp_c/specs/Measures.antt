-- The measures as C sees them, a row each.
use Rattle.std.specs.Prelude.{ℕ, ℤ, pos, Option, Some, None}
use Rattle.dsp_defs.specs.declared.measure.Measure.{Measure}
use Rattle.dsp_defs.specs.declared.measure.Measure.TheVariants.{Power, Dot, CmplxDot, Max, Min}
use Rattle.dsp_c.specs.Answer.{field}
use Rattle.dsp_c.specs.declared.measures.MeasureRow.{MeasureRow}

abbrev pub sum_row : ℕ → ℕ → ℕ → ℤ → ℤ → MeasureRow
sum_row kind number channel value other = record {
  kind = kind;
  number = number;
  channel = channel;
  found = 1;
  value =
      value;
  other = other;
}

-- the extreme and its index, where there was a sample
abbrev pub extreme_row : ℕ → ℕ → ℕ → Option (ℤ × ℕ) → MeasureRow
extreme_row kind number channel (Some found) = record
    { kind = kind; number = number; channel = channel; found = 1; value = found.0; other = field found.1 }
extreme_row kind number channel None = record {
  kind = kind;
  number = number;
  channel = channel;
  found = 0;
  value =
      pos 0;
  other = pos 0;
}

abbrev pub row_of : Measure → MeasureRow
row_of (Power number channel value) = sum_row 1 number channel value (pos 0)
row_of (Dot number value) = sum_row 2 number 0 value (pos 0)
row_of (CmplxDot number re im) = sum_row 3 number 0 re im
row_of (Max number channel found) = extreme_row 4 number channel found
row_of (Min number channel found) = extreme_row 5 number channel found
