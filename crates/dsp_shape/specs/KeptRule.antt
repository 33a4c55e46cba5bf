-- How many numbers the blocks of a chain keep.
use Rattle.std.specs.Prelude.{ℕ, ◌+◌, ◌*◌, ◌%◌, ◌^◌, min}
use Rattle.dsp_defs.specs.declared.script.Block.{Block}
use Rattle.dsp_defs.specs.declared.script.Block.TheVariants.{Decimate, Conv, ConvPartial, Correlate, MatAdd, MatSub}
use Rattle.dsp_defs.specs.declared.script.Block.TheVariants.{MatScale, MatTrans, MatMult, Max, Min}
use Rattle.dsp_shape.specs.declared.kept_rule.KeptRule.{KeptRule}

-- more frames than any place may have
abbrev pub endless : ℕ
endless = 2 ^ 62

-- the rule of a block over so many channels, a new unit of which keeps so many numbers
abbrev pub kept_rule : ℕ → ℕ → Block → KeptRule
kept_rule fixed channels (Decimate factor taps) = record { fixed = fixed; each = 0; period = factor; limit = endless }
kept_rule fixed channels (Conv taps) = record { fixed = fixed; each = 0; period = endless; limit = 1 }
kept_rule fixed channels (ConvPartial first count taps) =
    record { fixed = fixed; each = 0; period = endless; limit = first + count }
kept_rule fixed channels (Correlate taps) = record { fixed = fixed; each = channels; period = endless; limit = endless }
kept_rule fixed channels (MatAdd rows columns matrix) =
    record { fixed = fixed; each = channels; period = rows * columns; limit = endless }
kept_rule fixed channels (MatSub rows columns matrix) =
    record { fixed = fixed; each = channels; period = rows * columns; limit = endless }
kept_rule fixed channels (MatScale rows columns fract shift) =
    record { fixed = fixed; each = channels; period = rows * columns; limit = endless }
kept_rule fixed channels (MatTrans rows columns) = record
    { fixed = fixed; each = channels; period = rows * columns; limit = endless }
kept_rule fixed channels (MatMult rows columns given matrix) =
    record { fixed = fixed; each = channels; period = rows * columns; limit = endless }
kept_rule fixed channels Max = record { fixed = fixed; each = 0; period = endless; limit = endless }
kept_rule fixed channels Min = record { fixed = fixed; each = 0; period = endless; limit = endless }
kept_rule fixed channels block = record { fixed = fixed; each = 0; period = endless; limit = 0 }

-- the numbers that are kept of n frames
abbrev pub count_by : KeptRule → ℕ → ℕ
count_by rule n = rule.fixed + rule.each * (n % rule.period)

-- the least number of frames of which such numbers are kept
abbrev pub place_by : KeptRule → ℕ → ℕ
place_by rule n = min (n % rule.period) rule.limit
