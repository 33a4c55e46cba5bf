use Rattle.std.proofs.Common.{rules}
use Rattle.dsp_vector.proofs.conversions.converted.Goals as goal

pub of_number-requires-else-WORD_BITS : goal.of_number-requires-else-WORD_BITS
of_number-requires-else-WORD_BITS g c = search rules

pub returns-else-WORD_BITS : goal.returns-else-WORD_BITS
returns-else-WORD_BITS g c = search rules
