use Rattle.std.proofs.Common.{rules}
use Rattle.dsp_exact.proofs.elementwise.convert.Goals as goal

pub overflow_mul-result : goal.overflow_mul-result
overflow_mul-result c = search rules

pub overflow_cast-result : goal.overflow_cast-result
overflow_cast-result c = search rules

pub overflow_shr-result : goal.overflow_shr-result
overflow_shr-result c = search rules

pub returns-then-word_bits-clause-value : goal.returns-then-word_bits-clause-value
returns-then-word_bits-clause-value c = search rules

pub returns-then-word_bits-clause-fits : goal.returns-then-word_bits-clause-fits
returns-then-word_bits-clause-fits c = search rules

pub returns-else-word_bits-clause-value : goal.returns-else-word_bits-clause-value
returns-else-word_bits-clause-value c = search rules

pub returns-else-word_bits-clause-fits : goal.returns-else-word_bits-clause-fits
returns-else-word_bits-clause-fits c = search rules
