use Rattle.std.proofs.Common.{rules}
use Rattle.dsp_script.proofs.Numerals.{next_value, next_bound}
use Rattle.dsp_script.proofs.numeral.digits_value.Goals as goal

pub loop-digit-preserved : goal.loop-digit-preserved
loop-digit-preserved c = record {
  value = next_value c.args.digits.now c.loop-digit.digit-index c.loop-digit.value c.from.result c.requires.digits
      c.loop-digit-test.true c.loop-digit.invariant.value (search rules);
  bound = next_bound c.args.digits.now c.loop-digit.digit-index c.loop-digit.value c.from.result c.requires.digits
      c.loop-digit-test.true c.loop-digit.invariant.bound (search rules);
}
