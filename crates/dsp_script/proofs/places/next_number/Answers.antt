use Rattle.std.proofs.Common.{◌≡◌, rules, false, nat_le, arith, w32, refl}
use Rattle.std.specs.Prelude.{FitsSigned}
use Rattle.std.specs.Int.{w128}
use Rattle.std.proofs.lemmas.Bool.Decides.{nat_tests}
use Rattle.std.proofs.lemmas.Int.{ints, to_z-of_z}
use Rattle.dsp_script.proofs.Casts.{fits_between, read_back_64, read_back_128}
use Rattle.dsp_script.proofs.places.next_number.Goals.{else-from-value-via-then-from-value+else-value-from}
use Rattle.dsp_script.proofs.places.next_number.Goals.{else-from-value-via-else-from-value}
use Rattle.dsp_script.proofs.places.next_number.Goals as goal

pub overflow_cast-result : goal.overflow_cast-result
overflow_cast-result c = search rules

pub returns-then-value-from-clause-value : goal.returns-then-value-from-clause-value
returns-then-value-from-clause-value c =
    let low_fits : FitsSigned w32 c.args.rule.low = search rules in
    let high_fits : FitsSigned w32 c.args.rule.high = search rules in
    let value = to_z-of_z w128 c.args.value c.ranges.value in
    let low = rw (read_back_128 c.from.result c.args.rule.low c.from.ensures low_fits, value) at c.if-from-value.true in
    let high = rw (
      read_back_128 c.from-then-from-value.result c.args.rule.high c.from-then-from-value.ensures
          high_fits,
      value,
    ) at c.if-value-from.true in
    let fits : FitsSigned w32 c.args.value = fits_between c.args.rule.low c.args.rule.high c.args.value low_fits
    high_fits (grind (arith, ints)) (grind (arith, ints)) in
    let some : nat_le c.args.rule.limit c.args.count ≡ false = grind (arith, nat_tests) in
    rw (value, to_z-of_z w32 c.args.value fits, some, low, high) refl

pub returns-clause-value : goal.returns-clause-value
returns-clause-value c =
    let low_fits : FitsSigned w32 c.args.rule.low = search rules in
    let high_fits : FitsSigned w32 c.args.rule.high = search rules in
    let value = to_z-of_z w128 c.args.value c.ranges.value in
    let low = read_back_128 c.from.result c.args.rule.low c.from.ensures low_fits in
    let some : nat_le c.args.rule.limit c.args.count ≡ false = grind (arith, nat_tests) in
    rw (
      c.fault-2.ensures,
      read_back_64 c.from-2.result c.args.rule.low c.from-2.ensures low_fits,
      read_back_64 c.from-3.result c.args.rule.high c.from-3.ensures high_fits,
      some,
    ) (elim c.else-from-value.branch [
      | else-from-value-via-then-from-value+else-value-from w ↦ (
          let high = read_back_128 w.from-then-from-value.result c.args.rule.high w.from-then-from-value.ensures
          high_fits in
          rw (rw (low, value) at w.if-from-value.true, rw (high, value) at w.if-value-from.false) refl)
      | else-from-value-via-else-from-value w ↦ (rw (rw (low, value) at w.if-from-value.false) refl)
    ])
