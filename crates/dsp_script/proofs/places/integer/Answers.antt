use Rattle.std.proofs.Common.{w32, w64}
use Rattle.std.proofs.lemmas.Int.{to_z-of_z}
use Rattle.std.proofs.lemmas.Result.{err_from_is_err_and}
use Rattle.dsp_script.proofs.Casts.{fits_64, fits_between, read_back_64}
use Rattle.dsp_script.proofs.places.integer.Goals as goal

pub returns-in_err-value : goal.returns-in_err-value
returns-in_err-value c =
    let p = err_from_is_err_and c.from_residual.result c.from_residual.ensures.1 in
    let low = read_back_64 c.from.result c.args.low c.from.ensures c.ranges.low in
    let high = read_back_64 c.from-2.result c.args.high c.from-2.ensures c.ranges.high in
    rw (p.1, p.2) (rw (low, high) at c.in_err-value.ensures.value)

pub overflow_cast-result : goal.overflow_cast-result
overflow_cast-result c = let low = read_back_64 c.from.result c.args.low c.from.ensures c.ranges.low in
    let high = read_back_64 c.from-2.result c.args.high c.from-2.ensures c.ranges.high in
    let range = rw (low, high) at c.in_ok-value.ensures.range in
    let fits = fits_between c.args.low c.args.high c.in_ok-value.value c.ranges.low c.ranges.high range.0 range.1 in
    rw (to_z-of_z w64 c.in_ok-value.value (fits_64 c.in_ok-value.value fits)) fits

pub returns : goal.returns
returns c =
    let low = read_back_64 c.from.result c.args.low c.from.ensures c.ranges.low in
    let high = read_back_64 c.from-2.result c.args.high c.from-2.ensures c.ranges.high in
    let range = rw (low, high) at c.in_ok-value.ensures.range in
    let fits = fits_between c.args.low c.args.high c.in_ok-value.value c.ranges.low c.ranges.high range.0 range.1 in
    rw (to_z-of_z w64 c.in_ok-value.value (fits_64 c.in_ok-value.value fits), to_z-of_z w32 c.in_ok-value.value fits)
    (rw (low, high) at c.in_ok-value.ensures.value)
