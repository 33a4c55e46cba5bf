use Rattle.std.proofs.Common.{◌≡◌, Some, None, Ok, rules, arith, ℤ, ◌<◌, w32, to_z, of_z}
use Rattle.std.proofs.lemmas.Result.{err_from_is_err_and}
use Rattle.std.specs.Prelude.{FitsSigned as SFits}
use Rattle.std.proofs.lemmas.Int.{to_z-of_z}
use Rattle.std.proofs.lemmas.List.{length-append}
use Rattle.dsp_defs.specs.Places.{next_at, entry, entries_at}
use Rattle.dsp_script.proofs.Loops.{numbers_go_on, numbers_fail, numbers_done}
use Rattle.dsp_script.proofs.places.entries.Goals as goal

pub returns-in_err-number : goal.returns-in_err-number
returns-in_err-number c =
    let p = err_from_is_err_and c.from_residual.result c.from_residual.ensures.1 in
    rw (p.1, p.2) (numbers_fail c.loop-numbers.numbers c.args.rule c.loop-numbers.count c.loop-numbers.cursor
    c.in_err-number.field-0.0 (entries_at c.args.rule 0 c.args.cursor.now.end c.args.cursor.now.items)
    c.in_err-number.ensures.value c.loop-numbers.invariant.value)

pub loop-numbers-preserved : goal.loop-numbers-preserved
loop-numbers-preserved c =
    let e : next_at (entry c.args.rule c.loop-numbers.count) c.loop-numbers.cursor ≡ Ok
    (Some c.in-Some.number, c.entry.new.cursor) = rw c.in-Some.is at c.in_ok-number.ensures.value in
    let fits : SFits w32 c.in-Some.number = search rules in
    let same : to_z w32 (of_z w32 c.in-Some.number) ≡ c.in-Some.number = to_z-of_z w32 c.in-Some.number fits in
    let room : c.loop-numbers.count < c.args.rule.limit = rw c.in-Some.is at c.in_ok-number.ensures.room in
    record {
      value = rw (c.in_ok-push.ensures.ok, same) (numbers_go_on c.loop-numbers.numbers c.args.rule
          c.loop-numbers.count c.loop-numbers.cursor c.entry.new.cursor c.in-Some.number
          (entries_at c.args.rule 0 c.args.cursor.now.end c.args.cursor.now.items) e c.loop-numbers.invariant.value);
      counted = rw c.in_ok-push.ensures.ok (omega (arith, length-append {A = ℤ}, c.loop-numbers.invariant.counted));
      room = omega (arith, room);
    }

pub returns : goal.returns
returns c =
    let e : next_at (entry c.args.rule c.loop-numbers.count) c.loop-numbers.cursor ≡ Ok (None, c.entry.new.cursor) =
    rw c.in_default.is at c.in_ok-number.ensures.value in
    numbers_done c.loop-numbers.numbers c.args.rule c.loop-numbers.count c.loop-numbers.cursor c.entry.new.cursor
    (entries_at c.args.rule 0 c.args.cursor.now.end c.args.cursor.now.items) e c.loop-numbers.invariant.value
