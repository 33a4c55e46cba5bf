use Rattle.std.proofs.Common.{◌≡◌, [], true, false, sym, ◌∙◌}
use Rattle.std.specs.Prelude.{codes}
use Rattle.std.proofs.lemmas.Result.{err_from_is_err_and}
use Rattle.dsp_defs.specs.declared.limits.TheConstants.{MAX_TABLES}
use Rattle.dsp_defs.specs.Places.{begins_with, tables_at}
use Rattle.dsp_script.proofs.Loops.{tables_go_on, tables_fail, tables_done}
use Rattle.dsp_script.proofs.tables.Tables.read.Goals as goal

pub returns-in_err-table : goal.returns-in_err-table
returns-in_err-table c =
    let p = err_from_is_err_and c.from_residual.result c.from_residual.ensures.1 in
    let begins : begins_with (codes "table") c.loop-alloc.cursor.items ≡ true = sym c.begins_with.ensures ∙
    c.loop-alloc-test.true in
    rw (p.1, p.2) (tables_fail c.in_err-table.field-0.0 c.loop-alloc.left c.loop-alloc.tables c.loop-alloc.cursor
    (tables_at MAX_TABLES [] c.args.cursor.now) begins c.in_err-table.ensures.value c.loop-alloc.invariant)

pub loop-alloc-preserved : goal.loop-alloc-preserved
loop-alloc-preserved c =
    let begins : begins_with (codes "table") c.loop-alloc.cursor.items ≡ true = sym c.begins_with.ensures ∙
    c.loop-alloc-test.true in
    rw c.in_ok-push.ensures.ok (tables_go_on c.loop-alloc.left c.loop-alloc.tables c.loop-alloc.cursor
    c.table.new.cursor c.in_ok-table.table (tables_at MAX_TABLES [] c.args.cursor.now) c.in_ok-table.ensures.room
    begins c.in_ok-table.ensures.value c.loop-alloc.invariant)

pub returns : goal.returns
returns c =
    let begins : begins_with (codes "table") c.loop-alloc.cursor.items ≡ false = sym c.begins_with.ensures ∙
    c.loop-alloc-test.false in
    sym c.loop-alloc.invariant ∙ tables_done c.loop-alloc.left c.loop-alloc.tables c.loop-alloc.cursor begins
