use Rattle.std.proofs.Common.{◌≡◌, []}
use Rattle.dsp_defs.specs.declared.limits.TheConstants.{MAX_TABLES}
use Rattle.dsp_defs.specs.Places.{tables_at}
use Rattle.dsp_script.proofs.tables.Tables.read.Given as goal

abbrev pub invariant-loop-alloc : goal.invariant-loop-alloc
invariant-loop-alloc l = tables_at l.left l.tables l.cursor ≡ tables_at MAX_TABLES [] l.initial.cursor

abbrev pub decreases-loop-alloc : goal.decreases-loop-alloc
decreases-loop-alloc l = l.left
