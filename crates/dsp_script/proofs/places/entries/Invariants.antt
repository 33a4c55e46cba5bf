use Rattle.std.proofs.Common.{◌≡◌, ◌-◌, ◌≤◌, length}
use Rattle.dsp_defs.specs.Places.{entries_at}
use Rattle.dsp_script.proofs.Loops.{with_numbers}
use Rattle.dsp_script.proofs.places.entries.Given as goal

abbrev pub invariant-loop-numbers : goal.invariant-loop-numbers
invariant-loop-numbers l = record {
  value : with_numbers l.numbers (entries_at l.rule l.count l.cursor.end l.cursor.items) ≡ entries_at l.rule 0
      l.initial.cursor.end l.initial.cursor.items;
  counted : l.count ≡ length l.numbers;
  room : l.count ≤ l.rule.limit;
}

abbrev pub decreases-loop-numbers : goal.decreases-loop-numbers
decreases-loop-numbers l = l.rule.limit - l.count
