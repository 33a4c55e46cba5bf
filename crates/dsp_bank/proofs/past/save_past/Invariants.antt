use Rattle.std.proofs.Common.{◌≡◌, ◌≢◌, ◌<◌, ℕ, map}
use Rattle.dsp_bank.specs.Rows.{four_at, past}
use Rattle.dsp_bank.proofs.past.save_past.Given as goal

-- the channels so far are kept, and no other section is touched
abbrev pub invariant-loop-channel : goal.invariant-loop-channel
invariant-loop-channel g l = record {
  fours : (i : ℕ) → i < l.channel → four_at l.sections (map g.T.Sample.number l.kept) i l.section
      ≡ past l.row (map g.T.Sample.number l.frames) (map g.T.Sample.number l.outputs) l.count i;
  others : (i s : ℕ) → i < l.row → s < l.sections → s ≢ l.section
      → four_at l.sections (map g.T.Sample.number l.kept) i s
      ≡ four_at l.sections (map g.T.Sample.number l.initial.kept) i s;
}
