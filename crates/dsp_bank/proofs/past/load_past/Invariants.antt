use Rattle.std.proofs.Common.{◌≡◌, ◌*◌, ◌<◌, ◌≤◌, ℕ, map}
use Rattle.dsp_defs.specs.Signal.{sample}
use Rattle.dsp_bank.specs.Rows.{four_at, past}
use Rattle.dsp_bank.proofs.past.load_past.Given as goal

-- the channels so far are written, and nothing after the first two frames
abbrev pub invariant-loop-channel : goal.invariant-loop-channel
invariant-loop-channel g l = record {
  fours : (i : ℕ) → i < l.channel → four_at l.sections (map g.T.Sample.number l.kept) i l.section
      ≡ past l.row (map g.T.Sample.number l.frames) (map g.T.Sample.number l.outputs) 0 i;
  later : (k : ℕ) → 2 * l.row ≤ k
      → sample (map g.T.Sample.number l.frames) k ≡ sample (map g.T.Sample.number l.initial.frames) k;
}
