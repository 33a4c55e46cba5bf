use Rattle.std.proofs.Common.{◌≡◌, ◌∙◌, ap, sym, length, rules}
use Rattle.dsp_filter.proofs.Units.{written-whole}
use Rattle.dsp_bank.proofs.bank.Bank.restore.Goals as goal

pub invariant_of-self : goal.invariant_of-self
invariant_of-self g c =
    let is = c.self.invariant in
    let old = c.self.inside.kept in
    let new = c.restore_samples.new.samples in
    let size : c.self.inside.kept.len ≡ length c.self.inside.kept.items = search rules in
    let same = c.restore_samples.auto.samples ∙ ap length c.as_mut_slice.ensures.value in
    let whole = written-whole old.len new old.items (same ∙ sym size) in (
      is.0,
      is.1,
      is.2,
      is.3,
      is.4,
      is.5,
      ap length whole ∙ same ∙ is.6,
      is.7,
      is.8,
    )
