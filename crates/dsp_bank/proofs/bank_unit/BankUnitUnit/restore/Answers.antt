use Rattle.std.proofs.Common.{◌≡◌, ◌≤◌, ◌*◌, sym, subst, length}
use Rattle.dsp_defs.specs.Formats.{word}
use Rattle.dsp_defs.specs.declared.limits.TheConstants.{MAX_SAMPLES}
use Rattle.dsp_defs.specs.Kept.{IsOfKind}
use Rattle.dsp_unit.proofs.ChannelKept.{length-words}
use Rattle.dsp_bank.specs.Bank.{BankState, IsWholeBank}
use Rattle.dsp_bank.proofs.BankUnits.{bank-fits_words, whole-kept}
use Rattle.dsp_bank.proofs.bank_unit.BankUnitUnit.restore.Goals as goal

pub invariant_of-self : goal.invariant_of-self
invariant_of-self g c =
    let format = g.T.Sample.format in
    let b = c.self.inside.bank in
    let numbers = c.args.numbers.now in
    let is = c.self.invariant in
    let each = bank-fits_words format b numbers is.0.size (rw (← c.self.view_is) at c.requires.fits) in
    let size = length-words IsOfKind (word format) (length b.kept) numbers each in
    subst (λ (s : BankState). (IsWholeBank format s) × (s.capacity * s.channels ≤ MAX_SAMPLES)
    × (length c.self.inside.input.items ≡ s.capacity * s.channels)
    × (length c.self.inside.output.items ≡ s.capacity * s.channels)) (sym c.restore.ensures)
    (whole-kept format b numbers is.0 size, is.1, is.2, is.3)
