use Rattle.dsp_bank.proofs.BankUnits.{words-fit_bank, bank-fits_words}
use Rattle.dsp_bank.proofs.bank_unit.BankUnitUnit.place.Goals as goal

pub returns-then-fits-clause-fits : goal.returns-then-fits-clause-fits
returns-then-fits-clause-fits g c =
    rw (← c.self.view_is)
    (words-fit_bank g.T.Sample.format c.self.inside.bank 0 c.args.numbers.now c.self.invariant.0.size
    (c.fits.ensures.0 c.if-fits.true))

pub returns-else-fits-clause-least : goal.returns-else-fits-clause-least
returns-else-fits-clause-least g c = rw (← c.self.view_is) (λ n fits.
    let some = c.fits.ensures.1
    (bank-fits_words g.T.Sample.format c.self.inside.bank c.args.numbers.now c.self.invariant.0.size (n, fits)) in
    let none = c.if-fits.false in
    cc)
