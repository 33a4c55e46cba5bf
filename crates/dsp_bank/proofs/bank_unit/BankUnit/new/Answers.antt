use Rattle.std.proofs.Common.{◌≡◌, ◌∙◌, ◌*◌, ◌≤◌, ap, subst, sym, Fits, w64}
use Rattle.dsp_defs.specs.declared.limits.TheConstants.{MAX_SAMPLES}
use Rattle.dsp_bank.specs.Bank.{IsNewBank}
use Rattle.dsp_bank.proofs.Amounts.{room-fits}
use Rattle.dsp_bank.proofs.BankUnits.{bank-new, new-whole}
use Rattle.dsp_bank.proofs.bank_unit.BankUnit.new.Goals as goal

pub overflow_mul-room : goal.overflow_mul-room
overflow_mul-room g c =
    subst (λ n. Fits w64 (c.args.frames * n)) (sym c.from.ensures) (room-fits (c.args.frames * c.args.channels)
    c.requires.samples)

pub invariant_of-result : goal.invariant_of-result
invariant_of-result g c =
    let format = g.T.Sample.format in
    let p = c.in-Biquad.post_shift in
    let numbers = c.in-Biquad.coefficients in
    let b = c.in_ok-bank.bank in
    let of = rw c.in-Biquad.is at c.requires.block in
    let made = subst (λ l. IsNewBank format p l c.args.channels c.args.frames b) (c.in_ok-coefficients.ensures
    ∙ c.as_slice.ensures) c.in_ok-bank.ensures in
    let samples : c.args.frames * c.args.channels ≡ b.capacity * b.channels =
    (λ i. sym made.capacity_is i * sym made.channels_are i) in
    let room = ap (λ n. c.args.frames * n) c.from.ensures ∙ samples in (
      new-whole format b p numbers c.args.channels c.args.frames made c.requires.channels c.ranges.channels.fits of.few,
      subst (λ n. n ≤ MAX_SAMPLES) samples c.requires.samples,
      c.in_ok-input.ensures.size ∙ room,
      c.in_ok-output.ensures.size ∙ room,
    )

pub returns : goal.returns
returns g c =
    let format = g.T.Sample.format in
    let p = c.in-Biquad.post_shift in
    let numbers = c.in-Biquad.coefficients in
    let b = c.in_ok-bank.bank in
    let made = subst (λ l. IsNewBank format p l c.args.channels c.args.frames b) (c.in_ok-coefficients.ensures
    ∙ c.as_slice.ensures) c.in_ok-bank.ensures in
    bank-new format b p numbers c.args.channels c.args.frames c.args.block.now c.in-Biquad.is made
