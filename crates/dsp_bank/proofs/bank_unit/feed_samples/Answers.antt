use Rattle.std.proofs.Common.{◌∙◌, ◌/◌, sym, subst, false, length, map}
use Rattle.dsp_unit.specs.Channels.{AreFed}
use Rattle.dsp_bank.specs.Bank.{bank_filters}
use Rattle.dsp_bank.proofs.bank_unit.feed_samples.Goals as goal

pub returns-clause-fed : goal.returns-clause-fed
returns-clause-fed g c =
    let format = g.T.Sample.format in
    let old = bank_filters format false c.args.bank.now in
    let new = bank_filters format false c.process.new.self in
    let row = c.args.bank.now.channels in
    let frames = c.args.frames.now in
    let out = map g.T.Sample.number c.process.new.out in
    let before = c.args.steps.now in
    let after = c.process.new.steps in
    let size = c.take_numbers.auto.samples ∙ c.requires.input in
    let by_samples = subst (λ n. AreFed old new (n / row) (map g.T.Sample.number c.take_numbers.new.samples) (n / row)
    out before after) size c.process.ensures.fed in
    let taken = subst (λ l. AreFed old new (length frames / row) l (length frames / row) out before after)
    c.take_numbers.ensures by_samples in
    subst (λ l. AreFed old new (length frames / row) frames (length frames / row) l before after)
    (sym c.put_numbers.ensures.value) taken
