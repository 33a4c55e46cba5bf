use Rattle.std.proofs.Common.{◌≡◌, ◌∙◌, ◌/◌, sym, subst, false, length, take, drop, ◌++◌, take_at}
use Rattle.std.proofs.Common.{length-take-le}
use Rattle.std.specs.Prelude.{All, FitsSigned}
use Rattle.dsp_defs.specs.Formats.{word}
use Rattle.dsp_unit.specs.Channels.{AreFed}
use Rattle.dsp_bank.specs.Bank.{bank_filters}
use Rattle.dsp_bank.proofs.bank_unit.feed_bank.Goals as goal
use Rattle.dsp_bank.proofs.bank_unit.feed_bank.Goals.{After-feed_samples}

-- what was written begins the output
written : (g : _) (c : After-feed_samples g) → take (length c.args.frames.now) (c.feed_samples.new.out ++ drop
    (length c.args.frames.now) c.args.out.now) ≡ c.feed_samples.new.out
written g c = take_at c.feed_samples.new.out (drop (length c.args.frames.now) c.args.out.now) (length c.args.frames.now)
    (c.feed_samples.auto.out ∙ length-take-le (length c.args.frames.now) c.args.out.now c.requires.out)

pub returns-clause-fed : goal.returns-clause-fed
returns-clause-fed g c =
    let format = g.T.Sample.format in
    let count = length c.args.frames.now / c.args.bank.now.channels in
    subst (λ l. AreFed (bank_filters format false c.args.bank.now) (bank_filters format false c.feed_samples.new.bank)
    count c.args.frames.now count l c.args.steps.now c.feed_samples.new.steps)
    (sym (written g (goal.at.returns-clause-fed g c).After-feed_samples)) c.feed_samples.ensures.fed

pub returns-clause-in_format : goal.returns-clause-in_format
returns-clause-in_format g c =
    subst (λ l. All (FitsSigned (word g.T.Sample.format)) l)
    (sym (written g (goal.at.returns-clause-in_format g c).After-feed_samples)) c.feed_samples.ensures.in_format
