use Rattle.std.proofs.Common.{ap, sym, ◌∙◌}
use Rattle.dsp_command.specs.Words.{command_of}
use Rattle.dsp_cli.proofs.WordLaws.{four_words, five_words, six_words}
use Rattle.dsp_cli.proofs.command.command.Goals as goal

pub returns-in-4 : goal.returns-in-4
returns-in-4 c =
    c.command_of_four.ensures
    ∙ ap command_of (sym (four_words c.args.words.now _ _ _ _ (sym c.len.ensures ∙ c.in-4.is) c.word-in-4.ensures
    c.word-in-4-2.ensures c.word-in-4-3.ensures c.word-in-4-4.ensures))

pub returns-in-5 : goal.returns-in-5
returns-in-5 c =
    c.command_of_five.ensures
    ∙ ap command_of (sym (five_words c.args.words.now _ _ _ _ _ (sym c.len.ensures ∙ c.in-5.is) c.word-in-5.ensures
    c.word-in-5-2.ensures c.word-in-5-3.ensures c.word-in-5-4.ensures c.word-in-5-5.ensures))

pub returns-in-6 : goal.returns-in-6
returns-in-6 c =
    c.command_of_six.ensures
    ∙ ap command_of (sym (six_words c.args.words.now _ _ _ _ _ _ (sym c.len.ensures ∙ c.in-6.is) c.word-in-6.ensures
    c.word-in-6-2.ensures c.word-in-6-3.ensures c.word-in-6-4.ensures c.word-in-6-5.ensures c.word-in-6-6.ensures))
