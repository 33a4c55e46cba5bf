use Rattle.std.proofs.Common.{◌≡◌, ◌∙◌, ℕ, ap, sym, Option, Some, None}
use Rattle.std.specs.Prelude.{unwrap_or}
use Rattle.std.specs.Option.{option_or}
use Rattle.dsp_defs.specs.Shape.{default_block}
use Rattle.dsp_defs.specs.declared.script.Script.{Script}
use Rattle.dsp_cli.specs.Script.{chosen}
use Rattle.dsp_cli.proofs.top.chosen.Goals as goal

-- a length that is named, or that of the script
some : (named : Option ℕ) (script : Script) (n : ℕ) → option_or named script.block ≡ Some n → n ≡ chosen named script
some (Some m) script n is = cc
some None script n is = sym (ap (λ o. unwrap_or o (default_block script.input.channels script.blocks)) is)

-- where neither is there
none : (named : Option ℕ) (script : Script) → option_or named script.block ≡ None
    → default_block script.input.channels script.blocks ≡ chosen named script
none (Some m) script is = absurd cc
none None script is = sym (ap (λ o. unwrap_or o (default_block script.input.channels script.blocks)) is)

pub returns-in-Some : goal.returns-in-Some
returns-in-Some c = c.from.ensures ∙ some c.args.named c.args.script.now c.in-Some.frames
    (sym c.or.ensures ∙ c.in-Some.is)

pub returns-in-None : goal.returns-in-None
returns-in-None c = c.default_block.ensures ∙ none c.args.named c.args.script.now (sym c.or.ensures ∙ c.in-None.is)
