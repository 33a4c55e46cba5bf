use Rattle.std.proofs.Common.{ℕ, ◌≤◌, ◌∙◌, ◌^◌, sym, subst}
use Rattle.std.specs.Int.{int_wrap, w32}
use lib.Signed.{shr_z}
use Rattle.dsp_defs.specs.Signal.{sample, values}
use Rattle.dsp_sections.proofs.UnsignedLanes.{shifted_read}
use Rattle.dsp_sections.proofs.section_waves.shifted_words.Goals as goal

pub returns-clause-value : goal.returns-clause-value
returns-clause-value c =
    let few = subst (λ (k : ℕ). k ≤ 32) (sym c.from.ensures) c.requires.few in
    (shifted_read c.args.lanes c.requires.four c.requires.fit c.from.result few).0
    ∙ (λ t. values 4 (λ i. int_wrap w32 (shr_z (sample c.args.lanes i) (2 ^ c.from.ensures t))))

pub returns-clause-four : goal.returns-clause-four
returns-clause-four c =
    let few = subst (λ (k : ℕ). k ≤ 32) (sym c.from.ensures) c.requires.few in
    (shifted_read c.args.lanes c.requires.four c.requires.fit c.from.result few).1

pub returns-clause-fit : goal.returns-clause-fit
returns-clause-fit c =
    let few = subst (λ (k : ℕ). k ≤ 32) (sym c.from.ensures) c.requires.few in
    (shifted_read c.args.lanes c.requires.four c.requires.fit c.from.result few).2
