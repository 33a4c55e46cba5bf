use Rattle.std.proofs.Common.{◌≡◌, ◌∙◌, ◌≤◌, true, false, length, sym, ap, subst}
use Rattle.dsp_defs.specs.Canon.{canon}
use Rattle.dsp_defs.specs.Grammar.{Reads}
use Rattle.dsp_defs.specs.Shape.{default_block, is_legal}
use Rattle.dsp_defs.specs.StateBytes.{CanRun}
use Rattle.dsp_defs.specs.declared.limits.TheConstants.{MAX_SCRIPT}
use Rattle.dsp_defs.specs.declared.script.Script.{Script}
use Rattle.dsp_state.proofs.NumberLaws.{same_bytes}
use Rattle.dsp_state.proofs.fields.read_canonical.Goals as goal

pub returns-clause-some : goal.returns-clause-some
returns-clause-some c script same =
    let is : c.in-Ok.script ≡ script = cc in
    let text : c.in_ok-canonical.canonical.items ≡ c.args.text.now = sym c.as_slice.ensures.value ∙
    same_bytes c.as_slice.result.now c.args.text.now c.if-ne.ensures in
    let legal : c.legal.result ≡ true = c.if-not-legal.false in
    subst (λ (s : Script). CanRun s × (canon s ≡ c.args.text.now)) is (
      record {
        sound = (c.args.text.now, c.in-Ok.ensures.reads);
        block = c.default_block.result;
        legal =
            sym c.legal.ensures ∙ legal;
      },
      sym c.in_ok-canonical.ensures ∙ text,
    )

pub returns-then-not-legal-clause-none : goal.returns-then-not-legal-clause-none
returns-then-not-legal-clause-none c none script runs is =
    let short : length (canon script) ≤ MAX_SCRIPT = subst (λ bytes. length bytes ≤ MAX_SCRIPT) (sym is) c.requires in
    let reads : Reads c.args.text.now script =
    subst (λ bytes. Reads bytes script) is (c.canonical_text_is_read_back.ensures script runs.sound short) in
    let same : script ≡ c.in-Ok.script =
    c.one_reading.ensures.one c.args.text.now script c.in-Ok.script reads c.in-Ok.ensures.reads in
    let legal = subst (λ (s : Script). is_legal s.input.channels s.blocks (default_block s.input.channels s.blocks) ≡
    true) same (c.default_length_is_legal.ensures script runs.block runs.sound runs.legal) in
    let found : Script = c.in-Ok.script in
    let both : false ≡ true = c.if-not-legal.ensures
    ∙ ap (is_legal found.input.channels found.blocks) c.default_block.ensures ∙ legal in
    cc
