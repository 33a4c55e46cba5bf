use Rattle.std.proofs.Common.{refl, sym, arith}
use Rattle.std.proofs.lemmas.Grind.{common_steps}
use Rattle.dsp_defs.specs.Grammar.{input_flow}
use Rattle.dsp_shape.proofs.FewFrames.{few_sound}
use Rattle.dsp_shape.proofs.FrameRules.{is-rule, whole-rule, window-rule}
use Rattle.dsp_shape.proofs.Placed.{placed_sound, rest_from}
use Rattle.dsp_check.proofs.PlaceSizes.{window-step}
use Rattle.dsp_check.proofs.lengths.window_fault.Goals as goal

pub loop-block-init : goal.loop-block-init
loop-block-init c =
    let s = c.args.script.now in
    rw c.as_slice-block-items.ensures (record {
      same = refl;
      placed = (input_flow s.input, placed_sound s c.requires.sound);
      few = few_sound s c.args.n c.requires.sound c.requires.legal c.requires.taken;
      taken = omega (arith, c.requires.taken);
    })

pub window-requires : goal.window-requires
window-requires c =
    let windows = rw (rest_from _ _ _ c.loop-block-test.true c.block-item.is) at c.loop-block.invariant in
    rw c.of-rule.ensures (record { rule = is-rule _ _ windows.placed.1.chain.0; taken = windows.taken })

pub whole-n-requires : goal.whole-n-requires
whole-n-requires c =
    let windows = rw (rest_from _ _ _ c.loop-block-test.true c.block-item.is) at c.loop-block.invariant in
    let none = rw (c.of-rule.ensures, window-rule _ _) at c.in-None.ensures in
    rw c.of-rule.ensures (record {
      rule = is-rule _ _ windows.placed.1.chain.0;
      taken = windows.taken;
      given = rw (whole-rule _ _) (window-step windows (sym none)).taken;
    })

pub returns-in_default : goal.returns-in_default
returns-in_default c =
    let found = rw (c.of-rule.ensures, window-rule _ _) at c.window.ensures in
    grind (arith, common_steps)

pub loop-block-preserved : goal.loop-block-preserved
loop-block-preserved c =
    let windows = rw (rest_from _ _ _ c.loop-block-test.true c.block-item.is) at c.loop-block.invariant in
    let none = rw (c.of-rule.ensures, window-rule _ _) at c.in-None.ensures in
    rw (c.whole-n.ensures, c.of-rule.ensures, whole-rule c.block-item.result c.loop-block.n)
    (window-step windows (sym none))
