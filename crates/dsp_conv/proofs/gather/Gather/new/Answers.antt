use Rattle.std.proofs.Common.{◌≡◌, ◌∙◌, length, vec_len, rules, arith}
use Rattle.dsp_window.proofs.Rolls.{zeros_long}
use Rattle.dsp_defs.specs.declared.limits.TheConstants.{MAX_GATHERED}
use Rattle.dsp_conv.proofs.gather.Gather.new.Goals as goal

pub invariant_of-result : goal.invariant_of-result
invariant_of-result g c =
    let samples = c.in_ok-samples.samples in
    let view_len : vec_len samples ≡ length samples.items = search rules in
    (view_len ∙ zeros_long g.T.Sample.number MAX_GATHERED samples.items c.in_ok-samples.ensures, omega arith)
