use Rattle.std.proofs.Common.{◌≡◌, ◌≢◌, ◌∙◌, ap, ◌+◌, ◌*◌, length, arith, rules, below_more, SFits, to_z-of_z}
use Rattle.std.proofs.Common.{nat_abs, w32}
use Rattle.dsp_defs.specs.Signal.{sample}
use Rattle.dsp_vector.proofs.routes.route_frames.Goals as goal

pub loop-to-preserved : goal.loop-to-preserved
loop-to-preserved c =
    let to = c.loop-to.to in
    let list = c.args.list.now in
    let frames = c.args.frames.now in
    let channels = c.args.channels in
    let out = c.copy_channel.new.out in
    let fits : SFits w32 (sample list to) = search rules in
    let from : c.unsigned_abs-from.result ≡ nat_abs (sample list to) = c.unsigned_abs-from.ensures.value ∙
    ap nat_abs (to_z-of_z fits) in
    λ n d h below.
    below_more (λ d. sample out (n * length list + d) ≡ sample frames (n * channels + nat_abs (sample list d))) to
    (λ d less.
    let apart : d ≢ to = omega (arith, less) in
    c.copy_channel.ensures.elsewhere n d (omega (arith, less, c.loop-to-test.true)) apart ∙
    c.loop-to.invariant n d h less)
    (c.copy_channel.ensures.here n h ∙ ap (λ k. sample frames (n * channels + k)) from) d below
