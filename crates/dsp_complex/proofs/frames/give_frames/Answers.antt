use Rattle.std.proofs.Common.{◌≡◌, ◌∙◌, ap, ◌+◌, ◌*◌, ◌<◌, ◌≤◌, pos, length, subst, sym, below_more, arith, FitsSigned}
use Rattle.dsp_defs.specs.Formats.{word}
use Rattle.dsp_defs.specs.Signal.{sample, values}
use Rattle.dsp_complex.proofs.Placed.{frame-within, part-length, frame-is, placed-before, placed-here}
use Rattle.dsp_complex.proofs.frames.give_frames.Goals as goal

pub loop-n-preserved : goal.loop-n-preserved
loop-n-preserved g c =
    let K = g.O.FrameOperation.TAKEN in
    let M = g.O.FrameOperation.GIVEN in
    let value = g.O.FrameOperation.value in
    let n = c.loop-n.n in
    let w = word g.T.Sample.format in
    let frames = c.args.frames.now in
    let out = c.loop-n.out in
    let piece = c.give.new.out in
    let some : n < c.args.count = omega arith in
    let room : n * M + M ≤ length out = frame-within n c.args.count M (length out) some
    (omega (arith, c.requires.room, c.loop-n.auto.out)) in
    let inside : n * K + K ≤ length frames = frame-within n c.args.count K (length frames) some
    (omega (arith, c.requires.whole)) in
    let long : length piece ≡ M = c.give.auto.out ∙ part-length c.GIVEN-given.result M n out c.GIVEN-given.ensures
    room in
    let frame = frame-is c.TAKEN-taken.result K n frames c.TAKEN-taken.ensures inside in
    let before = placed-before c.GIVEN-given.result M n out piece c.GIVEN-given.ensures room long in
    let here = placed-here c.GIVEN-given.result M n out piece c.GIVEN-given.ensures room long in
    record {
      values = λ m d below within. below_more (λ m. sample _ (m * M + d) ≡ sample
          (value (values K (λ k. sample frames (m * K + k)))) d) n
          (λ m less. before m d less within ∙ c.loop-n.invariant.values m d less within)
          (here d within ∙ ap (λ l. sample l d) (c.give.ensures.value ∙ ap value frame)) m below;
      fits = λ m d below within. below_more (λ m. FitsSigned w (sample _ (m * M + d))) n
          (λ m less. subst (FitsSigned w) (sym (before m d less within)) (c.loop-n.invariant.fits m d less within))
          (subst (FitsSigned w) (sym (here d within)) (c.give.ensures.in_format d (pos 0)
          (omega (arith, within, long)))) m below;
      steps = record {
        multiplies_rise = omega (arith, c.loop-n.invariant.steps.multiplies_rise, c.give.ensures.steps.multiplies_rise);
        turns_within = omega (arith, c.loop-n.invariant.steps.turns_within, c.give.ensures.steps.turns_rise);
      };
    }
