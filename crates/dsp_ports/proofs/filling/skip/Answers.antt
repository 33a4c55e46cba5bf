use Rattle.std.proofs.Common.{◌≡◌, ◌-◌, ◌≤◌, ◌++◌, ◌∙◌, arith, length, take}
use Rattle.std.proofs.lemmas.Grind.{common_steps}
use Rattle.std.proofs.lemmas.Result.{err_from_is_err_and}
use Rattle.dsp_ports.proofs.Skipping.{piece_skipped, piece_unskipped}
use Rattle.dsp_ports.proofs.filling.skip.Goals as goal

pub returns-in_err-came-clause-err : goal.returns-in_err-came-clause-err
returns-in_err-came-clause-err g c =
    let kept = c.loop-skipped.invariant in
    let (front, said, gave) = kept.came in
    let (error, is, same) = err_from_is_err_and c.from_residual.result c.from_residual.ensures.1 in
    let long : length c.fill.new.block ≤ c.args.count - c.loop-skipped.skipped =
    grind (arith, common_steps, c.fill.auto.block, c.min-size.ensures) in
    rw (is, same) (piece_unskipped _ c.args.count c.args.room _ _ _ front said gave kept.faults kept.going kept.room _
    (omega (arith, long, kept.within)) _ c.in_err-came.ensures.err)

pub returns-then-came-size-clause-ok : goal.returns-then-came-size-clause-ok
returns-then-came-size-clause-ok g c =
    let kept = c.loop-skipped.invariant in
    let (front, said, gave) = kept.came in
    let long : length c.fill.new.block ≡ c.min-size.result =
    grind (arith, common_steps, c.fill.auto.block, c.min-size.ensures) in
    let filled = c.in_ok-came.ensures.ok in
    let (all, whole) = piece_skipped _ _ _ _ front said gave kept.going _ _ _ filled in
    record {
      bytes = front ++ take c.in_ok-came.came c.fill.new.block;
      long = all;
      within = omega (arith, filled.within, long, c.min-size.ensures);
      in_room = omega (arith, filled.in_room, kept.room);
      gave = whole;
      end = λ less. filled.end (omega (arith, long, c.if-came-size.true));
      no_fault = filled.no_fault ∙ kept.faults;
      going = λ all. absurd (omega (arith, all, c.if-came-size.true, c.min-size.ensures));
    }

pub loop-skipped-preserved : goal.loop-skipped-preserved
loop-skipped-preserved g c =
    let kept = c.loop-skipped.invariant in
    let (front, said, gave) = kept.came in
    let long : length c.fill.new.block ≡ c.min-size.result =
    grind (arith, common_steps, c.fill.auto.block, c.min-size.ensures) in
    let filled = c.in_ok-came.ensures.ok in
    let (all, whole) = piece_skipped _ _ _ _ front said gave kept.going _ _ _ filled in
    record {
      within = omega (arith, filled.within, long, c.min-size.ensures);
      room = omega (arith, filled.in_room, kept.room);
      came = (front ++ take c.in_ok-came.came c.fill.new.block, all, whole);
      faults = filled.no_fault ∙ kept.faults;
      going = filled.going (omega (arith, long)) ∙ kept.going;
    }
