use Rattle.std.proofs.Common.{◌≡◌, ◌∙◌, ap, ◌+◌, ◌<◌, ◌≤◌, ◌++◌, ◌∷◌, [], length, arith, vec_len, vec_capacity}
use Rattle.std.proofs.lemmas.List.{length-take-le}
use Rattle.dsp_session.specs.Session.{measured}
use Rattle.dsp_cli.proofs.ReportLaws.{found-more}
use Rattle.dsp_cli.proofs.report.find_measures.Goals as goal

pub unreachable-requires : goal.unreachable-requires
unreachable-requires g c =
    let i = c.loop-index.index in
    let all = measured c.args.session.now in
    let within : i < length all = omega (arith, c.loop-index-test.true, c.measures-index-end.ensures.count) in
    let size : length c.loop-index.measures.items ≡ i = ap length c.loop-index.invariant.0 ∙
    length-take-le i all (omega (arith, within)) in
    let full : vec_capacity c.loop-index.measures ≤ vec_len c.loop-index.measures = c.in_default.ensures.full in
    omega (arith, full, c.loop-index.invariant.1, size, within)

pub loop-index-init : goal.loop-index-init
loop-index-init g c = (
  c.requires.empty,
  omega (arith, c.requires.room, c.measures-index-end.ensures.count, c.measures-index-end.ensures.stays),
)

pub loop-index-preserved : goal.loop-index-preserved
loop-index-preserved g c =
    let i = c.loop-index.index in
    let all = measured c.args.session.now in (
      c.in-Ok.ensures.items ∙ ap (λ l. l ++ c.measure.result ∷ []) c.loop-index.invariant.0 ∙
          found-more all i (i + 1) c.measure.result (omega arith) c.measure.ensures,
      omega (arith, c.loop-index.invariant.1, c.in-Ok.ensures.capacity),
    )
