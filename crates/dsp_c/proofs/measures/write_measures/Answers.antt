use Rattle.std.proofs.Common.{◌∙◌, ◌+◌, ◌<◌, ◌++◌, ◌∷◌, [], length, map, take, drop, ap, sym, arith, rules}
use Rattle.std.proofs.lemmas.List.{take_more_set, map-append, drop-set-lt, drop-drop}
use Rattle.dsp_cli.proofs.ReportLaws.{found-more}
use Rattle.dsp_session.specs.Session.{measured}
use Rattle.dsp_c.specs.Measures.{row_of}
use Rattle.dsp_c.proofs.measures.write_measures.Goals as goal

pub loop-index-preserved : goal.loop-index-preserved
loop-index-preserved g c =
    let i = c.loop-index.index in
    let all = measured c.args.session.now in
    let rows = c.loop-index.measures in
    let within : i < length rows = omega (
      arith,
      c.loop-index-test.true,
      c.min-count.ensures,
      c.loop-index.auto.measures,
    ) in (
      take_more_set rows i c.row_of.result within
          ∙ (λ j. c.loop-index.invariant.0 j ++ c.row_of.ensures j ∷ [])
          ∙ sym (map-append row_of (take i all) (c.measure.result ∷ []))
          ∙ ap (map row_of) (found-more all i (i + 1) c.measure.result (omega arith) c.measure.ensures),
      drop-set-lt (i + 1) rows i c.row_of.result (omega arith)
          ∙ sym (drop-drop 1 i rows) ∙ ap (drop 1) c.loop-index.invariant.1 ∙ drop-drop 1 i c.args.measures.now,
    )

pub returns-clause-count : goal.returns-clause-count
returns-clause-count g c = search rules
