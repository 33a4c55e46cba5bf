use Rattle.std.proofs.Common.{◌≡◌, ◌∙◌, ◌++◌, length, map, min, take, ap, sym, arith}
use Rattle.std.proofs.lemmas.List.{length-take-le}
use Rattle.dsp_defs.specs.Output.{live_bytes, whole_bytes}
use Rattle.dsp_defs.specs.Shape.{window_at}
use Rattle.dsp_defs.specs.declared.script.Script.{Script}
use Rattle.dsp_chain.specs.Line.{measure_counts}
use Rattle.dsp_session.specs.Session.{measures_of, tail_bytes}
use Rattle.dsp_c.specs.Measures.{row_of}
use Rattle.dsp_c.proofs.pieces.counted_tail.Goals as goal

pub returns-clause-ok : goal.returns-clause-ok
returns-clause-ok g c =
    let opened = c.in_ok-session.ensures.ok in
    let behind = opened.behind in
    let fin = c.in_ok-given.ensures.ok in
    let given = c.in_ok-given.given in
    let k = c.write_measures-kept.result in
    let rows = c.write_measures-kept.new.measures in
    let size : tail_bytes c.in_ok-session.session.script c.in_ok-session.session.chain.frames ≡ tail_bytes
    opened.script c.args.frames = (λ i. tail_bytes (behind.script_is i) (behind.counted i)) in
    let given_long : length (take given c.finish.new.out) ≡ given =
    length-take-le given c.finish.new.out (omega (arith, fin.room, c.finish.auto.out)) in
    let count : k ≡ min (measure_counts opened.script.input.channels opened.script.blocks)
    (length c.args.measures.now) =
    c.write_measures-kept.ensures.count ∙ ap (λ (s : Script). min (measure_counts s.input.channels s.blocks)
    (length c.args.measures.now)) (fin.same.script ∙ behind.script_is) in
    let rows_long : length (take k rows) ≡ k = length-take-le k rows
    (omega (arith, count, c.write_measures-kept.auto.measures)) in
    record {
      script = opened.script;
      may = opened.may;
      no_window = (λ i. window_at (sym behind.script_is i).blocks (sym behind.counted i)) ∙ fin.no_window;
      long = given_long ∙ fin.given_is ∙ size;
      enough = omega (arith, fin.room, fin.given_is, size);
      tail = λ x long left.
          (λ i. whole_bytes (sym behind.script_is i) x) ∙ fin.tail x (behind.stands x long left) ∙
          (λ i. live_bytes (behind.script_is i) x ++ take given c.finish.new.out);
      count = rows_long ∙ count;
      measures = λ x long left.
          let found = fin.measures x (behind.stands x long left) ∙
          ap (λ (s : Script). measures_of s x) behind.script_is in
          c.write_measures-kept.ensures.rows ∙ (λ i. map row_of (take (sym rows_long i) (found i)));
    }
