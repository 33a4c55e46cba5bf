use Rattle.std.proofs.Common.{ℕ, ◌≡◌, ◌∙◌, List, ℤ, ap, sym, subst, map, length, take, take_all, w32, ◌+◌, ◌*◌, ◌<◌}
use Rattle.std.proofs.Common.{◌≤◌, ◌++◌, arith}
use Rattle.std.proofs.lemmas.List.{drop-append-le, drop_all, take-append-le}
use lib.Lanes.{put_chunk, Each1}
use mir.Val.{SFits}
use Rattle.dsp_defs.specs.Formats.{close}
use Rattle.dsp_defs.specs.Signal.{values}
use Rattle.dsp_defs.specs.declared.format.Fmt.TheVariants.{Q15}
use Rattle.dsp_lanes.specs.Narrow.{IsNarrow}
use Rattle.dsp_lanes.specs.MatrixRows.{column_of, column_sum, shut}
use Rattle.dsp_lanes.proofs.LaneOps.{ints_of_bits}
use Rattle.dsp_lanes.proofs.LaneRows.{rows-group}
use Rattle.dsp_lanes.proofs.RowProducts.{four-fit, four-shut}
use Rattle.dsp_lanes.proofs.matrix_rows.multiply_two_rows.Goals as goal

pub fours-preserved : goal.fours-preserved
fours-preserved g c =
    let rows = c.args.rows.now in
    let matrix = c.args.matrix.now in
    let columns = c.args.columns in
    let given = c.args.given in
    let column = c.fours.column in
    let h = c.fours.invariant in
    let room : column + 4 ≤ given = omega (arith, c.fours-test.true, h.fours, c.requires.fours) in
    let narrow : (i : ℕ) → i < 4 → IsNarrow (column_of matrix columns given (column + i)) =
    λ i below. c.requires.narrow (column + i) (omega (arith, below, room)) in
    let sums = c.four_columns-sums.result in
    let is = c.four_columns-sums.ensures in
    let fit_upper = subst (λ (l : List ℤ). Each1 (SFits w32) l) (sym is.upper)
    (four-fit rows matrix given 0 columns column) in
    let fit_lower = subst (λ (l : List ℤ). Each1 (SFits w32) l) (sym is.lower)
    (four-fit rows matrix given columns columns column) in
    let upper = ap (map shut) (ints_of_bits w32 sums.upper fit_upper) ∙
    four-shut rows matrix given 0 columns c.q15_fit.ensures column sums.upper narrow is.upper in
    let lower = ap (map shut) (ints_of_bits w32 sums.lower fit_lower) ∙
    four-shut rows matrix given columns columns c.q15_fit.ensures column sums.lower narrow is.lower in
    let made : 2 * (column + 4) * columns ≡ 2 * column * columns + 8 * columns = omega arith in
    record {
      fours = omega (arith, h.fours);
      within = room;
      upper = rows-group (λ l. close Q15 (column_sum rows matrix columns given 0 l)) column 4 c.close_four.new.out
          c.fours.upper (omega arith) h.upper (c.close_four.ensures ∙ ap (put_chunk column c.fours.upper) upper);
      lower = rows-group (λ l. close Q15 (column_sum rows matrix columns given columns l)) column 4
          c.close_four-in-fours.new.out c.fours.lower (omega arith) h.lower
          (c.close_four-in-fours.ensures ∙ ap (put_chunk column c.fours.lower) lower);
      counted = record {
        multiplies_rise = omega (arith, h.counted, is.steps, made);
        turns_within = omega (arith, h.counted, is.steps, made);
      };
    }

pub close_four-requires-clause-fit : goal.close_four-requires-clause-fit
close_four-requires-clause-fit g c =
    let sums = c.four_columns-sums.result.upper in
    let fit = subst (λ (l : List ℤ). Each1 (SFits w32) l) (sym c.four_columns-sums.ensures.upper)
    (four-fit c.args.rows.now c.args.matrix.now c.args.given 0 c.args.columns c.fours.column) in
    subst (λ (l : List ℤ). Each1 (SFits w32) l) (sym (ints_of_bits w32 sums fit)) fit

pub close_four-requires-in-fours-clause-fit : goal.close_four-requires-in-fours-clause-fit
close_four-requires-in-fours-clause-fit g c =
    let sums = c.four_columns-sums.result.lower in
    let fit = subst (λ (l : List ℤ). Each1 (SFits w32) l) (sym c.four_columns-sums.ensures.lower)
    (four-fit c.args.rows.now c.args.matrix.now c.args.given c.args.columns c.args.columns c.fours.column) in
    subst (λ (l : List ℤ). Each1 (SFits w32) l) (sym (ints_of_bits w32 sums fit)) fit

pub returns-clause-upper : goal.returns-clause-upper
returns-clause-upper g c =
    let a = c.args in
    let all : a.given ≡ c.fours.column = omega (arith, c.fours-test.false, c.fours.invariant.within) in
    let long : length c.fours.upper ≡ a.given = c.fours.auto.upper ∙ c.split_at_mut-upper.ensures.front_len in
    take-append-le a.given c.fours.upper c.fours.lower (omega (arith, long))
    ∙ ap (λ n. take n c.fours.upper) all
    ∙ c.fours.invariant.upper
    ∙ ap (λ n. values n (λ l. close Q15 (column_sum a.rows.now a.matrix.now a.columns a.given 0 l))) (sym all)

pub returns-clause-lower : goal.returns-clause-lower
returns-clause-lower g c =
    let a = c.args in
    let all : a.given ≡ c.fours.column = omega (arith, c.fours-test.false, c.fours.invariant.within) in
    let front : length c.fours.upper ≡ a.given = c.fours.auto.upper ∙ c.split_at_mut-upper.ensures.front_len in
    let long : length c.fours.lower ≤ c.fours.column = omega
    (arith, c.fours.auto.lower, c.split_at_mut-upper.ensures.back_len, c.requires.out, all) in
    drop-append-le a.given c.fours.upper c.fours.lower (omega (arith, front))
    ∙ ap (λ l. l ++ c.fours.lower) (drop_all a.given c.fours.upper (omega (arith, front)))
    ∙ sym (take_all c.fours.column c.fours.lower long)
    ∙ c.fours.invariant.lower
    ∙ ap (λ n. values n (λ l. close Q15 (column_sum a.rows.now a.matrix.now a.columns a.given a.columns l))) (sym all)
