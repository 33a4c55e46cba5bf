use Rattle.std.proofs.Common.{◌≡◌, ◌∙◌, ◌+◌, ◌*◌, ap, refl, sym, ℕ, ℤ, length, map, set, take_all, arith, rules}
use Rattle.std.proofs.Common.{length-set}
use Rattle.std.proofs.lemmas.List.{length-map}
use Rattle.dsp_defs.specs.Formats.{close}
use Rattle.dsp_defs.specs.Signal.{values}
use Rattle.dsp_defs.proofs.FormatLemmas.{close-wrap}
use Rattle.dsp_lanes.specs.Rows.{row_at}
use Rattle.dsp_lanes.proofs.DotSums.{write-one, counted-more, one-row, piece-row}
use Rattle.dsp_lanes.proofs.lanes.Lanes.strided_rows.Goals as goal

pub four_dots-sums-requires-clause-window : goal.four_dots-sums-requires-clause-window
four_dots-sums-requires-clause-window g c =
    let at = c.fours.at in
    let step = c.args.step in
    let split : (at + 3) * step ≡ at * step + 3 * step = omega arith in
    let room = c.requires (at + 3) (omega arith) in
    omega (arith, split, room)

pub fours-preserved : goal.fours-preserved
fours-preserved g c =
    let T = g.T.Sample in
    let at = c.fours.at in
    let step = c.args.step in
    let start = c.args.first in
    let taps = map T.number c.args.taps.now in
    let window = map T.number c.args.window.now in
    let f : ℕ → ℤ = λ i. close T.format (row_at taps window (start + i * step)) in
    let sums = c.four_dots-sums.ensures in
    let out0 = c.fours.out in
    let out1 = set out0 at c.close.result in
    let out2 = set out1 (at + 1) c.close-in-fours.result in
    let out3 = set out2 (at + 2) c.close-in-fours-2.result in
    let long1 : length out1 ≡ length out0 = length-set out0 at c.close.result in
    let long2 : length out2 ≡ length out1 = length-set out1 (at + 1) c.close-in-fours.result in
    let long3 : length out3 ≡ length out2 = length-set out2 (at + 2) c.close-in-fours-2.result in
    let long4 = length-set out3 (at + 3) c.close-in-fours-3.result in
    let place1 : start + at * step + step ≡ start + (at + 1) * step = omega arith in
    let place2 : start + at * step + 2 * step ≡ start + (at + 2) * step = omega arith in
    let place3 : start + at * step + 3 * step ≡ start + (at + 3) * step = omega arith in
    let closed : ℕ → ℤ = λ p. close T.format (row_at taps window p) in
    let value0 = c.close.ensures ∙ ap (close T.format) sums.first ∙
    close-wrap T.format (row_at taps window (start + at * step)) in
    let value1 = c.close-in-fours.ensures ∙ ap (close T.format) sums.second ∙
    close-wrap T.format (row_at taps window (start + at * step + step)) ∙ ap closed place1 in
    let value2 = c.close-in-fours-2.ensures ∙ ap (close T.format) sums.third ∙
    close-wrap T.format (row_at taps window (start + at * step + 2 * step)) ∙ ap closed place2 in
    let value3 = c.close-in-fours-3.ensures ∙ ap (close T.format) sums.fourth ∙
    close-wrap T.format (row_at taps window (start + at * step + 3 * step)) ∙ ap closed place3 in
    let written1 = write-one T.number f at (at + 1) out0 c.close.result refl (omega arith) c.fours.invariant.written
    value0 in
    let written2 = write-one T.number f (at + 1) (at + 2) out1 c.close-in-fours.result (omega arith)
    (omega (arith, long1)) written1 value1 in
    let written3 = write-one T.number f (at + 2) (at + 3) out2 c.close-in-fours-2.result (omega arith)
    (omega (arith, long1, long2)) written2 value2 in
    record {
      within = omega (arith, long1, long2, long3, long4);
      written = write-one T.number f (at + 3) (at + 4) out3 c.close-in-fours-3.result (omega arith)
          (omega (arith, long1, long2, long3)) written3 value3;
      counted = counted-more _ _ _ at 4 _ _ _ refl c.fours.invariant.counted sums.steps;
    }

pub rest-preserved : goal.rest-preserved
rest-preserved g c =
    let T = g.T.Sample in
    let at = c.rest.at in
    let taps = map T.number c.args.taps.now in
    let window = map T.number c.args.window.now in
    let place = c.args.first + at * c.args.step in
    let f : ℕ → ℤ = λ i. close T.format (row_at taps window (c.args.first + i * c.args.step)) in
    let v = c.close-in-rest.result in
    let long = length-set c.rest.out at v in
    let summed = c.dot-sum.ensures in
    let value = c.close-in-rest.ensures
    ∙ ap (close T.format) summed.sum
    ∙ close-wrap T.format _
    ∙ ap (close T.format) (piece-row T.number c.args.taps.now c.args.window.now place (length c.args.taps.now) _ refl
    refl) in
    record {
      within = omega (arith, long);
      written = write-one T.number f at _ c.rest.out v refl (omega arith) c.rest.invariant.written value;
      counted = counted-more _ _ _ at 1 _ _ _ refl c.rest.invariant.counted (one-row _ _ _ _ summed.steps);
    }

pub returns-clause-out : goal.returns-clause-out
returns-clause-out g c =
    let T = g.T.Sample in
    let taps = map T.number c.args.taps.now in
    let window = map T.number c.args.window.now in
    let long = length-map c.rest.out T.number in
    let all : c.rest.at ≡ length c.args.out.now = omega arith in
    sym (take_all c.rest.at (map T.number c.rest.out) (omega arith))
    ∙ c.rest.invariant.written
    ∙ ap (λ n. values n (λ i. close T.format (row_at taps window (c.args.first + i * c.args.step)))) all

-- the places of the windows
pub overflow_mul-at : goal.overflow_mul-at
overflow_mul-at g c = let room = c.requires c.fours.at (omega arith) in omega (arith, room)

pub overflow_add-first : goal.overflow_add-first
overflow_add-first g c = let room = c.requires c.fours.at (omega arith) in omega (arith, room)

pub overflow_mul-start : goal.overflow_mul-start
overflow_mul-start g c = let room = c.requires c.rest.at (omega arith) in omega (arith, room)

pub overflow_add-start : goal.overflow_add-start
overflow_add-start g c = let room = c.requires c.rest.at (omega arith) in omega (arith, room)

pub overflow_add-start-in-rest : goal.overflow_add-start-in-rest
overflow_add-start-in-rest g c = let room = c.requires c.rest.at (omega arith) in omega (arith, room)

pub slice_bounds-dot-count : goal.slice_bounds-dot-count
slice_bounds-dot-count g c = let room = c.requires c.rest.at (omega arith) in omega (arith, room)

pub slice_bounds-dot-start : goal.slice_bounds-dot-start
slice_bounds-dot-start g c = let room = c.requires c.rest.at (omega arith) in omega (arith, room)

pub slice_bounds-dot-end : goal.slice_bounds-dot-end
slice_bounds-dot-end g c = let room = c.requires c.rest.at (omega arith) in omega (arith, room)

pub dot-sum-requires-clause-same : goal.dot-sum-requires-clause-same
dot-sum-requires-clause-same g c = let room = c.requires c.rest.at (omega arith) in search (rules, room)
