use Rattle.std.proofs.Common.{◌≡◌, ◌≤◌, ◌<◌, ◌∙◌, ◌+◌, ◌*◌, ◌%◌, ℕ, List, ℤ, ap, sym, subst, refl, length, arith, w16}
use Rattle.std.proofs.Common.{w32}
use Rattle.std.proofs.lemmas.Nat.{mul-le}
use lib.Lanes.{Each1}
use mir.Val.{SFits}
use Rattle.dsp_lanes.specs.Pairs.{four, pair_sum}
use Rattle.dsp_lanes.proofs.LaneOps.{ints_of_bits, each_widens}
use Rattle.dsp_lanes.proofs.LaneSums.{raised}
use Rattle.dsp_lanes.proofs.PairSums.{half_is}
use Rattle.dsp_lanes.proofs.RowProducts.{four-more, four-fit}
use Rattle.dsp_lanes.proofs.matrix_rows.four_columns.Goals as goal

-- two rows of the matrix more
inside : (j columns given : ℕ) → j < columns → j % 2 ≡ 0 → columns % 2 ≡ 0 → (j + 2) * given ≤ columns * given
inside j columns given below even whole = mul-le (j + 2) given columns given (omega (arith, below, even, whole))
    (omega arith)

places : (g : _) (c : goal.In-pairs g) → (c.pairs.j + 2) * c.args.given ≤ c.args.columns * c.args.given
places g c = inside c.pairs.j c.args.columns c.args.given c.pairs-test.true c.pairs.invariant.even c.requires.even

pub overflow_mul-at : goal.overflow_mul-at
overflow_mul-at g c = omega (arith, places g c)

pub overflow_add-at : goal.overflow_add-at
overflow_add-at g c = omega (arith, places g c)

pub overflow_add-at-in-pairs : goal.overflow_add-at-in-pairs
overflow_add-at-in-pairs g c = omega (arith, places g c)

pub interleaved-elements-requires-clause-first : goal.interleaved-elements-requires-clause-first
interleaved-elements-requires-clause-first g c = omega (arith, places g c)

pub interleaved-elements-requires-clause-second : goal.interleaved-elements-requires-clause-second
interleaved-elements-requires-clause-second g c = omega (arith, places g c)

pub pair_products-requires-in-pairs-clause-fit : goal.pair_products-requires-in-pairs-clause-fit
pair_products-requires-in-pairs-clause-fit g c =
    let es = c.interleaved-elements.result in
    let fit = c.interleaved-elements.ensures.fit in
    subst (λ (l : List ℤ). Each1 (SFits w16) l) (sym (ints_of_bits w32 es (each_widens w16 w32 (omega arith) es fit)))
    fit

pub pairs-preserved : goal.pairs-preserved
pairs-preserved g c =
    let rows = c.args.rows.now in
    let matrix = c.args.matrix.now in
    let columns = c.args.columns in
    let given = c.args.given in
    let column = c.args.column in
    let j = c.pairs.j in
    let at = j * given + column in
    let h = c.pairs.invariant in
    let sums = c.pairs.sums in
    let es = c.interleaved-elements.result in
    let read = c.interleaved-elements.ensures in
    let back = ints_of_bits w32 es (each_widens w16 w32 (omega arith) es read.fit) in
    let two : j + 2 ≤ columns = omega (arith, c.pairs-test.true, h.even, c.requires.even) in
    let below = inside j columns given c.pairs-test.true h.even c.requires.even in
    let room : at + 4 ≤ length matrix = omega (arith, below, c.requires.matrix, c.requires.room) in
    let behind : at + given + 4 ≤ length matrix = omega (arith, below, c.requires.matrix, c.requires.room) in
    let zero : j ≡ 0 + j = omega arith in
    let fit_upper : Each1 (SFits w32) sums.upper = subst (λ (l : List ℤ). Each1 (SFits w32) l) (sym h.upper)
    (four-fit rows matrix given 0 j column) in
    let fit_lower : Each1 (SFits w32) sums.lower = subst (λ (l : List ℤ). Each1 (SFits w32) l) (sym h.lower)
    (four-fit rows matrix given columns j column) in
    let upper = half_is rows es sums.upper c.pair_products.result j 0 fit_upper
    (c.pair_products.ensures ∙ ap (λ l. four (pair_sum rows l j) 0) back) in
    let lower = half_is rows es sums.lower c.pair_products-in-pairs.result (columns + j) 0 fit_lower
    (c.pair_products-in-pairs.ensures ∙ ap (λ l. four (pair_sum rows l (columns + j)) 0) back) in
    record {
      even = omega (arith, h.even);
      within = two;
      upper = four-more rows matrix given 0 j at column sums.upper es _ refl room behind read.values h.upper
          (upper ∙ ap (λ q. raised w32 sums.upper (four (pair_sum rows es q) 0)) zero);
      lower = four-more rows matrix given columns j at column sums.lower es _ refl room behind read.values h.lower
          lower;
      counted = record {
        multiplies_rise = omega (arith, h.counted, c.count.ensures);
        turns_within = omega (arith, h.counted, c.count.ensures);
      };
    }
