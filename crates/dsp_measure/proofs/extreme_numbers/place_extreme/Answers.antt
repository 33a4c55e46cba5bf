use Rattle.std.proofs.Common.{◌≡◌, ℕ, zero, suc, Some, None, IsTrue}
use Rattle.dsp_measure.specs.Extremes.{KeepsExtreme}
use Rattle.dsp_measure.proofs.extreme_numbers.place_extreme.Goals as goal

pub returns-else-are_of_some-clause-least : goal.returns-else-are_of_some-clause-least
returns-else-are_of_some-clause-least g c = by
  where
    by : (n : ℕ) → KeepsExtreme g.T.Sample.format n c.args.numbers.now → None ≡ Some n
    by zero keeps = (let yes : IsTrue c.are_of_none.result = c.are_of_none.ensures.1 keeps.1 in
        cc (c.if-are_of_none.false, yes))
    by (suc n) keeps = (let yes : IsTrue c.are_of_some.result = c.are_of_some.ensures.1 (n, keeps) in
        cc (c.if-are_of_some.false, yes))
