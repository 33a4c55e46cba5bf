use Rattle.std.proofs.Common.{◌≡◌, ◌∙◌, length, map, take, arith, rules, vec_len, length-take-le}
use Rattle.std.proofs.lemmas.List.{length-map}
use Rattle.dsp_matrix.proofs.open_group.OpenGroup.fill.Goals as goal

pub returns-clause-count : goal.returns-clause-count
returns-clause-count g c =
    let o = c.self.inside in
    let size : vec_len o.samples ≡ length o.samples.items = search rules in
    let long : length (map g.T.Sample.number (take o.count o.samples.items)) ≡ o.count =
    length-map (take o.count o.samples.items) g.T.Sample.number ∙
    length-take-le o.count o.samples.items (omega (arith, size, c.self.invariant)) in
    rw (← c.self.view_is) (omega (arith, long))
