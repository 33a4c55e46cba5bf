use Rattle.std.proofs.Common.{◌≡◌, ◌≢◌, ◌∙◌, ap, sym, ◌<◌, pos, length, map, take, to_z, of_z, vec_len, below_more}
use Rattle.std.proofs.Common.{length-take-le, get_or-set_same, get_or-set_other, get_or-take, arith, rules}
use Rattle.std.specs.Int.{w64}
use Rattle.std.proofs.lemmas.Int.{ints}
use Rattle.std.proofs.lemmas.List.{length-map, take-map}
use Rattle.dsp_defs.specs.Signal.{sample}
use Rattle.dsp_defs.proofs.SumLemmas.{same_numbers, sample-map}
use Rattle.dsp_matrix.specs.Groups.{OpenState}
use Rattle.dsp_matrix.proofs.open_group.OpenGroup.keep.Goals as goal

pub loop-k-preserved : goal.loop-k-preserved
loop-k-preserved g c =
    let number = g.T.Sample.number in
    let k = c.loop-k.k in
    let out = c.loop-k.out in
    let o = c.self.inside in
    let items = o.samples.items in
    let v = to_z w64 (of_z w64 c.from.result) in
    let view_len : vec_len o.samples ≡ length items = search rules in
    let count = ap (λ (s : OpenState). length s.numbers) (sym c.self.view_is) ∙
    length-map (take o.count items) number ∙ length-take-le o.count items (omega (arith, view_len)) in
    let below : k < o.count = omega (arith, count) in
    let cast : v ≡ c.number.result = omega (arith, ints) in
    let read = cast ∙ c.number.ensures.value ∙ sample-map number items k c.index.result.now
    (omega (arith, view_len, below)) c.index.ensures in
    let first = ap (λ l. sample l k) (sym (take-map number o.count items)) ∙
    get_or-take o.count (map number items) k (pos 0) below in
    below_more _ k
    (λ i before. let other : i ≢ k = omega arith in get_or-set_other out k i v (pos 0) other ∙
    c.loop-k.invariant i before)
    (get_or-set_same out k v (pos 0) (omega arith) ∙ read ∙ sym first ∙
    ap (λ (s : OpenState). sample s.numbers k) c.self.view_is)

pub returns : goal.returns
returns g c = same_numbers c.loop-k.out c.args.self.now.numbers (omega arith)
    (λ i below. c.loop-k.invariant i (omega arith))
