use Rattle.std.proofs.Common.{◌≡◌, ◌∙◌, ap, sym, pos, length, set, take, to_z, of_z, vec_len, rules, arith}
use Rattle.std.specs.Int.{w32, w64}
use Rattle.std.proofs.lemmas.Grind.{get_or-set_at}
use Rattle.std.proofs.lemmas.List.{get_or-map, get_or-set_other, get_or-take, length-map, length-take}
use Rattle.dsp_defs.specs.Signal.{sample}
use Rattle.dsp_sat.proofs.Words.{widened}
use borrow.Author.Count.{below_more}
use Rattle.dsp_defs.proofs.SumLemmas.{same_numbers}
use Rattle.dsp_conv.proofs.gather.Gather.keep.Goals as goal

pub returns : goal.returns
returns g c = same_numbers c.loop-k.out c.args.self.now (omega arith) (λ i below. c.loop-k.invariant i (omega arith))

pub index-requires : goal.index-requires
index-requires g c =
    let d = c.self.inside in
    let view_len : vec_len d.samples ≡ length d.samples.items = search rules in
    let held = take d.held d.samples.items in
    omega (
      arith,
      c.loop-k-test.true,
      c.requires,
      ap length c.self.view_is,
      length-map held g.T.Sample.number,
      length-take d.held d.samples.items,
      view_len,
    )

pub loop-k-preserved : goal.loop-k-preserved
loop-k-preserved g c =
    let number = g.T.Sample.number in
    let d = c.self.inside in
    let k = c.loop-k.k in
    let x = c.index.result.now in
    let held = take d.held d.samples.items in
    let long = ap length c.self.view_is in
    let some = length-map held number in
    let most = length-take d.held d.samples.items in
    let read = widened w64 w32 c.from.result c.number.result (record { sfits = c.number.type_inv })
    (record { sfits = c.from.type_inv }) c.from.ensures
    ∙ c.number.ensures.value
    ∙ ap number (c.index.ensures ∙ sym (get_or-take d.held d.samples.items k x (omega arith)))
    ∙ sym (get_or-map number held k x (pos 0) (omega arith))
    ∙ ap (λ l. sample l k) c.self.view_is in
    below_more (λ i. sample (set c.loop-k.out k (to_z w64 (of_z w64 c.from.result))) i ≡ sample c.args.self.now i) k
    (λ i less. get_or-set_other c.loop-k.out k i _ (pos 0) (omega arith) ∙ c.loop-k.invariant i less)
    (get_or-set_at c.loop-k.out k k _ (pos 0) (omega arith) (omega arith) ∙ read)
