use Rattle.std.proofs.Common.{◌≡◌, ◌≢◌, ◌<◌, ◌≤◌, ◌+◌, ◌-◌, ap, length, map, take, arith, subst, below_more}
use Rattle.std.proofs.Common.{get_or-set_other, get_or-set_same, length-take-le, w32, w64, to_z, of_z, ◌∙◌}
use Rattle.std.proofs.lemmas.Int.{to_z-of_z}
use Rattle.std.proofs.lemmas.List.{length-map}
use Rattle.dsp_defs.specs.Signal.{sample}
use Rattle.dsp_defs.proofs.SumLemmas.{same_numbers, sample-map}
use Rattle.dsp_window.specs.Rolling.{Rolling, last_samples}
use Rattle.dsp_window.proofs.Rolls.{last_sample_is, length-last_samples}
use Rattle.dsp_window.proofs.window.Window.keep.Goals as goal

pub returns : goal.returns
returns g c =
    let number = g.T.Sample.number in
    let w = c.self.inside in
    let shown : length (map number (take w.filled w.samples.items)) ≡ w.filled =
    length-map (take w.filled w.samples.items) number ∙
    length-take-le w.filled w.samples.items (omega (arith, c.self.invariant.1)) in
    let within : c.args.self.now.past ≤ length c.args.self.now.samples =
    subst (λ (v : Rolling). v.past ≤ length v.samples) c.self.view_is (omega (arith, c.self.invariant.0)) in
    let long : length (last_samples c.args.self.now.past c.args.self.now.samples) ≡ c.args.self.now.past =
    length-last_samples c.args.self.now.past c.args.self.now.samples within in
    same_numbers c.loop-k.out (last_samples c.args.self.now.past c.args.self.now.samples) (omega arith)
    (λ i below. c.loop-k.invariant i (omega arith))

pub overflow_sub-from : goal.overflow_sub-from
overflow_sub-from g c = c.self.invariant.0

pub overflow_add-from : goal.overflow_add-from
overflow_add-from g c =
    let past : c.self.inside.past ≡ c.args.self.now.past = ap (λ v. v.past) c.self.view_is in
    omega arith

pub index-requires : goal.index-requires
index-requires g c =
    let past : c.self.inside.past ≡ c.args.self.now.past = ap (λ v. v.past) c.self.view_is in
    omega (arith, c.self.invariant.0, c.self.invariant.1)

pub loop-k-preserved : goal.loop-k-preserved
loop-k-preserved g c =
    let number = g.T.Sample.number in
    let w = c.self.inside in
    let k = c.loop-k.k in
    let past : w.past ≡ c.args.self.now.past = ap (λ v. v.past) c.self.view_is in
    let below : k < w.past = omega arith in
    let at = w.filled - w.past + k in
    let value : to_z w64 (of_z w64 c.from.result) ≡ sample (last_samples c.args.self.now.past c.args.self.now.samples)
    k =
    to_z-of_z w64 c.from.result (record { sfits = c.from.type_inv })
    ∙ c.from.ensures
    ∙ to_z-of_z w32 c.number.result (record { sfits = c.number.type_inv })
    ∙ c.number.ensures.value
    ∙ sample-map number w.samples.items at c.index.result.now (omega (arith, c.self.invariant.0, c.self.invariant.1))
    c.index.ensures
    ∙ last_sample_is number w.past w.filled k w.samples.items c.self.invariant.0 (omega (arith, c.self.invariant.1))
    below
    ∙ ap (λ (v : Rolling). sample (last_samples v.past v.samples) k) c.self.view_is in
    below_more _ k
    (λ i before. let other : i ≢ k = omega arith in rw get_or-set_other (c.loop-k.invariant i before))
    (let within : k < length c.loop-k.out = omega arith in rw get_or-set_same value)
