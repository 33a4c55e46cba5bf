use Rattle.std.proofs.Common.{◌∙◌, ◌<◌, sym, subst, length}
use Rattle.std.specs.Int.{w64}
use Rattle.std.proofs.lemmas.Int.{to_z-of_z}
use Rattle.dsp_bank.proofs.Written.{number-more}
use Rattle.dsp_bank.proofs.kept.keep_samples.Goals as goal

pub loop-k-preserved : goal.loop-k-preserved
loop-k-preserved g c =
    let k = c.loop-k.k in
    let inside : c.loop-k.k < length c.args.samples.now = c.loop-k-test.true in
    let room = subst (λ n. k < n) (sym (c.loop-k.auto.out ∙ c.requires)) inside in
    let held = to_z-of_z w64 c.number_of.result (record { sfits = c.number_of.type_inv }) in
    number-more g.T.Sample.number c.args.samples.now c.loop-k.out k c.index-samples-k.result _ inside room
    c.index-samples-k.is (held ∙ c.number_of.ensures) c.loop-k.invariant
