use Rattle.std.proofs.Common.{◌≢◌, ◌∙◌, ◌+◌, ◌*◌, ◌<◌, pos, length, arith, rules, below_more, SFits, to_z, of_z}
use Rattle.std.proofs.Common.{to_z-of_z, w32, get_or-set_other, get_or-set_same}
use Rattle.std.proofs.lemmas.Nat.{mul-add-lt}
use Rattle.dsp_defs.specs.Signal.{sample}
use Rattle.dsp_filter.proofs.Places.{same-frame, same-channel}
use Rattle.dsp_vector.proofs.routes.copy_channel.Goals as goal

pub loop-n-preserved : goal.loop-n-preserved
loop-n-preserved c =
    let i = c.loop-n.n in
    let width = c.args.width in
    let to = c.args.to in
    let out = c.loop-n.out in
    let taken = sample c.args.frames.now (i * c.args.channels + c.args.from) in
    let v = to_z w32 (of_z w32 taken) in
    let some : i < c.args.count = omega arith in
    let bound = mul-add-lt i width to c.args.count some c.requires.to in
    let room : i * width + to < length out = omega (arith, bound, c.requires.room, c.loop-n.auto.out) in
    let fits : SFits w32 taken = search rules in
    record {
      here = below_more _ i
          (λ n below.
          let other : n * width + to ≢ i * width + to = λ e.
          (let same = same-frame width n i to to c.requires.to c.requires.to e in omega (arith, same, below)) in
          get_or-set_other out (i * width + to) (n * width + to) v (pos 0) other ∙ c.loop-n.invariant.here n below)
          (get_or-set_same out (i * width + to) v (pos 0) room ∙ to_z-of_z fits);
      elsewhere = λ n d within apart.
          let other : n * width + d ≢ i * width + to = λ e. apart (same-channel width n i d to within c.requires.to e)
          in
          get_or-set_other out (i * width + to) (n * width + d) v (pos 0) other ∙
          c.loop-n.invariant.elsewhere n d within apart;
    }
