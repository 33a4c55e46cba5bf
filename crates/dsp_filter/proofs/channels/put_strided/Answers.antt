use Rattle.std.proofs.Common.{◌≡◌, ◌≢◌, ◌∙◌, ◌+◌, ◌*◌, ◌<◌, pos, length, arith, rules, below_more, SFits, to_z, of_z}
use Rattle.std.proofs.Common.{to_z-of_z}
use mir.Syntax.{w32}
use Rattle.std.proofs.lemmas.List.{get_or-set_other, get_or-set_same}
use Rattle.std.proofs.lemmas.Nat.{mul-add-lt}
use Rattle.dsp_defs.proofs.SumLemmas.{sample-map}
use Rattle.dsp_filter.proofs.Places.{same-frame, same-channel}
use Rattle.dsp_filter.proofs.channels.put_strided.Goals as goal

pub loop-n-preserved : goal.loop-n-preserved
loop-n-preserved g c =
    let i = c.loop-n.n in
    let channels = c.args.channels in
    let channel = c.args.channel in
    let out = c.loop-n.out in
    let v = to_z w32 (of_z w32 c.number.result) in
    let inside : channel < channels = c.requires.inside in
    let some : i < length c.args.output.now = c.loop-n-test.true in
    let bound = mul-add-lt i channels channel (length c.args.output.now) some inside in
    let room : i * channels + channel < length out = omega (arith, bound, c.requires.room, c.loop-n.auto.out) in
    let fits : SFits w32 c.number.result = search rules in
    let made : v ≡ g.T.Sample.number c.index-output-n.result = to_z-of_z fits ∙ c.number.ensures.value in
    record {
      here = below_more _ i
          (λ n below.
          let other : n * channels + channel ≢ i * channels + channel =
          λ e. (let same = same-frame channels n i channel channel inside inside e in omega (arith, same, below)) in
          get_or-set_other out (i * channels + channel) (n * channels + channel) v (pos 0) other ∙
          c.loop-n.invariant.here n below)
          (get_or-set_same out (i * channels + channel) v (pos 0) room ∙ made ∙
          sample-map g.T.Sample.number c.args.output.now i c.index-output-n.result some c.index-output-n.is);
      fits = below_more _ i
          (λ n below.
          let other : n * channels + channel ≢ i * channels + channel =
          λ e. (let same = same-frame channels n i channel channel inside inside e in omega (arith, same, below)) in
          rw (get_or-set_other out (i * channels + channel) (n * channels + channel) v (pos 0) other)
          (c.loop-n.invariant.fits n below))
          (rw (get_or-set_same out (i * channels + channel) v (pos 0) room, to_z-of_z fits) c.number.ensures.fits);
      elsewhere = λ n d within apart.
          let other : n * channels + d ≢ i * channels + channel =
          λ e. apart (same-channel channels n i d channel within inside e) in
          get_or-set_other out (i * channels + channel) (n * channels + d) v (pos 0) other ∙
          c.loop-n.invariant.elsewhere n d within apart;
    }
