use Rattle.std.proofs.Common.{◌≡◌, ◌∙◌, ap, sym, ◌+◌, ◌-◌, ◌*◌, ◌/◌, ◌<◌, ◌≤◌, length, take, drop, arith, length-take}
use Rattle.std.proofs.Common.{length-drop}
use Rattle.std.proofs.lemmas.List.{take_all}
use Rattle.dsp_au.specs.Exchange.{exchanged_first, exchanged_sample}
use Rattle.dsp_au.proofs.ExchangeLaws as laws
use Rattle.dsp_au.proofs.exchange.exchange_by.Goals as goal
use Rattle.dsp_wave.proofs.SampleBytes.{within-bytes}

pub loop-i-preserved : goal.loop-i-preserved
loop-i-preserved c =
    let w = c.args.width in
    let i = c.loop-i.i in
    let old = c.args.bytes.now in
    let now = c.loop-i.bytes in
    let out = c.exchange_sample.new.bytes in
    let size : i * w + w - i * w ≡ w = omega arith in
    let same : length now ≡ length old = c.loop-i.auto.bytes in
    let room : length old / w * w ≤ length old = omega (arith, c.requires.whole) in
    let below : i < length old / w = omega arith in
    let bound = within-bytes i (length old / w) w below in
    let long : length out ≡ w = omega (
      arith,
      c.exchange_sample.auto.bytes,
      length-take (i * w + w - i * w) (drop (i * w) now),
      length-drop (i * w) now,
      bound,
      room,
      same,
    ) in
    let is : out ≡ exchanged_sample (take w (drop (i * w) now)) = c.exchange_sample.ensures ∙
    ap (λ n. exchanged_sample (take n (drop (i * w) now))) size in
    rw size (record {
      front = laws.one_more_sample i w (length old / w) old now out below same room c.loop-i.invariant.front
          c.loop-i.invariant.rest long is;
      rest = laws.rest_stays i w (length old / w) old now out below same room c.loop-i.invariant.rest long;
    })

pub returns : goal.returns
returns c =
    let w = c.args.width in
    let old = c.args.bytes.now in
    let end : c.loop-i.i ≡ length old / w = omega arith in
    let all : length c.loop-i.bytes ≤ c.loop-i.i * w = rw end (omega (arith, c.requires.whole, c.loop-i.auto.bytes)) in
    sym (take_all (c.loop-i.i * w) c.loop-i.bytes all) ∙ c.loop-i.invariant.front ∙
    ap (λ n. exchanged_first n w old) end
