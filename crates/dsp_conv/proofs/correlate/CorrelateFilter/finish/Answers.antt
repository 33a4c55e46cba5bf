use Rattle.std.proofs.Common.{◌≡◌, ◌∙◌, ◌≤◌, ap, min, length, map, take, drop, vec_len, rules, arith, length-take-le}
use Rattle.std.proofs.lemmas.List.{length-map, take-append-le}
use Rattle.dsp_conv.specs.CorrelateState.{CorrelateState, tail_of}
use Rattle.dsp_conv.proofs.CorrelateFilters.{is-correlation, channel-finished}
use Rattle.dsp_conv.proofs.correlate.CorrelateFilter.finish.Goals as goal

pub returns-clause-finished : goal.returns-clause-finished
returns-clause-finished g c =
    let number = g.T.Sample.number in
    let d = c.args.self.now in
    let here = c.self.inside in
    let counted : vec_len here.taps ≡ length here.taps.items = search rules in
    let is = is-correlation number here.taps.items here.gather c.self.invariant counted c.self.view_is in
    let e = c.finish.ensures in
    let output = c.args.output.now in
    let piece = c.finish.new.output in
    let block : here.block ≡ d.block = ap (λ (s : CorrelateState). s.block) c.self.view_is in
    let lent : length (take here.block output) ≡ d.block =
    length-take-le here.block output (omega (arith, block, c.requires.room)) ∙ block in
    let count : c.finish.result ≡ min (length (tail_of g.T.Sample.format d)) d.block = e.given ∙
    ap (λ n. min (length (tail_of g.T.Sample.format d)) n) lent in
    let within : c.finish.result ≤ length piece = omega (arith, count, lent, c.finish.auto.output) in
    let long : length (map number (take c.finish.result piece)) ≡ c.finish.result =
    length-map (take c.finish.result piece) number ∙ length-take-le c.finish.result piece within in
    rw (take-append-le c.finish.result piece (drop here.block output) within)
    (channel-finished g.T.Sample.format d c.finish.new.self is c.finish.result e.same count
    (map number (take c.finish.result piece)) c.args.steps.now c.finish.new.steps long e.tail e.multiplies e.turns)
