use Rattle.std.proofs.Common.{◌≡◌, refl, length, map, vec_len, rules, arith}
use Rattle.dsp_conv.proofs.CorrelateFilters.{is-correlation, samples-counted, channel-fed}
use Rattle.dsp_conv.proofs.correlate.CorrelateFilter.process.Goals as goal

pub unreachable-requires : goal.unreachable-requires
unreachable-requires g c =
    let (n, counts, within) = c.requires.accepts in
    let held = samples-counted g.T.Sample.format c.args.self.now n counts in
    let full = c.in-Err.ensures.full.0 refl in
    absurd (omega (arith, held, within, full))

pub returns-clause-fed : goal.returns-clause-fed
returns-clause-fed g c =
    let d = c.self.inside in
    let counted : vec_len d.taps ≡ length d.taps.items = search rules in
    let is = is-correlation g.T.Sample.number d.taps.items d.gather c.self.invariant counted c.self.view_is in
    channel-fed g.T.Sample.format c.args.self.now c.put.new.self is (map g.T.Sample.number c.args.input.now)
    c.args._steps.now c.requires.running c.in-Ok.ensures.taken
