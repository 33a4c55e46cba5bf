use Rattle.std.proofs.Common.{◌∙◌, ◌≤◌, length, rules, arith}
use Rattle.dsp_au.proofs.ExchangeLaws as laws
use Rattle.dsp_au.proofs.exchange.exchange_threes.Goals as goal

pub slice_bounds-first-end-2 : goal.slice_bounds-first-end-2
slice_bounds-first-end-2 c =
    let room : 16 ≤ length c.args.bytes.now = omega arith in
    search rules

pub returns : goal.returns
returns c =
    c.swap.ensures.after ∙
    laws.sixteen_samples c.args.bytes.now c.five_exchanged-first.result c.five_exchanged-second.result
    c.five_exchanged-third.result c.requires.full c.five_exchanged-first.ensures.lanes
    c.five_exchanged-second.ensures.lanes c.five_exchanged-third.ensures.lanes
