use Rattle.std.proofs.Common.{◌≡◌, ◌≤◌, ap, refl, get_or, length, map, arith}
use Rattle.dsp_defs.specs.Signal.{sample}
use Rattle.dsp_defs.proofs.SumLemmas.{sample-map}
use Rattle.dsp_lanes.specs.Turns.{lane_turns}
use Rattle.dsp_fir.proofs.DelayLemmas.{taps-more, tap-counted}
use Rattle.dsp_fir.proofs.delayed_rows.add_taps.Goals as goal

pub loop-k-preserved : goal.loop-k-preserved
loop-k-preserved g c =
    let T = g.T.Sample in
    let k = c.loop-k.k in
    let n = length c.args.sums.now in
    let delays = c.args.delays.now in
    let tap_is : T.number c.index-taps-k.result ≡ sample (map T.number c.args.taps.now) k =
    sample-map T.number c.args.taps.now k c.index-taps-k.result (omega arith) c.index-taps-k.is in
    let near : get_or delays k 0 ≤ c.args.past = c.requires.within k 0 (omega arith) in
    let size : length c.loop-k.sums ≡ n = omega arith in
    record {
      summed = taps-more T.number T.format (map T.number c.args.taps.now) delays c.args.past c.args.window.now
          c.loop-k.sums c.delayed.new.sums n k _ (get_or delays k 0)
          (T.number c.index-taps-k.result)
          refl tap_is refl near c.requires.window c.loop-k.invariant.summed c.delayed.ensures.sums;
      counted = tap-counted _ _ _ k _ n (lane_turns g.row.L n) _ _ refl size (ap (lane_turns g.row.L) size)
          c.loop-k.invariant.counted c.delayed.ensures.steps;
    }

pub returns-clause-sums : goal.returns-clause-sums
returns-clause-sums g c =
    let all : c.loop-k.k ≡ length c.args.taps.now = omega arith in
    rw all at c.loop-k.invariant.summed
