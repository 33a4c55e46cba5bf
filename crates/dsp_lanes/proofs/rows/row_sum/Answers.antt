use Rattle.std.proofs.Common.{◌∙◌, refl, arith, map}
use Rattle.dsp_defs.specs.Formats.{accumulator}
use Rattle.dsp_defs.proofs.CountLemmas.{Rises-more}
use Rattle.dsp_lanes.proofs.LaneRows.{row-more, wrap-zero}
use Rattle.dsp_lanes.proofs.rows.row_sum.Goals as goal

pub loop-j-preserved : goal.loop-j-preserved
loop-j-preserved g c =
    let T = g.T.Sample in
    record {
      summed =
          row-more (accumulator T.format) c.args.at c.loop-j.j _ (map T.number c.args.taps.now)
          (map T.number c.args.window.now) _ _ refl c.loop-j.invariant.summed c.add_one-sum.ensures.sum;
      counted = Rises-more _ _ _ _ _ _ _ c.loop-j.invariant.counted c.add_one-sum.ensures.steps;
    }

pub loop-j-init : goal.loop-j-init
loop-j-init g c = record {
  summed = c.empty-sum.ensures ∙ wrap-zero (accumulator g.T.Sample.format);
  counted = record { multiplies_rise = omega arith; turns_rise = omega arith };
}
