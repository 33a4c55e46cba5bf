use Rattle.std.proofs.Common.{◌∙◌, ◌-◌, ap, sym, arith}
use lib.Lanes.{zip2}
use Rattle.dsp_defs.specs.Formats.{word_bits}
use Rattle.dsp_defs.specs.Signal.{sample}
use Rattle.dsp_sections.proofs.LadderSections.{lower, next-right, enough-right}
use Rattle.dsp_sections.proofs.ladders.passed_on.Goals as goal

pub loop-right-preserved : goal.loop-right-preserved
loop-right-preserved g c =
    let T = g.T.LadderLanes in
    let laws = g.met.T.LadderLanes in
    let bits = word_bits g.T.Sample.format in
    let ps = T.lanes c.args.products in
    let f = sample (T.lanes c.args.front) (T.size - 1) in
    let next = c.lowered-values in
    record {
      fit = next.ensures.fit;
      right = next-right bits f ps T.size laws.some (laws.whole c.args.products c.requires.fit_products)
          c.loop-right.right (T.lanes c.loop-right.values) (T.lanes next.result)
          (next.ensures.value ∙ ap (λ vs. zip2 (lower bits) vs ps) c.behind.ensures.value)
          c.loop-right.invariant.right;
    }

pub returns-after-loop-right-clause-value : goal.returns-after-loop-right-clause-value
returns-after-loop-right-clause-value g c =
    let T = g.T.LadderLanes in
    let laws = g.met.T.LadderLanes in
    let long = laws.whole c.args.products c.requires.fit_products in
    enough-right (word_bits g.T.Sample.format) (sample (T.lanes c.args.front) (T.size - 1)) (T.lanes c.args.products)
    (T.lanes c.loop-right.values) c.loop-right.right (omega (arith, long))
    (laws.whole c.loop-right.values c.loop-right.invariant.fit ∙ sym long) c.loop-right.invariant.right
