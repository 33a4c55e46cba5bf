use Rattle.std.proofs.Common.{◌∙◌, ap, sym, ◌*◌, flat_map, take_all, arith}
use Rattle.dsp_biquad.proofs.SectionNumbers.{kept-more}
use Rattle.dsp_biquad.proofs.kept.keep_sections.Goals as goal

pub loop-k-preserved : goal.loop-k-preserved
loop-k-preserved g c =
    let read = c.index-sections-k in
    kept-more g.S.Machine.kept c.args.sections.now read.result c.loop-k.k c.loop-k.out c.keep.new.out
    c.loop-k-test.true read.is (omega arith) c.keep.ensures (g.met.S.CascadeSection.four read.result)
    c.loop-k.invariant

pub returns : goal.returns
returns g c =
    let all = take_all (c.loop-k.k * 4) c.loop-k.out (omega arith) in
    let all' = take_all c.loop-k.k c.args.sections.now c.loop-k-test.false in
    sym all ∙ c.loop-k.invariant ∙ ap (flat_map g.S.Machine.kept) all'
