use Rattle.std.proofs.Common.{◌∙◌, ap, sym, subst, ◌*◌, length, flat_map, take_all, arith}
use Rattle.std.proofs.Math.Seq.{map-set_same}
use Rattle.dsp_defs.specs.Kept.{Each, IsOfKind}
use Rattle.dsp_biquad.proofs.SectionNumbers.{each-section, piece-is, restored-more}
use Rattle.dsp_biquad.proofs.kept.restore_sections.Goals as goal

pub restore-requires : goal.restore-requires
restore-requires g c =
    let kinds = g.S.CascadeSection.kinds in
    let numbers = c.args.numbers.now in
    let n = length c.args.sections.now in
    subst (λ l. Each IsOfKind kinds l) (sym (piece-is numbers c.loop-k.k))
    (each-section kinds g.met.S.CascadeSection.four_kinds n numbers c.requires.count c.requires.fits c.loop-k.k
    c.loop-k-test.true)

pub loop-k-preserved : goal.loop-k-preserved
loop-k-preserved g c =
    let acts = g.S.Machine.acts in
    let sections = c.loop-k.sections in
    let k = c.loop-k.k in
    let s = c.restore.new.self in
    let read = c.index-sections-k in
    record {
      acts = map-set_same acts sections k s read.result c.restore.ensures.acts ∙ c.loop-k.invariant.acts;
      kept = restored-more g.S.Machine.kept sections s k c.args.numbers.now (omega arith)
          (c.restore.ensures.kept ∙ piece-is c.args.numbers.now k) c.loop-k.invariant.kept;
    }

pub returns-clause-kept : goal.returns-clause-kept
returns-clause-kept g c =
    let sections = c.loop-k.sections in
    let numbers = c.args.numbers.now in
    let all = take_all c.loop-k.k sections (omega arith) in
    let all' = take_all (c.loop-k.k * 4) numbers (omega arith) in
    ap (flat_map g.S.Machine.kept) (sym all) ∙ c.loop-k.invariant.kept ∙ all'
