use Rattle.std.proofs.Common.{ap, sym, length, arith}
use Rattle.dsp_unit.specs.Line.{measured_by}
use Rattle.dsp_chain.proofs.Measured.{counts-line, each-behind, few-line}
use Rattle.dsp_chain.proofs.Room.{no-units}
use Rattle.dsp_chain.proofs.line.+count_measures.Goals as goal

pub returns-clause-count : goal.returns-clause-count
returns-clause-count g t c =
    counts-line c.args.links.now c.in-Some.link.now (g.S.Unit.unit c.link.inside.unit) c.in-Some.behind.now
    c.measures.result c.count_measures.result c.in-Some.ensures.cases.0 c.link.view_is c.measures.ensures
    c.count_measures.ensures.count

pub returns-clause-few : goal.returns-clause-few
returns-clause-few g t c =
    few-line c.args.links.now c.in-Some.link.now (g.S.Unit.unit c.link.inside.unit) c.in-Some.behind.now
    c.measures.result c.count_measures.result c.in-Some.ensures.cases.0 c.link.view_is c.measures.ensures
    c.requires.each c.count_measures.ensures.few

pub returns-in_default-clause-count : goal.returns-in_default-clause-count
returns-in_default-clause-count g t c = ap (λ us. length (measured_by 1 us))
    (sym (no-units c.args.links.now c.in_default.ensures.cases))

pub count_measures-requires : goal.count_measures-requires
count_measures-requires g t c κs within =
    let longer = ap length c.in-Some.ensures.cases.0 in
    let each = each-behind c.args.links.now c.in-Some.link.now (g.S.Unit.unit c.link.inside.unit) c.in-Some.behind.now
    c.measures.result 0 c.in-Some.ensures.cases.0 c.link.view_is c.measures.ensures c.requires.each in
    (omega (arith, longer, c.decreases), (within, (omega (arith, longer, c.requires.few), each)))

pub overflow_add-result : goal.overflow_add-result
overflow_add-result g t c =
    let few = few-line c.args.links.now c.in-Some.link.now (g.S.Unit.unit c.link.inside.unit) c.in-Some.behind.now
    c.measures.result c.count_measures.result c.in-Some.ensures.cases.0 c.link.view_is c.measures.ensures
    c.requires.each c.count_measures.ensures.few in
    omega (arith, few, c.requires.few)
