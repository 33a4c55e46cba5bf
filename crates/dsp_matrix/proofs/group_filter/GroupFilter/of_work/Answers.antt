use Rattle.std.proofs.Common.{◌∙◌, ap, sym, subst, false, ℤ, List, length, arith}
use Rattle.dsp_unit.specs.Filter.{IsNewFilter, steady_filter}
use Rattle.dsp_matrix.specs.Groups.{OpenState}
use Rattle.dsp_matrix.proofs.GroupFilters.{group-new}
use Rattle.dsp_matrix.proofs.group_filter.GroupFilter.of_work.Goals as goal

pub invariant_of-result : goal.invariant_of-result
invariant_of-result g c =
    let is = g.met.W.GroupWork.grouped (g.W.GroupWork.block c.args.work) c.requires.block in
    let size = ap (λ (s : OpenState). s.size) c.in_ok-begun.ensures ∙ c.taken.ensures in
    let none = ap (λ (s : OpenState). length s.numbers) c.in_ok-begun.ensures in
    (c.requires.block, (size, omega (arith, none, size, is.some)), c.requires.capacity)

pub returns : goal.returns
returns g c =
    let W = g.W.GroupWork in
    let format = g.T.Sample.format in
    let block = W.block c.args.work in
    subst (λ (l : List ℤ). IsNewFilter block format c.args.capacity
    (steady_filter format block c.args.capacity l false))
    (sym (ap (λ (s : OpenState). s.numbers) c.in_ok-begun.ensures))
    (group-new format block (W.group block) (g.met.W.GroupWork.grouped block c.requires.block) c.args.capacity)
