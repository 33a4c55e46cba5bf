use Rattle.std.proofs.Common.{◌+◌, ◌*◌, ◌/◌, ◌≤◌, length, rules}
use Rattle.dsp_channelwise.proofs.MatrixBlocks.{group-inside}
use Rattle.dsp_channelwise.proofs.matrices.GroupsFormula.at.Goals as goal

pub overflow_mul-start : goal.overflow_mul-start
overflow_mul-start g c =
    let f = c.args.self.now in
    let inside : c.args.i / f.given * f.taken + f.taken ≤ length f.x.now =
    group-inside (length f.x.now) f.taken f.given c.args.i c.requires.4 c.requires.2 in
    search rules

pub overflow_add-group : goal.overflow_add-group
overflow_add-group g c =
    let f = c.args.self.now in
    let inside : c.args.i / f.given * f.taken + f.taken ≤ length f.x.now =
    group-inside (length f.x.now) f.taken f.given c.args.i c.requires.4 c.requires.2 in
    search rules

pub offset_bounds-self-start : goal.offset_bounds-self-start
offset_bounds-self-start g c =
    let f = c.args.self.now in
    let inside : c.args.i / f.given * f.taken + f.taken ≤ length f.x.now =
    group-inside (length f.x.now) f.taken f.given c.args.i c.requires.4 c.requires.2 in
    search rules

pub slice_bounds-group-end : goal.slice_bounds-group-end
slice_bounds-group-end g c =
    let f = c.args.self.now in
    let inside : c.args.i / f.given * f.taken + f.taken ≤ length f.x.now =
    group-inside (length f.x.now) f.taken f.given c.args.i c.requires.4 c.requires.2 in
    search rules

pub nonzero_div-start : goal.nonzero_div-start
nonzero_div-start g c = search rules

pub slice_bounds-group-count : goal.slice_bounds-group-count
slice_bounds-group-count g c = search rules

pub slice_bounds-group-start : goal.slice_bounds-group-start
slice_bounds-group-start g c = search rules

pub nonzero_rem-i : goal.nonzero_rem-i
nonzero_rem-i g c = search rules

pub element-requires-clause-matrix : goal.element-requires-clause-matrix
element-requires-clause-matrix g c = search rules

pub element-requires-clause-wide : goal.element-requires-clause-wide
element-requires-clause-wide g c = search rules

pub element-requires-clause-inside : goal.element-requires-clause-inside
element-requires-clause-inside g c = search rules

pub returns-clause-value : goal.returns-clause-value
returns-clause-value g c = search rules

pub returns-clause-fits : goal.returns-clause-fits
returns-clause-fits g c = search rules

pub returns-clause-products : goal.returns-clause-products
returns-clause-products g c = search rules
