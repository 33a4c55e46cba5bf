use Rattle.std.proofs.Common.{map}
use Rattle.dsp_sections.specs.Sections.{five_of}
use Rattle.dsp_bank.proofs.RowsGo.{section-goes}
use Rattle.dsp_bank.proofs.sections.run_section.Goals as goal

pub returns-clause-goes : goal.returns-clause-goes
returns-clause-goes g c =
    let number = g.T.Sample.number in
    let five = five_of (map number c.args.five.now) in
    let kept = map number c.args.kept.now in
    let kept' = map number c.save_past.new.kept in
    let frames = map number c.args.frames.now in
    let inner = map number c.load_past.new.frames in
    let first = map number c.load_past.new.outputs in
    let outputs = map number c.section_rows.new.outputs in
    section-goes g.T.Sample.format c.args.post_shift five c.args.sections c.args.section c.args.row c.args.count kept
    kept' frames inner first outputs c.load_past.ensures c.section_rows.ensures.follows c.section_rows.ensures.past
    c.save_past.ensures
