use Rattle.std.proofs.Common.{◌≡◌, ◌∙◌, refl}
use Rattle.dsp_defs.specs.Output.{output_header}
use Rattle.dsp_session.proofs.OpenLaws as laws
use Rattle.dsp_session.proofs.opening.write_output_header.Goals as goal

pub output_header-requires-clause-fits : goal.output_header-requires-clause-fits
output_header-requires-clause-fits g c = laws.known_fits c.args.script.now c.args.header _
    c.known_frames-known.ensures c.requires.fits

pub returns-in-Ok-clause-ok : goal.returns-in-Ok-clause-ok
returns-in-Ok-clause-ok g c =
    let bytes : c.deref.result.now ≡ output_header c.args.script.now c.args.header = c.deref.ensures.0 ∙
    c.output_header.ensures in
    rw bytes at c.in-Ok.ensures.took

pub returns-in-Err-clause-err : goal.returns-in-Err-clause-err
returns-in-Err-clause-err g c =
    let bytes : c.deref.result.now ≡ output_header c.args.script.now c.args.header = c.deref.ensures.0 ∙
    c.output_header.ensures in
    let (count, less, took) = rw bytes at c.in-Err.ensures.took in
    (count, refl, less, took)
