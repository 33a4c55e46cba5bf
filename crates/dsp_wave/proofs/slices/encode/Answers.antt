use Rattle.std.proofs.Common.{subst, All}
use Rattle.dsp_defs.specs.Bytes.{IsValue}
use Rattle.dsp_wave.proofs.Packing.{raw-last, wave-last}
use Rattle.dsp_wave.proofs.slices.encode.Goals as goal

pub encode_packed-requires-clause-last : goal.encode_packed-requires-clause-last
encode_packed-requires-clause-last c = raw-last

pub encode_packed-requires-in-Wave7-clause-last : goal.encode_packed-requires-in-Wave7-clause-last
encode_packed-requires-in-Wave7-clause-last c = wave-last

pub encode_by-requires-in-Wave24-clause-fits : goal.encode_by-requires-in-Wave24-clause-fits
encode_by-requires-in-Wave24-clause-fits c = subst (λ coding. All (IsValue coding) c.args.samples.now) c.in-Wave24.is
    c.requires.fits
