use Rattle.std.proofs.Common.{◌≡◌, ◌∙◌, ◌+◌, ◌*◌, take, sym, arith}
use Rattle.std.specs.List.{flat_map}
use Rattle.dsp_defs.specs.Bytes.{bytes_of}
use Rattle.dsp_wave.proofs.Packing.{one-more}
use Rattle.dsp_wave.proofs.slices.encode_groups.Goals as goal

pub loop-group-preserved : goal.loop-group-preserved
loop-group-preserved c =
    let at = c.loop-group.group * 32 in
    let samples = c.args.samples.now in
    let next : (c.loop-group.group + 1) * 32 ≡ at + 32 = omega arith in
    (λ k. take (next k) (c.encode_group.ensures k))
    ∙ one-more c.args.coding c.args.above c.requires.last 32 at samples c.loop-group.bytes c.requires.fits
    (omega arith) (omega arith) c.loop-group.invariant
    ∙ (λ k. flat_map (bytes_of c.args.coding) (take (sym next k) samples))
