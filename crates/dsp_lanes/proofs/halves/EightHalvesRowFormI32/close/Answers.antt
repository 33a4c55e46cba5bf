use Rattle.std.proofs.Common.{◌≡◌, List, map, subst, w64, ℤ}
use lib.Lanes.{put_chunk}
use Rattle.dsp_defs.specs.Formats.{close}
use Rattle.dsp_defs.specs.declared.format.Fmt.TheVariants.{Q31}
use Rattle.dsp_lanes.proofs.HalfSums.{read_eight}
use Rattle.dsp_lanes.proofs.halves.EightHalvesRowFormI32.close.Goals as goal

pub returns : goal.returns
returns c =
    let fit = c.requires.fit.1 in
    subst (λ (l : List ℤ). map (λ x. x) c.close_group.new.out ≡ put_chunk c.args.at (map (λ x. x) c.args.out.now)
    (map (close Q31) l))
    (read_eight w64 c.args.sums.even c.args.sums.odd fit.2 fit.3 fit.0 fit.1)
    c.close_group.ensures
