use Rattle.std.proofs.Common.{◌≡◌, List, map, subst, w32, ℤ}
use lib.Lanes.{put_chunk}
use Rattle.dsp_lanes.proofs.HalfSums.{read_eight}
use Rattle.dsp_lanes.proofs.pairs.PairsRowForm.close.Goals as goal

pub returns : goal.returns
returns g c =
    let number = g.T.Sample.number in
    let fit = c.requires.fit.1 in
    subst (λ (l : List ℤ). map number c.close_eight.new.out ≡ put_chunk c.args.at (map number c.args.out.now)
    (map g.T.PairSample.shut l))
    (read_eight w32 c.args.sums.even c.args.sums.odd fit.2 fit.3 fit.0 fit.1)
    c.close_eight.ensures
