use Rattle.std.proofs.Common.{◌≡◌, ◌+◌, ◌∙◌, ap, sym, arith, length, map}
use Rattle.std.proofs.lemmas.List.{length-map, map-append}
use lib.Lanes.{put_chunk}
use Rattle.dsp_lanes.proofs.Groups.{put_chunk-append}
use Rattle.dsp_lanes.proofs.doubled.DoubledRowForm.close.Goals as goal

pub returns : goal.returns
returns g c =
    let F = g.F.RowForm in
    let old = map g.T.Sample.number c.args.out.now in
    let long_o = length-map c.args.out.now g.T.Sample.number in
    let first = map F.shut (F.lanes c.args.sums.first) in
    let second = map F.shut (F.lanes c.args.sums.second) in
    let long_1 : length first ≡ F.size = length-map (F.lanes c.args.sums.first) F.shut ∙ c.requires.fit.1.2 in
    let long_2 : length second ≡ F.size = length-map (F.lanes c.args.sums.second) F.shut ∙ c.requires.fit.1.3 in
    let room = c.requires.room in
    c.close-2.ensures
    ∙ (λ i. put_chunk ((c.behind.ensures ∙ ap (λ n. c.args.at + n) (sym long_1)) i) (c.close.ensures i) second)
    ∙ sym (put_chunk-append c.args.at old first second (omega (arith, long_1, long_2, long_o, room)))
    ∙ ap (put_chunk c.args.at old) (sym (map-append F.shut (F.lanes c.args.sums.first) (F.lanes c.args.sums.second)))
