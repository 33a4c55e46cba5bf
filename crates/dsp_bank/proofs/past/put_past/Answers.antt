use Rattle.std.proofs.Common.{◌≢◌, ◌∙◌, ◌+◌, ◌<◌, length, set, arith}
use Rattle.std.proofs.Math.ListN.{length-set}
use Rattle.dsp_defs.proofs.SumLemmas.{sample-map-set_same, sample-map-set_other}
use Rattle.dsp_bank.proofs.past.put_past.Goals as goal

pub returns : goal.returns
returns g c =
    let number = g.T.Sample.number in
    let rows = c.args.rows.now in
    let newest = c.args.row + c.args.channel in
    let first = set rows newest c.args.newest in
    let apart : newest ≢ c.args.channel = omega (arith, c.requires.inside) in
    let room : newest < length rows = omega (arith, c.requires.inside, c.requires.room) in
    let room' : c.args.channel < length first = omega (arith, room, length-set rows newest c.args.newest) in
    record {
      newest_is = sample-map-set_other number first c.args.channel newest c.args.second apart
          ∙ sample-map-set_same number rows newest c.args.newest room;
      second_is = sample-map-set_same number first c.args.channel c.args.second room';
      others = λ k away away'. sample-map-set_other number first c.args.channel k c.args.second away'
          ∙ sample-map-set_other number rows newest k c.args.newest away;
    }
