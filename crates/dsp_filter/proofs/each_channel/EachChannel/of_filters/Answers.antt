use Rattle.std.proofs.Common.{subst, map}
use Rattle.std.proofs.lemmas.List.{length-map}
use Rattle.dsp_unit.specs.Filter.{filter_at}
use Rattle.dsp_unit.specs.Channels.{unit_of_filters}
use Rattle.dsp_unit.specs.Unit.{IsNew}
use Rattle.dsp_unit.proofs.ChannelRestores.{new-unit}
use Rattle.dsp_filter.proofs.each_channel.EachChannel.of_filters.Goals as goal

pub returns : goal.returns
returns g c =
    let states = map g.F.Filter.filter c.args.filters.items in
    subst (λ n. IsNew (filter_at states 0).block g.T.Sample.format n c.args.frames
    (unit_of_filters g.T.Sample.format c.args.frames states)) (length-map c.args.filters.items g.F.Filter.filter)
    (new-unit g.T.Sample.format c.args.frames states c.requires.alike c.requires.fresh)
