use Rattle.std.proofs.Common.{◌∙◌, ap, refl, sym, subst, arith}
use Rattle.dsp_unit.specs.Line.{Place, AllCount, AllTaken, blocks_of, place_behind, place_room}
use Rattle.dsp_unit.proofs.ChainPlaces.{flow_at, has_channels}
use Rattle.dsp_shape.proofs.FewFrames.{few-taken}
use Rattle.dsp_unit.proofs.TailLaws.{count-runs, count-took}
use Rattle.dsp_chain.specs.Restored.{AllRestores}
use Rattle.dsp_chain.proofs.ChainCalls.{whole-again, chain-live}
use Rattle.dsp_chain.proofs.Restored.{fits-units, restored-counts, restored-line}
use Rattle.dsp_chain.proofs.Restored.{restored-turns, restored-stand}
use Rattle.dsp_chain.proofs.Room.{written-line}
use Rattle.dsp_chain.proofs.chain.Chain.restore.Goals as goal

pub restore_line-requires-clause-running : goal.restore_line-requires-clause-running
restore_line-requires-clause-running g c =
    let running = rw (← c.self.view_is) at c.requires.running in
    rw c.as_mut_slice.ensures.value (count-runs c.self.inside.links.items c.self.inside.frames
    (c.self.invariant.is.counts running))

pub restore_line-requires-clause-frames : goal.restore_line-requires-clause-frames
restore_line-requires-clause-frames g c =
    let fits = rw (← c.self.view_is) at c.requires.fits in
    rw c.as_mut_slice.ensures.value (c.self.invariant.is.few_frames c.args.frames fits.limit)

pub restore_line-requires-clause-fits : goal.restore_line-requires-clause-fits
restore_line-requires-clause-fits g c =
    let p : Place = record {
      format = c.self.inside.format;
      channels = c.self.inside.channels;
      capacity =
          c.self.inside.capacity;
    } in
    let fits = rw (← c.self.view_is) at c.requires.fits in
    rw c.as_mut_slice.ensures.value (fits-units p c.self.inside.links.items c.args.frames c.args.numbers.now
    c.self.invariant.is.line fits.fits)

pub invariant_of-self : goal.invariant_of-self
invariant_of-self g c =
    let is = c.self.invariant.is in
    let p : Place = record {
      format = c.self.inside.format;
      channels = c.self.inside.channels;
      capacity =
          c.self.inside.capacity;
    } in
    let links = c.self.inside.links.items in
    let news = c.restore_line.new.links in
    let n = c.args.frames in
    let fits = rw (← c.self.view_is) at c.requires.fits in
    let restored : AllRestores links news n c.args.numbers.now =
    subst (λ us. AllRestores us news n c.args.numbers.now) c.as_mut_slice.ensures.value c.restore_line.ensures in
    let (line, blocks, numbers) = restored-line p links news n c.args.numbers.now is.line restored in
    let counts : AllCount news n = restored-counts links news n c.args.numbers.now restored in
    let whole = written-line c.self.inside.links.len news links
    (omega (arith, c.restore_line.auto.links, c.as_mut_slice.ensures.len)) in
    let taken : AllTaken (blocks_of links) n = few-taken (blocks_of links) n is.one_correlate fits.gathers
    (is.few_frames n fits.limit) in
    rw whole (record {
      is = whole-again _ _ is refl blocks line (count-took news n counts) (λ _. counts)
          (subst (λ bs. AllTaken bs n) (sym blocks) taken);
      room_is = c.self.invariant.room_is ∙ ap (λ bs. place_room (place_behind p bs)) (sym blocks);
    })

pub returns : goal.returns
returns g c =
    let is = c.self.invariant.is in
    let p : Place = record {
      format = c.self.inside.format;
      channels = c.self.inside.channels;
      capacity =
          c.self.inside.capacity;
    } in
    let links = c.self.inside.links.items in
    let news = c.restore_line.new.links in
    let n = c.args.frames in
    let running = rw (← c.self.view_is) at c.requires.running in
    let works = rw (← c.self.view_is) at c.requires.works in
    let restored : AllRestores links news n c.args.numbers.now =
    subst (λ us. AllRestores us news n c.args.numbers.now) c.as_mut_slice.ensures.value c.restore_line.ensures in
    let (line, blocks, numbers) = restored-line p links news n c.args.numbers.now is.line restored in
    let counts : AllCount news n = restored-counts links news n c.args.numbers.now restored in
    let whole = written-line c.self.inside.links.len news links
    (omega (arith, c.restore_line.auto.links, c.as_mut_slice.ensures.len)) in
    rw (← c.self.view_is, whole) (record {
      same = record { input = refl; blocks = blocks; turns = restored-turns links news n c.args.numbers.now restored };
      running = running;
      works = works;
      counted = refl;
      kept = numbers;
      live = chain-live _ line counts;
      stands = λ x long are. record {
        running = running;
        works = works;
        counted = sym long;
        units = restored-stand p links news n c.args.numbers.now x is.line
            (has_channels (flow_at p) (blocks_of links) is.chain is.channels) restored long are;
      };
    })
