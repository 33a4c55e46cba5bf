use Rattle.std.proofs.Common.{◌≡◌, ◌∙◌, ap, sym, refl, ◌-◌, ◌≤◌, min, length, map, take, drop, true, arith}
use Rattle.std.proofs.Common.{length-take, length-take-le}
use Rattle.std.proofs.lemmas.List.{drop_at, nil_from_length}
use Rattle.dsp_defs.specs.Streaming.{rows}
use Rattle.dsp_filter.proofs.Slices.{front-written}
use Rattle.dsp_window.specs.Rolling.{last_samples}
use Rattle.dsp_conv.specs.ConvState.{ConvState}
use Rattle.dsp_conv.proofs.ConvLemmas.{rows-long, finish-tail}
use Rattle.dsp_conv.proofs.Inside.{inside, pushed, lent-long, moved-sound}
use Rattle.dsp_conv.proofs.CallLemmas.{rows-cost, zeros-front, passed-over}
use Rattle.dsp_conv.proofs.convolution.Convolution.finish.Goals as goal

pub push_block-requires : goal.push_block-requires
push_block-requires g c = omega (arith, length-take c.self.inside.skip c.deref.result.now, c.self.invariant)

pub push_block-requires-2 : goal.push_block-requires-2
push_block-requires-2 g c =
    let one = pushed g.T.Sample.number (take c.self.inside.skip c.deref.result.now) c.push_block.ensures.rolls
    c.self.invariant.filled in
    omega (arith, length-take c.min-count.result c.deref-2.result.now, c.min-count.ensures, one.room, c.self.invariant)

pub slice_bounds-push_block-end : goal.slice_bounds-push_block-end
slice_bounds-push_block-end g c =
    let d = c.self.inside in
    let here = inside g.T.Sample.number d.reversed d.zeros c.self.invariant c.self.view_is in
    sym (length-take-le d.skip c.deref.result.now
    (omega (arith, ap length c.deref.ensures.value, here, c.self.invariant.left_within)))

pub slice_bounds-push_block-end-2 : goal.slice_bounds-push_block-end-2
slice_bounds-push_block-end-2 g c =
    let d = c.self.inside in
    let here = inside g.T.Sample.number d.reversed d.zeros c.self.invariant c.self.view_is in
    sym (length-take-le c.min-count.result c.deref-2.result.now
    (omega (arith, ap length c.deref-2.ensures.value, here, c.min-count.ensures, c.self.invariant.left_within)))

pub slice_bounds-output-end : goal.slice_bounds-output-end
slice_bounds-output-end g c = omega (arith, c.min-count.ensures)

pub slice_bounds-output-end-2 : goal.slice_bounds-output-end-2
slice_bounds-output-end-2 g c = sym (length-take-le c.min-count.result c.args.output.now
    (omega (arith, c.min-count.ensures)))

pub rows-requires-clause-taps : goal.rows-requires-clause-taps
rows-requires-clause-taps g c = omega (arith, c.deref-3.ensures.len, c.self.invariant.past)

pub rows-requires-clause-window : goal.rows-requires-clause-window
rows-requires-clause-window g c =
    let number = g.T.Sample.number in
    let d = c.self.inside in
    let count = c.min-count.result in
    let here = inside number d.reversed d.zeros c.self.invariant c.self.view_is in
    let one = pushed number (take d.skip c.deref.result.now) c.push_block.ensures.rolls c.self.invariant.filled in
    let given = take count c.deref-2.result.now in
    let two = c.push_block-2 in
    let long = lent-long number c.push_block.new.self two.new.self given c.slice.result.now two.ensures.rolls
    c.slice.ensures.samples (omega (arith, one)) in
    let block : length given ≡ count = length-take-le count c.deref-2.result.now
    (omega (arith, ap length c.deref-2.ensures.value, here, c.min-count.ensures, c.self.invariant.left_within)) in
    let written : length (take count c.args.output.now) ≡ count = length-take-le count c.args.output.now
    (omega (arith, c.min-count.ensures)) in
    omega (arith, long, block, written, one.past, c.deref-3.ensures.len, c.self.invariant.past)

pub overflow_sub-self : goal.overflow_sub-self
overflow_sub-self g c = omega (arith, c.min-count.ensures)

pub invariant_of-self : goal.invariant_of-self
invariant_of-self g c =
    let number = g.T.Sample.number in
    let inv = c.self.invariant in
    let one = pushed number (take c.self.inside.skip c.deref.result.now) c.push_block.ensures.rolls inv.filled in
    let filled : c.push_block.new.self.past ≤ length c.push_block.new.self.samples = omega (arith, one) in
    let two = pushed number (take c.min-count.result c.deref-2.result.now) c.push_block-2.ensures.rolls filled in
    moved-sound _ (moved-sound _ inv c.push_block.ensures.rolls one.filled inv.left_within inv.place_within
    inv.place_fits) c.push_block-2.ensures.rolls two.filled
    (omega (arith, one.past, c.min-count.ensures, inv.left_within)) inv.place_within inv.place_fits

pub returns : goal.returns
returns g c =
    let T = g.T.Sample in
    let d = c.self.inside in
    let inv = c.self.invariant in
    let here = inside T.number d.reversed d.zeros inv c.self.view_is in
    let taps = map T.number d.reversed.items in
    let count = c.min-count.result in
    let output = c.args.output.now in
    let out = c.rows.new.out in
    let past = last_samples d.window.past d.window.samples in
    let passed = take d.skip c.deref.result.now in
    let zeros = take count c.deref-2.result.now in
    let one = pushed T.number passed c.push_block.ensures.rolls inv.filled in
    let filled : c.push_block.new.self.past ≤ length c.push_block.new.self.samples = omega (arith, one) in
    let two = pushed T.number zeros c.push_block-2.ensures.rolls filled in
    let behind = last_samples c.push_block.new.self.past c.push_block.new.self.samples in
    let left : d.left ≡ length c.args.self.now.tail = sym (rows-long T.format taps (drop d.skip past) d.left) ∙
    ap (λ (s : ConvState). length s.tail) c.self.view_is in
    let given = c.min-count.ensures ∙ ap (λ n. min n (length output)) left in
    let written : length (take count output) ≡ count = length-take-le count output (omega (arith, c.min-count.ensures))
    in
    let whole : length out ≡ count = c.rows.auto.out ∙ written in
    let values = c.rows.ensures.out ∙ ap (λ t. rows T.format (map T.number t) (map T.number c.slice.result.now)
    (length (take count output))) c.deref-3.ensures.value in
    let over = passed-over T.format taps past behind (map T.number passed) d.skip d.left
    (zeros-front T.number d.skip d.window.past c.deref.result.now
    (ap (map T.number) c.deref.ensures.value ∙ inv.zeros_are) (omega (arith, inv.left_within))) one.keeps in
    let tail = over ∙ finish-tail T.format taps behind (map T.number zeros) (map T.number c.slice.result.now)
    (map T.number out) _ count (length (take count output)) d.left (omega (arith, c.min-count.ensures))
    (zeros-front T.number count d.window.past c.deref-2.result.now
    (ap (map T.number) c.deref-2.ensures.value ∙ inv.zeros_are) (omega (arith, c.min-count.ensures, inv.left_within)))
    (c.slice.ensures.samples ∙ two.samples) values written two.keeps in
    let lent : length c.deref-3.result.now ≡ length c.args.self.now.taps = omega (arith, c.deref-3.ensures.len, here) in
    let cost = rows-cost g.row.L (length c.deref-3.result.now) (length (take count output)) c.rows.ensures.steps lent
    written in
    record {
      given = given;
      tail = rw (← c.self.view_is, front-written count out output whole) tail;
      ended = refl;
      kept = two.kept ∙ one.past ∙ here.past_long;
      same = ap (λ (s : ConvState). record s {
        past = last_samples c.push_block-2.new.self.past c.push_block-2.new.self.samples;
        tail = rows T.format taps (last_samples c.push_block-2.new.self.past c.push_block-2.new.self.samples)
            (d.left - count);
        ended = true;
      }) c.self.view_is;
      spent = λ room. (
        λ none. nil_from_length c.args.self.now.tail (omega (arith, given, none, room)),
        λ spent. let none : length c.args.self.now.tail ≡ 0 = ap length spent in omega (arith, given, none),
      );
      rest = drop_at out (drop count output) count whole;
      multiplies = cost.multiplies_rise;
      turns = cost.turns_within;
    }
