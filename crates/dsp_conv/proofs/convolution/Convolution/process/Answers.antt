use Rattle.std.proofs.Common.{◌≡◌, ◌∙◌, ap₂, ◌+◌, ◌-◌, ◌++◌, length, map, take, drop, arith, length-drop}
use Rattle.std.proofs.Common.{length-take-le}
use Rattle.std.proofs.lemmas.List.{drop_at, length-map}
use Rattle.dsp_defs.specs.Streaming.{rows}
use Rattle.dsp_filter.proofs.Slices.{front-written}
use Rattle.dsp_window.specs.Rolling.{last_samples}
use Rattle.dsp_conv.proofs.ExtentLemmas.{place-within}
use Rattle.dsp_conv.proofs.Inside.{inside, pushed, lent-long, moved-sound}
use Rattle.dsp_conv.proofs.CallLemmas.{rows-cut, rows-cost, took}
use Rattle.dsp_conv.proofs.convolution.Convolution.process.Goals as goal

pub offset_bounds-slice-given : goal.offset_bounds-slice-given
offset_bounds-slice-given g c =
    let lent = lent-long g.T.Sample.number c.self.inside.window c.push_block.new.self c.args.input.now
    c.slice.result.now c.push_block.ensures.rolls c.slice.ensures.samples c.self.invariant.filled in
    omega (arith, lent, c.given-given.ensures)

pub overflow_add-window : goal.overflow_add-window
overflow_add-window g c =
    let number = g.T.Sample.number in
    let here = inside number c.self.inside.reversed c.self.inside.zeros c.self.invariant c.self.view_is in
    let lent = lent-long number c.self.inside.window c.push_block.new.self c.args.input.now c.slice.result.now
    c.push_block.ensures.rolls c.slice.ensures.samples c.self.invariant.filled in
    omega (arith, lent, here, c.len.ensures, c.slice.type_inv, c.given-given.ensures)

pub slice_bounds-window-end : goal.slice_bounds-window-end
slice_bounds-window-end g c =
    let number = g.T.Sample.number in
    let here = inside number c.self.inside.reversed c.self.inside.zeros c.self.invariant c.self.view_is in
    let lent = lent-long number c.self.inside.window c.push_block.new.self c.args.input.now c.slice.result.now
    c.push_block.ensures.rolls c.slice.ensures.samples c.self.invariant.filled in
    omega (arith, lent, here, c.len.ensures, c.given-given.ensures)

pub rows-requires-clause-window : goal.rows-requires-clause-window
rows-requires-clause-window g c =
    let number = g.T.Sample.number in
    let here = inside number c.self.inside.reversed c.self.inside.zeros c.self.invariant c.self.view_is in
    let start = c.given-given.result.start in
    let stop = c.given-given.result.end in
    let size = stop + c.len.result - start in
    let lent = lent-long number c.self.inside.window c.push_block.new.self c.args.input.now c.slice.result.now
    c.push_block.ensures.rolls c.slice.ensures.samples c.self.invariant.filled in
    let cut : length (take size (drop start c.slice.result.now)) ≡ size =
    length-take-le size (drop start c.slice.result.now)
    (omega (arith, length-drop start c.slice.result.now, lent, here, c.len.ensures, c.given-given.ensures)) in
    let written : length (take (stop - start) c.args.output.now) ≡ stop - start =
    length-take-le (stop - start) c.args.output.now (omega (arith, c.requires.room, c.given-given.ensures)) in
    omega (arith, cut, written, here, c.len.ensures, c.deref.ensures.len, c.self.invariant.past, c.given-given.ensures)

pub invariant_of-self : goal.invariant_of-self
invariant_of-self g c =
    let inv = c.self.invariant in
    let one = pushed g.T.Sample.number c.args.input.now c.push_block.ensures.rolls inv.filled in
    let within = place-within c.self.inside.extent c.self.inside.place (length c.args.input.now) in
    moved-sound _ inv c.push_block.ensures.rolls one.filled inv.left_within
    (omega (arith, within, c.place_after-self-inside.ensures.place))
    (omega (arith, c.place_after-self-inside.ensures.few))

pub returns : goal.returns
returns g c =
    let T = g.T.Sample in
    let d = c.self.inside in
    let here = inside T.number d.reversed d.zeros c.self.invariant c.self.view_is in
    let one = pushed T.number c.args.input.now c.push_block.ensures.rolls c.self.invariant.filled in
    let past = last_samples d.window.past d.window.samples in
    let block = map T.number c.args.input.now in
    let output = c.args.output.now in
    let out = c.rows.new.out in
    let given = c.given-given.ensures in
    let start = c.given-given.result.start in
    let stop = c.given-given.result.end in
    let size = stop + c.len.result - start in
    let count = stop - start in
    let written : length (take count output) ≡ count =
    length-take-le count output (omega (arith, c.requires.room, given)) in
    let whole : length out ≡ count = c.rows.auto.out ∙ written in
    let front = front-written count out output whole in
    let shows = c.slice.ensures.samples ∙ one.samples in
    let taps = length-map d.reversed.items T.number in
    let values = c.rows.ensures.out
    ∙ ap₂ (λ t n. rows T.format (map T.number t) (map T.number (take size (drop start c.slice.result.now))) n)
    c.deref.ensures.value written
    ∙ rows-cut T.number T.format (map T.number d.reversed.items) (past ++ block) c.slice.result.now start size count
    shows (omega (arith, taps, d.reversed.ok.0, here, c.len.ensures, given, c.self.invariant.past)) in
    let is = took T.format block (map T.number out) _ c.place_after-self-inside.result start stop
    (length c.args.input.now) c.self.view_is here.is c.owe.ensures (length-map c.args.input.now T.number) one.keeps
    c.place_after-self-inside.ensures.place given.start given.end values in
    let lent : length c.deref.result.now ≡ length c.args.self.now.taps =
    omega (arith, here, c.deref.ensures.len) in
    let cost = rows-cost g.row.L (length c.deref.result.now) (length (take count output)) c.rows.ensures.steps lent
    written in
    record {
      within = omega (arith, given);
      count = is.count;
      values = rw front is.values;
      stands = is.stands;
      counts = is.counts;
      same = is.same;
      kept = is.kept;
      rest = drop_at out (drop count output) count whole;
      multiplies = cost.multiplies_rise;
      turns = cost.turns_within;
    }
