use Rattle.std.proofs.Common.{rules, arith, ◌≡◌, ◌∙◌, ap, sym, ◌≤◌, ◌+◌, ◌*◌, length, map}
use Rattle.std.proofs.lemmas.List.{length-map}
use Rattle.std.proofs.lemmas.List.FromFn.{length-map-range_with_len}
use lib.Lanes.{chunk}
use Rattle.dsp_defs.specs.Signal.{sample, values}
use Rattle.dsp_sections.specs.Sections.{five_of, next_output}
use Rattle.dsp_sections.proofs.SectionChannels.{written-chunk, earlier-chunk, stays-past, stays-before, follows-more}
use Rattle.dsp_sections.proofs.sections.section_channels.Goals as goal

pub overflow_add-at : goal.overflow_add-at
overflow_add-at g c =
    let some : 1 ≤ c.args.row = omega (arith, c.requires.some, c.requires.channels) in
    let less : c.args.count + 2 ≤ (c.args.count + 2) * c.args.row = grind (arith, some) in
    let long : c.loop-frame.frame + 2 ≤ length c.args.outputs.now = omega
    (arith, less, c.requires.rows, c.loop-frame-test.true) in
    search rules

pub loop-frame-preserved : goal.loop-frame-preserved
loop-frame-preserved g c =
    let T = g.T.SectionKernels in
    let number = g.T.Sample.number in
    let format = g.T.Sample.format in
    let N = g.row.N in
    let row = c.args.row in
    let first = c.args.first in
    let frame = c.loop-frame.frame in
    let count = c.args.count in
    let five = five_of (map number c.args.five.now) in
    let so_far = c.loop-frame.invariant in
    let xs = map number c.args.inputs.now in
    let old = map number c.args.outputs.now in
    let mid = map number c.loop-frame.outputs in
    let new = map number c.store.new.samples in
    let ys = T.channels c.next-y.result in
    let long : length mid ≡ (count + 2) * row = length-map c.loop-frame.outputs number ∙ so_far.size
    ∙ c.requires.rows in
    let value = c.next-y.ensures.value
    ∙ (λ i. values N (λ j. next_output format c.args.post_shift five (sample (c.load-x.ensures.value i) j)
    (sample (so_far.x1 i) j) (sample (so_far.x2 i) j) (sample (so_far.y1 i) j) (sample (so_far.y2 i) j))) in
    let size : length ys ≡ N = ap length value ∙ length-map-range_with_len _ 0 N in
    let below = c.loop-frame-test.true in
    let one : (frame + 1 + 1) * row + first ≡ (frame + 2) * row + first = omega arith in
    record {
      fit = (c.load-x.ensures.fit, so_far.fit.0, c.next-y.ensures.fit, so_far.fit.2);
      x1 = c.load-x.ensures.value ∙ ap (λ a. chunk a N xs) (sym one);
      x2 = so_far.x1;
      y1 = written-chunk row first N count frame mid new ys long c.requires.channels below size c.store.ensures;
      y2 = so_far.y1 ∙ earlier-chunk row first N count frame mid new ys long c.requires.channels below size
          c.store.ensures (frame + 1) (omega arith);
      size = c.store.auto.samples ∙ so_far.size;
      follows = λ i low high. follows-more row first N count frame mid new ys long c.requires.channels below size
          c.store.ensures format c.args.post_shift five xs value i low high (so_far.follows i low high);
      past = λ i h. stays-past row first N count frame mid new ys long c.requires.channels below size c.store.ensures
          old i h (so_far.past i h);
      before = λ i h. stays-before row first N count frame mid new ys long c.requires.channels below size
          c.store.ensures old i h (so_far.before i h);
      steps = record {
        multiplies_rise = omega (arith, so_far.steps, c.count.ensures);
        turns_rise = omega
            (arith, so_far.steps, c.count.ensures);
      };
    }

pub returns-clause-follows : goal.returns-clause-follows
returns-clause-follows g c = λ i low high n h. c.loop-frame.invariant.follows i low high n
    (omega (arith, h, c.loop-frame-test.false))
