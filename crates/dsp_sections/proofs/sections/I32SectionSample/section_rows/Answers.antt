use Rattle.std.proofs.Common.{arith, refl, ◌∙◌, ◌+◌, map, subst, ◌≡◌}
use Rattle.dsp_defs.specs.declared.format.Fmt.TheVariants.{Q31}
use Rattle.dsp_sections.specs.Sections.{five_of, Follows}
use Rattle.dsp_sections.proofs.SectionChannels.{follows-group, past-group}
use Rattle.dsp_sections.proofs.sections.I32SectionSample.section_rows.Goals as goal

pub fours-preserved : goal.fours-preserved
fours-preserved g c =
    let so_far = c.fours.invariant in
    let (k, at, counts) = so_far.counted in
    let e = c.section_channels.ensures in
    let five = five_of (map (λ x. x) c.own_numbers-numbers.result) in
    let xs = map (λ x. x) c.args.inputs.now in
    let old = map (λ x. x) c.args.outputs.now in
    let mid = map (λ x. x) c.fours.outputs in
    let new = map (λ x. x) c.section_channels.new.outputs in
    record {
      within = omega (arith, c.fours-test.true);
      size = c.section_channels.auto.outputs ∙ so_far.size;
      follows = follows-group Q31 c.args.post_shift five c.args.row xs mid new c.args.count c.fours.first 4
          (c.fours.first + 4) refl e.before so_far.follows e.follows;
      past = past-group c.args.row old mid new so_far.past e.past;
      counted = (
        k + 1,
        omega (arith, at),
        record {
          multiplies_rise = omega (arith, counts, e.steps);
          turns_within =
              omega (arith, counts, e.steps);
        },
      );
    }

pub twos-preserved : goal.twos-preserved
twos-preserved g c =
    let so_far = c.twos.invariant in
    let (k, m, at, below, counts) = so_far.counted in
    let e = c.section_channels-in-twos.ensures in
    let five = five_of (map (λ x. x) c.own_numbers-numbers.result) in
    let xs = map (λ x. x) c.args.inputs.now in
    let old = map (λ x. x) c.args.outputs.now in
    let mid = map (λ x. x) c.twos.outputs in
    let new = map (λ x. x) c.section_channels-in-twos.new.outputs in
    record {
      within = omega (arith, c.twos-test.true);
      size = c.section_channels-in-twos.auto.outputs ∙ so_far.size;
      follows = follows-group Q31 c.args.post_shift five c.args.row xs mid new c.args.count c.twos.first 2
          (c.twos.first + 2) refl e.before so_far.follows e.follows;
      past = past-group c.args.row old mid new so_far.past e.past;
      counted = (
        k,
        m + 1,
        omega (arith, at),
        below,
        record
            { multiplies_rise = omega (arith, counts, e.steps); turns_within = omega (arith, counts, e.steps) },
      );
    }

pub rest-init : goal.rest-init
rest-init g c =
    let so_far = c.twos.invariant in
    let (k, m, at, below, counts) = so_far.counted in
    record {
      within = so_far.within;
      size = so_far.size;
      follows = so_far.follows;
      past = so_far.past;
      counted = (
        k,
        m,
        0,
        omega (arith, at),
        below,
        record
            { multiplies_rise = omega (arith, counts); turns_within = omega (arith, counts) },
      );
    }

pub rest-preserved : goal.rest-preserved
rest-preserved g c =
    let so_far = c.rest.invariant in
    let (k, m, r, at, below, counts) = so_far.counted in
    let e = c.section_channels-in-rest.ensures in
    let five = five_of (map (λ x. x) c.own_numbers-numbers.result) in
    let xs = map (λ x. x) c.args.inputs.now in
    let old = map (λ x. x) c.args.outputs.now in
    let mid = map (λ x. x) c.rest.outputs in
    let new = map (λ x. x) c.section_channels-in-rest.new.outputs in
    record {
      within = omega (arith, c.rest-test.true);
      size = c.section_channels-in-rest.auto.outputs ∙ so_far.size;
      follows = follows-group Q31 c.args.post_shift five c.args.row xs mid new c.args.count c.rest.first 1
          (c.rest.first + 1) refl e.before so_far.follows e.follows;
      past = past-group c.args.row old mid new so_far.past e.past;
      counted = (
        k,
        m,
        r + 1,
        omega (arith, at),
        below,
        record
            { multiplies_rise = omega (arith, counts, e.steps); turns_within = omega (arith, counts, e.steps) },
      );
    }

pub returns-clause-follows : goal.returns-clause-follows
returns-clause-follows g c =
    let so_far = c.rest.invariant in
    let row = c.args.row in
    let all : c.rest.first ≡ row = omega (arith, so_far.within, c.rest-test.false) in
    λ i h. subst (λ l. Follows Q31 c.args.post_shift (five_of (map (λ x. x) l)) row (map (λ x. x) c.args.inputs.now)
    (map (λ x. x) c.rest.outputs) c.args.count i)
    c.own_numbers-numbers.ensures (so_far.follows i (omega (arith, h, all)))
