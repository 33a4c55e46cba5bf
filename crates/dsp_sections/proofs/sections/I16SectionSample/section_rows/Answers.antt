use Rattle.std.proofs.Common.{◌≡◌, ◌≤◌, ◌*◌, arith, ap, refl, ◌∙◌, ◌+◌, map, subst}
use native.Mathlib.Nat.{mul-le-mul_left}
use Rattle.dsp_lanes.specs.Turns.{lane_turns}
use Rattle.dsp_defs.specs.declared.format.Fmt.TheVariants.{Q15}
use Rattle.dsp_sections.specs.Sections.{five_of, Follows}
use Rattle.dsp_sections.proofs.SectionChannels.{follows-group, past-group}
use Rattle.dsp_sections.proofs.sections.I16SectionSample.section_rows.Goals as goal

pub eights-preserved : goal.eights-preserved
eights-preserved g c =
    let so_far = c.eights.invariant in
    let (k, at, counts) = so_far.counted in
    let e = c.section_channels.ensures in
    let five = five_of (map (λ x. x) c.own_numbers-numbers.result) in
    let xs = map (λ x. x) c.args.inputs.now in
    let old = map (λ x. x) c.args.outputs.now in
    let mid = map (λ x. x) c.eights.outputs in
    let new = map (λ x. x) c.section_channels.new.outputs in
    record {
      within = omega (arith, c.eights-test.true);
      size = c.section_channels.auto.outputs ∙ so_far.size;
      follows = follows-group Q15 c.args.post_shift five c.args.row xs mid new c.args.count c.eights.first 8
          (c.eights.first + 8) refl e.before so_far.follows e.follows;
      past = past-group c.args.row old mid new so_far.past e.past;
      counted = (
        k + 1,
        omega (arith, at),
        record {
          multiplies_rise = omega (arith, counts, e.steps);
          turns_within =
              omega (arith, counts, e.steps);
        },
      );
    }

pub fours-preserved : goal.fours-preserved
fours-preserved g c =
    let so_far = c.fours.invariant in
    let (k, m, at, below, counts) = so_far.counted in
    let e = c.section_channels-in-fours.ensures in
    let five = five_of (map (λ x. x) c.own_numbers-numbers.result) in
    let xs = map (λ x. x) c.args.inputs.now in
    let old = map (λ x. x) c.args.outputs.now in
    let mid = map (λ x. x) c.fours.outputs in
    let new = map (λ x. x) c.section_channels-in-fours.new.outputs in
    record {
      within = omega (arith, c.fours-test.true);
      size = c.section_channels-in-fours.auto.outputs ∙ so_far.size;
      follows = follows-group Q15 c.args.post_shift five c.args.row xs mid new c.args.count c.fours.first 4
          (c.fours.first + 4) refl e.before so_far.follows e.follows;
      past = past-group c.args.row old mid new so_far.past e.past;
      counted = (
        k,
        m + 1,
        omega (arith, at),
        below,
        record
            { multiplies_rise = omega (arith, counts, e.steps); turns_within = omega (arith, counts, e.steps) },
      );
    }

pub twos-init : goal.twos-init
twos-init g c =
    let so_far = c.fours.invariant in
    let (k, m, at, below, counts) = so_far.counted in
    record {
      within = so_far.within;
      size = so_far.size;
      follows = so_far.follows;
      past = so_far.past;
      counted = (
        k,
        m,
        0,
        omega (arith, at),
        below,
        record
            { multiplies_rise = omega (arith, counts); turns_within = omega (arith, counts) },
      );
    }

pub twos-preserved : goal.twos-preserved
twos-preserved g c =
    let so_far = c.twos.invariant in
    let (k, m, r, at, below, counts) = so_far.counted in
    let e = c.section_channels-in-twos.ensures in
    let five = five_of (map (λ x. x) c.own_numbers-numbers.result) in
    let xs = map (λ x. x) c.args.inputs.now in
    let old = map (λ x. x) c.args.outputs.now in
    let mid = map (λ x. x) c.twos.outputs in
    let new = map (λ x. x) c.section_channels-in-twos.new.outputs in
    record {
      within = omega (arith, c.twos-test.true);
      size = c.section_channels-in-twos.auto.outputs ∙ so_far.size;
      follows = follows-group Q15 c.args.post_shift five c.args.row xs mid new c.args.count c.twos.first 2
          (c.twos.first + 2) refl e.before so_far.follows e.follows;
      past = past-group c.args.row old mid new so_far.past e.past;
      counted = (
        k,
        m,
        r + 1,
        omega (arith, at),
        below,
        record
            { multiplies_rise = omega (arith, counts, e.steps); turns_within = omega (arith, counts, e.steps) },
      );
    }

pub ones-init : goal.ones-init
ones-init g c =
    let so_far = c.twos.invariant in
    let (k, m, r, at, below, counts) = so_far.counted in
    record {
      within = so_far.within;
      size = so_far.size;
      follows = so_far.follows;
      past = so_far.past;
      counted = (
        k,
        m,
        r,
        0,
        omega (arith, at),
        below,
        record
            { multiplies_rise = omega (arith, counts); turns_within = omega (arith, counts) },
      );
    }

pub ones-preserved : goal.ones-preserved
ones-preserved g c =
    let so_far = c.ones.invariant in
    let (k, m, r, s, at, below, counts) = so_far.counted in
    let e = c.section_channels-in-ones.ensures in
    let five = five_of (map (λ x. x) c.own_numbers-numbers.result) in
    let xs = map (λ x. x) c.args.inputs.now in
    let old = map (λ x. x) c.args.outputs.now in
    let mid = map (λ x. x) c.ones.outputs in
    let new = map (λ x. x) c.section_channels-in-ones.new.outputs in
    record {
      within = omega (arith, c.ones-test.true);
      size = c.section_channels-in-ones.auto.outputs ∙ so_far.size;
      follows = follows-group Q15 c.args.post_shift five c.args.row xs mid new c.args.count c.ones.first 1
          (c.ones.first + 1) refl e.before so_far.follows e.follows;
      past = past-group c.args.row old mid new so_far.past e.past;
      counted = (
        k,
        m,
        r,
        s + 1,
        omega (arith, at),
        below,
        record
            { multiplies_rise = omega (arith, counts, e.steps); turns_within = omega (arith, counts, e.steps) },
      );
    }

pub returns-clause-follows : goal.returns-clause-follows
returns-clause-follows g c =
    let so_far = c.ones.invariant in
    let row = c.args.row in
    let all : c.ones.first ≡ row = omega (arith, so_far.within, c.ones-test.false) in
    λ i h. subst (λ l. Follows Q15 c.args.post_shift (five_of (map (λ x. x) l)) row (map (λ x. x) c.args.inputs.now)
    (map (λ x. x) c.ones.outputs) c.args.count i)
    c.own_numbers-numbers.ensures (so_far.follows i (omega (arith, h, all)))

pub returns-clause-steps : goal.returns-clause-steps
returns-clause-steps g c =
    let so_far = c.ones.invariant in
    let (k, m, r, s, at, below, counts) = so_far.counted in
    let row = c.args.row in
    let count = c.args.count in
    let all : c.ones.first ≡ row = omega (arith, so_far.within, c.ones-test.false) in
    let few : 5 * (k + m + r + s) ≤ 5 * lane_turns 8 row = omega (arith, all, at, below) in
    let turns : count * (5 * (k + m + r + s)) ≤ count * (5 * lane_turns 8 row) = mul-le-mul_left count few in
    let products : count * (5 * c.ones.first) ≡ count * (5 * row) = ap (λ n. count * (5 * n)) all in
    record { multiplies_rise = omega (arith, counts, products); turns_within = omega (arith, counts, turns) }
