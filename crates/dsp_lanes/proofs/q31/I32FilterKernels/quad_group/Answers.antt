use Rattle.std.proofs.Common.{◌≡◌, ◌+◌, ◌*◌, ◌∙◌, ap, arith, length, map}
use Rattle.std.proofs.lemmas.List.{length-map}
use lib.Lanes.{put_chunk}
use Rattle.dsp_defs.specs.Formats.{close}
use Rattle.dsp_defs.specs.Signal.{values}
use Rattle.dsp_defs.specs.declared.format.Fmt.TheVariants.{Q31}
use Rattle.dsp_lanes.specs.Rows.{row}
use Rattle.dsp_lanes.proofs.LaneRows.{rows-double}
use Rattle.dsp_lanes.proofs.q31.I32FilterKernels.quad_group.Goals as goal

pub returns-then-this-eq4-clause-out : goal.returns-then-this-eq4-clause-out
returns-then-this-eq4-clause-out g c =
    let taps = map (λ x. x) c.args.taps.now in
    let window = map (λ x. x) c.args.window.now in
    let four = c.if-this-eq4.true in
    let whole : 16 ≡ 4 * g.row.L = omega (arith, four) in
    c.row_group.ensures.out
    ∙ ap (λ n. put_chunk c.args.at (map (λ x. x) c.args.out.now)
    (values n (λ i. close Q31 (row taps window (length c.args.taps.now) (c.args.at + i))))) whole

pub returns-then-this-eq4-clause-steps : goal.returns-then-this-eq4-clause-steps
returns-then-this-eq4-clause-steps g c =
    let four = c.if-this-eq4.true in
    let whole : 16 ≡ 4 * g.row.L = omega (arith, four) in
    let steps = c.row_group.ensures.steps in
    let products = ap (λ n. length c.args.taps.now * n) whole in
    record { multiplies_rise = omega (arith, steps, products); turns_within = omega (arith, steps) }

pub returns-else-this-eq4-clause-out : goal.returns-else-this-eq4-clause-out
returns-else-this-eq4-clause-out g c =
    let taps = map (λ x. x) c.args.taps.now in
    let window = map (λ x. x) c.args.window.now in
    let out = map (λ x. x) c.args.out.now in
    let n = g.row.L in
    let long = length-map c.args.out.now (λ x. x) in
    rows-double (λ i. close Q31 (row taps window (length c.args.taps.now) i)) c.args.at (2 * n) (4 * n) out _ _
    (omega arith) (omega (arith, c.requires.room, long)) c.double_group.ensures.out
    c.double_group-else-this-eq4.ensures.out
