use Rattle.std.proofs.Common.{◌≡◌, ◌∙◌, ap, sym, subst, ◌≤◌, length, map, arith, rules}
use Rattle.std.proofs.lemmas.List.{length-map}
use Rattle.std.specs.Int.{w32}
use Rattle.std.proofs.lemmas.Int.{to_z-of_z}
use Rattle.dsp_adapt.proofs.LmsMaking.{block-is, new-rows, within-limits}
use Rattle.dsp_adapt.proofs.LmsUnits.{lms-new}
use Rattle.dsp_adapt.proofs.lms_unit.LmsUnit.new.Goals as goal
use Rattle.dsp_sat.proofs.WideProducts.{word-in-32}

pub returns : goal.returns
returns g c =
    let T = g.T.Sample in
    let of = rw c.in-Lms.is at c.requires.block in
    let mu_is = c.of_number-mu.ensures ∙ to_z-of_z w32 c.in-Lms.mu (word-in-32 T.format c.in-Lms.mu of.1) in
    lms-new T.format c.in-Ok.lms c.args.block.now _ _ (T.number c.of_number-mu.result) _
    (map T.number c.deref.result.now) c.args.frames
    c.in-Lms.is mu_is (ap (map T.number) c.deref.ensures.value ∙ c.in_ok-taps.ensures ∙ c.as_slice.ensures)
    c.in-Ok.ensures.made c.in-Ok.ensures.stands

pub unreachable-requires : goal.unreachable-requires
unreachable-requires g c = block-is g.T.Sample.format c.args.block.now c.requires.block c.in_default.not-Lms

pub unreachable-requires-in-Err : goal.unreachable-requires-in-Err
unreachable-requires-in-Err g c =
    let T = g.T.Sample in
    let of = rw c.in-Lms.is at c.requires.block in
    let long : length c.deref.result.now ≡ length c.in-Lms.taps = ap length c.deref.ensures.value ∙
    sym (length-map c.in_ok-taps.taps.items T.number) ∙ ap length (c.in_ok-taps.ensures ∙ c.as_slice.ensures) in
    let greatest = g.T.LmsSample.GREATEST_SHIFT in
    let shift : c.in-Lms.post_shift ≤ greatest = subst (λ n. c.in-Lms.post_shift ≤ n)
    (sym g.met.T.LmsSample.has_shift) of.0 in
    let none = within-limits greatest c.in-Lms.post_shift (length c.deref.result.now) c.args.frames shift
    (omega (arith, long, of.2.0)) (omega (arith, long, of.2.1)) c.requires.frames
    (omega (arith, c.requires.samples)) in
    let memory = rw none at c.in-Err.ensures.fault in
    search (rules, memory)

pub invariant_of-result : goal.invariant_of-result
invariant_of-result g c =
    let rows = c.in_ok-inputs.ensures in
    new-rows c.in-Ok.lms _ _ _ c.args.frames _ _ _ _ c.in-Ok.ensures.made c.requires.samples rows.0 rows.1 rows.2 rows.3
