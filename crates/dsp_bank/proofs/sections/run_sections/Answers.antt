use Rattle.std.proofs.Common.{◌≡◌, ◌∙◌, ap, sym, subst, ◌+◌, ◌*◌, ◌/◌, ◌<◌, length, map, arith}
use Rattle.std.proofs.lemmas.List.{length-map}
use Rattle.dsp_defs.specs.Biquad.{Section}
use Rattle.dsp_defs.specs.Formats.{lanes}
use Rattle.dsp_defs.specs.declared.script.Block.TheVariants.{Biquad}
use Rattle.dsp_lanes.specs.Turns.{RisesWithin, lane_turns}
use Rattle.dsp_biquad.specs.Laws.{some-size}
use Rattle.dsp_biquad.specs.Sections.{block_acts, section_acts}
use Rattle.dsp_bank.specs.Rows.{ChannelsGo, SectionGoes}
use Rattle.dsp_bank.proofs.Amounts.{below-next, rises-more, rises-none, whole-parts}
use Rattle.dsp_bank.proofs.SectionsGo.{HaveGone, LaterStay, gone-more, stay-more, none-gone, all-gone}
use Rattle.dsp_bank.proofs.sections.run_sections.Goals as goal

pub shared_whole_as_slice-run_section : goal.shared_whole_as_slice-run_section
shared_whole_as_slice-run_section g c = g.met.T.BankSample.small

pub loop-section-preserved : goal.loop-section-preserved
loop-section-preserved g c =
    let number = g.T.Sample.number in
    let format = g.T.Sample.format in
    let size = g.T.BiquadSample.SIZE in
    let p = c.args.post_shift in
    let numbers = map number c.args.coefficients.now in
    let sections = length c.args.coefficients.now / c.SIZE.result in
    let row = c.args.row in
    let count = c.args.count in
    let s = c.loop-section.section in
    let old = map number c.args.kept.now in
    let mid = map number c.loop-section.kept in
    let new = map number c.run_section.new.kept in
    let frames = map number c.args.frames.now in
    let frames' = map number c.loop-section.frames in
    let frames'' = map number c.run_section.new.outputs in
    let so_far = c.loop-section.invariant in
    let inside : s < sections = omega (arith, c.loop-section-test.true, c.in-Some.ensures) in
    let whole : length old ≡ row * sections * 4 = length-map c.args.kept.now number ∙ c.requires.size
    ∙ ap (λ n. row * (length c.args.coefficients.now / n) * 4) (sym c.SIZE.ensures) in
    let step = subst (λ (f : Section). SectionGoes (section_acts format p f) sections s row count mid new frames'
    frames'')
    c.numbers_at-five.ensures c.run_section.ensures.goes in
    record {
      gone = subst (λ l. HaveGone format p size numbers sections row count (s + 1) old new frames (map number l))
          (sym c.copy_from_slice-in-loop-section.ensures.after)
          (gone-more format p size numbers sections row count old mid new frames frames' frames'' s whole inside
          so_far.gone so_far.rest step);
      rest = stay-more format p size numbers sections row count old mid new frames frames' frames'' s whole inside
          so_far.gone so_far.rest step;
      steps = rises-more c.args.steps.now c.loop-section.steps c.run_section.new.steps s (count * (5 * row))
          (count * (5 * lane_turns (lanes format) row)) so_far.steps c.run_section.ensures.steps;
    }

pub returns-clause-goes : goal.returns-clause-goes
returns-clause-goes g c =
    let number = g.T.Sample.number in
    let format = g.T.Sample.format in
    let size = g.T.BiquadSample.SIZE in
    let p = c.args.post_shift in
    let numbers = map number c.args.coefficients.now in
    let coefficients = length c.args.coefficients.now in
    let all = coefficients / c.SIZE.result in
    let sections = coefficients / size in
    let row = c.args.row in
    let count = c.args.count in
    let last = c.in-Some.last in
    let old = map number c.args.kept.now in
    let mid = map number c.loop-section.kept in
    let new = map number c.run_section-2.new.kept in
    let frames = map number c.args.frames.now in
    let frames' = map number c.loop-section.frames in
    let frames'' = map number c.run_section-2.new.outputs in
    let is = g.met.T.BiquadSample.has_size in
    let same : all ≡ sections = ap (λ n. coefficients / n) c.SIZE.ensures in
    let done : c.loop-section.section ≡ last = omega
    (arith, c.loop-section-test.false, c.loop-section.auto.section-end) in
    let one_more : last + 1 ≡ all = omega (arith, c.in-Some.ensures) in
    let inside = below-next last all one_more in
    let whole : length old ≡ row * all * 4 = length-map c.args.kept.now number ∙ c.requires.size
    ∙ ap (λ n. row * (coefficients / n) * 4) (sym c.SIZE.ensures) in
    let long : length numbers ≡ sections * size = length-map c.args.coefficients.now number
    ∙ sym (whole-parts coefficients size c.requires.whole (some-size format size is)) in
    let gone = subst (λ s. HaveGone format p size numbers all row count s old mid frames frames') done
    c.loop-section.invariant.gone in
    let rest = subst (λ s. LaterStay format p size numbers all row count s old mid) done
    c.loop-section.invariant.rest in
    let step = subst (λ (f : Section). SectionGoes (section_acts format p f) all last row count mid new frames'
    frames'')
    c.numbers_at-five-2.ensures c.run_section-2.ensures.goes in
    let gone' = gone-more format p size numbers all row count old mid new frames frames' frames'' last whole inside
    gone rest step in
    let gone'' = subst (λ s. HaveGone format p size numbers s row count s old new frames frames'') (one_more ∙ same)
    (subst (λ s. HaveGone format p size numbers s row count (last + 1) old new frames frames'') (sym one_more) gone') in
    all-gone format p size numbers sections row count is old new frames frames''
    (length-map c.args.kept.now number ∙ c.requires.size)
    (length-map c.run_section-2.new.kept number ∙ c.run_section-2.auto.kept ∙ c.loop-section.auto.kept
    ∙ c.requires.size) long gone''

-- ---- of no section

pub returns-in_default-clause-goes : goal.returns-in_default-clause-goes
returns-in_default-clause-goes g c =
    let number = g.T.Sample.number in
    let format = g.T.Sample.format in
    let size = g.T.BiquadSample.SIZE in
    let p = c.args.post_shift in
    let numbers = map number c.args.coefficients.now in
    let coefficients = length c.args.coefficients.now in
    let sections = coefficients / size in
    let row = c.args.row in
    let count = c.args.count in
    let old = map number c.args.kept.now in
    let frames = map number c.args.frames.now in
    let is = g.met.T.BiquadSample.has_size in
    let zero : coefficients / c.SIZE.result ≡ 0 = omega (arith, c.in_default.ensures) in
    let none : 0 ≡ sections = sym zero ∙ ap (λ n. coefficients / n) c.SIZE.ensures in
    let size_old = length-map c.args.kept.now number ∙ c.requires.size in
    let long = length-map c.args.coefficients.now number
    ∙ sym (whole-parts coefficients size c.requires.whole (some-size format size is)) in
    let gone = subst (λ s. HaveGone format p size numbers sections row count s old old frames frames) none
    (none-gone format p size numbers sections row count old frames) in
    subst (λ l. ChannelsGo (block_acts format (Biquad p numbers)) (4 * sections) row count old old frames
    (map number l)) (sym c.copy_from_slice.ensures.after)
    (all-gone format p size numbers sections row count is old old frames frames size_old size_old long gone)

pub returns-in_default-clause-steps : goal.returns-in_default-clause-steps
returns-in_default-clause-steps g c =
    let coefficients = length c.args.coefficients.now in
    let m = c.args.count * (5 * c.args.row) in
    let t = c.args.count * (5 * lane_turns (lanes g.T.Sample.format) c.args.row) in
    let zero : coefficients / c.SIZE.result ≡ 0 = omega (arith, c.in_default.ensures) in
    let none : 0 ≡ coefficients / g.T.BiquadSample.SIZE = sym zero ∙ ap (λ n. coefficients / n) c.SIZE.ensures in
    subst (λ n. RisesWithin c.args.steps.now c.args.steps.now (n * m) (n * t)) none (rises-none c.args.steps.now m t)

-- ---- after the last

pub returns-clause-steps : goal.returns-clause-steps
returns-clause-steps g c =
    let coefficients = length c.args.coefficients.now in
    let last = c.in-Some.last in
    let m = c.args.count * (5 * c.args.row) in
    let t = c.args.count * (5 * lane_turns (lanes g.T.Sample.format) c.args.row) in
    let done : c.loop-section.section ≡ last = omega
    (arith, c.loop-section-test.false, c.loop-section.auto.section-end) in
    let one_more : last + 1 ≡ coefficients / c.SIZE.result = omega (arith, c.in-Some.ensures) in
    let so_far = subst (λ n. RisesWithin c.args.steps.now c.loop-section.steps (n * m) (n * t)) done
    c.loop-section.invariant.steps in
    subst (λ n. RisesWithin c.args.steps.now c.run_section-2.new.steps (n * m) (n * t))
    (one_more ∙ ap (λ n. coefficients / n) c.SIZE.ensures)
    (rises-more c.args.steps.now c.loop-section.steps c.run_section-2.new.steps last m t so_far
    c.run_section-2.ensures.steps)
