use Rattle.std.proofs.Common.{◌≡◌, ◌∙◌, ap, sym, ◌++◌, ◌+◌, ◌*◌, ◌/◌, ◌≤◌, ℕ, length, map, take}
use Rattle.std.proofs.Common.{length-take-le, subst, ℤ, List}
use Rattle.std.specs.Prelude.{All, FitsSigned}
use Rattle.std.proofs.lemmas.List.{length-map}
use Rattle.dsp_defs.specs.Formats.{word}
use Rattle.dsp_unit.specs.Unit.{frames_in}
use Rattle.dsp_filter.proofs.Slices.{front-written}
use Rattle.dsp_adapt.specs.LmsState.{StandsFor, pairs}
use Rattle.dsp_adapt.specs.LmsUnit.{lms_frames}
use Rattle.dsp_adapt.proofs.LmsUnits.{frames-given, pairs-of}
use Rattle.dsp_adapt.proofs.pairs.feed_pairs.Goals as goal

-- a row of as many samples as a block has, cut to n
within : (n long block : ℕ) → long ≡ block → n ≤ block → n ≤ long
within n long block same h = subst (λ (m : ℕ). n ≤ m) (sym same) h

cut-long : {X : Type 0} (n : ℕ) (row : List X) (block : ℕ) → length row ≡ block → n ≤ block → length (take n row) ≡ n
cut-long n row block same h = length-take-le n row (within n (length row) block same h)

pub returns-clause-frames : goal.returns-clause-frames
returns-clause-frames g c = λ x stands.
    let T = g.T.Sample in
    let frames = c.args.frames.now in
    let count = length frames / 2 in
    let s = c.args.lms.now in
    let cut = cut-long count c.args.inputs.now _ c.requires.inputs c.requires.capacity in
    let whole : length frames ≡ length (take count c.args.inputs.now) * 2 = c.requires.whole ∙
    ap (λ n. n * 2) (sym cut) in
    let taken = pairs-of (length (take count c.args.inputs.now)) frames (map T.number c.split_pairs.new.first)
    (map T.number c.split_pairs.new.second) whole c.split_pairs.ensures.first c.split_pairs.ensures.second in
    let out = c.join_pairs.new.out in
    let written = front-written (length frames) out c.args.out.now
    (c.join_pairs.auto.out ∙ length-take-le (length frames) c.args.out.now c.requires.room) in
    let given = frames-given T.format s x (pairs (map T.number c.split_pairs.new.first)
    (map T.number c.split_pairs.new.second)) (map T.number c.process.new.output) (map T.number c.process.new.error)
    (length c.process.new.output) (length-map c.process.new.output T.number) (c.process.ensures.outputs x stands)
    (c.process.ensures.errors x stands) in
    ap (λ l. lms_frames T.format s (x ++ l)) taken
    ∙ given
    ∙ ap (λ l. lms_frames T.format s x ++ l) (sym (ap (frames_in 2) written ∙ c.join_pairs.ensures.frames))

pub returns-clause-stands : goal.returns-clause-stands
returns-clause-stands g c = λ x stands.
    let T = g.T.Sample in
    let frames = c.args.frames.now in
    let count = length frames / 2 in
    let cut = cut-long count c.args.inputs.now _ c.requires.inputs c.requires.capacity in
    let whole : length frames ≡ length (take count c.args.inputs.now) * 2 = c.requires.whole ∙
    ap (λ n. n * 2) (sym cut) in
    let taken = pairs-of (length (take count c.args.inputs.now)) frames (map T.number c.split_pairs.new.first)
    (map T.number c.split_pairs.new.second) whole c.split_pairs.ensures.first c.split_pairs.ensures.second in
    subst (λ (l : List (ℤ × ℤ)). StandsFor T.format c.process.new.self (x ++ l)) (sym taken)
    (c.process.ensures.stands x stands)

pub slice_bounds-inputs-end : goal.slice_bounds-inputs-end
slice_bounds-inputs-end g c = within _ _ _ c.requires.inputs c.requires.capacity

pub slice_bounds-inputs-end-2 : goal.slice_bounds-inputs-end-2
slice_bounds-inputs-end-2 g c = sym (cut-long _ c.args.inputs.now _ c.requires.inputs c.requires.capacity)

pub slice_bounds-references-end : goal.slice_bounds-references-end
slice_bounds-references-end g c = within _ _ _ c.requires.references c.requires.capacity

pub slice_bounds-references-end-2 : goal.slice_bounds-references-end-2
slice_bounds-references-end-2 g c = sym (cut-long _ c.args.references.now _ c.requires.references c.requires.capacity)

pub split_pairs-requires-clause-whole : goal.split_pairs-requires-clause-whole
split_pairs-requires-clause-whole g c = c.requires.whole ∙
    ap (λ n. n * 2) (sym (cut-long _ c.args.inputs.now _ c.requires.inputs c.requires.capacity))

pub split_pairs-requires-clause-same : goal.split_pairs-requires-clause-same
split_pairs-requires-clause-same g c =
    cut-long _ c.args.references.now _ c.requires.references c.requires.capacity ∙
    sym (cut-long _ c.args.inputs.now _ c.requires.inputs c.requires.capacity)

pub split_pairs-requires-clause-in_format : goal.split_pairs-requires-clause-in_format
split_pairs-requires-clause-in_format g c = c.requires.in_format

pub slice_bounds-outputs-end : goal.slice_bounds-outputs-end
slice_bounds-outputs-end g c = within _ _ _ c.requires.outputs c.requires.capacity

pub slice_bounds-outputs-end-2 : goal.slice_bounds-outputs-end-2
slice_bounds-outputs-end-2 g c = sym (cut-long _ c.args.outputs.now _ c.requires.outputs c.requires.capacity)

pub slice_bounds-errors-end : goal.slice_bounds-errors-end
slice_bounds-errors-end g c = within _ _ _ c.requires.errors c.requires.capacity

pub slice_bounds-errors-end-2 : goal.slice_bounds-errors-end-2
slice_bounds-errors-end-2 g c = sym (cut-long _ c.args.errors.now _ c.requires.errors c.requires.capacity)

pub slice_bounds-join_pairs-end : goal.slice_bounds-join_pairs-end
slice_bounds-join_pairs-end g c = c.requires.room

pub join_pairs-requires-clause-whole : goal.join_pairs-requires-clause-whole
join_pairs-requires-clause-whole g c =
    length-take-le (length c.args.frames.now) c.args.out.now c.requires.room ∙ c.requires.whole
    ∙ ap (λ n. n * 2) (sym (c.process.auto.output ∙ cut-long _ c.args.outputs.now _ c.requires.outputs
    c.requires.capacity))

pub join_pairs-requires-clause-same : goal.join_pairs-requires-clause-same
join_pairs-requires-clause-same g c =
    c.process.auto.error ∙ cut-long _ c.args.errors.now _ c.requires.errors c.requires.capacity
    ∙ sym (c.process.auto.output ∙ cut-long _ c.args.outputs.now _ c.requires.outputs c.requires.capacity)

pub returns-clause-in_format : goal.returns-clause-in_format
returns-clause-in_format g c =
    let frames = c.args.frames.now in
    let out = c.join_pairs.new.out in
    let written = front-written (length frames) out c.args.out.now
    (c.join_pairs.auto.out ∙ length-take-le (length frames) c.args.out.now c.requires.room) in
    subst (λ l. All (FitsSigned (word g.T.Sample.format)) l) (sym written) c.join_pairs.ensures.in_format

pub returns-clause-same : goal.returns-clause-same
returns-clause-same g c = c.process.ensures.same

pub returns-clause-past : goal.returns-clause-past
returns-clause-past g c = c.process.ensures.past

pub returns-clause-weights : goal.returns-clause-weights
returns-clause-weights g c = c.process.ensures.weights

pub returns-clause-multiplies : goal.returns-clause-multiplies
returns-clause-multiplies g c =
    let given = c.split_pairs.auto.first ∙ cut-long _ c.args.inputs.now _ c.requires.inputs c.requires.capacity in
    subst (λ (n : ℕ). c.process.new.steps.multiplies ≡ c.args.steps.now.multiplies + n *
    (2 * length c.args.lms.now.taps + 1)) given c.process.ensures.multiplies

pub returns-clause-turns : goal.returns-clause-turns
returns-clause-turns g c =
    let given = c.split_pairs.auto.first ∙ cut-long _ c.args.inputs.now _ c.requires.inputs c.requires.capacity in
    subst (λ (n : ℕ). c.process.new.steps.turns ≤ c.args.steps.now.turns + n * (2 * length c.args.lms.now.taps + 1))
    given c.process.ensures.turns
