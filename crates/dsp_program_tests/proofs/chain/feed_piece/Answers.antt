use Rattle.std.proofs.Common.{◌≡◌, ◌∙◌, ap, ap₂, sym, subst, ℕ, ◌+◌, ◌*◌, ◌/◌, ◌≤◌, ℤ, List, length, arith, All}
use Rattle.std.proofs.Common.{FitsSigned}
use Rattle.dsp_defs.specs.Formats.{word}
use Rattle.dsp_defs.specs.Numbers.{w32}
use Rattle.dsp_unit.specs.Unit.{frames_in}
use Rattle.dsp_unit.specs.Line.{Place, Passes}
use Rattle.dsp_defs.specs.declared.format.Fmt.{Fmt}
use Rattle.dsp_defs.specs.declared.format.Fmt.TheVariants.{Q31}
use Rattle.dsp_defs.proofs.FrameLemmas.{length-frames_in}
use Rattle.dsp_program_tests.proofs.chain.feed_piece.Goals as goal

half : (channels : ℕ) (xs : List ℤ) → channels ≡ 2 → length (frames_in channels xs) ≡ length xs / 2
half channels xs two = length-frames_in channels xs ∙ ap (λ (c : ℕ). length xs / c) two

pairs-pass : (p : Place) (xs : List ℤ) → p.format ≡ Q31 → p.channels ≡ 2 → length xs ≡ length xs / 2 * 2 →
    length xs / 2 ≤ p.capacity → All (FitsSigned w32) xs → Passes p xs
pairs-pass p xs format two whole few fits =
    let count = half p.channels xs two in
    record {
      signal = record {
        whole_frames = whole ∙ ap₂ (λ (n c : ℕ). n * c) (sym count) (sym two);
        in_format = subst (λ (f : Fmt). All (FitsSigned (word f)) xs) (sym format) fits;
      };
      at_most = omega (arith, count, few);
    }

pub feed-requires-clause-passes : goal.feed-requires-clause-passes
feed-requires-clause-passes g c =
    let p = c.args.chain.now.input in
    let fits : All (FitsSigned w32) c.args.piece.now = subst (λ (xs : List ℤ). All (FitsSigned w32) xs)
    c.words-samples.ensures.same c.words-samples.ensures.fits in
    subst (Passes p) (sym (c.deref.ensures.value ∙ c.words-samples.ensures.same))
    (pairs-pass p c.args.piece.now c.requires.format c.requires.channels c.requires.whole c.requires.capacity fits)

pub feed-requires-clause-count : goal.feed-requires-clause-count
feed-requires-clause-count g c =
    let channels = c.args.chain.now.input.channels in
    let same : length (frames_in channels c.deref.result.now) ≡ length (frames_in channels c.args.piece.now) =
    ap (λ (xs : List ℤ). length (frames_in channels xs)) (c.deref.ensures.value ∙ c.words-samples.ensures.same) in
    omega (arith, same, half channels c.args.piece.now c.requires.channels, c.requires.count)

pub returns-clause-frames : goal.returns-clause-frames
returns-clause-frames g c =
    let channels = c.args.chain.now.input.channels in
    c.in-Ok.ensures.fed.counted
    ∙ ap (λ (xs : List ℤ). c.args.chain.now.frames + length (frames_in channels xs))
    (c.deref.ensures.value ∙ c.words-samples.ensures.same)
    ∙ ap (λ (n : ℕ). c.args.chain.now.frames + n) (half channels c.args.piece.now c.requires.channels)

pub returns-in_default-given-clause-frames : goal.returns-in_default-given-clause-frames
returns-in_default-given-clause-frames g c =
    let channels = c.args.chain.now.input.channels in
    c.in-Ok.ensures.fed.counted
    ∙ ap (λ (xs : List ℤ). c.args.chain.now.frames + length (frames_in channels xs))
    (c.deref.ensures.value ∙ c.words-samples.ensures.same)
    ∙ ap (λ (n : ℕ). c.args.chain.now.frames + n) (half channels c.args.piece.now c.requires.channels)
