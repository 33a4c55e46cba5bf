use Rattle.std.proofs.Common.{◌≡◌, ◌∙◌, ◌+◌, ◌*◌, ◌<◌, ap, sym, refl, subst, ℕ, ℤ, List, pos, length, map, take}
use Rattle.std.proofs.Common.{take_all, arith, FitsSigned}
use Rattle.std.specs.Int.{w32}
use Rattle.std.proofs.lemmas.Int.{to_z-of_z}
use Rattle.std.proofs.lemmas.List.{length-map, map-set}
use Rattle.std.proofs.lemmas.List.Elements.{All-get_or}
use Rattle.std.specs.Prelude.{All}
use Rattle.dsp_defs.specs.Formats.{word}
use Rattle.dsp_defs.specs.declared.format.Fmt.{Fmt}
use Rattle.dsp_defs.specs.Signal.{sample, values}
use Rattle.dsp_lanes.proofs.LaneRows.{rows-one}
use Rattle.dsp_adapt.proofs.pairs.split_pairs.Goals as goal
use Rattle.dsp_sat.proofs.WideProducts.{word-in-32}

-- a number of the frames is in the range of the format
fit : (format : Fmt) (frames : List ℤ) (k : ℕ) → All (FitsSigned (word format)) frames → k < length frames →
    FitsSigned (word format) (sample frames k)
fit format frames k all h = All-get_or (FitsSigned (word format)) frames k (pos 0) h all

pub of_number-requires : goal.of_number-requires
of_number-requires g c =
    let T = g.T.Sample in
    let frames = c.args.frames.now in
    let k = c.loop-n.n * 2 in
    let fits = fit T.format frames k c.requires.in_format (omega (arith, c.requires.whole, c.loop-n-test.true)) in
    subst (λ z. FitsSigned (word T.format) z) (sym (to_z-of_z w32 (sample frames k)
    (word-in-32 T.format (sample frames k) fits))) fits

pub of_number-requires-in-loop-n : goal.of_number-requires-in-loop-n
of_number-requires-in-loop-n g c =
    let T = g.T.Sample in
    let frames = c.args.frames.now in
    let k = c.loop-n.n * 2 + 1 in
    let fits = fit T.format frames k c.requires.in_format (omega (arith, c.requires.whole, c.loop-n-test.true)) in
    subst (λ z. FitsSigned (word T.format) z) (sym (to_z-of_z w32 (sample frames k)
    (word-in-32 T.format (sample frames k) fits))) fits

pub loop-n-preserved : goal.loop-n-preserved
loop-n-preserved g c =
    let T = g.T.Sample in
    let n = c.loop-n.n in
    let frames = c.args.frames.now in
    let first = c.loop-n.first in
    let second = c.loop-n.second in
    record {
      left = ap (take _) (map-set T.number first n c.of_number.result)
          ∙ rows-one (λ k. sample frames (k * 2)) n _ (map T.number first) (T.number c.of_number.result) refl
          (omega (arith, length-map first T.number)) c.loop-n.invariant.left
          (c.of_number.ensures ∙ to_z-of_z w32 (sample frames (n * 2))
          (word-in-32 T.format (sample frames (n * 2)) (fit T.format frames (n * 2) c.requires.in_format
          (omega arith))));
      right = ap (take _) (map-set T.number second n c.of_number-in-loop-n.result)
          ∙ rows-one (λ k. sample frames (k * 2 + 1)) n _ (map T.number second)
          (T.number c.of_number-in-loop-n.result) refl (omega (arith, length-map second T.number))
          c.loop-n.invariant.right
          (c.of_number-in-loop-n.ensures ∙ to_z-of_z w32 (sample frames (n * 2 + 1))
          (word-in-32 T.format (sample frames (n * 2 + 1)) (fit T.format frames (n * 2 + 1) c.requires.in_format
          (omega arith))));
    }

pub returns-clause-first : goal.returns-clause-first
returns-clause-first g c =
    let number = g.T.Sample.number in
    let n = c.loop-n.n in
    let all : n ≡ length c.args.first.now = omega arith in
    sym (take_all n (map number c.loop-n.first) (omega (arith, length-map c.loop-n.first number)))
    ∙ c.loop-n.invariant.left ∙ ap (λ m. values m (λ k. sample c.args.frames.now (k * 2))) all

pub returns-clause-second : goal.returns-clause-second
returns-clause-second g c =
    let number = g.T.Sample.number in
    let n = c.loop-n.n in
    let all : n ≡ length c.args.first.now = omega arith in
    sym (take_all n (map number c.loop-n.second) (omega (arith, length-map c.loop-n.second number)))
    ∙ c.loop-n.invariant.right ∙ ap (λ m. values m (λ k. sample c.args.frames.now (k * 2 + 1))) all
