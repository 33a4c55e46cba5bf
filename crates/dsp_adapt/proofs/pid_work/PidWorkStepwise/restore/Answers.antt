use Rattle.std.proofs.Common.{◌≡◌, ◌∙◌, subst, sym, refl, ap, ℕ, ◌<◌, ℤ, pos, List, [], ◌∷◌, length, SFits}
use Rattle.std.proofs.Common.{FitsSigned, to_z, of_z, arith}
use Rattle.std.specs.Int.{w32, w64}
use Rattle.std.proofs.lemmas.List.Elements.{All-get_or}
use Rattle.dsp_defs.specs.Formats.{word}
use Rattle.dsp_defs.specs.Signal.{sample}
use Rattle.dsp_defs.specs.declared.format.Fmt.{Fmt}
use Rattle.dsp_defs.specs.Kept.{Each, IsOfKind, in_words}
use Rattle.dsp_unit.proofs.ChannelKept.{length-words, fit-words}
use Rattle.dsp_filter.proofs.Slices.{narrow-word}
use Rattle.dsp_adapt.specs.PidState.{block_of}
use Rattle.dsp_adapt.proofs.pid_work.PidWorkStepwise.restore.Goals as goal
use Rattle.dsp_sat.proofs.WideProducts.{word-in-32, cast-fits}

long : (format : Fmt) (numbers : List ℤ) → Each IsOfKind (in_words (word format) 3) numbers → length numbers ≡ 3
long format numbers each = length-words IsOfKind (word format) 3 numbers each

fit : (format : Fmt) (numbers : List ℤ) (place : ℕ) → Each IsOfKind (in_words (word format) 3) numbers → place < 3 →
    SFits (word format) (sample numbers place)
fit format numbers place each inside = All-get_or (FitsSigned (word format)) numbers place (pos 0)
    (omega (arith, long format numbers each)) (fit-words (word format) 3 numbers each)

-- a number that is cast, and read as a sample
cast : (format : Fmt) (numbers : List ℤ) (place : ℕ) → Each IsOfKind (in_words (word format) 3) numbers → place < 3 →
    SFits w32 (to_z w64 (of_z w64 (sample numbers place)))
cast format numbers place each inside = cast-fits (sample numbers place)
    (word-in-32 format (sample numbers place) (fit format numbers place each inside))

read : (format : Fmt) (numbers : List ℤ) (place : ℕ) → Each IsOfKind (in_words (word format) 3) numbers → place < 3 →
    SFits (word format) (to_z w32 (of_z w32 (to_z w64 (of_z w64 (sample numbers place)))))
read format numbers place each inside =
    subst (λ (z : ℤ). SFits (word format) z) (sym (narrow-word format (sample numbers place)
    (fit format numbers place each inside))) (fit format numbers place each inside)

three : (numbers : List ℤ) → length numbers ≡ 3 → sample numbers 0 ∷ sample numbers 1 ∷ sample numbers 2 ∷ [] ≡ numbers
three (a ∷ b ∷ c ∷ []) h = refl
three (a ∷ b ∷ c ∷ d ∷ l) h = absurd (omega (arith, h))
three (a ∷ b ∷ []) h = absurd (omega (arith, h))
three (a ∷ []) h = absurd (omega (arith, h))
three [] h = absurd (omega (arith, h))

pub bounds-numbers-0 : goal.bounds-numbers-0
bounds-numbers-0 g c = omega (arith, long g.T.Sample.format c.args.numbers.now c.requires)

pub bounds-numbers-1 : goal.bounds-numbers-1
bounds-numbers-1 g c = omega (arith, long g.T.Sample.format c.args.numbers.now c.requires)

pub bounds-numbers-2 : goal.bounds-numbers-2
bounds-numbers-2 g c = omega (arith, long g.T.Sample.format c.args.numbers.now c.requires)

pub overflow_cast-numbers : goal.overflow_cast-numbers
overflow_cast-numbers g c = cast g.T.Sample.format c.args.numbers.now 0 c.requires (omega arith)

pub overflow_cast-numbers-2 : goal.overflow_cast-numbers-2
overflow_cast-numbers-2 g c = cast g.T.Sample.format c.args.numbers.now 1 c.requires (omega arith)

pub overflow_cast-numbers-3 : goal.overflow_cast-numbers-3
overflow_cast-numbers-3 g c = cast g.T.Sample.format c.args.numbers.now 2 c.requires (omega arith)

pub of_number-self-inside-requires : goal.of_number-self-inside-requires
of_number-self-inside-requires g c = read g.T.Sample.format c.args.numbers.now 0 c.requires (omega arith)

pub of_number-self-inside-requires-2 : goal.of_number-self-inside-requires-2
of_number-self-inside-requires-2 g c = read g.T.Sample.format c.args.numbers.now 1 c.requires (omega arith)

pub of_number-self-inside-requires-3 : goal.of_number-self-inside-requires-3
of_number-self-inside-requires-3 g c = read g.T.Sample.format c.args.numbers.now 2 c.requires (omega arith)

pub invariant_of-self : goal.invariant_of-self
invariant_of-self g c = c.self.invariant

pub returns-clause-block : goal.returns-clause-block
returns-clause-block g c = ap block_of c.self.view_is

pub returns-clause-kept : goal.returns-clause-kept
returns-clause-kept g c =
    let format = g.T.Sample.format in
    let numbers = c.args.numbers.now in
    let first = c.of_number-self-inside.ensures ∙ narrow-word format (sample numbers 0)
    (fit format numbers 0 c.requires (omega arith)) in
    let second = c.of_number-self-inside-2.ensures ∙ narrow-word format (sample numbers 1)
    (fit format numbers 1 c.requires (omega arith)) in
    let third = c.of_number-self-inside-3.ensures ∙ narrow-word format (sample numbers 2)
    (fit format numbers 2 c.requires (omega arith)) in
    (λ i. first i ∷ second i ∷ third i ∷ []) ∙ three numbers (long format numbers c.requires)
