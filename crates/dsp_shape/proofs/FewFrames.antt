-- A chain of legal blocks has few frames at each place, and takes them where its correlation does not gather too many.
use Rattle.std.proofs.Common.{◌≡◌, ℕ, ◌+◌, ◌-◌, ◌*◌, ◌/◌, ◌^◌, ◌<◌, ◌≤◌, max, Bool, true, false, cond, List, [], ◌∷◌}
use Rattle.std.proofs.Common.{length, arith, eqb, sym, subst}
use Rattle.std.specs.Int.{div_ceil}
use Rattle.std.proofs.lemmas.Nat.{mul-le}
use Rattle.std.proofs.Math.Nat.{mul_assoc, mul-div_cancel, le-mul_of_pos_right}
use Rattle.dsp_defs.specs.declared.limits.TheConstants.{MAX_TAPS, MAX_BLOCKS, MAX_CORRELATES, MAX_GATHERED, MAX_INPUT}
use Rattle.dsp_defs.specs.declared.limits.TheConstants.{MAX_SAMPLES}
use Rattle.dsp_defs.specs.declared.script.Block.{Block}
use Rattle.dsp_defs.specs.declared.script.Block.TheVariants.{Interpolate, Conv, ConvPartial, Correlate, Max, Min}
use Rattle.dsp_defs.specs.declared.script.Script.{Script}
use Rattle.dsp_defs.specs.Grammar.{IsSound, correlates}
use Rattle.dsp_defs.specs.Sums.{full_length}
use Rattle.dsp_defs.specs.Shape.{correlation_length, given_frames, whole_frames, gathered}
use Rattle.dsp_unit.specs.Line.{Place, place_after, AllTaken, AllFew}
use Rattle.dsp_unit.proofs.CostLaws.{quotient_more}
use Rattle.dsp_unit.proofs.ChainPlaces.{IsOpen, AllOpen, flow_at, legal_is_open}
use Rattle.dsp_shape.specs.FrameRule.{rule_of, most_by, given_by, IsRule}
use Rattle.dsp_shape.specs.Lengths.{HasLegalBlock}
use Rattle.dsp_shape.specs.declared.frame_rule.FrameRule.{FrameRule}
use Rattle.dsp_shape.specs.declared.frame_rule.FrameRule.TheVariants as rule
use Rattle.dsp_shape.proofs.FrameRules.{most-rule, given-rule, is-rule}
use Rattle.dsp_shape.proofs.Placed.{placed_sound}

-- ---- one block

-- no window has so many frames
abbrev window : ℕ
window = 2 ^ 32

-- how many calls bound the frames after a block, where so many bounded them before it
abbrev grown : FrameRule → ℕ → ℕ
grown (rule.Groups taken given) calls = calls
grown (rule.Conv taps) calls = calls + window
grown (rule.ConvPartial first count taps) calls = calls + window
grown (rule.Correlate taps) calls = 2 * calls + 2 * MAX_TAPS

conv_few : (n t : ℕ) → t ≤ MAX_TAPS → full_length n t ≤ n + window
conv_few n t few = tested (eqb n 0)
  where
    tested : (b : Bool) → cond b 0 (n + t - 1) ≤ n + window
    tested true = omega arith
    tested false = omega arith

correlation_few : (n t : ℕ) → t ≤ MAX_TAPS → correlation_length n t ≤ 2 * n + 2 * MAX_TAPS
correlation_few n t few = tested (eqb n 0)
  where
    tested : (b : Bool) → cond b 0 (2 * max n t - 1) ≤ 2 * n + 2 * MAX_TAPS
    tested true = omega arith
    tested false = omega arith

more_calls : (n calls more size m : ℕ) → n ≤ calls * size → m ≤ n + more → 1 ≤ size → m ≤ (calls + more) * size
more_calls n calls more size m h k some = omega (arith, h, k, le-mul_of_pos_right more some)

groups_few : (taken given calls size n : ℕ) → 1 ≤ taken → n ≤ calls * size →
    n / taken * given ≤ calls * (div_ceil size taken * given)
groups_few taken given calls size n some h =
    let up : size ≤ div_ceil size taken * taken = covered size taken some in
    let all : n ≤ (calls * div_ceil size taken) * taken = omega (
      arith,
      h,
      mul-le calls size calls (div_ceil size taken * taken) (omega arith) up,
      mul_assoc calls (div_ceil size taken) taken,
    ) in
    let count : n / taken ≤ calls * div_ceil size taken =
    (let few = quotient_more n ((calls * div_ceil size taken) * taken) taken all in
    omega (arith, few, mul-div_cancel (calls * div_ceil size taken) some)) in
    omega (
      arith,
      mul-le (n / taken) given (calls * div_ceil size taken) given count (omega arith),
      mul_assoc calls (div_ceil size taken) given,
    )
  where
    covered : (size g : ℕ) → 0 < g → size ≤ div_ceil size g * g
    covered size g some = grind arith

rule_few : (r : FrameRule) (calls size n : ℕ) → IsRule r → 1 ≤ size → n ≤ calls * size →
    given_by r n ≤ grown r calls * most_by r size
rule_few (rule.Groups taken given) calls size n is some h = groups_few taken given calls size n is.0 h
rule_few (rule.Conv taps) calls size n is some h =
    let few = more_calls n calls window size (full_length n taps) h (conv_few n taps is) some in
    let same : most_by (rule.Conv taps) size ≡ size = omega arith in
    subst (λ k. full_length n taps ≤ (calls + window) * k) (sym same) few
rule_few (rule.ConvPartial first count taps) calls size n is some h =
    let few = more_calls 0 calls window size count (omega arith) (omega (arith, is.1)) some in
    let same : most_by (rule.ConvPartial first count taps) size ≡ size = omega arith in
    subst (λ k. count ≤ (calls + window) * k) (sym same) few
rule_few (rule.Correlate taps) calls size n is some h =
    let few = more_calls (2 * n) (2 * calls) (2 * MAX_TAPS) size (correlation_length n taps) (omega arith)
    (correlation_few n taps is) some in
    let same : most_by (rule.Correlate taps) size ≡ size = omega arith in
    subst (λ k. correlation_length n taps ≤ (2 * calls + 2 * MAX_TAPS) * k) (sym same) few

given_few : (p : Place) (b : Block) (calls n : ℕ) → IsRule (rule_of b) → 1 ≤ p.capacity → n ≤ calls * p.capacity →
    given_frames b n ≤ grown (rule_of b) calls * (place_after p b).capacity
given_few p b calls n is some h = rw (← given-rule b n, ← most-rule b p.capacity)
    (rule_few (rule_of b) calls p.capacity n is some h)

-- ---- a chain

-- each place has fewer than 2^62 frames, where so many come from each block
abbrev pub FewBy : (Block → ℕ → ℕ) → List Block → ℕ → Type 0
FewBy gives [] n = n < 2 ^ 62
FewBy gives (b ∷ blocks) n = (n < 2 ^ 62) × FewBy gives blocks (gives b n)

-- as many calls as an input has frames, and those that a window in each block adds
abbrev most_calls : ℕ
most_calls = MAX_INPUT + window * MAX_BLOCKS

-- what the blocks may still add to the number of calls, which the correlation doubles
abbrev calls_left : List Block → ℕ → ℕ
calls_left blocks calls = calls + window * length blocks + most_calls * correlates blocks

calls_after : (b : Block) (blocks : List Block) (calls : ℕ) → calls_left (b ∷ blocks) calls ≤ 2 * most_calls →
    calls_left blocks (grown (rule_of b) calls) ≤ 2 * most_calls
calls_after (Interpolate factor taps) blocks calls h = omega arith
calls_after (Conv taps) blocks calls h = omega arith
calls_after (ConvPartial first count taps) blocks calls h = omega arith
calls_after (Correlate taps) blocks calls h = omega arith
calls_after b blocks calls h = omega arith

few_here : (p : Place) (calls n : ℕ) → IsOpen p → n ≤ calls * p.capacity → calls ≤ 2 * most_calls → n < 2 ^ 62
few_here p calls n is h few =
    let size : p.capacity ≤ MAX_SAMPLES = (let frames = mul-le p.capacity 1 p.capacity p.channels (omega arith)
    is.channels in omega (arith, frames, is.samples)) in
    omega (arith, h, mul-le calls p.capacity (2 * most_calls) MAX_SAMPLES few size)

module _ (gives : Block → ℕ → ℕ) (fewer : (b : Block) (n : ℕ) → gives b n ≤ given_frames b n) where
  few_calls : (p : Place) (blocks : List Block) (calls n : ℕ) → AllOpen p blocks → n ≤ calls * p.capacity →
      calls_left blocks calls ≤ 2 * most_calls → FewBy gives blocks n
  few_calls p [] calls n is h left = few_here p calls n is h (omega arith)
  few_calls p (b ∷ blocks) calls n is h left =
      let given = given_few p b calls n (is-rule (flow_at p) b is.1) is.0.capacity h in
      let few = fewer b n in (
        few_here p calls n is.0 h (omega arith),
        few_calls (place_after p b) blocks (grown (rule_of b) calls) (gives b n) is.2 (omega (arith, given, few))
            (calls_after b blocks calls left),
      )

some-size : (p : Place) (blocks : List Block) → AllOpen p blocks → 1 ≤ p.capacity
some-size p [] is = is.capacity
some-size p (b ∷ blocks) is = is.0.capacity

-- of the frames of an input
few_of_input : (gives : Block → ℕ → ℕ) → ((b : Block) (n : ℕ) → gives b n ≤ given_frames b n) → (p : Place)
    (blocks : List Block) (n : ℕ) → AllOpen p blocks → length blocks ≤ MAX_BLOCKS → correlates blocks ≤ MAX_CORRELATES →
    n ≤ MAX_INPUT → FewBy gives blocks n
few_of_input gives fewer p blocks n is many one few =
    few_calls gives fewer p blocks n n is (le-mul_of_pos_right n (some-size p blocks is))
    (omega (arith, many, one, few))

whole_fewer : (b : Block) (n : ℕ) → whole_frames b n ≤ given_frames b n
whole_fewer (ConvPartial first count taps) n = omega arith
whole_fewer b n = omega arith

all_few : (blocks : List Block) (n : ℕ) → FewBy whole_frames blocks n → AllFew blocks n
all_few [] n few = few
all_few (b ∷ blocks) n few = (few.0, all_few blocks (whole_frames b n) few.1)

pub few_places : (p : Place) (blocks : List Block) (n : ℕ) → AllOpen p blocks → length blocks ≤ MAX_BLOCKS →
    correlates blocks ≤ MAX_CORRELATES → n ≤ MAX_INPUT → AllFew blocks n
few_places p blocks n is many one few = all_few blocks n (few_of_input whole_frames whole_fewer p blocks n is many one
    few)

-- a sound script with a legal block gives few frames of few
pub few_sound : (s : Script) (n : ℕ) → IsSound s → HasLegalBlock s → n ≤ MAX_INPUT → FewBy given_frames s.blocks n
few_sound s n sound (block, legal) few =
    let placed = placed_sound s sound in
    let p : Place = record { format = s.input.format; channels = s.input.channels; capacity = block } in
    few_of_input given_frames (λ b n. omega arith) p s.blocks n
    (legal_is_open p s.blocks placed.chain placed.channels.0 legal) sound.1.fit.blocks sound.1.fit.one_correlate few

pub few-by-first : (gives : Block → ℕ → ℕ) (blocks : List Block) (n : ℕ) → FewBy gives blocks n → n < 2 ^ 62
few-by-first gives [] n few = few
few-by-first gives (b ∷ blocks) n few = few.0

-- ---- limits

pub few_first : (blocks : List Block) (n : ℕ) → AllFew blocks n → n < 2 ^ 62
few_first [] n few = few
few_first (b ∷ blocks) n few = few.0

few_taken : (blocks : List Block) (n : ℕ) → correlates blocks ≡ 0 → AllFew blocks n → AllTaken blocks n
few_taken [] n none few = tt
few_taken (Correlate taps ∷ blocks) n none few = absurd (omega (arith, none))
few_taken (Max ∷ blocks) n none few = (omega (arith, few.0), few_taken blocks n none few.1)
few_taken (Min ∷ blocks) n none few = (omega (arith, few.0), few_taken blocks n none few.1)
few_taken (b ∷ blocks) n none few = (tt, few_taken blocks (whole_frames b n) none few.1)

-- the blocks can take what comes to them, unless the correlation would gather too much
pub few-taken : (blocks : List Block) (n : ℕ) → correlates blocks ≤ MAX_CORRELATES →
    gathered blocks n ≤ MAX_GATHERED → AllFew blocks n → AllTaken blocks n
few-taken [] n one fits few = tt
few-taken (Correlate taps ∷ blocks) n one fits few = (
  fits,
  few_taken blocks (whole_frames (Correlate taps) n) (omega (arith, one)) few.1,
)
few-taken (Max ∷ blocks) n one fits few = (omega (arith, few.0), few-taken blocks n one fits few.1)
few-taken (Min ∷ blocks) n one fits few = (omega (arith, few.0), few-taken blocks n one fits few.1)
few-taken (b ∷ blocks) n one fits few = (tt, few-taken blocks (whole_frames b n) one fits few.1)
