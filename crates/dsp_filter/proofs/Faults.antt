-- What a maker knows where a test found no fault.
use Rattle.std.proofs.Common.{◌≡◌, refl, ℕ, ◌%◌, ◌≤◌, Option, Some, None, Result, Ok, Err, arith}
use Rattle.std.specs.Option.{MatchOption, option_or}
use Rattle.std.proofs.lemmas.Grind.{common_steps}
use Rattle.dsp_defs.specs.declared.fault.MakeFault.{MakeFault}
use Rattle.dsp_defs.specs.declared.limits.TheConstants.{MAX_SAMPLES, MAX_TAPS}
use Rattle.dsp_filter.specs.Making.{block_fault, multiple_fault, taps_fault}

-- a test that passed found no fault
pub passed : {A : Type 0} (fault : Option MakeFault) (a b : A) →
    MatchOption fault (◌≡◌ {A = Result A MakeFault} (Ok a) (Ok b)) (λ e. Ok a ≡ Err e) → fault ≡ None
passed None a b h = refl
passed (Some e) a b h = cc

pub taps-within : (taps : ℕ) → taps_fault taps ≡ None → (1 ≤ taps) × (taps ≤ MAX_TAPS)
taps-within taps none = (grind (arith, common_steps), grind (arith, common_steps))

pub multiple-within : (most factor count : ℕ) → multiple_fault most factor count ≡ None →
    (1 ≤ count) × (count ≤ most) × (count % factor ≡ 0)
multiple-within most factor count none =
    (grind (arith, common_steps), grind (arith, common_steps), grind (arith, common_steps))

pub block-within : (block : ℕ) → block_fault block ≡ None → block ≤ MAX_SAMPLES
block-within block none = grind (arith, common_steps)

-- three tests passed
pub no-fault : (P : Type 0) (Q : MakeFault → Type 0) (first second third : Option MakeFault) → first ≡ None →
    second ≡ None → third ≡ None → P → MatchOption (option_or first (option_or second third)) P Q
no-fault P Q None None None a b c p = p
no-fault P Q (Some e) second third a b c p = absurd (cc a)
no-fault P Q None (Some e) third a b c p = absurd (cc b)
no-fault P Q None None (Some e) a b c p = absurd (cc c)
