-- Which blocks are no biquads.
use Rattle.std.proofs.Common.{◌≡◌, ℕ, ℤ, List, refl}
use Rattle.dsp_defs.specs.declared.script.Block.{Block}
use Rattle.dsp_defs.specs.declared.script.Block.TheVariants.{Biquad}
use Rattle.dsp_unit.proofs.NewLine.{IsPlain}

pub is-plain : (b : Block) → ((p : ℕ) (numbers : List ℤ) → b ≡ Biquad p numbers → ⊥) → IsPlain b
is-plain (Biquad p numbers) other = other p numbers refl
is-plain block other = tt
