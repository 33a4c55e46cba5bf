use Rattle.std.proofs.Common.{◌≡◌, ℕ, ◌*◌, Bool, true, false, if◌then◌else◌, refl}
use Rattle.std.specs.Int.{div_ceil}
use Rattle.dsp_defs.specs.Shape.{is_legal, unit, whole_unit}
use Rattle.dsp_defs.specs.declared.limits.TheConstants.{DEFAULT_BLOCK_LENGTH}
use Rattle.dsp_state.proofs.laws.default_length_is_legal.Goals as goal

-- of two lengths the first where it is legal, else the other, which is
chosen : (legal : ℕ → Bool) (first other : ℕ) → legal other ≡ true →
    legal (if legal first then first else other) ≡ true
chosen legal first other is = tested (legal first) refl
  where
    tested : (b : Bool) → legal first ≡ b → legal (if b then first else other) ≡ true
    tested true e = e
    tested false e = is

pub returns : goal.returns
returns c s block sound legal =
    let u = whole_unit s.blocks in
    let some = (c.unit_divides_legal_lengths.ensures.divides s block sound legal).0 in
    chosen (is_legal s.input.channels s.blocks) (div_ceil DEFAULT_BLOCK_LENGTH u * u)
    (unit s.input.channels s.blocks) (c.unit_divides_legal_lengths.ensures.legal s some)
