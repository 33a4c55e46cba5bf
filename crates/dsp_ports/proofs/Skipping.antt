-- Bytes that are skipped, piece after piece.
use Rattle.std.proofs.Common.{◌≡◌, ℕ, ◌+◌, ◌-◌, ◌≤◌, ◌∙◌, List, ◌++◌, ap, arith, length, take, length-append}
use Rattle.std.proofs.Common.{length-take-le}
use Rattle.dsp_ports.specs.Fill.{Filled, HasFillCause, Unfilled}
use Rattle.dsp_ports.specs.Ports.{SourceState, Gave, one_more}
use Rattle.dsp_ports.specs.declared.filling.FillFault.{FillFault}
use Rattle.dsp_ports.specs.declared.filling.FillFault.TheVariants.{Failed, LimitReached}
use Rattle.dsp_ports.proofs.Moved.{Gave-append}

-- the front, and what came of a piece behind it
pub piece_skipped : (skipped : ℕ) (old mid now : SourceState) (front : List ℕ) → length front ≡ skipped →
    Gave old mid front → mid.ended ≡ old.ended
    → (block : List ℕ) (room count : ℕ) → Filled mid now block room count
    → (length (front ++ take count block) ≡ skipped + count) × Gave old now (front ++ take count block)
piece_skipped skipped old mid now front said gave going block room count filled = (
  omega (arith, length-append front (take count block), length-take-le count block filled.within, said),
  Gave-append old mid now front (take count block) going gave filled.gave,
)

-- a fault within a piece
pub piece_unskipped : (skipped count room : ℕ) (old mid now : SourceState) (front : List ℕ) → length front ≡ skipped →
    Gave old mid front
    → mid.faults ≡ old.faults → mid.ended ≡ old.ended → skipped ≤ room → (size : ℕ) → skipped + size ≤ count →
    (fault : FillFault) → Unfilled mid now size (room - skipped) fault → Unfilled old now count room fault
piece_unskipped skipped count room old mid now front said gave clean going few size within fault u =
    let whole : length (front ++ u.bytes) ≡ skipped + length u.bytes =
    omega (arith, length-append front u.bytes, said) in
    record {
      bytes = front ++ u.bytes;
      gave = Gave-append old mid now front u.bytes going gave u.gave;
      short = omega (arith, whole, u.short, within);
      in_room = omega (arith, whole, u.in_room, few);
      cause = cause_of fault u.cause whole;
    }
  where
    cause_of : (fault : FillFault) → HasFillCause fault mid now (length u.bytes) (room - skipped) →
        length (front ++ u.bytes) ≡ skipped + length u.bytes
        → HasFillCause fault old now (length (front ++ u.bytes)) room
    cause_of Failed (risen, left) whole = (risen ∙ ap one_more clean, omega (arith, whole, left, few))
    cause_of LimitReached (same, all) whole = (same ∙ clean, omega (arith, whole, all, few))
