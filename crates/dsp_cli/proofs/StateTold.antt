-- What is so of the state that a source tells, from what was read of it.
use Rattle.std.proofs.Common.{ℕ, ◌<◌, ℤ, List, length, sym, subst, arith, inl, inr, IfSome, Option}
use Rattle.dsp_ports.specs.Ports.{SourceState}
use Rattle.dsp_defs.specs.StateBytes.{IsState}
use Rattle.dsp_defs.specs.StateFields.{HasStateFault}
use Rattle.dsp_defs.specs.declared.limits.TheConstants.{MAX_STATE}
use Rattle.dsp_defs.specs.declared.script.Script.{Script}
use Rattle.dsp_defs.specs.declared.state_kind.StateKind.{StateKind}
use Rattle.dsp_defs.specs.declared.state_kind.StateKind.TheVariants.{NotState, Version, Text, Cut, Value, Extra}
use Rattle.dsp_defs.specs.declared.state_kind.StateKind.TheVariants.{TooLong, LongText}
use Rattle.dsp_state.proofs.StateFaults.{one_reading, no_fault}
use Rattle.dsp_cli.specs.Script.{ReadsBytes, IfState}
use Rattle.dsp_cli.proofs.Told.{IfSome-always, IfSome-map, Same, told_text}

-- what holds of the state that was read holds of each that is told
pub told_state : (source now : SourceState) (script : Script) (at : ℕ) (numbers : List ℤ)
    (P : Script → ℕ → List ℤ → Type 0)
    → ReadsBytes source now (λ bytes. IsState bytes script at numbers) → P script at numbers → IfState source.left P
told_state source now script at numbers P read holds =
    IfSome-map source.left (Same MAX_STATE read.text) _
    (λ all same other frames kept state. elim same [
      | inl is ↦ (
          let (script_is, frames_are, numbers_are) = one_reading read.text script other at frames numbers kept
          read.holds (subst (λ bytes. IsState bytes other frames kept) is state) in
          subst (λ s. P s frames kept) script_is (subst (λ n. P script n kept) frames_are
          (subst (λ xs. P script at xs) numbers_are holds)))
      | inr long ↦ absurd (omega (arith, long.0, read.holds.short))
    ])
    (told_text MAX_STATE source now read.text read.read)

-- a state that was read has no fault
pub told_good : (source now : SourceState) (script : Script) (at : ℕ) (numbers : List ℤ) →
    ReadsBytes source now (λ bytes. IsState bytes script at numbers)
    → IfSome source.left (λ bytes. (kind : StateKind) (offset : ℕ) → HasStateFault kind offset bytes → ⊥)
told_good source now script at numbers read =
    IfSome-map source.left (Same MAX_STATE read.text) _
    (λ all same kind offset fault. elim same [
      | inl is ↦ no_fault read.text script at numbers read.holds kind offset
          (subst (HasStateFault kind offset) is fault)
      | inr long ↦ absurd (omega (arith, long.0, read.holds.short))
    ])
    (told_text MAX_STATE source now read.text read.read)

-- bytes have the fault of those that were read
pub told_same_fault : (source now : SourceState) (kind : StateKind) (offset : ℕ) →
    ReadsBytes source now (λ bytes. HasStateFault kind offset bytes)
    → IfSome source.left (λ bytes. HasStateFault kind offset bytes)
told_same_fault source now kind offset read =
    IfSome-map source.left (Same MAX_STATE read.text) _
    (λ all same. elim same [
      | inl is ↦ subst (HasStateFault kind offset) (sym is) read.holds
      | inr long ↦ too_long kind all long.0 long.1 read.holds
    ])
    (told_text MAX_STATE source now read.text read.read)
  where
    too_long : (kind : StateKind) (all : List ℕ) → MAX_STATE < length read.text → MAX_STATE < length all →
        HasStateFault kind offset read.text
        → HasStateFault kind offset all
    too_long TooLong all here there fault = (there, fault.1)
    too_long NotState all here there fault = absurd (omega (arith, here, fault.0))
    too_long (Version got) all here there fault = absurd (omega (arith, here, fault.0))
    too_long Text all here there fault = absurd (omega (arith, here, fault.0))
    too_long Cut all here there fault = absurd (omega (arith, here, fault.0))
    too_long Value all here there fault = absurd (omega (arith, here, fault.0))
    too_long Extra all here there fault = absurd (omega (arith, here, fault.0))
    too_long (LongText size) all here there fault = absurd (omega (arith, here, fault.0))

-- and bytes with a fault are no state
told_fault : (source now : SourceState) (kind : StateKind) (offset : ℕ) →
    ReadsBytes source now (λ bytes. HasStateFault kind offset bytes)
    → IfSome source.left (λ bytes. (script : Script) (at : ℕ) (numbers : List ℤ) → IsState bytes script at numbers → ⊥)
told_fault source now kind offset read =
    IfSome-map source.left (Same MAX_STATE read.text) _
    (λ all same script at numbers state. elim same [
      | inl is ↦ no_fault read.text script at numbers (subst (λ bytes. IsState bytes script at numbers) is state) kind
          offset read.holds
      | inr long ↦ absurd (omega (arith, long.1, state.short))
    ])
    (told_text MAX_STATE source now read.text read.read)

pub IfState-always : (left : Option (List ℕ)) (P : Script → ℕ → List ℤ → Type 0) →
    ((s : Script) (at : ℕ) (numbers : List ℤ) → P s at numbers) → IfState left P
IfState-always left P always = IfSome-always left _ (λ _ s at numbers _. always s at numbers)

pub told_no_state : (source now : SourceState) (kind : StateKind) (offset : ℕ) (P : Script → ℕ → List ℤ → Type 0) →
    ReadsBytes source now (λ bytes. HasStateFault kind offset bytes) → IfState source.left P
told_no_state source now kind offset P read =
    IfSome-map source.left _ _ (λ bytes none script at numbers state. absurd (none script at numbers state))
    (told_fault source now kind offset read)
