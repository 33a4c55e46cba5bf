-- A fault that stops a conversion where the input tells all its bytes.
use Rattle.std.proofs.Common.{◌≡◌, ℕ, ◌+◌, ◌<◌, ◌≤◌, List, [], ◌++◌, length, take, Option, Some, None, IfSome}
use Rattle.std.proofs.Common.{refl, sym, ap, ◌∙◌, subst, arith, append-nil, length-append, inl, inr}
use Rattle.std.proofs.lemmas.List.{take_at}
use Rattle.std.specs.Option.{unwrap_or}
use Rattle.std.specs.Io.KnownBytes.{IsAtEnd, prepend_known}
use Rattle.dsp_ports.specs.Ports.{SourceState, SinkState, Gave, settled_after}
use Rattle.dsp_defs.specs.Au.{FormFits, target_form}
use Rattle.dsp_defs.specs.Bytes.{width}
use Rattle.dsp_defs.specs.Open.{OpenFits}
use Rattle.dsp_defs.specs.Wave.{riff_bytes}
use Rattle.dsp_defs.specs.declared.format.Container.TheVariants as container
use Rattle.dsp_defs.specs.declared.limits.TheConstants.{MAX_INPUT, MAX_RIFF_SIZE}
use Rattle.dsp_defs.specs.declared.au.Direction.{Direction}
use Rattle.dsp_defs.specs.declared.au.Direction.TheVariants.{AuToWave}
use Rattle.dsp_defs.specs.declared.wave.OpenHeader.{OpenHeader}
use Rattle.dsp_au.specs.Convert.{IsUnflushed, EndsWithin, HasFault, IsCause, IsFree, IsPortFault, IsSource, IsTooLong}
use Rattle.dsp_au.specs.Convert.{WantsMore, declared_bytes, source_fault}
use Rattle.dsp_au.specs.declared.fault.ConvertFault.{ConvertFault}
use Rattle.dsp_au.specs.declared.fault.ConvertFault.TheVariants as fault

pub always_fails : (left : Option (List ℕ)) (Free : List ℕ → Type 0) (error : ConvertFault) → IsPortFault error →
    IfSome left (λ bytes. Free bytes → IsPortFault error)
always_fails None Free error is = tt
always_fails (Some bytes) Free error is = λ _. is

module _ (direction : Direction) (given more : List ℕ) (now : SourceState) (left : now.left ≡ Some more) where
  abbrev all : List ℕ
  all = given ++ more

  same : (bytes : List ℕ) (h k : OpenHeader) → IsSource direction bytes h → IsSource direction bytes k → h ≡ k
  same bytes h k has is = ap (λ (o : Option OpenHeader). unwrap_or o h) (sym has ∙ is)

  -- a fault of the source
  no_fault : (error : ConvertFault) → source_fault direction all ≡ Some error → source_fault direction all ≡ None → ⊥
  no_fault error is none = let clash : Some error ≡ None = sym is ∙ none in cc

  faultless : (error : ConvertFault) → HasFault direction given now error → IsFree direction all → ⊥
  faultless error (inl always) free = no_fault error (always more) free.good
  faultless error (inr (ended, here)) free =
      let nothing : more ≡ [] = subst IsAtEnd left ended in
      no_fault error (ap (λ more. source_fault direction (given ++ more)) nothing ∙
      ap (source_fault direction) (append-nil given) ∙ here) free.good

  -- the limit
  module _ (full : length given ≡ MAX_INPUT) where
    front : take MAX_INPUT all ≡ given
    front = take_at given more MAX_INPUT full

    in_given : (free : IsFree direction all) → IsSource direction given free.header
    in_given free = subst (λ bytes. IsSource direction bytes free.header) front free.in_front

    past : (header : OpenHeader) (declared : Option ℕ) → IfSome declared (λ size. length given < header.start + size)
        → EndsWithin declared header.start (length all) → ⊥
    past header None wants limit = absurd (omega (arith, limit, full, length-append given more))
    past header (Some size) wants limit = absurd (omega (arith, limit, full, wants))

    limited : WantsMore direction given → IsFree direction all → ⊥
    limited (inl (none, cut)) free = absurd (let clash = sym none ∙ in_given free in cc)
    limited (inr (header, is, wants)) free =
        let wanted : IfSome (declared_bytes free.header) (λ size. length given < free.header.start + size) =
        subst (λ (h : OpenHeader). IfSome (declared_bytes h) (λ size. length given < h.start + size))
        (same given header free.header is (in_given free)) wants in
        past free.header (declared_bytes free.header) wanted free.in_limit

  -- the size of the target
  too_long : (header : OpenHeader) (size : ℕ) → IsTooLong direction header size →
      FormFits (target_form direction) header → ⊥
  too_long header size long fits =
      let to_wave : FormFits (target_form AuToWave) header =
      subst (λ d. FormFits (target_form d) header) long.to_wave fits in
      let within : riff_bytes container.Wave (width header.coding) header.channels (Some long.frames) ≤ MAX_RIFF_SIZE =
      subst (λ (frames : Option ℕ). OpenFits header.coding header.channels frames) long.known to_wave in
      absurd (omega (arith, long.over, long.size_is, within))

  not_free : (error : ConvertFault) → IsCause error direction given now → IsFree direction all → IsPortFault error
  not_free fault.Read cause free = tt
  not_free fault.Write cause free = tt
  not_free (fault.Input taken limit) (full, taken_is, limit_is, wants) free = absurd (limited full wants free)
  not_free (fault.Riff size limit) (header, stays, start, long, limit_is) free =
      absurd (too_long free.header size (subst (λ (h : OpenHeader). IsTooLong direction h size)
      (same all header free.header (stays more) free.has) long) free.fits)
  not_free (fault.Wave said offset) cause free = absurd (faultless (fault.Wave said offset) cause free)
  not_free (fault.Au said offset) cause free = absurd (faultless (fault.Au said offset) cause free)

module _ (direction : Direction) (error : ConvertFault) (given : List ℕ) (input now : SourceState)
    (gave : Gave input now given) (cause : IsCause error direction given now) where
  by_left : (left : Option (List ℕ)) → now.left ≡ left →
      IfSome (prepend_known given left) (λ bytes. IsFree direction bytes → IsPortFault error)
  by_left None is = tt
  by_left (Some more) is = not_free direction given more now is error cause

  pub hindered : IfSome input.left (λ bytes. IsFree direction bytes → IsPortFault error)
  hindered = subst (λ left. IfSome left (λ bytes. IsFree direction bytes → IsPortFault error)) (sym gave.front)
      (by_left now.left refl)

-- ---- the output was not flushed

-- a sink that took these bytes, and nothing else
pub unflushed_by : (error : ConvertFault) (sink after : SinkState) (written : List ℕ) →
    after.settled ≡ settled_after sink.settled (length written) → IsUnflushed error sink after written
unflushed_by fault.Write sink after written same = tt
unflushed_by fault.Read sink after written same = same
unflushed_by (fault.Wave said offset) sink after written same = same
unflushed_by (fault.Au said offset) sink after written same = same
unflushed_by (fault.Input taken limit) sink after written same = same
unflushed_by (fault.Riff size limit) sink after written same = same
