-- What a check that stopped says of the bytes that its ports tell.
use Rattle.std.proofs.Common.{◌≡◌, ◌≢◌, ◌⊎◌, ℕ, zero, suc, ◌+◌, ◌*◌, ◌/◌, ◌<◌, ◌≤◌, nat_le, false, if◌then◌else◌}
use Rattle.std.proofs.Common.{List, [], ◌∷◌, ◌++◌, length, take, Some, None, refl, sym, ap, ◌∙◌, subst, arith}
use Rattle.std.proofs.Common.{append_assoc, append-nil, length-take-le, inl, inr, slice_get}
use Rattle.std.proofs.lemmas.Bool.Decides.{nat_tests}
use Rattle.std.proofs.lemmas.List.{take_all, take_at}
use Rattle.std.proofs.lemmas.Option.{slice_get_past}
use Rattle.std.specs.Io.KnownBytes.{IsAtEnd}
use Rattle.dsp_ports.specs.Ports.{SourceState, Rose}
use Rattle.dsp_defs.specs.Block.{channels_after}
use Rattle.dsp_defs.specs.Counts.{Counts}
use Rattle.dsp_defs.specs.Output.{HasHeader, input_header, output}
use Rattle.dsp_defs.specs.Shape.{whole_frames, window_at}
use Rattle.dsp_defs.specs.Sizes.{size_at}
use Rattle.dsp_defs.specs.declared.limits.TheConstants.{MAX_CHECKED}
use Rattle.dsp_defs.specs.declared.script.Block.{Block}
use Rattle.dsp_defs.specs.declared.script.Script.{Script}
use Rattle.dsp_input.specs.Taking.{IsTakenWhole, frames_in_bytes, input_fault}
use Rattle.dsp_input.proofs.InputLaws.{frame_in, frames_stay, signal_stays, output_stays, some_not_none}
use Rattle.dsp_input.proofs.InputLaws.{fault_told, past_limit}
use Rattle.dsp_check.specs.Check.{IsCause, IsFree, Stopped}
use Rattle.dsp_check.specs.Comparing.{IsDecided}
use Rattle.dsp_check.specs.declared.fault.CheckFault.{CheckFault}
use Rattle.dsp_check.specs.declared.fault.CheckFault.TheVariants as fault
use Rattle.dsp_session.specs.Session.{IsReady}
use Rattle.dsp_session.proofs.OpeningLaws.{some_frame}
use Rattle.dsp_cli.specs.Fault.{status_of}
use Rattle.dsp_cli.specs.declared.fault.Fault.TheVariants.{Comparison}
use Rattle.dsp_cli.proofs.ReportLaws.{rose}
use Rattle.dsp_cli.proofs.StopLaws.{fits_not_long}
use Rattle.dsp_cli.proofs.Told.{told_split}

-- ---- the file

-- the byte behind a front
seam : (front : List ℕ) (byte : ℕ) (more : List ℕ) (offset : ℕ) → length front ≡ offset →
    slice_get (front ++ byte ∷ more) offset ≡ Some byte
seam [] byte more zero is = refl
seam [] byte more (suc n) is = absurd (omega (arith, is))
seam (x ∷ front) byte more zero is = absurd (omega (arith, is))
seam (x ∷ front) byte more (suc n) is = seam front byte more n (omega (arith, is))

-- the file agrees with the bytes that are wanted up to the byte that decides, and there it has another, or only one
-- has ended
decided : (offset : ℕ) (wanted seen more : List ℕ) (now : SourceState) → now.left ≡ Some more →
    offset ≤ length wanted → IsDecided offset wanted seen now
    → (take offset (seen ++ more) ≡ take offset wanted) × (slice_get (seen ++ more) offset ≢ slice_get wanted offset)
decided offset wanted seen more now left within (inl (byte, is, other)) =
    let front = take offset wanted in
    let size : length front ≡ offset = length-take-le offset wanted within in
    let all : seen ++ more ≡ front ++ byte ∷ more = ap (λ l. l ++ more) is ∙ append_assoc front (byte ∷ []) more in (
      ap (take offset) all ∙ take_at front (byte ∷ more) offset size,
      λ same. other (sym same ∙ ap (λ l. slice_get l offset) all ∙ seam front byte more offset size),
    )
decided offset wanted seen more now left within (inr (is, short, ended)) =
    let nothing : more ≡ [] = subst IsAtEnd left ended in
    let size : length (take offset wanted) ≡ offset = length-take-le offset wanted within in
    let all : seen ++ more ≡ take offset wanted = ap (λ l. seen ++ l) nothing ∙ append-nil seen ∙ is in (
      ap (take offset) all ∙ take_all offset (take offset wanted) (omega (arith, size)),
      λ same. here wanted offset short (sym same ∙ ap (λ l. slice_get l offset) all ∙
          slice_get_past (take offset wanted) offset (omega (arith, size))),
    )
  where
    here : (wanted : List ℕ) (offset : ℕ) → offset < length wanted → slice_get wanted offset ≡ None → ⊥
    here [] offset short none = absurd (omega (arith, short))
    here (x ∷ wanted) zero short none = absurd (cc)
    here (x ∷ wanted) (suc n) short none = here wanted n (omega (arith, short)) none

-- ---- sizes

past_all : (most channels frames : ℕ) → 1 ≤ channels → most / channels + 1 ≤ frames → most < frames * channels
past_all most channels frames some more = grind (arith)

-- more samples than may be checked are too many at the first place
too_many : (channels frames : ℕ) (blocks : List Block) → MAX_CHECKED < frames * channels →
    size_at channels blocks frames ≡ None → ⊥
too_many channels frames blocks over few =
    let test : nat_le (frames * channels) MAX_CHECKED ≡ false = grind (arith, nat_tests) in
    by blocks test few
  where
    by : (blocks : List Block) → nat_le (frames * channels) MAX_CHECKED ≡ false →
        size_at channels blocks frames ≡ None → ⊥
    by [] test few = let full : Some (frames * channels) ≡ None =
        sym (ap (λ b. if b then None else Some (frames * channels)) test) ∙ few in cc
    by (block ∷ blocks) test few =
        let full : Some (frames * channels) ≡ None =
        sym (ap (λ b. if b then size_at (channels_after channels block) blocks (whole_frames block frames) else
        Some (frames * channels)) test) ∙ few in
        cc

-- ---- what stands in its way

-- the fault is none of the input or of a length
abbrev ComesLater : CheckFault → Type 0
ComesLater (fault.Header said offset) = ⊥
ComesLater (fault.Input taken limit) = ⊥
ComesLater (fault.Window end full) = ⊥
ComesLater (fault.Riff size limit) = ⊥
ComesLater (fault.Size size limit) = ⊥
ComesLater fault = Unit {0}

module _ (script : Script) (channels : 1 ≤ script.input.channels) (given more : List ℕ) (now : SourceState)
    (left : now.left ≡ Some more) (some : 0 < frame_in script given) (free : IsFree script (given ++ more)) where
  frames_same : HasHeader script given → IsTakenWhole script given now →
      frames_in_bytes script (given ++ more) ≡ frames_in_bytes script given
  frames_same has whole = ap length (signal_stays script given more has some now left whole)

  comes_later : (fault : CheckFault) → IsCause fault script given now → ComesLater fault
  comes_later (fault.Header said offset) cause =
      some_not_none (input_fault script (given ++ more)) (said, offset)
      (fault_told script given more now (said, offset) left cause) free.no_fault
  comes_later (fault.Input taken limit) (all, at, most, wanted) =
      past_limit script given more all wanted.declared free.in_limit
  comes_later (fault.Window end full) (has, whole, found) =
      let none : window_at script.blocks (frames_in_bytes script given) ≡ None =
      ap (window_at script.blocks) (sym (frames_same has whole)) ∙ free.limits.no_window in
      cc
  comes_later (fault.Riff size limit) (has, whole, is, at) =
      fits_not_long script given more size has is.long free.limits.fits
  comes_later (fault.Size size limit) (has, at, inl over) =
      let later = frames_stay script given more has in
      too_many script.input.channels (frames_in_bytes script (given ++ more)) script.blocks
      (past_all MAX_CHECKED script.input.channels (frames_in_bytes script (given ++ more)) channels
      (omega (arith, over.frames, later))) free.limits.few
  comes_later (fault.Size size limit) (has, at, inr (whole, is)) =
      let none : size_at script.input.channels script.blocks (frames_in_bytes script given) ≡ None =
      ap (size_at script.input.channels script.blocks) (sym (frames_same has whole)) ∙ free.limits.few in
      let found = is.full in
      cc
  comes_later fault.Read cause = tt
  comes_later fault.Memory cause = tt
  comes_later (fault.Differs offset) cause = tt
  comes_later fault.Other cause = tt

-- where nothing stands in its way, a port has failed, memory was wanted, or the file is not the output
module _ (script : Script) (block : ℕ) (ready : IsReady script block) (channels : 1 ≤ script.input.channels)
    (input now other seen : SourceState) (before counts : Counts) where
  abbrev Ends : CheckFault → List ℕ → List ℕ → Type 0
  Ends fault bytes file =
      Rose input.faults now.faults ⊎ Rose other.faults seen.faults ⊎ (status_of (Comparison fault) ≡ 10)
      ⊎ ((status_of (Comparison fault) ≡ 11) × (file ≡ output script bytes → ⊥))

  abbrev Stops : CheckFault → Type 0
  Stops fault = Stopped script fault input now other seen before counts

  told_later : (fault : CheckFault) (stopped : Stops fault) (bytes : List ℕ) → input.left ≡ Some bytes →
      IsFree script bytes → ComesLater fault
  told_later fault stopped bytes told free =
      let (more, left, all) = told_split input.left now.left stopped.given bytes stopped.gave.front told in
      let some = some_frame script (input_header script stopped.given).coding block ready in
      comes_later script channels stopped.given more now left some (subst (IsFree script) all free) fault stopped.cause

  -- where the file is not the output, its first bytes are those of the output, up to the place that is said
  pub first_differs : (offset : ℕ) → Stops (fault.Differs offset) → (bytes file : List ℕ) → input.left ≡ Some bytes →
      other.left ≡ Some file
      → (take offset file ≡ take offset (output script bytes)) ×
      (slice_get file offset ≢ slice_get (output script bytes) offset)
  first_differs offset stopped bytes file told file_told =
      let (has, whole, limits) = stopped.cause in
      let (more, left, all) = told_split input.left now.left stopped.given bytes stopped.gave.front told in
      let some = some_frame script (input_header script stopped.given).coding block ready in
      let stays : output script bytes ≡ output script stopped.given = ap (output script) all ∙
      output_stays script stopped.given more has some now left whole in
      let compared = stopped.compared in
      let (rest, behind, file_all) = told_split other.left seen.left compared.seen file compared.gave.front file_told in
      let found = decided offset (output script stopped.given) compared.seen rest seen behind compared.cause.0
      compared.cause.1 in (
        ap (take offset) file_all ∙ found.0 ∙ sym (ap (take offset) stays),
        λ same. found.1 (sym (ap (λ l. slice_get l offset) file_all) ∙ same ∙ ap (λ l. slice_get l offset) stays),
      )

  differs : (offset : ℕ) → Stops (fault.Differs offset) → (bytes file : List ℕ) → input.left ≡ Some bytes →
      other.left ≡ Some file → file ≡ output script bytes → ⊥
  differs offset stopped bytes file told file_told same =
      (first_differs offset stopped bytes file told file_told).1 (ap (λ l. slice_get l offset) same)

  pub stop_ends : (fault : CheckFault) → Stops fault → (bytes file : List ℕ) → input.left ≡ Some bytes →
      other.left ≡ Some file → IsFree script bytes → Ends fault bytes file
  stop_ends fault.Read stopped bytes file told file_told free = inl (rose _ _ stopped.faults)
  stop_ends fault.Other stopped bytes file told file_told free = inr (inl (rose _ _ stopped.compared.cause.1))
  stop_ends fault.Memory stopped bytes file told file_told free = inr (inr (inl refl))
  stop_ends (fault.Differs offset) stopped bytes file told file_told free =
      inr (inr (inr (refl, differs offset stopped bytes file told file_told)))
  stop_ends fault stopped bytes file told file_told free = absurd (told_later fault stopped bytes told free)
