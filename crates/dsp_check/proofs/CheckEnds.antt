-- How a check ends, from what its parts did.
use Rattle.std.proofs.Common.{◌≡◌, ◌⊎◌, ℕ, ◌+◌, ◌*◌, ◌/◌, ◌<◌, ◌≤◌, List, ◌++◌, length, Option, Some, None, refl}
use Rattle.std.proofs.Common.{sym, ap, ◌∙◌, subst, arith, length-append, inl, inr}
use Rattle.std.specs.Io.KnownBytes.{IsAtEnd}
use Rattle.dsp_ports.specs.Ports.{SourceState, Gave}
use Rattle.dsp_ports.proofs.Moved.{Gave-append}
use Rattle.dsp_defs.specs.Counts.{Counts}
use Rattle.dsp_defs.specs.Grammar.{IsSound}
use Rattle.dsp_defs.specs.Output.{HasHeader, input_header, output}
use Rattle.dsp_defs.specs.Sizes.{IsSmall}
use Rattle.dsp_defs.specs.declared.limits.TheConstants.{MAX_CHECKED, MAX_INPUT}
use Rattle.dsp_defs.specs.declared.script.Script.{Script}
use Rattle.dsp_defs.specs.declared.wave.Header.{Header}
use Rattle.dsp_defs.proofs.SampleLaws.{length-samples}
use Rattle.dsp_input.specs.declared.fault.InputFault.{InputFault}
use Rattle.dsp_input.specs.declared.fault.InputFault.TheVariants as input_fault
use Rattle.dsp_input.specs.Taking.{AreAll, InDeclared, IsInputCause, IsTakenWhole, IsUnopened, IsUnread, Opened}
use Rattle.dsp_input.specs.Taking.{PartTaken, Unopened, declared_bytes, frame_bytes, frames_in_bytes}
use Rattle.dsp_input.proofs.CauseLaws.{none_behind, unopened_by, unopened_none, unread_by}
use Rattle.dsp_input.proofs.InputLaws.{no_frames, quotient_is}
use Rattle.dsp_input.proofs.SampleBytes.{frame_some, frames_are, output_is}
use Rattle.dsp_check.specs.Check.{CostsFew, CountsFault, Done, HasCompared, IsCause, IsLong, IsPastLimit, IsPlaceFull}
use Rattle.dsp_check.specs.Check.{KeepsLimits, Stopped, TookFew, frames_past_limit, of_input, of_mismatch}
use Rattle.dsp_check.specs.Comparing.{HasAll, Mismatches}
use Rattle.dsp_check.specs.Steps.{IsLengthFault, NoInput, NoRoom, Unread, bytes_past_limit, output_of}
use Rattle.dsp_check.specs.declared.comparing.Mismatch.{Mismatch}
use Rattle.dsp_check.specs.declared.comparing.Mismatch.TheVariants as mismatch
use Rattle.dsp_check.specs.declared.fault.CheckFault.{CheckFault}
use Rattle.dsp_check.specs.declared.fault.CheckFault.TheVariants as fault
use Rattle.std.proofs.Math.Nat.{div-mul-le_self}

-- ---- numbers

few_by : (frames channels most : ℕ) → frames < most / channels + 1 → frames * channels ≤ most
few_by frames channels most less = grind arith

quotient_less : (n f m : ℕ) → 0 < f → n < m * f → n / f < m
quotient_less n f m some less = grind arith

quotient_within : (n f m : ℕ) → 0 < f → n ≤ m * f → n / f ≤ m
quotient_within n f m some within = grind arith

-- ---- faults of the input

-- what an end says beside the bytes and the products
abbrev IsEnd : CheckFault → Script → List ℕ → (input now other seen : SourceState) → Type 0
IsEnd stop script given input now other seen =
    IsCause stop script given now × TookFew stop script given × HasCompared stop (output script given) other seen ×
    CountsFault stop input now

unopened_end : (error : InputFault) (script : Script) (given : List ℕ) (input now other : SourceState) →
    IsUnopened error script given input now → IsSmall (frames_in_bytes script given * script.input.channels) →
    IsEnd (of_input error) script given input now other other
unopened_end input_fault.Failed script given input now other un few =
    (unopened_by input_fault.Failed script given input now un, few, refl, cc)
unopened_end error script given input now other un few =
    (unopened_by error script given input now un, few, refl, cc)

-- no header came
pub stops_unopened : {script : Script} {error : InputFault} {input now other : SourceState} {counts : Counts} →
    Unopened script error input now → Stopped script (of_input error) input now other other counts counts
stops_unopened {script} {error} {input} {now} {other} {counts} unopened =
    let given = unopened.given in
    let none = unopened_none error script given input now unopened.cause in
    let few : IsSmall (frames_in_bytes script given * script.input.channels) =
    rw (no_frames script given none) (omega arith) in
    let (cause, few, compared, faults) = unopened_end error script given input now other unopened.cause few in
    record {
      given = given;
      gave = unopened.gave;
      in_limit = unopened.in_limit;
      in_declared = λ has. absurd (none has);
      cause = cause;
      few = few;
      compared = compared;
      faults = faults;
      cost = omega arith;
    }

-- ---- behind the header

module _ {script : Script} (sound : IsSound script) {header : Header} {input mid : SourceState}
    (opened : Opened script header input mid) where
  abbrev frame : ℕ
  frame = frame_bytes script header.coding

  some : 0 < frame
  some = frame_some script header.coding sound

  unread_end : (error : InputFault) (bytes : List ℕ) (between now other : SourceState) →
      IsUnread error script header (length bytes) between now → between.faults ≡ input.faults
      → IsInputCause error script (opened.first ++ bytes) now
      → IsSmall (frames_in_bytes script (opened.first ++ bytes) * script.input.channels)
      → IsEnd (of_input error) script (opened.first ++ bytes) input now other other
  unread_end input_fault.Failed bytes between now other un clean cause few = (cause, few, refl, cc)
  unread_end error bytes between now other un clean cause few = (cause, few, refl, cc)

  -- these samples were taken
  abbrev Rest : List ℕ → SourceState → Type 0
  Rest bytes now = Gave mid now bytes × InDeclared (declared_bytes script header) (length bytes) ×
      (header.start + length bytes ≤ MAX_INPUT)

  module _ {bytes : List ℕ} {now : SourceState} (rest : Rest bytes now) where
    abbrev given : List ℕ
    given = opened.first ++ bytes

    count : length given ≡ header.start + length bytes
    count = omega (arith, opened.opens.start, length-append opened.first bytes)

    counted : frames_in_bytes script given ≡ length bytes / frame
    counted = frames_are script header some opened.first opened.opens bytes rest.1 ∙
        length-samples header.coding script.input.channels bytes

    -- what all these ends have in common
    stops : (stop : CheckFault) {other seen : SourceState} {before counts : Counts} →
        IsEnd stop script given input now other seen → CostsFew script (length bytes / frame) before counts →
        Stopped script stop input now other seen before counts
    stops stop {before = before} {counts = counts} (cause, few, compared, faults) cost = record {
      given = given;
      gave = Gave-append input mid now opened.first bytes opened.going opened.gave rest.0;
      in_limit = omega (arith, count, rest.2);
      in_declared = λ _. none_behind script header opened.first opened.opens bytes rest.1;
      cause = cause;
      few = few;
      compared = compared;
      faults = faults;
      cost = subst (λ n. CostsFew script n before counts) (sym counted) cost;
    }

    small : length bytes / frame < frames_past_limit script →
        IsSmall (frames_in_bytes script given * script.input.channels)
    small less = rw counted (few_by (length bytes / frame) script.input.channels MAX_CHECKED less)

    -- what was said of the header and the frames is said of the bytes
    said_of : (P : Header → ℕ → Type 0) → P header (length bytes / frame) →
        P (input_header script given) (frames_in_bytes script given)
    said_of P holds = subst (λ (h : Header). P h (frames_in_bytes script given)) (sym (opened.opens.said bytes))
        (subst (P header) (sym counted) holds)

  -- the samples did not come
  pub stops_unread : {stop : CheckFault} {now other : SourceState} {counts : Counts} →
      Unread script header (bytes_past_limit script header) stop mid now →
      Stopped script stop input now other other counts counts
  stops_unread {now = now} {other = other} {counts = counts} (NoInput error is lost) =
      let rest : Rest lost.bytes now = (lost.gave, lost.declared, lost.in_limit) in
      let less = quotient_less (length lost.bytes) frame (frames_past_limit script) some lost.in_part in
      subst (λ stop. Stopped script stop input now other other counts counts) (sym is)
      (stops rest (of_input error)
      (unread_end error lost.bytes lost.between now other lost.cause (lost.no_fault ∙ opened.no_fault)
      (unread_by script header opened.first opened.opens lost.bytes _ refl lost.between now error lost.cause)
      (small rest less)) (omega arith))
  stops_unread {now = now} {other = other} {counts = counts} (NoRoom bytes is so_far) =
      subst (λ stop. Stopped script stop input now other other counts counts) (sym is)
      (stops (so_far.gave, so_far.declared, so_far.in_limit) fault.Memory
      (opened.opens.has bytes, tt, refl, so_far.no_fault ∙ opened.no_fault) (omega arith))

  -- ---- they came

  module _ {bytes : List ℕ} {now : SourceState}
      (part : PartTaken script header (bytes_past_limit script header) bytes mid now) where
    abbrev taken : List ℕ
    taken = opened.first ++ bytes

    rest : Rest bytes now
    rest = (part.gave, part.declared, part.in_limit)

    clean : now.faults ≡ input.faults
    clean = part.no_fault ∙ opened.no_fault

    has : HasHeader script taken
    has = opened.opens.has bytes

    pub few_taken : length bytes / frame ≤ frames_past_limit script
    few_taken = quotient_within (length bytes) frame (frames_past_limit script) some part.in_part

    abbrev EndsThere : ℕ → Option ℕ → Type 0
    EndsThere start declared = elim declared [ Some size ↦ length taken ≡ start + size | None ↦ IsAtEnd now.left ]

    -- all of them came, but where the first frame past the limit did
    whole : length bytes / frame < frames_past_limit script → IsTakenWhole script taken now
    whole less = subst (λ (h : Header). EndsThere h.start (declared_bytes script h)) (sym (opened.opens.said bytes))
        (by (declared_bytes script header) (all part.ended))
      where
        all : (length bytes ≡ frames_past_limit script * frame) ⊎ AreAll (declared_bytes script header) (length bytes)
            now → AreAll (declared_bytes script header) (length bytes) now
        all (inl full) =
            let past : length bytes / frame ≡ frames_past_limit script =
            quotient_is (frames_past_limit script) frame (length bytes) some (omega (arith, full))
            (omega (arith, full, some)) in
            absurd (omega (arith, past, less))
        all (inr ended) = ended

        by : (size : Option ℕ) → AreAll size (length bytes) now → EndsThere header.start size
        by (Some size) same = omega (arith, count rest, same)
        by None ended = ended

    in_limits : length bytes / frame < frames_past_limit script → KeepsLimits script header (length bytes / frame) →
        IsCause fault.Other script taken now
    in_limits less limits = (has, whole less, said_of rest (KeepsLimits script) limits)

    output_taken : output script taken ≡ output_of script header bytes
    output_taken = output_is script header some opened.first opened.opens bytes part.declared

    module _ {other : SourceState} {before counts : Counts}
        (cost : CostsFew script (length bytes / frame) before counts) where
      -- a length is past its limit
      pub stops_long : (stop : CheckFault) → IsLengthFault stop script header (length bytes / frame) →
          Stopped script stop input now other other before counts
      stops_long (fault.Size size limit) (limit_is, inl (full, size_is)) =
          let all : length bytes ≡ frames_past_limit script * frame =
          omega (arith, part.in_part, rw full at (div-mul-le_self (length bytes) frame)) in
          let past : IsPastLimit script taken size = record {
            frames = counted rest ∙ full;
            alone = subst (λ (h : Header). length taken ≡ h.start + frames_past_limit script * frame_bytes script
                h.coding) (sym (opened.opens.said bytes)) (count rest ∙ ap (λ n. header.start + n) all);
            size_is = size_is ∙ ap (λ n. n * script.input.channels) full;
          } in
          stops rest (fault.Size size limit) ((has, limit_is, inl past), tt, refl, clean) cost
      stops_long (fault.Size size limit) (limit_is, inr (less, full)) =
          let at = said_of rest (λ h n. IsPlaceFull script h n size) full in
          stops rest (fault.Size size limit) ((has, limit_is, inr (whole less, at)), tt, refl, clean) cost
      stops_long (fault.Window end full) (less, found) =
          stops rest (fault.Window end full) ((has, whole less, rw (counted rest) found), small rest less, refl, clean)
          cost
      stops_long (fault.Riff size limit) (less, long, limit_is) =
          let at = said_of rest (λ h n. IsLong script h n size) long in
          stops rest (fault.Riff size limit) ((has, whole less, at, limit_is), small rest less, refl, clean) cost
      stops_long stop none = absurd none

      -- memory is wanting for the output
      pub stops_wanting : Stopped script fault.Memory input now other other before counts
      stops_wanting = stops rest fault.Memory (has, tt, refl, clean) cost

      module _ (less : length bytes / frame < frames_past_limit script)
          (limits : KeepsLimits script header (length bytes / frame)) {seen : SourceState} where
        -- the file is not the output, or was not read
        pub stops_compared : (found : Mismatch) → Mismatches found (output_of script header bytes) other seen →
            Stopped script (of_mismatch found) input now other seen before counts
        stops_compared (mismatch.Differs offset) seen_is =
            stops rest (fault.Differs offset)
            (in_limits less limits, small rest less, rw (← output_taken) at seen_is, clean) cost
        stops_compared mismatch.Failed seen_is =
            stops rest fault.Other (in_limits less limits, small rest less, rw (← output_taken) at seen_is, clean) cost

        -- it is
        pub is_done : {size : ℕ} → size ≡ length (output_of script header bytes) →
            HasAll (output_of script header bytes) other seen → Done script size input now other seen before counts
        is_done size_is all = record {
          given = taken;
          gave = Gave-append input mid now opened.first bytes opened.going opened.gave part.gave;
          in_limit = omega (arith, count rest, part.in_limit);
          has = has;
          whole = whole less;
          limits = (in_limits less limits).2;
          all = rw (← output_taken) at all;
          size_is = size_is ∙ ap length (sym output_taken);
          no_fault = clean;
          cost = subst (λ n. CostsFew script n before counts) (sym (counted rest)) cost;
        }
