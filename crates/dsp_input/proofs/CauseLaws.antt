-- Why an input stopped, from how its header or a block of its samples did not come.
use Rattle.std.proofs.Common.{◌≡◌, ◌≢◌, ℕ, ◌+◌, ◌^◌, ◌<◌, ◌≤◌, List, ◌++◌, length, Option, Some, None, IfSome, sym}
use Rattle.std.proofs.Common.{ap, ◌∙◌, subst, arith, length-append}
use Rattle.dsp_ports.specs.Ports.{SourceState}
use Rattle.dsp_defs.specs.Output.{HasHeader, channels_of, format_of, input_header, known_frames}
use Rattle.dsp_defs.specs.Wave.{HeaderFits}
use Rattle.dsp_defs.specs.declared.format.Container.TheVariants as container
use Rattle.dsp_defs.specs.declared.script.Script.{Script}
use Rattle.dsp_defs.specs.declared.wave.Header.{Header}
use Rattle.dsp_defs.specs.declared.wave.HeaderFault.TheVariants.{NoSamples}
use Rattle.dsp_input.specs.declared.fault.InputFault.{InputFault}
use Rattle.dsp_input.specs.declared.fault.InputFault.TheVariants as input_fault
use Rattle.dsp_input.specs.Taking.{Fits, HasFault, InDeclared, IsInDeclared, IsInputCause, IsUnopened, IsUnread}
use Rattle.dsp_input.specs.Taking.{Opens, declared_bytes, in_whole_frames}
use Rattle.dsp_input.proofs.FaultLaws.{ends_short, fault_by_header, header_fault, no_header}

-- ---- the header

-- why no header came
pub unopened_by : (error : InputFault) (script : Script) (given : List ℕ) (input now : SourceState) →
    IsUnopened error script given input now → IsInputCause error script given now
unopened_by input_fault.Failed script given input now cause = (cause.1, λ has. absurd (cause.2 has))
unopened_by (input_fault.Header f offset) script given input now cause =
    header_fault script f offset given now cause.0 cause.1
unopened_by (input_fault.Limit taken limit) script given input now cause =
    let unheaded = cause.3 in (
      cause.0,
      cause.1,
      cause.2,
      record {
        cut = λ _. fault_by_header script given NoSamples (length given)
            unheaded.wave unheaded.cut;
        declared = λ has. absurd (unheaded.none has);
      },
    )

pub unopened_none : (error : InputFault) (script : Script) (given : List ℕ) (input now : SourceState) →
    IsUnopened error script given input now → HasHeader script given → ⊥
unopened_none input_fault.Failed script given input now cause = cause.2
unopened_none (input_fault.Header f offset) script given input now cause =
    no_header script f offset given now cause.0 cause.1
unopened_none (input_fault.Limit taken limit) script given input now cause = cause.3.none

-- the test of the sizes was passed
pub fits_known : (script : Script) (header : Header) (known : Option ℕ) → known ≡ known_frames script header
    → (script.output ≢ container.Raw → HeaderFits script.output (format_of script) (channels_of script) known) →
    Fits script header
fits_known script header known is fits =
    subst (λ count. script.output ≢ container.Raw → HeaderFits script.output (format_of script) (channels_of script)
    count) is fits

pub known_fits : (script : Script) (header : Header) (known : Option ℕ) → known ≡ known_frames script header →
    Fits script header
    → script.output ≢ container.Raw → HeaderFits script.output (format_of script) (channels_of script) known
known_fits script header known is fits headed = subst
    (HeaderFits script.output (format_of script) (channels_of script)) (sym is) (fits headed)

-- ---- samples

-- no byte behind the declared samples was taken
pub none_behind : (script : Script) (header : Header) (first : List ℕ) → Opens script header first →
    (bytes : List ℕ) → InDeclared (declared_bytes script header) (length bytes) → IsInDeclared script (first ++ bytes)
none_behind script header first opens bytes within =
    subst (λ (h : Header). IfSome (declared_bytes script h) (λ size. length (first ++ bytes) ≤ h.start + size))
    (sym (opens.said bytes)) (by_size (declared_bytes script header) within)
  where
    by_size : (declared : Option ℕ) → InDeclared declared (length bytes) →
        IfSome declared (λ size. length (first ++ bytes) ≤ header.start + size)
    by_size None within = tt
    by_size (Some size) within = omega (arith, within, opens.start, length-append first bytes)

further : (start given taken : ℕ) → given ≡ start + taken → (declared : Option ℕ) →
    IfSome declared (λ size. taken < size) → IfSome declared (λ size. given < start + size)
further start given taken is None less = tt
further start given taken is (Some size) less = omega (arith, is, less)

-- samples that did not come
module _ (script : Script) (header : Header) (first : List ℕ) (opens : Opens script header first) (bytes : List ℕ)
    (taken : ℕ) (long : length bytes ≡ taken) (now later : SourceState) where
  abbrev given : List ℕ
  given = first ++ bytes

  count : length given ≡ header.start + taken
  count = omega (arith, opens.start, long, length-append first bytes)

  pub unread_by : (f : InputFault) → IsUnread f script header taken now later → IsInputCause f script given later
  unread_by input_fault.Failed unread =
      let wanted = subst (λ (h : Header). IfSome (declared_bytes script h) (λ size. length given < h.start + size))
      (sym (opens.said bytes)) (further header.start (length given) taken count (declared_bytes script header)
      unread.2) in
      (omega (arith, unread.1, count), λ _. wanted)
  unread_by (input_fault.Limit told most) unread =
      let wanted = subst (λ (h : Header). IfSome (declared_bytes script h) (λ size. length given < h.start + size))
      (sym (opens.said bytes)) (further header.start (length given) taken count (declared_bytes script header)
      unread.4) in (
        omega (arith, unread.0, count),
        unread.1,
        unread.2,
        record { cut = λ none. absurd (none (opens.has bytes)); declared = λ _. wanted },
      )
  unread_by (input_fault.Header f offset) (declared, size_is, f_is, place, end, same, fewer) =
      let header_is = opens.said bytes in
      let short = ends_short script given later declared taken (opens.has bytes)
      (ap (λ (h : Header). h.size) header_is ∙ size_is)
      (count ∙ ap (λ (h : Header). h.start + taken) (sym header_is))
      (subst (λ (h : Header). taken < in_whole_frames script h.coding declared) (sym header_is) fewer) end in
      subst (λ o. HasFault script given later (f, o)) (count ∙ sym place)
      (subst (λ k. HasFault script given later (k, length given)) (sym f_is) short)
