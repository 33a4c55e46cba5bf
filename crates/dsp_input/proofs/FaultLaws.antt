-- What is at fault in an input: its header, or its end before all declared frames.
use Rattle.std.proofs.Common.{◌≡◌, ℕ, ◌+◌, ◌-◌, ◌<◌, nat_lt, Bool, true, if◌then◌else◌, List, [], ◌++◌, length, Some}
use Rattle.std.proofs.Common.{None, Result, Ok, Err, refl, sym, ap, ◌∙◌, subst, arith, append-nil, inl, inr}
use Rattle.std.proofs.lemmas.Bool.Decides.{nat_tests}
use Rattle.std.specs.Io.KnownBytes.{IsAtEnd}
use Rattle.std.specs.Result.{IsOk, result_unwrap_or}
use Rattle.dsp_ports.specs.Ports.{SourceState}
use Rattle.dsp_wave.specs.Reading.{IsSure}
use Rattle.dsp_defs.specs.Bytes.{coding_of}
use Rattle.dsp_defs.specs.Output.{HasHeader, HeaderIsThere, header_by, wanted_of, input_header}
use Rattle.dsp_defs.specs.Wave.{header_of}
use Rattle.dsp_defs.specs.declared.format.Container.TheVariants as container
use Rattle.dsp_defs.specs.declared.format.InputKind.{InputKind}
use Rattle.dsp_defs.specs.declared.format.InputKind.TheVariants as kind
use Rattle.dsp_defs.specs.declared.script.Script.{Script}
use Rattle.dsp_defs.specs.declared.wave.Header.{Header}
use Rattle.dsp_defs.specs.declared.wave.HeaderFault.{HeaderFault}
use Rattle.dsp_defs.specs.declared.wave.HeaderFault.TheVariants.{Short}
use Rattle.dsp_defs.specs.declared.wave.Wanted.{Wanted}
use Rattle.dsp_input.specs.Taking.{HasFault, in_whole_frames, input_fault, short_fault, wave_fault}

-- a header that is there
pub ok_header : (wanted : Wanted) (bytes : List ℕ) → IsOk (header_of bytes wanted) → (header : Header) ×
    (header_of bytes wanted ≡ Ok header)
ok_header wanted bytes ok = by (header_of bytes wanted) refl ok
  where
    by : (said : Result Header (HeaderFault × ℕ)) → header_of bytes wanted ≡ said → IsOk said → (header : Header) ×
        (header_of bytes wanted ≡ Ok header)
    by (Ok header) is ok = (header, is)
    by (Err fault) is ok = absurd (cc)

-- what stands for a header where there is none
abbrev pub no_samples : Wanted → List ℕ → Header
no_samples wanted bytes = record {
  rate = 0;
  start = length bytes;
  size = None;
  coding =
      coding_of container.Wave wanted.format;
}

-- what the header of a WAVE input says
wave_header_is : (script : Script) (bytes : List ℕ) → script.input.kind ≡ kind.Wave → HasHeader script bytes →
    header_of bytes (wanted_of script) ≡ Ok (input_header script bytes)
wave_header_is script bytes wave has =
    let (header, is) = ok_header (wanted_of script) bytes
    (subst (λ k. HeaderIsThere k (wanted_of script) bytes) wave has) in
    let same : input_header script bytes ≡ header =
    ap (λ k. header_by k (wanted_of script) bytes) wave ∙
    ap (λ r. result_unwrap_or r (no_samples (wanted_of script) bytes)) is in
    is ∙ ap Ok (sym same)

-- only a WAVE input declares its samples
declares_wave : (script : Script) (bytes : List ℕ) (size : ℕ) → (input_header script bytes).size ≡ Some size →
    script.input.kind ≡ kind.Wave
declares_wave script bytes size is = by script.input.kind is
  where
    by : (k : InputKind) → (header_by k (wanted_of script) bytes).size ≡ Some size → k ≡ kind.Wave
    by (kind.Raw rate) is = absurd (cc)
    by kind.Wave is = refl

pub fault_by_header : (script : Script) (bytes : List ℕ) (fault : HeaderFault) (offset : ℕ) →
    script.input.kind ≡ kind.Wave → header_of bytes (wanted_of script) ≡ Err (fault, offset)
    → input_fault script bytes ≡ Some (fault, offset)
fault_by_header script bytes fault offset wave is =
    ap (λ k. elim k [ kind.Raw rate ↦ None | kind.Wave ↦ wave_fault script bytes ]) wave
    ∙ ap (λ r. elim r [ Err fault ↦ Some fault | Ok header ↦ short_fault script header (length bytes) ]) is

-- bytes that are known to have a fault have no header
pub no_header : (script : Script) (fault : HeaderFault) (offset : ℕ) (given : List ℕ) (now : SourceState) →
    script.input.kind ≡ kind.Wave → IsSure (λ bytes. header_of bytes (wanted_of script)) now given (Err (fault, offset))
    → HasHeader script given → ⊥
no_header script fault offset given now wave sure has =
    let faulty : header_of given (wanted_of script) ≡ Err (fault, offset) = said sure in
    let there : IsOk (header_of given (wanted_of script)) =
    subst (λ k. HeaderIsThere k (wanted_of script) given) wave has in
    let none : IsOk {T = Header} {E = HeaderFault × ℕ} (Err (fault, offset)) = subst IsOk faulty there in
    absurd cc
  where
    said : IsSure (λ bytes. header_of bytes (wanted_of script)) now given (Err (fault, offset)) →
        header_of given (wanted_of script) ≡ Err (fault, offset)
    said (inl all) = ap (λ bytes. header_of bytes (wanted_of script)) (sym (append-nil given)) ∙ all []
    said (inr (end, here)) = here

-- what the header says is a fault of the input
pub header_fault : (script : Script) (fault : HeaderFault) (offset : ℕ) (given : List ℕ) (now : SourceState) →
    script.input.kind ≡ kind.Wave → IsSure (λ bytes. header_of bytes (wanted_of script)) now given (Err (fault, offset))
    → HasFault script given now (fault, offset)
header_fault script fault offset given now wave (inl all) =
    inl (λ more. fault_by_header script (given ++ more) fault offset wave (all more))
header_fault script fault offset given now wave (inr (end, here)) =
    inr (end, fault_by_header script given fault offset wave here)

fault_by_end : (script : Script) (bytes : List ℕ) (declared : ℕ) → HasHeader script bytes →
    (input_header script bytes).size ≡ Some declared
    → length bytes < (input_header script bytes).start + in_whole_frames script (input_header script bytes).coding
    declared
    → input_fault script bytes ≡ Some (Short declared (length bytes - (input_header script bytes).start), length bytes)
fault_by_end script bytes declared has size fewer =
    let wave = declares_wave script bytes declared size in
    let start = (input_header script bytes).start in
    let test : nat_lt (length bytes) (start + in_whole_frames script (input_header script bytes).coding declared) ≡
    true = grind (arith, nat_tests) in
    ap (λ k. elim k [ kind.Raw rate ↦ None | kind.Wave ↦ wave_fault script bytes ]) wave
    ∙ ap (λ r. elim r [ Err fault ↦ Some fault | Ok header ↦ short_fault script header (length bytes) ])
    (wave_header_is script bytes wave has)
    ∙ ap (λ size. elim size [
      | Some n ↦ if nat_lt (length bytes)
          (start + in_whole_frames script (input_header script bytes).coding n) then
          Some (Short n (length bytes - start), length bytes) else None
      | None ↦ None
    ]) size
    ∙ ap (λ (b : Bool). if b then Some (Short declared (length bytes - start), length bytes) else None) test

-- the input has ended behind so many bytes of those declared
pub ends_short : (script : Script) (bytes : List ℕ) (now : SourceState) (declared got : ℕ) → HasHeader script bytes →
    (input_header script bytes).size ≡ Some declared
    → length bytes ≡ (input_header script bytes).start + got →
    got < in_whole_frames script (input_header script bytes).coding declared → IsAtEnd now.left
    → HasFault script bytes now (Short declared got, length bytes)
ends_short script bytes now declared got has size place fewer ended =
    let left : length bytes - (input_header script bytes).start ≡ got = omega (arith, place) in
    inr (
      ended,
      fault_by_end script bytes declared has size (omega (arith, place, fewer)) ∙
          ap (λ n. Some (Short declared n, length bytes)) left,
    )
