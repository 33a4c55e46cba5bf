-- The header of the source, in either form.
use Rattle.std.proofs.Common.{◌≡◌, ◌⊎◌, ℕ, List, [], ◌++◌, length, Some, None, Result, Ok, Err, refl, ap, subst, arith}
use Rattle.std.proofs.Common.{append-nil, inl, inr}
use Rattle.std.specs.Io.KnownBytes.{IsAtEnd}
use Rattle.std.specs.Result.{IsErr, result_ok, result_map_both}
use Rattle.dsp_ports.specs.Ports.{SourceState}
use Rattle.dsp_defs.specs.Open.{open_header_of, opened, wanted_by}
use Rattle.dsp_defs.specs.Au.{au_header_of}
use Rattle.dsp_defs.specs.declared.au.Direction.TheVariants.{WaveToAu, AuToWave}
use Rattle.dsp_defs.specs.declared.au.AuFault.{AuFault}
use Rattle.dsp_defs.specs.declared.au.AuFault.TheVariants as au
use Rattle.dsp_defs.specs.declared.wave.HeaderFault.TheVariants as wave
use Rattle.std.specs.Option.{option_map}
use Rattle.dsp_defs.specs.declared.wave.HeaderFault.{HeaderFault}
use Rattle.dsp_defs.specs.declared.wave.OpenHeader.{OpenHeader}
use Rattle.dsp_defs.proofs.AuLaws.{open_header-good}
use Rattle.dsp_wave.specs.Reading.{Stopped as WaveStopped}
use Rattle.dsp_wave.specs.Opening.{OpenHeaded, own_header_of}
use Rattle.dsp_wave.specs.declared.reader.HeaderOr.TheVariants as wave_or
use Rattle.dsp_au.specs.Reading.{AuStopped}
use Rattle.dsp_au.specs.Convert.{HasFault, IsUnheaded, Opened, Unopened, short_at, source_fault}
use Rattle.dsp_au.specs.declared.fault.AuOr.TheVariants as au_or
use Rattle.dsp_au.specs.declared.fault.ConvertFault.TheVariants as fault

-- ---- WAVE

-- a fault without the channels is the fault with them
wave_fault_of : (bytes : List ℕ) (said : HeaderFault × ℕ) → own_header_of bytes ≡ Err said →
    open_header_of bytes ≡ Err said
wave_fault_of bytes said e = ap (result_map_both (opened (wanted_by bytes)) (λ fault. fault)) e

unheaded : {E : Type 0} (said : Result OpenHeader E) (fault : E) → said ≡ Err fault → result_ok said ≡ None
unheaded said fault e = ap result_ok e

wave_unheaded : (bytes : List ℕ) (said : HeaderFault × ℕ) → own_header_of bytes ≡ Err said → IsUnheaded WaveToAu bytes
wave_unheaded bytes said e = unheaded (open_header_of bytes) said (wave_fault_of bytes said e)

wave_source_fault : (bytes : List ℕ) (f : HeaderFault) (offset : ℕ) → own_header_of bytes ≡ Err (f, offset) →
    source_fault WaveToAu bytes ≡ Some (fault.Wave f offset)
wave_source_fault bytes f offset e = ap (λ (said : Result OpenHeader (HeaderFault × ℕ)). elim said [
  | Err said ↦ Some (fault.Wave said.0 said.1)
  | Ok header ↦ option_map (λ short. fault.Wave (wave.Short short.0 short.1) (length bytes))
      (short_at header (length bytes))
]) (wave_fault_of bytes (f, offset) e)

pub wave_opened : (header : OpenHeader) (old now : SourceState) → OpenHeaded old now header →
    Opened WaveToAu header old now
wave_opened header old now h =
    record {
      first = h.bytes;
      said = λ more. ap result_ok (h.said more);
      start = h.start;
      in_limit = h.in_limit;
      gave = h.gave;
      no_fault = h.no_fault;
      going = h.going;
      good = (open_header-good h.bytes header (subst (λ xs. open_header_of xs ≡ Ok header) (append-nil h.bytes)
          (h.said []))).0;
    }

pub wave_fault : (f : HeaderFault) (offset : ℕ) (old now : SourceState) →
    WaveStopped own_header_of 0 old now (wave_or.Fault f offset) → Unopened WaveToAu (fault.Wave f offset) old now
wave_fault f offset old now s =
    let (sure, clean) = s.cause in
    record {
      given = s.bytes;
      gave = s.gave;
      in_limit = omega (arith, s.in_limit);
      cause =
          (has sure, clean, none sure);
    }
  where
    has : ((more : List ℕ) → own_header_of (s.bytes ++ more) ≡ Err (f, offset)) ⊎
        (IsAtEnd now.left × (own_header_of s.bytes ≡ Err (f, offset))) →
        HasFault WaveToAu s.bytes now (fault.Wave f offset)
    has (inl all) = inl (λ more. wave_source_fault (s.bytes ++ more) f offset (all more))
    has (inr (end, is)) = inr (end, wave_source_fault s.bytes f offset is)

    none : ((more : List ℕ) → own_header_of (s.bytes ++ more) ≡ Err (f, offset)) ⊎
        (IsAtEnd now.left × (own_header_of s.bytes ≡ Err (f, offset))) → IsUnheaded WaveToAu s.bytes
    none (inl all) = wave_unheaded s.bytes (f, offset) (subst (λ xs. own_header_of xs ≡ Err (f, offset))
        (append-nil s.bytes) (all []))
    none (inr (end, is)) = wave_unheaded s.bytes (f, offset) is

-- ---- AU

au_unheaded : (bytes : List ℕ) (said : AuFault × ℕ) → au_header_of bytes ≡ Err said → IsUnheaded AuToWave bytes
au_unheaded bytes said e = unheaded (au_header_of bytes) said e

au_source_fault : (bytes : List ℕ) (f : AuFault) (offset : ℕ) → au_header_of bytes ≡ Err (f, offset) →
    source_fault AuToWave bytes ≡ Some (fault.Au f offset)
au_source_fault bytes f offset e = ap (λ (said : Result OpenHeader (AuFault × ℕ)). elim said [
  | Err said ↦ Some (fault.Au said.0 said.1)
  | Ok header ↦ option_map (λ short. fault.Au (au.Short short.0 short.1) (length bytes))
      (short_at header (length bytes))
]) e

au_err_unheaded : (bytes : List ℕ) → IsErr (au_header_of bytes) → IsUnheaded AuToWave bytes
au_err_unheaded bytes h = by_result (au_header_of bytes) refl h
  where
    by_result : (r : Result OpenHeader (AuFault × ℕ)) → au_header_of bytes ≡ r → IsErr r → IsUnheaded AuToWave bytes
    by_result (Err said) e h = au_unheaded bytes said e
    by_result (Ok header) e h = absurd cc

pub au_fault : (f : AuFault) (offset : ℕ) (old now : SourceState) → AuStopped old now (au_or.Fault f offset) →
    Unopened AuToWave (fault.Au f offset) old now
au_fault f offset old now s =
    let (sure, clean) = s.cause in
    record {
      given = s.bytes;
      gave = s.gave;
      in_limit = omega (arith, s.in_limit);
      cause =
          (has sure, clean, none sure);
    }
  where
    has : ((more : List ℕ) → au_header_of (s.bytes ++ more) ≡ Err (f, offset)) ⊎
        (IsAtEnd now.left × (au_header_of s.bytes ≡ Err (f, offset))) →
        HasFault AuToWave s.bytes now (fault.Au f offset)
    has (inl all) = inl (λ more. au_source_fault (s.bytes ++ more) f offset (all more))
    has (inr (end, is)) = inr (end, au_source_fault s.bytes f offset is)

    none : ((more : List ℕ) → au_header_of (s.bytes ++ more) ≡ Err (f, offset)) ⊎
        (IsAtEnd now.left × (au_header_of s.bytes ≡ Err (f, offset))) → IsUnheaded AuToWave s.bytes
    none (inl all) = au_unheaded s.bytes (f, offset) (subst (λ xs. au_header_of xs ≡ Err (f, offset))
        (append-nil s.bytes) (all []))
    none (inr (end, is)) = au_unheaded s.bytes (f, offset) is

pub au_failed : (old now : SourceState) → AuStopped old now au_or.Read → Unopened AuToWave fault.Read old now
au_failed old now s = let (faulty, limit, err) = s.cause in
    record {
      given = s.bytes;
      gave = s.gave;
      in_limit = s.in_limit;
      cause =
          (faulty, limit, au_err_unheaded s.bytes err);
    }
