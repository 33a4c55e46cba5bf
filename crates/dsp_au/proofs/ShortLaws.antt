-- The fault of a source that ends before the samples that it declares.
use Rattle.std.proofs.Common.{◌≡◌, ℕ, ◌+◌, ◌-◌, ◌<◌, List, length, Option, Some, None, Result, Ok, Err, Bool, true}
use Rattle.std.proofs.Common.{nat_lt, if◌then◌else◌, sym, ap, ap₂, ◌∙◌, arith}
use Rattle.std.specs.Option.{option_map, unwrap_or}
use Rattle.std.proofs.lemmas.Grind.{common_steps}
use Rattle.dsp_defs.specs.Au.{au_header_of}
use Rattle.dsp_defs.specs.declared.au.Direction.{Direction}
use Rattle.dsp_defs.specs.declared.wave.OpenHeader.{OpenHeader}
use Rattle.dsp_au.specs.Convert.{IsShort, IsSource, short_at, source_fault, in_whole_frames}
use Rattle.dsp_au.specs.declared.fault.ConvertFault.{ConvertFault}
use Rattle.dsp_au.specs.declared.fault.ConvertFault.TheVariants as fault
use Rattle.dsp_defs.specs.Open.{open_header_of}
use Rattle.dsp_defs.specs.declared.wave.HeaderFault.TheVariants as wave_fault
use Rattle.dsp_defs.specs.declared.au.AuFault.TheVariants as au_fault
use Rattle.dsp_defs.specs.declared.au.Direction.TheVariants.{WaveToAu, AuToWave}
use Rattle.std.specs.Result.{result_ok}

-- an answer that is this header
pub ok_of : {E : Type 0} (said : Result OpenHeader E) (header : OpenHeader) → result_ok said ≡ Some header →
    said ≡ Ok header
ok_of (Ok other) header e = ap Ok (ap (λ (o : Option OpenHeader). unwrap_or o header) e)
ok_of (Err fault) header e = absurd cc

short_is : (header : OpenHeader) (declared count : ℕ) → header.size ≡ Some declared →
    count < header.start + in_whole_frames header declared
    → short_at header count ≡ Some (declared, count - header.start)
short_is header declared count is cut =
    ap (λ (size : Option ℕ). elim size [
      | Some declared ↦ if nat_lt count
          (header.start + in_whole_frames header declared) then Some (declared, count - header.start) else
          None
      | None ↦ None
    ]) is
    ∙ (let less : nat_lt count (header.start + in_whole_frames header declared) ≡ true =
    grind (arith, common_steps, cut) in
    ap (λ (b : Bool). if b then Some (declared, count - header.start) else None) less)

-- what the header says of such bytes, by which faults it names
short_by : {E : Type 0} (named : E → ConvertFault) (short : ℕ → ℕ → ℕ → ConvertFault) (said : Result OpenHeader E)
    (header : OpenHeader) (declared taken count : ℕ) → result_ok said ≡ Some header → header.size ≡ Some declared →
    count ≡ header.start + taken → taken < in_whole_frames header declared
    → elim said [
      | Err fault ↦ Some (named fault)
      | Ok header ↦ option_map (λ cut. short cut.0 cut.1 count) (short_at header count)
    ] ≡ Some (short declared taken (header.start + taken))
short_by {E} named short said header declared taken count has is long cut =
    let got : count - header.start ≡ taken = omega (arith, long) in
    ap (λ (said : Result OpenHeader E). elim said [
      | Err fault ↦ Some (named fault)
      | Ok header ↦ option_map (λ cut. short cut.0 cut.1 count) (short_at header count)
    ]) (ok_of said header has)
    ∙ ap (option_map (λ (cut : ℕ × ℕ). short cut.0 cut.1 count))
    (short_is header declared count is (omega (arith, long, cut)))
    ∙ ap₂ (λ (n total : ℕ). Some (short declared n total)) got long

pub short_fault : (direction : Direction) (given : List ℕ) (header : OpenHeader) → IsSource direction given header →
    (declared taken : ℕ) (error : ConvertFault) → header.size ≡ Some declared
    → length given ≡ header.start + taken → taken < in_whole_frames header declared →
    IsShort direction error declared taken (header.start + taken) → source_fault direction given ≡ Some error
short_fault WaveToAu given header has declared taken error is long cut error_is =
    short_by (λ said. fault.Wave said.0 said.1) (λ size got total. fault.Wave (wave_fault.Short size got) total)
    (open_header_of given) header declared taken (length given) has is long cut ∙ ap Some (sym error_is)
short_fault AuToWave given header has declared taken error is long cut error_is =
    short_by (λ said. fault.Au said.0 said.1) (λ size got total. fault.Au (au_fault.Short size got) total)
    (au_header_of given) header declared taken (length given) has is long cut ∙ ap Some (sym error_is)
