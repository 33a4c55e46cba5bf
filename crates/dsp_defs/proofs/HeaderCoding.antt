-- The coding that a header says is one of the format that was wanted.
use Rattle.std.proofs.Common.{◌≡◌, ◌≢◌, ℕ, ◌+◌, ◌-◌, ◌^◌, nat_eq, IfSome, Bool, true, false, not, if◌then◌else◌, List}
use Rattle.std.proofs.Common.{[], ◌∷◌, codes, length, take, drop, Option, Some, None, Result, Ok, Err, refl, ap}
use Rattle.std.proofs.Common.{subst, arith}
use Rattle.std.proofs.lemmas.Grind.{common_steps}
use Rattle.std.specs.Str.{bytes_eq}
use Rattle.std.specs.Result.{result_unwrap_or}
use Rattle.dsp_defs.specs.Bytes.{format_in}
use Rattle.dsp_defs.specs.Wave
use Rattle.dsp_defs.specs.Wave.{Chunk, chunks, has_id, u16_at, file_coding, sampling, format_fault, unless, header_in}
use Rattle.dsp_defs.specs.Wave.{header_of}
use Rattle.dsp_defs.specs.declared.format.Coding.{Coding}
use Rattle.dsp_defs.specs.declared.wave.Wanted.{Wanted}
use Rattle.dsp_defs.specs.declared.wave.Header.{Header}
use Rattle.dsp_defs.specs.declared.wave.Sampling.{Sampling}
use Rattle.dsp_defs.specs.declared.wave.HeaderFault.{HeaderFault}
use Rattle.dsp_defs.specs.declared.wave.HeaderFault.TheVariants.{NotRiff, NotWave, NoFormat}
use Rattle.dsp_defs.proofs.CodingLemmas.{format_in-file_coding}
use Rattle.dsp_defs.proofs.WaveLemmas.{no_header}

-- the size that stands for none is none
pub declared-small : (n : ℕ) → IfSome (Wave.declared_size n) (λ size. size ≢ 2 ^ 32 - 1)
declared-small n = by_test (nat_eq n (2 ^ 32 - 1)) (λ e. nat_eq-false n (2 ^ 32 - 1) e)
  where
    nat_eq-false : (m k : ℕ) → nat_eq m k ≡ false → m ≢ k
    nat_eq-false m k e = grind (arith, common_steps, e)

    by_test : (b : Bool) → (b ≡ false → n ≢ 2 ^ 32 - 1) →
        IfSome (if b then None else Some n) (λ size. size ≢ 2 ^ 32 - 1)
    by_test true differs = tt
    by_test false differs = differs refl

-- what holds of the coding of each `fmt ` chunk holds of the header's, and its size is not the one that stands for none
module _ (wanted : Wanted) (total : ℕ) (header : Header) (P : Coding → Type 0)
    (holds : (bits : ℕ) → P (file_coding wanted.format bits)) where
  abbrev Good : Type 0
  Good = P header.coding × IfSome header.size (λ size. size ≢ 2 ^ 32 - 1)

  abbrev Suits : Option Sampling → Type 0
  Suits None = Unit {0}
  Suits (Some known) = P known.coding

  found_is : (known : Sampling) (start : ℕ) (size : Option ℕ) →
      ◌≡◌ {A = Result Header (HeaderFault × ℕ)} (Ok (record
      { rate = known.rate; start = start; size = size; coding = known.coding })) (Ok header)
      → (known.coding ≡ header.coding) × (size ≡ header.size)
  found_is known start size e = (
    ap (λ r. (result_unwrap_or r header).coding) e,
    ap (λ r. (result_unwrap_or r header).size) e,
  )

  abbrev Says : Option Sampling → List Chunk → Type 0
  Says known cs = Suits known → header_in wanted total known cs ≡ Ok header → Good

  behind_known : (known : Sampling) (c : Chunk) (cs : List Chunk) → Says (Some known) cs → Says (Some known) (c ∷ cs)
  behind_known known c cs later suits h = at_data (has_id (codes "data") c) h
    where
      at_data : (b : Bool) → (if b then Ok (record {
        rate = known.rate;
        start = c.offset + 8;
        size =
            Wave.declared_size c.size;
        coding = known.coding;
      }) else header_in wanted total (Some known) cs) ≡ Ok header →
          Good
      at_data true e =
          let (coding, size) = found_is known (c.offset + 8) (Wave.declared_size c.size) e in (
            subst P coding suits,
            subst (λ (size : Option ℕ). IfSome size (λ size. size ≢ 2 ^ 32 - 1)) size
                (declared-small c.size),
          )
      at_data false e = later suits e

  behind_none : (c : Chunk) (cs : List Chunk) → ((known : Option Sampling) → Says known cs) → Says None (c ∷ cs)
  behind_none c cs later suits h = at_data (has_id (codes "data") c) (has_id (codes "fmt ") c) h
    where
      at_fault : (fault : Option (HeaderFault × ℕ)) → unless fault
          (header_in wanted total (Some (sampling wanted c)) cs) ≡ Ok header → Good
      at_fault (Some f) e = no_header f header e
      at_fault None e = later (Some (sampling wanted c)) (holds (u16_at c.body 14)) e

      at_data : (b b' : Bool)
          → (if b then Err (NoFormat, c.offset) else (if b' then
          unless (format_fault wanted total c) (header_in wanted total (Some (sampling wanted c)) cs) else
          header_in wanted total None cs)) ≡ Ok header
          → Good
      at_data true b' e = no_header _ header e
      at_data false true e = at_fault (format_fault wanted total c) e
      at_data false false e = later None tt e

  in_chunks : (cs : List Chunk) (known : Option Sampling) → Says known cs
  in_chunks [] None suits h = no_header _ header h
  in_chunks [] (Some known) suits h = no_header _ header h
  in_chunks (c ∷ cs) (Some known) suits h = behind_known known c cs (in_chunks cs (Some known)) suits h
  in_chunks (c ∷ cs) None suits h = behind_none c cs (λ known. in_chunks cs known) suits h

pub good_header : (bytes : List ℕ) (wanted : Wanted) (header : Header) (P : Coding → Type 0) →
    ((bits : ℕ) → P (file_coding wanted.format bits)) → header_of bytes wanted ≡ Ok header
    → P header.coding × IfSome header.size (λ size. size ≢ 2 ^ 32 - 1)
good_header bytes wanted header P holds h = at_riff (not (bytes_eq (take 4 bytes) (codes "RIFF")))
    (not (bytes_eq (take 4 (drop 8 bytes)) (codes "WAVE"))) h
  where
    at_riff : (r w : Bool) → (if r then Err (NotRiff, 0) else
        (if w then Err (NotWave, 8) else header_in wanted (length bytes) None (chunks bytes))) ≡ Ok header
        → P header.coding × IfSome header.size (λ size. size ≢ 2 ^ 32 - 1)
    at_riff true w e = no_header _ header e
    at_riff false true e = no_header _ header e
    at_riff false false e = in_chunks wanted (length bytes) header P holds (chunks bytes) None tt e

pub header_coding : (bytes : List ℕ) (wanted : Wanted) (header : Header) → header_of bytes wanted ≡ Ok header →
    format_in header.coding ≡ wanted.format
header_coding bytes wanted header h = (good_header bytes wanted header (λ coding. format_in coding ≡ wanted.format)
    (format_in-file_coding wanted.format) h).0
