-- The bytes of samples.
use Rattle.std.proofs.Common.{◌≡◌, ◌∙◌, ap, arith, ℕ, suc, ◌+◌, ◌*◌, ℤ, List, [], ◌∷◌, length, length-append, flat_map}
use Rattle.std.proofs.lemmas.List.Concat.{flat_map-cons}
use Rattle.dsp_defs.specs.Bytes.{bytes_of, width}
use Rattle.dsp_defs.specs.declared.format.Coding.{Coding}
use Rattle.dsp_defs.proofs.CodingLemmas.{length-bytes_of}

-- how many they are
pub size_of_coded : (coding : Coding) (ys : List ℤ) → length (flat_map (bytes_of coding) ys) ≡ length ys * width coding
size_of_coded coding [] = no_more (width coding)
  where
    no_more : (w : ℕ) → 0 ≡ 0 * w
    no_more w = omega arith
size_of_coded coding (y ∷ ys) =
    ap length (flat_map-cons (bytes_of coding) y ys) ∙ length-append (bytes_of coding y) (flat_map (bytes_of coding) ys)
    ∙ (λ i. length-bytes_of coding y i + size_of_coded coding ys i) ∙ one_more (length ys) (width coding)
  where
    one_more : (n w : ℕ) → w + n * w ≡ suc n * w
    one_more n w = omega arith
