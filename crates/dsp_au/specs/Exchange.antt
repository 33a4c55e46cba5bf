-- The bytes of samples in the other form of file.
use Rattle.std.specs.Prelude.{ℕ, ◌+◌, ◌*◌, ◌/◌, ◌%◌, List, [], ◌∷◌, length, take, drop, reverse, flat_map}
use Rattle.dsp_defs.specs.Signal.{values}

-- of one sample: the bytes in the other order, and of a sample of one byte the byte with the other offset, 128 or none
abbrev pub exchanged_sample : List ℕ → List ℕ
exchanged_sample (byte ∷ []) = (byte + 128) % 256 ∷ []
exchanged_sample bytes = reverse bytes

-- of the first n samples of so many bytes each
abbrev pub exchanged_first : ℕ → ℕ → List ℕ → List ℕ
exchanged_first n width bytes = flat_map exchanged_sample (values n (λ i. take width (drop (i * width) bytes)))

-- of all whole samples
abbrev pub exchanged : ℕ → List ℕ → List ℕ
exchanged width bytes = exchanged_first (length bytes / width) width bytes
