-- Samples that are written are read back, in both forms of file.
use Rattle.std.proofs.Common.{◌≡◌, ℕ, zero, suc, ◌+◌, ◌*◌, ◌/◌, ◌%◌, ◌^◌, ◌<◌, ℤ, pos, ◌*ℤ◌, List, [], ◌∷◌, ◌++◌}
use Rattle.std.proofs.Common.{length, take, drop, refl, sym, ap, ap₂, ◌∙◌, subst, arith, length-append, SFits, to_z}
use Rattle.std.proofs.Common.{of_z, to_z-of_z, w8, w16, w32}
use Rattle.std.specs.Int.{from_le_bytes, to_be_bytes, from_be_bytes}
use Rattle.std.specs.List.{flat_map}
use Rattle.std.proofs.lemmas.List.{take-append-le, take_all}
use Rattle.std.proofs.lemmas.List.Concat.{flat_map-cons}
use Rattle.std.proofs.lemmas.List.FromFn.{get_or-map-range_with_len, length-map-range_with_len}
use Rattle.std.proofs.lemmas.Nat.{from_be_bytes-to_be_bytes_2, from_be_bytes-to_be_bytes_4}
use Rattle.std.proofs.Math.Seq.{drop-append-add}
use Rattle.dsp_defs.specs.Au.{Form, WaveForm, AuForm, au_bytes_of, au_sample_of, form_bytes_of, form_sample_of}
use Rattle.dsp_defs.specs.Block.{Frame}
use Rattle.dsp_defs.specs.Bytes.{AreBytes, IsValue, coded_by, samples_by, width}
use Rattle.dsp_defs.specs.Open.{IsWave}
use Rattle.dsp_defs.specs.Signal.{sample, values}
use Rattle.dsp_defs.specs.declared.format.Coding.{Coding}
use Rattle.dsp_defs.specs.declared.format.Coding.TheVariants.{Raw7, Raw15, Raw31, Wave7, Wave15, Wave24, Wave31}
use Rattle.dsp_defs.proofs.BytesLaws.{sample_of-bytes_of, sample_of-IsValue, byte_fits, half_fits, word_fits}
use Rattle.dsp_defs.proofs.CodingLemmas.{length-bytes_of}
use Rattle.dsp_defs.proofs.SampleLaws.{flat_rows, frame_bytes}
use Rattle.dsp_defs.proofs.Signal.{values_cong}
use Rattle.dsp_defs.proofs.BytesLaws.{lowest_byte}
use Rattle.dsp_au.proofs.ExchangeLaws.{of_one, of_two, of_three, of_four, small-cons, small-nil}

-- ---- a value is read back

one_back : (x : ℤ) → SFits w8 x → to_z w8 (from_be_bytes w8 (to_be_bytes w8 (of_z w8 x))) ≡ x
one_back x h =
    let same : from_be_bytes w8 (to_be_bytes w8 (of_z w8 x)) ≡ of_z w8 x = omega (arith, byte_fits x h) in
    ap (to_z w8) same ∙ to_z-of_z h

two_back : (x : ℤ) → SFits w16 x → to_z w16 (from_be_bytes w16 (to_be_bytes w16 (of_z w16 x))) ≡ x
two_back x h = ap (to_z w16) (from_be_bytes-to_be_bytes_2 (of_z w16 x) (half_fits x h)) ∙ to_z-of_z h

four_back : (x : ℤ) → SFits w32 x → to_z w32 (from_be_bytes w32 (to_be_bytes w32 (of_z w32 x))) ≡ x
four_back x h = ap (to_z w32) (from_be_bytes-to_be_bytes_4 (of_z w32 x) (word_fits x h)) ∙ to_z-of_z h

lowest_last : (x n : ℤ) → SFits w32 x → x ≡ n *ℤ pos (2 ^ 8) →
    take 3 (to_be_bytes w32 (of_z w32 x)) ++ 0 ∷ [] ≡ to_be_bytes w32 (of_z w32 x)
lowest_last x n h e = ap (λ byte. take 3 (to_be_bytes w32 (of_z w32 x)) ++ byte ∷ []) (sym (lowest_byte x n h e))

au_back : (coding : Coding) (x : ℤ) → IsWave coding → IsValue coding x → au_sample_of coding (au_bytes_of coding x) ≡ x
au_back Wave7 x wave h = one_back x h
au_back Wave15 x wave h = two_back x h
au_back Wave24 x wave (fits, n, e) = ap (λ bytes. to_z w32 (from_be_bytes w32 bytes)) (lowest_last x n fits e) ∙
    four_back x fits
au_back Wave31 x wave h = four_back x h
au_back Raw7 x wave h = absurd wave
au_back Raw15 x wave h = absurd wave
au_back Raw31 x wave h = absurd wave

pub sample_back : (form : Form) (coding : Coding) (x : ℤ) → IsWave coding → IsValue coding x →
    form_sample_of form coding (form_bytes_of form coding x) ≡ x
sample_back WaveForm coding x wave h = sample_of-bytes_of coding x h
sample_back AuForm coding x wave h = au_back coding x wave h

-- ---- a sample of bytes is a value, and has as many bytes as its coding

au_wide : (coding : Coding) (x : ℤ) → IsWave coding → length (au_bytes_of coding x) ≡ width coding
au_wide Wave7 x wave = refl
au_wide Wave15 x wave = refl
au_wide Wave24 x wave = refl
au_wide Wave31 x wave = refl
au_wide Raw7 x wave = absurd wave
au_wide Raw15 x wave = absurd wave
au_wide Raw31 x wave = absurd wave

pub form_wide : (form : Form) (coding : Coding) (x : ℤ) → IsWave coding →
    length (form_bytes_of form coding x) ≡ width coding
form_wide WaveForm coding x wave = length-bytes_of coding x
form_wide AuForm coding x wave = au_wide coding x wave

-- a sample of AU is that of the bytes turned round
one_value : (a : ℕ) → a < 256 → IsValue Wave7 (au_sample_of Wave7 (a ∷ []))
one_value a ha =
    let same : from_be_bytes w8 (a ∷ []) ≡ from_le_bytes w8 (a ∷ []) = omega arith in
    subst (λ n. IsValue Raw7 (to_z w8 n)) (sym same) (sample_of-IsValue Raw7 (a ∷ [])
    (refl, small-cons a [] ha small-nil))

two_value : (a b : ℕ) → a < 256 → b < 256 → IsValue Wave15 (au_sample_of Wave15 (a ∷ b ∷ []))
two_value a b ha hb =
    let same : from_be_bytes w16 (a ∷ b ∷ []) ≡ from_le_bytes w16 (b ∷ a ∷ []) = omega arith in
    subst (λ n. IsValue Wave15 (to_z w16 n)) (sym same)
    (sample_of-IsValue Wave15 (b ∷ a ∷ []) (refl, small-cons b (a ∷ []) hb (small-cons a [] ha small-nil)))

three_value : (a b c : ℕ) → a < 256 → b < 256 → c < 256 → IsValue Wave24 (au_sample_of Wave24 (a ∷ b ∷ c ∷ []))
three_value a b c ha hb hc =
    let same : from_be_bytes w32 (a ∷ b ∷ c ∷ 0 ∷ []) ≡ from_le_bytes w32 (0 ∷ c ∷ b ∷ a ∷ []) = omega arith in
    subst (λ n. IsValue Wave24 (to_z w32 n)) (sym same)
    (sample_of-IsValue Wave24 (c ∷ b ∷ a ∷ []) (
      refl,
      small-cons c (b ∷ a ∷ []) hc
          (small-cons b (a ∷ []) hb (small-cons a [] ha small-nil)),
    ))

four_value : (a b c d : ℕ) → a < 256 → b < 256 → c < 256 → d < 256 →
    IsValue Wave31 (au_sample_of Wave31 (a ∷ b ∷ c ∷ d ∷ []))
four_value a b c d ha hb hc hd =
    let same : from_be_bytes w32 (a ∷ b ∷ c ∷ d ∷ []) ≡ from_le_bytes w32 (d ∷ c ∷ b ∷ a ∷ []) = omega arith in
    subst (λ n. IsValue Wave31 (to_z w32 n)) (sym same)
    (sample_of-IsValue Wave31 (d ∷ c ∷ b ∷ a ∷ []) (
      refl,
      small-cons d (c ∷ b ∷ a ∷ []) hd (small-cons c (b ∷ a ∷ []) hc
          (small-cons b (a ∷ []) hb (small-cons a [] ha small-nil))),
    ))

abbrev AuValue : Coding → List ℕ → Type 0
AuValue coding bytes = IsValue coding (au_sample_of coding bytes)

au_value : (coding : Coding) (bytes : List ℕ) → IsWave coding → AreBytes (width coding) bytes → AuValue coding bytes
au_value Wave7 bytes wave h = of_one (AuValue Wave7) one_value bytes h
au_value Wave15 bytes wave h = of_two (AuValue Wave15) two_value bytes h
au_value Wave24 bytes wave h = of_three (AuValue Wave24) three_value bytes h
au_value Wave31 bytes wave h = of_four (AuValue Wave31) four_value bytes h
au_value Raw7 bytes wave h = absurd wave
au_value Raw15 bytes wave h = absurd wave
au_value Raw31 bytes wave h = absurd wave

pub sample_value : (form : Form) (coding : Coding) (bytes : List ℕ) → IsWave coding → AreBytes (width coding) bytes →
    IsValue coding (form_sample_of form coding bytes)
sample_value WaveForm coding bytes wave h = sample_of-IsValue coding bytes h
sample_value AuForm coding bytes wave h = au_value coding bytes wave h

-- ---- the samples among written bytes

one_more : (n w : ℕ) → suc n * w ≡ w + n * w
one_more n w = omega arith

no_more : (w : ℕ) → 0 * w ≡ 0
no_more w = omega arith

module _ (write : ℤ → List ℕ) (w : ℕ) (wide : (z : ℤ) → length (write z) ≡ w) where
  long : (xs : List ℤ) → length (flat_map write xs) ≡ length xs * w
  long [] = sym (no_more w)
  long (x ∷ xs) =
      ap length (flat_map-cons write x xs)
      ∙ length-append (write x) (flat_map write xs)
      ∙ ap₂ (λ (m n : ℕ). m + n) (wide x) (long xs)
      ∙ sym (one_more (length xs) w)

  -- the bytes of a sample stand at its place
  piece : (xs : List ℤ) (k : ℕ) → k < length xs → take w (drop (k * w) (flat_map write xs)) ≡ write (sample xs k)
  piece [] k below = absurd (omega (arith, below))
  piece (x ∷ xs) zero below =
      ap (λ n. take w (drop n (flat_map write (x ∷ xs)))) (no_more w)
      ∙ ap (take w) (flat_map-cons write x xs)
      ∙ take-append-le w (write x) (flat_map write xs) (omega (arith, wide x))
      ∙ take_all w (write x) (omega (arith, wide x))
  piece (x ∷ xs) (suc k) below =
      ap (λ n. take w (drop n (flat_map write (x ∷ xs)))) (one_more k w ∙ ap (λ n. n + k * w) (sym (wide x)))
      ∙ ap (λ bytes. take w (drop (length (write x) + k * w) bytes)) (flat_map-cons write x xs)
      ∙ ap (take w) (drop-append-add (write x) (flat_map write xs) (k * w))
      ∙ piece xs k (omega (arith, below))

  -- and of so many values
  pub piece_of_values : (h : ℕ → ℤ) (m k : ℕ) → k < m →
      take w (drop (k * w) (flat_map write (values m h))) ≡ write (h k)
  piece_of_values h m k below =
      piece (values m h) k (omega (arith, below, length-map-range_with_len h 0 m))
      ∙ ap write (get_or-map-range_with_len h 0 m k k (pos 0) below (omega arith))

-- ---- a signal is read back

-- frames of so many channels, sample by sample
abbrev pub frames_by : (ℕ → ℤ) → ℕ → ℕ → List Frame
frames_by h channels n = values n (λ i. values channels (λ c. h (i * channels + c)))

place_within : (i c n channels : ℕ) → i < n → c < channels → i * channels + c < n * channels
place_within i c n channels below inside = grind arith

count_of : (n size k : ℕ) → 0 < k → size ≡ n * k → size / k ≡ n
count_of n size k some is = grind arith

module _ (read : List ℕ → ℤ) (write : ℤ → List ℕ) (w channels n : ℕ) (h : ℕ → ℤ)
    (wide : (z : ℤ) → length (write z) ≡ w) where
  -- the bytes, sample after sample
  pub coded_flat : coded_by write (frames_by h channels n) ≡ flat_map write (values (n * channels) h)
  coded_flat = flat_rows write h channels n

  pub coded_long : length (coded_by write (frames_by h channels n)) ≡ n * (channels * w)
  coded_long =
      ap length coded_flat
      ∙ long write w wide (values (n * channels) h)
      ∙ ap (λ m. m * w) (length-map-range_with_len h 0 (n * channels))
      ∙ frame_bytes n channels w

  pub signal_back : 0 < channels * w → ((k : ℕ) → k < n * channels → read (write (h k)) ≡ h k)
      → samples_by read w channels (coded_by write (frames_by h channels n)) ≡ frames_by h channels n
  signal_back some back =
      let bytes = flat_map write (values (n * channels) h) in
      let count : length bytes / (channels * w) ≡ n = count_of n (length bytes) (channels * w) some
      (ap length (sym coded_flat) ∙ coded_long) in
      ap (samples_by read w channels) coded_flat
      ∙ ap (λ (m : ℕ). values m (λ i. values channels (λ c. read (take w (drop ((i * channels + c) * w) bytes))))) count
      ∙ values_cong n _ _ (λ i below. values_cong channels _ _ (λ c inside.
      let within = place_within i c n channels below inside in
      ap read (piece_of_values write w wide h (n * channels) (i * channels + c) within) ∙
      back (i * channels + c) within))
