-- Samples and bytes by whole frames: what is read of bytes that follow one another, and what a slice of samples is as
-- frames and as bytes.
use Rattle.std.proofs.Common.{◌≡◌, ℕ, zero, suc, ◌+◌, ◌-◌, ◌*◌, ◌/◌, ◌<◌, ◌≤◌, ℤ, pos, List, [], ◌++◌, length, take}
use Rattle.std.proofs.Common.{drop, sym, ap, ap₂, ◌∙◌, arith, append-nil, length-append, zero-add, add_comm}
use Rattle.std.specs.List.{flat_map}
use Rattle.std.proofs.lemmas.Grind.{flat_map-append}
use Rattle.std.proofs.lemmas.List.{drop-append-le, take-append-le, length-drop, length-take-le, take-append-drop}
use Rattle.std.proofs.lemmas.List.FromFn.{get_or-map-range_with_len}
use Rattle.std.proofs.lemmas.Nat.{div-mul-add, mul-add-lt}
use Rattle.std.proofs.Math.Nat.{add-mul-div_right, mul-div_cancel}
use Rattle.std.proofs.Math.Seq.{drop-append-add}
use Rattle.dsp_defs.specs.Block.{Frame}
use Rattle.dsp_defs.specs.Bytes.{width, bytes_of, sample_of, coded, samples, samples_by}
use Rattle.dsp_defs.specs.Signal.{sample, values}
use Rattle.dsp_defs.specs.Block.{frames_in}
use Rattle.dsp_defs.specs.declared.format.Coding.{Coding}
use Rattle.dsp_defs.proofs.BlockLaws.{length-values}
use Rattle.dsp_defs.proofs.CodingLemmas.{width-some}
use Rattle.dsp_defs.proofs.FrameLemmas.{length-frames_in}
use Rattle.dsp_defs.proofs.Signal.{values_cong, values-add}
use Rattle.dsp_defs.proofs.SumLemmas.{same_numbers}

-- ---- the signal of bytes

sample_inside : (i n channels c w : ℕ) → i < n → c < channels → (i * channels + c) * w + w ≤ n * (channels * w)
sample_inside i n channels c w below inside = grind arith

sample_behind : (i n channels c w : ℕ) → ((n + i) * channels + c) * w ≡ n * (channels * w) + (i * channels + c) * w
sample_behind i n channels c w = grind arith

rest_below : (n size k : ℕ) → 0 < k → n ≡ size / k → (n * k ≤ size) × (size - n * k < k)
rest_below n size k some is = grind arith

pub small_quotient : (size k : ℕ) → size < k → size / k ≡ 0
small_quotient size k h = grind arith

module _ (read : List ℕ → ℤ) (w channels : ℕ) where
  abbrev frame_of : List ℕ → ℕ → Frame
  frame_of bytes i = values channels (λ c. read (take w (drop ((i * channels + c) * w) bytes)))

  pub length-samples_by : (bytes : List ℕ) → length (samples_by read w channels bytes) ≡ length bytes / (channels * w)
  length-samples_by bytes = length-values (length bytes / (channels * w)) (frame_of bytes)

  no_frames : (bytes : List ℕ) → length bytes / (channels * w) ≡ 0 → samples_by read w channels bytes ≡ []
  no_frames bytes none = ap (λ (n : ℕ). values n (frame_of bytes)) none

  pub samples_by-nil : samples_by read w channels [] ≡ []
  samples_by-nil = no_frames [] (nothing (channels * w))
    where
      nothing : (k : ℕ) → 0 / k ≡ 0
      nothing k = omega arith

  -- bytes that are n whole frames, and more bytes behind them
  module _ (n : ℕ) (bytes more : List ℕ) (some : zero < channels * w) (whole : length bytes ≡ n * (channels * w)) where
    frames : length (bytes ++ more) / (channels * w) ≡ n + length more / (channels * w)
    frames =
        let total : length (bytes ++ more) ≡ length more + n * (channels * w) =
        omega (arith, length-append bytes more) in
        let split = add-mul-div_right (length more) n some in
        ap (λ k. k / (channels * w)) total ∙ split ∙ add_comm (length more / (channels * w)) n

    pub count-whole_by : length bytes / (channels * w) ≡ n
    count-whole_by =
        let exact : length bytes ≡ n * (channels * w) + 0 = omega (arith, whole) in
        ap (λ k. k / (channels * w)) exact ∙ div-mul-add n (channels * w) 0 some

    front : (i c : ℕ) → i < n → c < channels → take w (drop ((i * channels + c) * w) (bytes ++ more)) ≡ take w
        (drop ((i * channels + c) * w) bytes)
    front i c below inside =
        let start = (i * channels + c) * w in
        let fits : start + w ≤ length bytes = rw whole (sample_inside i n channels c w below inside) in
        let room : w ≤ length (drop start bytes) = omega (arith, length-drop start bytes) in
        ap (take w) (drop-append-le start bytes more (omega arith)) ∙ take-append-le w (drop start bytes) more room

    back : (i c : ℕ) → take w (drop (((n + i) * channels + c) * w) (bytes ++ more)) ≡ take w
        (drop ((i * channels + c) * w) more)
    back i c =
        let start = (i * channels + c) * w in
        let place : ((n + i) * channels + c) * w ≡ length bytes + start = sample_behind i n channels c w ∙
        ap (λ k. k + start) (sym whole) in
        ap (λ k. take w (drop k (bytes ++ more))) place ∙ ap (take w) (drop-append-add bytes more start)

    -- the signal of both is the signal of the one and then of the other
    pub samples_by-append : samples_by read w channels (bytes ++ more) ≡ samples_by read w channels bytes ++
        samples_by read w channels more
    samples_by-append =
        let later = length more / (channels * w) in
        ap (λ k. values k (frame_of (bytes ++ more))) frames
        ∙ values-add n later (frame_of (bytes ++ more))
        ∙ ap₂ (λ xs ys. xs ++ ys)
        (values_cong n _ (frame_of bytes) (λ i below. values_cong channels _ _
        (λ c inside. ap read (front i c below inside)))
        ∙ ap (λ k. values k (frame_of bytes)) (sym count-whole_by))
        (values_cong later _ (frame_of more) (λ i _. values_cong channels _ _ (λ c _. ap read (back i c))))

  -- a rest that is no whole frame changes nothing
  pub samples_by-whole : (n : ℕ) (bytes : List ℕ) → 0 < channels * w → n ≡ length bytes / (channels * w)
      → samples_by read w channels (take (n * (channels * w)) bytes) ≡ samples_by read w channels bytes
  samples_by-whole n bytes some is =
      let size = channels * w in
      let bounds = rest_below n (length bytes) size some is in
      let front = take (n * size) bytes in
      let rest = drop (n * size) bytes in
      let long : length front ≡ n * size = length-take-le (n * size) bytes bounds.0 in
      let short : length rest < size = omega (arith, length-drop (n * size) bytes, bounds.1) in
      sym (ap (samples_by read w channels) (sym (take-append-drop (n * size) bytes))
      ∙ samples_by-append n front rest some long
      ∙ ap (λ (later : List Frame). samples_by read w channels front ++ later)
      (no_frames rest (small_quotient (length rest) size short))
      ∙ append-nil (samples_by read w channels front))

-- in a coding

pub length-samples : (coding : Coding) (channels : ℕ) (bytes : List ℕ) →
    length (samples coding channels bytes) ≡ length bytes / (channels * width coding)
length-samples coding channels bytes = length-samples_by (sample_of coding) (width coding) channels bytes

pub samples-nil : (coding : Coding) (channels : ℕ) → samples coding channels [] ≡ []
samples-nil coding channels = samples_by-nil (sample_of coding) (width coding) channels

pub count-whole : (coding : Coding) (channels n : ℕ) (bytes more : List ℕ) → zero < channels * width coding →
    length bytes ≡ n * (channels * width coding) → length bytes / (channels * width coding) ≡ n
count-whole coding channels n bytes more some whole =
    count-whole_by (sample_of coding) (width coding) channels n bytes more some whole

pub samples-append : (coding : Coding) (channels n : ℕ) (bytes more : List ℕ) → zero < channels * width coding →
    length bytes ≡ n * (channels * width coding)
    → samples coding channels (bytes ++ more) ≡ samples coding channels bytes ++ samples coding channels more
samples-append coding channels n bytes more some whole =
    samples_by-append (sample_of coding) (width coding) channels n bytes more some whole

pub samples-whole : (coding : Coding) (channels n : ℕ) (bytes : List ℕ) → 0 < channels * width coding →
    n ≡ length bytes / (channels * width coding)
    → samples coding channels (take (n * (channels * width coding)) bytes) ≡ samples coding channels bytes
samples-whole coding channels n bytes some is = samples_by-whole (sample_of coding) (width coding) channels n bytes
    some is

-- ---- samples of a slice

pub frame_bytes : (n channels w : ℕ) → n * channels * w ≡ n * (channels * w)
frame_bytes n channels w = omega arith

-- samples that were read one after another are the signal, frame by frame
pub decoded : (coding : Coding) (channels n count : ℕ) (bytes : List ℕ) → 0 < channels →
    length bytes ≡ count * width coding → count ≡ n * channels
    → frames_in channels (values count (λ i. sample_of coding (take (width coding) (drop (i * width coding) bytes))))
    ≡ samples coding channels bytes
unfolding frames_in
decoded coding channels n count bytes some long is =
    let w = width coding in
    let one : ℕ → ℤ = λ i. sample_of coding (take w (drop (i * w) bytes)) in
    let quotient : length (values count one) / channels ≡ n =
    ap (λ (k : ℕ). k / channels) (length-values count one ∙ is) ∙ mul-div_cancel n some in
    let size_some : 0 < channels * w = product-some channels w some (width-some coding) in
    let whole : length bytes ≡ n * (channels * w) = long ∙ ap (λ (k : ℕ). k * w) is ∙ frame_bytes n channels w in
    ap (λ (k : ℕ). values k (λ i. values channels (λ c. sample (values count one) (i * channels + c)))) quotient
    ∙ values_cong n _ _ (λ i below. values_cong channels _ _ (λ c inside.
    let bound = mul-add-lt i channels c n below inside in
    let within : i * channels + c < count = omega (arith, is, bound) in
    get_or-map-range_with_len one 0 count (i * channels + c) (i * channels + c) (pos 0) within
    (zero-add (i * channels + c))))
    ∙ ap (λ (k : ℕ). values k (λ i. values channels (λ c. one (i * channels + c))))
    (sym (count-whole coding channels n bytes [] size_some whole))
  where
    product-some : (a b : ℕ) → 0 < a → 0 < b → 0 < a * b
    product-some a b h k = grind arith

-- rows of values, one after another
pub flat_rows : {B : Type 0} (g : ℤ → List B) (h : ℕ → ℤ) (channels n : ℕ) →
    flat_map (flat_map g) (values n (λ i. values channels (λ c. h (i * channels + c)))) ≡ flat_map g
    (values (n * channels) h)
flat_rows g h channels zero = ap (λ (k : ℕ). flat_map g (values k h)) (none channels)
  where
    none : (k : ℕ) → 0 ≡ 0 * k
    none k = omega arith
flat_rows g h channels (suc n) =
    let row : ℕ → List ℤ = λ i. values channels (λ c. h (i * channels + c)) in
    let next : suc n ≡ n + 1 = omega arith in
    let here : n + 0 ≡ n = omega arith in
    let size : n * channels + channels ≡ suc n * channels = omega arith in
    ap (λ (k : ℕ). flat_map (flat_map g) (values k row)) next
    ∙ ap (flat_map (flat_map g)) (values-add n 1 row)
    ∙ flat_map-append (flat_map g) (values n row) (values 1 (λ i. row (n + i)))
    ∙ ap₂ (λ xs ys. xs ++ ys) (flat_rows g h channels n)
    (append-nil (flat_map g (row (n + 0))) ∙ ap (λ (k : ℕ). flat_map g (row k)) here)
    ∙ sym (flat_map-append g (values (n * channels) h) (row n))
    ∙ ap (flat_map g) (sym (values-add (n * channels) channels h))
    ∙ ap (λ (k : ℕ). flat_map g (values k h)) size

values_of : (xs : List ℤ) → values (length xs) (sample xs) ≡ xs
values_of xs =
    same_numbers (values (length xs) (sample xs)) xs (length-values (length xs) (sample xs))
    (λ i h. get_or-map-range_with_len (sample xs) 0 (length xs) i i (pos 0)
    (omega (arith, length-values (length xs) (sample xs))) (zero-add i))

-- samples of whole frames that were written one after another are the bytes of the frames
pub encoded : (coding : Coding) (channels : ℕ) (xs : List ℤ) → length xs ≡ length (frames_in channels xs) * channels
    → flat_map (bytes_of coding) xs ≡ coded coding (frames_in channels xs)
unfolding frames_in
encoded coding channels xs whole =
    let n = length xs / channels in
    let count : length xs ≡ n * channels = whole ∙ ap (λ (k : ℕ). k * channels) (length-frames_in channels xs) in
    ap (flat_map (bytes_of coding)) (sym (values_of xs) ∙ ap (λ (k : ℕ). values k (sample xs)) count)
    ∙ sym (flat_rows (bytes_of coding) (sample xs) channels n)

pub coded-append : (coding : Coding) (xs ys : List Frame) → coded coding (xs ++ ys) ≡ coded coding xs ++ coded coding ys
coded-append coding xs ys = flat_map-append (λ (frame : Frame). flat_map (bytes_of coding) frame) xs ys
