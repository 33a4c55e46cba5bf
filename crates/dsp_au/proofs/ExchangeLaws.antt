-- Samples in the other form of file: the bytes that are exchanged are those of the same samples.
use Rattle.std.proofs.Common.{◌≡◌, ℕ, zero, suc, ◌+◌, ◌-◌, ◌*◌, ◌/◌, ◌%◌, ◌^◌, ◌<◌, ◌≤◌, ℤ, pos, List, []}
use Rattle.std.proofs.Common.{◌∷◌, ◌++◌}
use Rattle.std.proofs.Common.{length, take, drop, get_or, refl, sym, ap, ap₂, ◌∙◌, arith, append-nil, to_z, of_z, w8}
use Rattle.std.proofs.Common.{subst, w16, w32, length-drop, length-take-le, nat_abs, ◌+ℤ◌, ◌-ℤ◌}
use Rattle.std.specs.List.{flat_map, swap}
use Rattle.std.specs.Int.{to_le_bytes, from_le_bytes, to_be_bytes, from_be_bytes}
use Rattle.std.proofs.lemmas.Grind.{flat_map-append}
use Rattle.std.proofs.lemmas.Int.{ints, of_z-to_z}
use Rattle.std.proofs.lemmas.Slice.{take-put_mid, drop-put_mid}
use Rattle.std.proofs.lemmas.List.{drop-drop, drop-take, take-take}
use borrow.Rule.Slice.PartMut.{put_mid}
use Rattle.std.proofs.lemmas.Simd.{pick_l_whole}
use Rattle.std.specs.Simd.Lanes.{pick_l, put_chunk}
use Rattle.std.proofs.lemmas.Nat.{le_bytes_2, le_bytes_4, be_bytes_2, be_bytes_4}
use Rattle.dsp_defs.specs.Bytes.{AreBytes, width}
use Rattle.dsp_defs.specs.Open.{IsWave}
use Rattle.dsp_defs.specs.Signal.{values}
use Rattle.dsp_defs.specs.Au.{form_bytes_of, form_coded, form_sample_of, form_samples, source_form, target_form}
use Rattle.dsp_defs.specs.declared.au.Direction.{Direction}
use Rattle.dsp_defs.specs.declared.au.Direction.TheVariants.{WaveToAu, AuToWave}
use Rattle.dsp_defs.specs.declared.format.Coding.{Coding}
use Rattle.dsp_defs.specs.declared.format.Coding.TheVariants.{Wave7, Wave15, Wave24, Wave31}
use Rattle.dsp_defs.proofs.Signal.{values-add}
use Rattle.dsp_defs.proofs.SampleLaws.{flat_rows}
use Rattle.dsp_au.specs.Exchange.{exchanged, exchanged_first, exchanged_sample}
use Rattle.dsp_wave.proofs.SampleBytes.{within-bytes}

-- ---- bytes

abbrev pub Small : List ℕ → Type 0
Small bytes = (i : ℕ) → get_or bytes i 0 < 256

pub small-nil : Small []
small-nil i = omega arith

pub small-cons : (b : ℕ) (bytes : List ℕ) → b < 256 → Small bytes → Small (b ∷ bytes)
small-cons b bytes first later zero = first
small-cons b bytes first later (suc i) = later i

pub small-drop : (n : ℕ) (bytes : List ℕ) → Small bytes → Small (drop n bytes)
small-drop zero bytes h = h
small-drop (suc n) [] h = h
small-drop (suc n) (b ∷ bytes) h = small-drop n bytes (λ i. h (suc i))

pub small-take : (n : ℕ) (bytes : List ℕ) → Small bytes → Small (take n bytes)
small-take zero bytes h = small-nil
small-take (suc n) [] h = h
small-take (suc n) (b ∷ bytes) h = small-cons b (take n bytes) (h 0) (small-take n bytes (λ i. h (suc i)))

pub of_one : (P : List ℕ → Type 0) → ((a : ℕ) → a < 256 → P (a ∷ [])) → (bytes : List ℕ) → AreBytes 1 bytes → P bytes
of_one P p (a ∷ []) h = p a (h.1 0)
of_one P p bytes h = absurd (omega (arith, h.0))

pub of_two : (P : List ℕ → Type 0) → ((a b : ℕ) → a < 256 → b < 256 → P (a ∷ b ∷ [])) → (bytes : List ℕ) →
    AreBytes 2 bytes → P bytes
of_two P p (a ∷ b ∷ []) h = p a b (h.1 0) (h.1 1)
of_two P p bytes h = absurd (omega (arith, h.0))

pub of_three : (P : List ℕ → Type 0) → ((a b c : ℕ) → a < 256 → b < 256 → c < 256 → P (a ∷ b ∷ c ∷ [])) →
    (bytes : List ℕ) → AreBytes 3 bytes → P bytes
of_three P p (a ∷ b ∷ c ∷ []) h = p a b c (h.1 0) (h.1 1) (h.1 2)
of_three P p bytes h = absurd (omega (arith, h.0))

pub of_four : (P : List ℕ → Type 0) → ((a b c d : ℕ) → a < 256 → b < 256 → c < 256 → d < 256 → P (a ∷ b ∷ c ∷ d ∷ []))
    → (bytes : List ℕ) → AreBytes 4 bytes → P bytes
of_four P p (a ∷ b ∷ c ∷ d ∷ []) h = p a b c d (h.1 0) (h.1 1) (h.1 2) (h.1 3)
of_four P p bytes h = absurd (omega (arith, h.0))

-- ---- one sample

one_out : (b : ℕ) → b < 256 → to_be_bytes w8 (of_z w8 (pos b -ℤ pos 128)) ≡ (b + 128) % 256 ∷ []
one_out b h = let same : of_z w8 (pos b -ℤ pos 128) % 256 ≡ (b + 128) % 256 = omega (arith, ints) in
    ap (λ n. n ∷ []) same

one_in : (b : ℕ) → b < 256 → nat_abs (to_z w8 (from_be_bytes w8 (b ∷ [])) +ℤ pos 128) ∷ [] ≡ (b + 128) % 256 ∷ []
one_in b h =
    let value : from_be_bytes w8 (b ∷ []) ≡ b = omega arith in
    let same : nat_abs (to_z w8 b +ℤ pos 128) ≡ (b + 128) % 256 = omega (arith, ints, of_z-to_z w8 b h) in
    ap (λ n. nat_abs (to_z w8 n +ℤ pos 128) ∷ []) value ∙ ap (λ n. n ∷ []) same

two_out : (a b : ℕ) → a < 256 → b < 256 → to_be_bytes w16 (of_z w16 (to_z w16 (from_le_bytes w16 (a ∷ b ∷ [])))) ≡ b ∷
    a ∷ []
two_out a b ha hb =
    let n = from_le_bytes w16 (a ∷ b ∷ []) in
    let few : n < 2 ^ 16 = omega arith in
    let same : n ≡ from_be_bytes w16 (b ∷ a ∷ []) = omega arith in
    be_bytes_2 (b ∷ a ∷ []) _ refl (small-cons b (a ∷ []) hb (small-cons a [] ha small-nil))
    (of_z-to_z w16 n few ∙ same)

two_in : (a b : ℕ) → a < 256 → b < 256 → to_le_bytes w16 (of_z w16 (to_z w16 (from_be_bytes w16 (a ∷ b ∷ [])))) ≡ b ∷
    a ∷ []
two_in a b ha hb =
    let n = from_be_bytes w16 (a ∷ b ∷ []) in
    let few : n < 2 ^ 16 = omega arith in
    let same : n ≡ from_le_bytes w16 (b ∷ a ∷ []) = omega arith in
    le_bytes_2 (b ∷ a ∷ []) _ refl (small-cons b (a ∷ []) hb (small-cons a [] ha small-nil))
    (of_z-to_z w16 n few ∙ same)

four_out : (a b c d : ℕ) → a < 256 → b < 256 → c < 256 → d < 256
    → to_be_bytes w32 (of_z w32 (to_z w32 (from_le_bytes w32 (a ∷ b ∷ c ∷ d ∷ [])))) ≡ d ∷ c ∷ b ∷ a ∷ []
four_out a b c d ha hb hc hd =
    let n = from_le_bytes w32 (a ∷ b ∷ c ∷ d ∷ []) in
    let few : n < 2 ^ 32 = omega arith in
    let same : n ≡ from_be_bytes w32 (d ∷ c ∷ b ∷ a ∷ []) = omega arith in
    be_bytes_4 (d ∷ c ∷ b ∷ a ∷ []) _ refl (small-cons d (c ∷ b ∷ a ∷ []) hd
    (small-cons c (b ∷ a ∷ []) hc (small-cons b (a ∷ []) hb (small-cons a [] ha small-nil))))
    (of_z-to_z w32 n few ∙ same)

four_in : (a b c d : ℕ) → a < 256 → b < 256 → c < 256 → d < 256
    → to_le_bytes w32 (of_z w32 (to_z w32 (from_be_bytes w32 (a ∷ b ∷ c ∷ d ∷ [])))) ≡ d ∷ c ∷ b ∷ a ∷ []
four_in a b c d ha hb hc hd =
    let n = from_be_bytes w32 (a ∷ b ∷ c ∷ d ∷ []) in
    let few : n < 2 ^ 32 = omega arith in
    let same : n ≡ from_le_bytes w32 (d ∷ c ∷ b ∷ a ∷ []) = omega arith in
    le_bytes_4 (d ∷ c ∷ b ∷ a ∷ []) _ refl (small-cons d (c ∷ b ∷ a ∷ []) hd
    (small-cons c (b ∷ a ∷ []) hc (small-cons b (a ∷ []) hb (small-cons a [] ha small-nil))))
    (of_z-to_z w32 n few ∙ same)

none : 0 < 256
none = omega arith

-- the bytes in the other form, of the sample that the bytes are
abbrev Exchanges : Direction → Coding → List ℕ → Type 0
Exchanges direction coding bytes =
    form_bytes_of (target_form direction) coding (form_sample_of (source_form direction) coding bytes) ≡
    exchanged_sample bytes

exchanges : (direction : Direction) (coding : Coding) (bytes : List ℕ) → IsWave coding →
    AreBytes (width coding) bytes → Exchanges direction coding bytes
exchanges WaveToAu Wave7 bytes wave h = of_one (Exchanges WaveToAu Wave7) one_out bytes h
exchanges WaveToAu Wave15 bytes wave h = of_two (Exchanges WaveToAu Wave15) two_out bytes h
exchanges WaveToAu Wave24 bytes wave h = of_three (Exchanges WaveToAu Wave24)
    (λ a b c ha hb hc. ap (take 3) (four_out 0 a b c none ha hb hc)) bytes h
exchanges WaveToAu Wave31 bytes wave h = of_four (Exchanges WaveToAu Wave31) four_out bytes h
exchanges AuToWave Wave7 bytes wave h = of_one (Exchanges AuToWave Wave7) one_in bytes h
exchanges AuToWave Wave15 bytes wave h = of_two (Exchanges AuToWave Wave15) two_in bytes h
exchanges AuToWave Wave24 bytes wave h = of_three (Exchanges AuToWave Wave24)
    (λ a b c ha hb hc. ap (drop 1) (four_in a b c 0 ha hb hc none)) bytes h
exchanges AuToWave Wave31 bytes wave h = of_four (Exchanges AuToWave Wave31) four_in bytes h
exchanges direction coding bytes wave h = absurd wave

-- ---- one sample after another

more_values : {A : Type 0} (f : A → List ℕ) (h : ℕ → A) (n : ℕ) →
    flat_map f (values (n + 1) h) ≡ flat_map f (values n h) ++ f (h n)
more_values f h n =
    let here : n + 0 ≡ n = omega arith in
    ap (flat_map f) (values-add n 1 h)
    ∙ flat_map-append f (values n h) (values 1 (λ i. h (n + i)))
    ∙ ap (λ ys. flat_map f (values n h) ++ ys) (append-nil (f (h (n + 0))) ∙ ap (λ k. f (h k)) here)

flat_values : {A B : Type 0} (f : A → List ℕ) (h : ℕ → A) (e : B → List ℕ) (p : ℕ → B) (n : ℕ) →
    ((i : ℕ) → i < n → f (h i) ≡ e (p i))
    → flat_map f (values n h) ≡ flat_map e (values n p)
flat_values f h e p zero same = refl
flat_values f h e p (suc n) same =
    let one : suc n ≡ n + 1 = omega arith in
    ap (λ k. flat_map f (values k h)) one
    ∙ more_values f h n
    ∙ ap₂ (λ xs ys. xs ++ ys) (flat_values f h e p n (λ i below. same i (omega arith))) (same n (omega arith))
    ∙ sym (more_values e p n)
    ∙ ap (λ k. flat_map e (values k p)) (sym one)

-- the bytes of whole frames in the other form are those of the same signal
pub exchanged-signal : (direction : Direction) (coding : Coding) (channels n : ℕ) (bytes : List ℕ) → IsWave coding →
    Small bytes
    → 0 < channels * width coding → 0 < width coding → length bytes ≡ n * (channels * width coding)
    → form_coded (target_form direction) coding (form_samples (source_form direction) coding channels bytes) ≡
    exchanged (width coding) bytes
exchanged-signal direction coding channels n bytes wave small some some_width whole =
    let w = width coding in
    let g = form_bytes_of (target_form direction) coding in
    let h : ℕ → ℤ = λ k. form_sample_of (source_form direction) coding (take w (drop (k * w) bytes)) in
    let size : length bytes ≡ n * channels * w = whole ∙ flat n channels w in
    let frames : length bytes / (channels * w) ≡ n = count n (channels * w) (length bytes) some whole in
    let samples : length bytes / w ≡ n * channels = count (n * channels) w (length bytes) some_width size in
    ap (λ (k : ℕ). flat_map (flat_map g) (values k (λ i. values channels (λ c. h (i * channels + c))))) frames
    ∙ flat_rows g h channels n
    ∙ flat_values g h exchanged_sample (λ i. take w (drop (i * w) bytes)) (n * channels)
    (λ i below.
    let room : i * w + w ≤ length bytes = omega (arith, within-bytes i (n * channels) w below, size) in
    exchanges direction coding (take w (drop (i * w) bytes)) wave (
      length-take-le w (drop (i * w) bytes) (omega (arith, room, length-drop (i * w) bytes)),
      small-take w (drop (i * w) bytes) (small-drop (i * w) bytes small),
    ))
    ∙ ap (λ (k : ℕ). exchanged_first k w bytes) (sym samples)
  where
    flat : (n channels w : ℕ) → n * (channels * w) ≡ n * channels * w
    flat n channels w = omega arith

    count : (n w k : ℕ) → 0 < w → k ≡ n * w → k / w ≡ n
    count n w k some is = grind arith

-- ---- one sample more, in place

one_more_part : (i g n : ℕ) (old now out front : List ℕ) → i < n → length now ≡ length old → n * g ≤ length old
    → take (i * g) now ≡ front → length out ≡ g
    → take ((i + 1) * g) (put_mid (i * g) g now out) ≡ front ++ out
one_more_part i g n old now out front below same room is long =
    let bound = within-bytes i n g below in
    let end : (i + 1) * g ≡ i * g + length out = rw long (omega arith) in
    take-put_mid (i * g) g now out ((i + 1) * g) end (omega (arith, bound, room, same)) ∙ ap (λ xs. xs ++ out) is

pub one_more_sample : (i w n : ℕ) (old now out : List ℕ) → i < n → length now ≡ length old → n * w ≤ length old
    → take (i * w) now ≡ exchanged_first i w old → drop (i * w) now ≡ drop (i * w) old → length out ≡ w →
    out ≡ exchanged_sample (take w (drop (i * w) now))
    → take ((i + 1) * w) (put_mid (i * w) w now out) ≡ exchanged_first (i + 1) w old
one_more_sample i w n old now out below same room front rest long is =
    one_more_part i w n old now out (exchanged_first i w old) below same room front long
    ∙ ap (λ ys. exchanged_first i w old ++ ys) (is ∙ ap (λ xs. exchanged_sample (take w xs)) rest)
    ∙ sym (more_values exchanged_sample (λ i. take w (drop (i * w) old)) i)

pub rest_stays : (i w n : ℕ) (old now out : List ℕ) → i < n → length now ≡ length old → n * w ≤ length old →
    drop (i * w) now ≡ drop (i * w) old → length out ≡ w
    → drop ((i + 1) * w) (put_mid (i * w) w now out) ≡ drop ((i + 1) * w) old
rest_stays i w n old now out below same room rest long =
    let bound = within-bytes i n w below in
    let next : (i + 1) * w ≡ i * w + w = omega arith in
    drop-put_mid (i * w) w now out ((i + 1) * w) (omega (arith, next)) (omega (arith, bound, room, same)) long
    ∙ ap (λ k. drop k now) next
    ∙ sym (drop-drop w (i * w) now)
    ∙ ap (drop w) rest
    ∙ drop-drop w (i * w) old
    ∙ ap (λ k. drop k old) (sym next)

-- ---- a group of samples more, in place

-- the first samples, and then as many of those behind them
exchanged_join : (a b w : ℕ) (bytes : List ℕ) →
    exchanged_first a w bytes ++ exchanged_first b w (drop (a * w) bytes) ≡ exchanged_first (a + b) w bytes
exchanged_join a b w bytes =
    let part : ℕ → List ℕ = λ i. take w (drop (i * w) bytes) in
    ap (λ ys. exchanged_first a w bytes ++ ys) (
    flat_values exchanged_sample (λ j. take w (drop (j * w) (drop (a * w) bytes))) exchanged_sample
    (λ j. part (a + j)) b (λ j below.
    let place : a * w + j * w ≡ (a + j) * w = omega arith in
    ap (λ xs. exchanged_sample (take w xs)) (drop-drop (j * w) (a * w) bytes ∙ ap (λ k. drop k bytes) place))
    )
    ∙ sym (flat_map-append exchanged_sample (values a part) (values b (λ j. part (a + j))))
    ∙ sym (ap (flat_map exchanged_sample) (values-add a b part))

-- Bytes behind the samples change nothing.
exchanged_taken : (n w k : ℕ) (bytes : List ℕ) → n * w ≤ k →
    exchanged_first n w (take k bytes) ≡ exchanged_first n w bytes
exchanged_taken n w k bytes room =
    flat_values exchanged_sample (λ i. take w (drop (i * w) (take k bytes))) exchanged_sample
    (λ i. take w (drop (i * w) bytes)) n (λ i below.
    let within = within-bytes i n w below in
    let split : i * w + (k - i * w) ≡ k = omega (arith, within, room) in
    ap (λ m. exchanged_sample (take w (drop (i * w) (take m bytes)))) (sym split)
    ∙ ap (λ xs. exchanged_sample (take w xs)) (drop-take (i * w) (k - i * w) bytes)
    ∙ ap exchanged_sample (take-take w (k - i * w) (drop (i * w) bytes) (omega (arith, within, room))))

pub one_more_group : (i k w g n : ℕ) (old now out : List ℕ) → k * w ≡ g → i < n → length now ≡ length old
    → n * g ≤ length old → take (i * g) now ≡ exchanged_first (i * k) w old → drop (i * g) now ≡ drop (i * g) old
    → length out ≡ g → out ≡ exchanged_first k w (take g (drop (i * g) now))
    → take ((i + 1) * g) (put_mid (i * g) g now out) ≡ exchanged_first ((i + 1) * k) w old
one_more_group i k w g n old now out size below same room front rest long is =
    let all : k * w ≤ g = omega (arith, size) in
    let place : i * g ≡ i * k * w = rw (sym size) (omega arith) in
    let more : i * k + k ≡ (i + 1) * k = omega arith in
    one_more_part i g n old now out (exchanged_first (i * k) w old) below same room front long
    ∙ ap (λ ys. exchanged_first (i * k) w old ++ ys) (
    is ∙ exchanged_taken k w g (drop (i * g) now) all ∙ ap (exchanged_first k w) (rest ∙ ap (λ m. drop m old) place)
    )
    ∙ exchanged_join (i * k) k w old
    ∙ ap (λ m. exchanged_first m w old) more

-- what is left behind the groups, in place
pub last_part : (a k w at rest : ℕ) (old now out : List ℕ) → a * w ≡ at → k * w ≡ rest → length old ≡ at + rest
    → length now ≡ length old → take at now ≡ exchanged_first a w old → drop at now ≡ drop at old
    → length out ≡ rest → out ≡ exchanged_first k w (drop at now)
    → put_mid at rest now out ≡ exchanged_first (a + k) w old
last_part a k w at rest old now out place size whole same front behind long is =
    let none : drop rest (drop at now) ≡ [] = length-zero (drop rest (drop at now)) (
    omega (arith, length-drop rest (drop at now), length-drop at now, same, whole)
    ) in
    ap₂ (λ xs ys. xs ++ ys) front (
    ap (λ ys. out ++ ys) none ∙ append-nil out ∙ is
    ∙ ap (exchanged_first k w) (behind ∙ ap (λ m. drop m old) (sym place))
    )
    ∙ exchanged_join a k w old
  where
    length-zero : (xs : List ℕ) → length xs ≡ 0 → xs ≡ []
    length-zero [] h = refl
    length-zero (x ∷ xs) h = absurd (omega (arith, h))

-- as many samples as there are, less those of the groups
pub samples_within : (a n w : ℕ) → 1 ≤ w → a * w ≤ n * w → a + (n - a) ≡ n
samples_within a n w some within = grind arith

pub samples_left : (a n w : ℕ) → 1 ≤ w → a * w ≤ n * w → (n - a) * w ≡ n * w - a * w
samples_left a n w some within =
    let all : n * w ≡ a * w + (n - a) * w = ap (λ m. m * w) (sym (samples_within a n w some within))
    ∙ both a (n - a) w in
    omega (arith, all)
  where
    both : (a m w : ℕ) → (a + m) * w ≡ a * w + m * w
    both a m w = omega arith

pub groups_end : (a k w g : ℕ) → k * w ≡ g → a * k * w ≡ a * g
groups_end a k w g size = rw (sym size) (omega arith)

pub counted : (k w q : ℕ) → 1 ≤ w → k * w ≡ q → q / w ≡ k
counted k w q some is = grind arith

-- ---- samples of three bytes in vectors

-- five samples in the other order, and the bytes that follow
abbrev fives : List ℕ → List ℕ
fives bytes = exchanged_first 5 3 bytes ++ drop 15 bytes

abbrev turned : List ℕ
turned = 2 ∷ 1 ∷ 0 ∷ 5 ∷ 4 ∷ 3 ∷ 8 ∷ 7 ∷ 6 ∷ 11 ∷ 10 ∷ 9 ∷ 14 ∷ 13 ∷ 12 ∷ 15 ∷ []

pub five_samples : (bytes : List ℕ) → length bytes ≡ 16 → pick_l 0 (take 16 bytes ++ take 16 bytes) turned ≡ fives bytes
five_samples bytes full =
    subst (λ xs. pick_l 0 (take 16 xs ++ take 16 xs) turned ≡ fives xs) (pick_l_whole 0 bytes 16 full) refl

-- three vectors written over each other, each of which leaves its last byte to the next
abbrev pub written : List ℕ → List ℕ → List ℕ → List ℕ → List ℕ
written bytes first second third =
    let one = put_chunk 0 (take 16 bytes) first ++ drop 16 bytes in
    let two = put_mid 15 16 one (put_chunk 0 (take 16 (drop 15 one)) second) in
    put_mid 30 16 two (put_chunk 0 (take 16 (drop 30 two)) third)

pub sixteen_samples : (bytes first second third : List ℕ) → length bytes ≡ 48 → first ≡ fives (take 16 bytes)
    → second ≡ fives (take 16 (drop 15 bytes)) → third ≡ fives (take 16 (drop 30 bytes))
    → swap (written bytes first second third) 45 47 ≡ exchanged 3 bytes
sixteen_samples bytes first second third full one two three =
    rw one (rw two (rw three (subst (λ xs.
    swap (written xs (fives (take 16 xs)) (fives (take 16 (drop 15 xs))) (fives (take 16 (drop 30 xs)))) 45 47 ≡
    exchanged 3 xs) (pick_l_whole 0 bytes 48 full) refl)))
