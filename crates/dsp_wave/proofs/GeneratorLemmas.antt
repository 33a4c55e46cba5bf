-- The bytes of a generated input, one sample after another.
use Rattle.std.proofs.Common.{◌≡◌, ◌∙◌, ap, sym, refl, ℕ, zero, suc, ◌+◌, ◌*◌, ◌%◌, ◌^◌, ◌≤◌, ℤ, List, [], ◌∷◌, ◌++◌}
use Rattle.std.proofs.Common.{length, arith, add-zero, append_assoc, append-nil, length-append, length-drop, ◌-◌, ◌<◌}
use Rattle.std.proofs.Common.{pos, to_z, take, drop, Some, Bool, true, false, not, nat_eq, if◌then◌else◌}
use Rattle.std.proofs.Common.{mod-eq_of_lt}
use Rattle.std.specs.List.{flat_map}
use Rattle.std.specs.Int.{Width, int_wrap}
use Rattle.arrayvec.specs.ArrayVec.{ArrayVec}
use mir.Val.{bits as bits_of}
use Rattle.std.proofs.lemmas.List.{take_at, take-append-drop, length-take-le, drop-drop, take_rest, drop_all}
use Rattle.std.proofs.Math.Nat.{mul-le-mul}
use Rattle.dsp_ports.specs.Ports.{Gave}
use Rattle.dsp_defs.specs.Numbers.{wrap}
use Rattle.dsp_defs.specs.Wave.{HeaderFits, data_size, wave_header, pad}
use Rattle.dsp_defs.specs.Generator.{generated_bytes}
use Rattle.dsp_defs.specs.declared.limits.TheConstants.{GENERATED_RATE, MAX_CHANNELS, MAX_GENERATED, MAX_INPUT}
use Rattle.dsp_defs.specs.declared.format.InputKind.{InputKind}
use Rattle.dsp_defs.specs.declared.format.InputKind.TheVariants as Kinds
use Rattle.dsp_defs.specs.declared.format.Input.{Input}
use Rattle.std.proofs.lemmas.Grind.{flat_map-append}
use Rattle.dsp_defs.specs.Bytes.{bytes_of, coded, coding_of, word_bytes}
use Rattle.dsp_defs.specs.Signal.{values}
use Rattle.dsp_defs.specs.Generator.{generator_state, state_sample, generated}
use Rattle.dsp_defs.specs.declared.format.Fmt.{Fmt}
use Rattle.dsp_defs.specs.declared.format.Fmt.TheVariants.{Q31}
use Rattle.dsp_defs.specs.declared.format.Container.{Container}
use Rattle.dsp_defs.specs.declared.format.Container.TheVariants.{Wave, Raw}
use Rattle.dsp_defs.proofs.CodingLemmas.{length-bytes_of, width-coding_of, word_bytes-small}
use Rattle.dsp_defs.proofs.Signal.{values-add}
use Rattle.dsp_wave.specs.Generated.{next_state, made, to_come}

-- the states from a later one on
state-add : (s m n : ℕ) → generator_state s (m + n) ≡ generator_state (generator_state s m) n
state-add s m zero = ap (generator_state s) (add-zero m)
state-add s m (suc n) = let e : m + suc n ≡ suc (m + n) = omega arith in ap (generator_state s) e ∙
    ap next_state (state-add s m n)

state-next : (s n : ℕ) → generator_state (next_state s) n ≡ next_state (generator_state s n)
state-next s n = sym (state-add s 1 n) ∙ (let e : 1 + n ≡ suc n = omega arith in ap (generator_state s) e)

module _ (container : Container) (format : Fmt) where
  made-add : (s m n : ℕ) → made container format s (m + n) ≡ made container format s m ++ made container format
      (generator_state s m) n
  made-add s zero n = (let e : 0 + n ≡ n = omega arith in ap (made container format s) e)
  made-add s (suc m) n =
      let e : suc m + n ≡ suc (m + n) = omega arith in
      let first = bytes_of (coding_of container format) (state_sample format (next_state s)) in
      ap (made container format s) e
      ∙ ap (λ l. first ++ l) (made-add (next_state s) m n ∙
      ap (λ t. made container format (next_state s) m ++ made container format t n) (state-next s m))
      ∙ sym (append_assoc first (made container format (next_state s) m)
      (made container format (next_state (generator_state s m)) n))

  made-more : (s n : ℕ) → made container format s (n + 1) ≡ made container format s n ++ bytes_of
      (coding_of container format) (state_sample format (next_state (generator_state s n)))
  made-more s n = made-add s n 1 ∙ ap (λ l. made container format s n ++ l) (append-nil _)

  -- a frame's bytes
  frame-made : (seed k n : ℕ) → flat_map (bytes_of (coding_of container format))
      (values n (λ c. state_sample format (generator_state seed (suc (k + c))))) ≡ made container format
      (generator_state seed k) n
  frame-made seed k zero = refl
  frame-made seed k (suc n) =
      let f : ℕ → ℤ = λ c. state_sample format (generator_state seed (suc (k + c))) in
      let s = generator_state seed k in
      let one : suc n ≡ n + 1 = omega arith in
      let place : k + (n + 0) ≡ k + n = omega arith in
      ap (λ m. flat_map (bytes_of (coding_of container format)) (values m f)) one
      ∙ ap (flat_map (bytes_of (coding_of container format))) (values-add n 1 f)
      ∙ flat_map-append (bytes_of (coding_of container format)) (values n f) (f (n + 0) ∷ [])
      ∙ ap (λ l. l ++ flat_map (bytes_of (coding_of container format)) (f (n + 0) ∷ [])) (frame-made seed k n)
      ∙ ap (λ l. made container format s n ++ l) (append-nil (bytes_of (coding_of container format) (f (n + 0))))
      ∙ ap (λ j. made container format s n ++ bytes_of (coding_of container format)
      (state_sample format (next_state (generator_state seed j)))) place
      ∙ ap (λ t. made container format s n ++ bytes_of (coding_of container format)
      (state_sample format (next_state t))) (state-add seed k n)
      ∙ sym (made-more s n)
      ∙ ap (made container format s) (sym one)

  -- and those of the file
  pub generated-made : (channels seed frames : ℕ) → coded (coding_of container format)
      (generated format channels seed frames) ≡ made container format seed (frames * channels)
  generated-made channels seed zero = (let none : 0 ≡ 0 * channels = omega arith in
      ap (made container format seed) none)
  generated-made channels seed (suc frames) =
      let row : ℕ → List ℤ = λ n. values channels (λ c. state_sample format
      (generator_state seed (suc (n * channels + c)))) in
      let bytes : List ℤ → List ℕ = λ frame. flat_map (bytes_of (coding_of container format)) frame in
      let one : suc frames ≡ frames + 1 = omega arith in
      let place : frames + 0 ≡ frames = omega arith in
      let size : frames * channels + channels ≡ suc frames * channels = grind arith in
      ap (λ m. flat_map bytes (values m row)) one
      ∙ ap (flat_map bytes) (values-add frames 1 row)
      ∙ flat_map-append bytes (values frames row) (row (frames + 0) ∷ [])
      ∙ ap (λ l. l ++ flat_map bytes (row (frames + 0) ∷ [])) (generated-made channels seed frames)
      ∙ ap (λ l. made container format seed (frames * channels) ++ l)
      (append-nil (bytes (row (frames + 0))) ∙ ap (λ j. bytes (row j)) place ∙
      frame-made seed (frames * channels) channels)
      ∙ sym (made-add seed (frames * channels) channels)
      ∙ ap (made container format seed) size

-- ---- the sample of a state

pub wrap-cast : (w : Width) (n : ℕ) → n < 2 ^ bits_of w → wrap w (pos n) ≡ to_z w n
unfolding int_wrap
wrap-cast w n below = ap (to_z w) (mod-eq_of_lt below)

-- ---- what is given

-- the next sample made ready
pub refilled : (container : Container) (format : Fmt) (s n given : ℕ) (ready : List ℕ) (last : List ℕ) →
    length ready ≤ given → 0 < n
    → bytes_of (coding_of container format) (state_sample format (next_state s)) ++
    (made container format (next_state s) (n - 1) ++ last) ≡ drop given ready ++ (made container format s n ++ last)
refilled container format s zero given ready last all some = absurd (omega (arith, some))
refilled container format s (suc n) given ready last all some =
    let first = bytes_of (coding_of container format) (state_sample format (next_state s)) in
    let e : suc n - 1 ≡ n = omega arith in
    ap (λ m. first ++ (made container format (next_state s) m ++ last)) e
    ∙ sym (append_assoc first (made container format (next_state s) n) last)
    ∙ ap (λ l. l ++ (made container format s (suc n) ++ last)) (sym (drop_all given ready all))

-- the bytes that a read copied were the next of those that were ready
pub Gave-ready : (ready : List ℕ) (given count taken : ℕ) (ended strayed now told : Bool) (last copied into : List ℕ)
    → given + count ≤ length ready →
    copied ≡ take count (take (length ready - given) (drop given ready))
    → told ≡ strayed → Gave (record
    { left = Some (drop given ready ++ last); taken = taken; faults = 0; ended = ended; strayed = strayed })
    (record {
      left = Some (drop (given + count) ready ++ last);
      taken = taken + count;
      faults = 0;
      ended = now;
      strayed =
          told;
    })
    (take count (copied ++ into))
Gave-ready ready given count taken ended strayed now told last copied into fits is same_told =
    let rest = drop given ready in
    let front : copied ≡ take count rest = is ∙ ap (take count) (take_rest ready given) in
    let long : length copied ≡ count = ap length front ∙
    length-take-le count rest (omega (arith, length-drop given ready)) in
    let whole : take count (copied ++ into) ≡ copied = take_at copied into count long in
    record {
      front =
          ap Some (ap (λ l. l ++ last) (sym (take-append-drop count rest) ∙
          (λ i. (sym (whole ∙ front)) i ++ drop-drop count given ready i))
          ∙ append_assoc (take count (copied ++ into)) (drop (given + count) ready) last);
      count = ap (λ n. taken + n) (sym (ap length whole ∙ long));
      in_order = λ _. same_told;
    }

-- ---- the whole input

pub length-made : (container : Container) (format : Fmt) (s n : ℕ) →
    length (made container format s n) ≡ n * word_bytes format
length-made container format s zero = omega arith
length-made container format s (suc n) =
    let first = bytes_of (coding_of container format) (state_sample format (next_state s)) in
    let long = length-bytes_of (coding_of container format) (state_sample format (next_state s)) ∙
    width-coding_of container format in
    let size : word_bytes format + n * word_bytes format ≡ suc n * word_bytes format = grind arith in
    length-append first (made container format (next_state s) n)
    ∙ (λ i. long i + length-made container format (next_state s) n i)
    ∙ size

-- a generated input is small
pub data_small : (format : Fmt) (channels frames : ℕ) → channels ≤ MAX_CHANNELS → frames ≤ MAX_GENERATED
    → frames * channels * word_bytes format ≤ MAX_GENERATED * MAX_CHANNELS * word_bytes Q31
data_small format channels frames few short = mul-le-mul (mul-le-mul short few) (word_bytes-small format)

pub header_fits : (format : Fmt) (channels frames : ℕ) → channels ≤ MAX_CHANNELS → frames ≤ MAX_GENERATED →
    HeaderFits Wave format channels (Some frames)
header_fits format channels frames few short = (let small = data_small format channels frames few short in
    omega (arith, small))

pad_small : (format : Fmt) (channels frames : ℕ) → length (pad format channels (Some frames)) ≤ 1
pad_small format channels frames = go (nat_eq (data_size format channels (Some frames) % 2) 0)
  where
    go : (b : Bool) → length {A = ℕ} (if b then [] else (0 ∷ [])) ≤ 1
    go true = omega arith
    go false = omega arith

bytes_small : (kind : InputKind) (format : Fmt) (channels seed frames : ℕ) → channels ≤ MAX_CHANNELS →
    frames ≤ MAX_GENERATED
    → length (generated_bytes (record { kind = kind; format = format; channels = channels }) seed frames) ≤ MAX_INPUT
bytes_small (Kinds.Raw rate) format channels seed frames few short =
    let small = data_small format channels frames few short in
    let size = ap length (generated-made Raw format channels seed frames) ∙
    length-made Raw format seed (frames * channels) in
    omega (arith, small, size)
bytes_small Kinds.Wave format channels seed frames few short =
    let small = data_small format channels frames few short in
    let size = ap length (generated-made Wave format channels seed frames) ∙
    length-made Wave format seed (frames * channels) in
    let samples = coded (coding_of Wave format) (generated format channels seed frames) in
    let last = pad format channels (Some frames) in
    let header = wave_header Wave format channels GENERATED_RATE (Some frames) in
    let little = pad_small format channels frames in
    let head : length header ≡ 44 = refl in
    omega (arith, small, size, little, head, length-append (header ++ samples) last, length-append header samples)

pub generated_bytes-small : (input : Input) (seed frames : ℕ) → input.channels ≤ MAX_CHANNELS →
    frames ≤ MAX_GENERATED → length (generated_bytes input seed frames) ≤ MAX_INPUT
generated_bytes-small input seed frames few short = bytes_small input.kind input.format input.channels seed frames few
    short

swapped : {A : Type 0} (b : Bool) (x y : A) → (if not b then x else y) ≡ (if b then y else x)
swapped true x y = refl
swapped false x y = refl

pub begins-raw : (input : Input) (seed frames samples rate : ℕ) (made_of : Container × ArrayVec ℕ × Bool)
    (ready : ArrayVec ℕ)
    → input.kind ≡ Kinds.Raw rate → made_of ≡ (Raw, ready, false) → ready.items ≡ [] → samples ≡ frames * input.channels
    → to_come (record {
      container = made_of.0;
      format = input.format;
      ready = made_of.1;
      given = 0;
      state =
          seed;
      samples = samples;
      has_pad = made_of.2;
    }) ≡ generated_bytes input seed frames
begins-raw input seed frames samples rate made_of ready kind is empty count =
    (λ i. (is i).1.items ++ (made (is i).0 input.format seed samples ++ (if (is i).2 then (0 ∷ []) else [])))
    ∙ (λ i. empty i ++ (made Raw input.format seed (count i) ++ []))
    ∙ append-nil (made Raw input.format seed (frames * input.channels))
    ∙ sym (generated-made Raw input.format input.channels seed frames)
    ∙ ap (λ (k : InputKind). generated_bytes (record { kind = k; format = input.format; channels = input.channels })
    seed frames) (sym kind)

pub begins-wave : (input : Input) (seed frames samples size : ℕ) (made_of : Container × ArrayVec ℕ × Bool)
    (ready : ArrayVec ℕ)
    → input.kind ≡ Kinds.Wave → made_of ≡ (Wave, ready, not (nat_eq (size % 2) 0)) →
    ready.items ≡ wave_header Wave input.format input.channels GENERATED_RATE (Some frames) →
    size ≡ data_size input.format input.channels (Some frames)
    → samples ≡ frames * input.channels
    → to_come (record {
      container = made_of.0;
      format = input.format;
      ready = made_of.1;
      given = 0;
      state =
          seed;
      samples = samples;
      has_pad = made_of.2;
    }) ≡ generated_bytes input seed frames
begins-wave input seed frames samples size made_of ready kind is header known count =
    let head = wave_header Wave input.format input.channels GENERATED_RATE (Some frames) in
    let last = pad input.format input.channels (Some frames) in
    let samples_are = generated-made Wave input.format input.channels seed frames in
    (λ i. (is i).1.items ++ (made (is i).0 input.format seed samples ++ (if (is i).2 then (0 ∷ []) else [])))
    ∙ (λ i. header i ++ (made Wave input.format seed (count i) ++ swapped (nat_eq (known i % 2) 0) (0 ∷ []) [] i))
    ∙ ap (λ l. head ++ (l ++ last)) (sym samples_are)
    ∙ sym (append_assoc head (coded (coding_of Wave input.format) (generated input.format input.channels seed frames))
    last)
    ∙ ap (λ (k : InputKind). generated_bytes (record { kind = k; format = input.format; channels = input.channels })
    seed frames) (sym kind)
