-- What the bytes of an input say, and what of it stays where more bytes stand behind them.
use Rattle.std.proofs.Common.{◌≡◌, ℕ, ◌+◌, ◌-◌, ◌*◌, ◌/◌, ◌<◌, ◌≤◌, List, [], ◌∷◌, ◌++◌, length, take, drop}
use Rattle.std.proofs.Common.{Option, Some, None, IfSome, Result, Ok, Err, refl, sym, ap, ◌∙◌, subst, arith}
use Rattle.std.proofs.Common.{append-nil, length-append, inl, inr}
use Rattle.std.proofs.lemmas.List.{take_all, take_at, drop-append-le, length-take, length-drop}
use Rattle.std.proofs.lemmas.Nat.{div-mul-add}
use Rattle.std.proofs.lemmas.List.{nil_from_length}
use Rattle.std.proofs.Math.Seq.{take-append-add}
use Rattle.std.specs.Io.KnownBytes.{IsAtEnd, prepend_known}
use Rattle.std.specs.Result.{IsOk, result_unwrap_or}
use Rattle.dsp_ports.specs.Ports.{SourceState, Gave}
use Rattle.dsp_defs.specs.Block.{Frame}
use Rattle.dsp_defs.specs.Bytes.{samples, width}
use Rattle.dsp_defs.specs.Output.{HasHeader, HeaderIsThere, header_by, input_header, input_signal, output}
use Rattle.dsp_defs.specs.Output.{sample_bytes, sample_bytes_at, wanted_of}
use Rattle.dsp_defs.specs.Wave.{header_of}
use Rattle.dsp_defs.specs.declared.format.InputKind.{InputKind}
use Rattle.dsp_defs.specs.declared.format.InputKind.TheVariants as kind
use Rattle.dsp_defs.specs.declared.limits.TheConstants.{MAX_INPUT}
use Rattle.dsp_defs.specs.declared.script.Script.{Script}
use Rattle.dsp_defs.specs.declared.wave.Header.{Header}
use Rattle.dsp_defs.specs.declared.wave.HeaderFault.{HeaderFault}
use Rattle.dsp_defs.proofs.CodingLemmas.{width-some}
use Rattle.dsp_defs.proofs.SampleLaws.{length-samples, samples-append, small_quotient}
use Rattle.dsp_defs.proofs.OutputLaws.{input_header-append}
use Rattle.dsp_input.specs.Taking.{HasFault, InLimit, IsTakenWhole, declared_bytes, frame_bytes, frames_in_bytes}
use Rattle.dsp_input.specs.Taking.{input_fault}
use Rattle.dsp_input.proofs.FaultLaws.{fault_by_header, no_samples}
use Rattle.dsp_unit.proofs.CostLaws.{quotient_more}

-- ---- numbers

whole_below : (n f : ℕ) → 0 < f → (n / f * f ≤ n) × (n < n / f * f + f)
whole_below n f some = grind (arith)

product_some : (a b : ℕ) → 1 ≤ a → 0 < b → 0 < a * b
product_some a b some more = grind (arith)

-- ---- headers

-- ---- whole frames that are followed by more bytes

-- what follows them among the samples
abbrev tail_of : Option ℕ → ℕ → List ℕ → List ℕ
tail_of None long more = more
tail_of (Some size) long more = take (size - long) more

-- they are among the declared samples
abbrev IsWithin : Option ℕ → ℕ → Type 0
IsWithin None long = Unit {0}
IsWithin (Some size) long = long ≤ size

module _ (given more : List ℕ) (start long : ℕ) (all : length given ≡ start + long) where
  behind : length (drop start given) ≡ long
  behind = omega (arith, all, length-drop start given)

  all_of : (size : Option ℕ) → IsWithin size long → sample_bytes_at start size given ≡ drop start given
  all_of None within = refl
  all_of (Some size) within = take_all size (drop start given) (omega (arith, within, behind))

  split_at : (size : Option ℕ) → IsWithin size long → sample_bytes_at start size (given ++ more) ≡ drop start given ++
      tail_of size long more
  split_at None within = drop-append-le start given more (omega (arith, all))
  split_at (Some size) within =
      let d = drop start given in
      let count : size ≡ length d + (size - long) = omega (arith, behind, within) in
      ap (take size) (drop-append-le start given more (omega (arith, all)))
      ∙ ap (λ n. take n (d ++ more)) count ∙ take-append-add d more (size - long)

module _ (script : Script) (given more : List ℕ) (has : HasHeader script given) (channels : 1 ≤ script.input.channels)
  where
    abbrev pub header : Header
    header = input_header script given

    abbrev pub frame : ℕ
    frame = frame_bytes script header.coding

    abbrev samples_of : List ℕ → List Frame
    samples_of bytes = samples header.coding script.input.channels bytes

    some : 0 < frame
    some = product_some script.input.channels (width header.coding) channels (width-some header.coding)

    -- the signal of all bytes goes on from that of the whole frames that were taken
    goes_on : (k : ℕ) → length given ≡ header.start + k * frame → IsWithin header.size (k * frame)
        → input_signal script (given ++ more) ≡ input_signal script given ++ samples_of
        (tail_of header.size (k * frame) more)
    goes_on k all within =
        let d = drop header.start given in
        let tail = tail_of header.size (k * frame) more in
        ap (λ (h : Header). samples h.coding script.input.channels (sample_bytes h (given ++ more)))
        (input_header-append script given more has)
        ∙ ap samples_of (split_at given more header.start (k * frame) all header.size within)
        ∙ samples-append header.coding script.input.channels k d tail some
        (behind given more header.start (k * frame) all)
        ∙ ap (λ l. samples_of l ++ samples_of tail) (sym (all_of given more header.start (k * frame) all header.size
        within))

    counted : frames_in_bytes script given ≡ length (sample_bytes header given) / frame
    counted = length-samples header.coding script.input.channels (sample_bytes header given)

    -- where the first frames were taken, they are the first ones of all bytes
    pub first_stays : (frames : ℕ) → length given ≡ header.start + frames * frame →
        frames ≡ frames_in_bytes script given → take frames (input_signal script (given ++ more)) ≡ input_signal script
        given
    first_stays frames all count =
        ap (take frames) (goes_on frames all (within header.size (count ∙ counted)))
        ∙ take_at (input_signal script given) (samples_of (tail_of header.size (frames * frame) more))
        frames (sym count)
      where
        within : (size : Option ℕ) → frames ≡ length (sample_bytes_at header.start size given) / frame →
            IsWithin size (frames * frame)
        within None is = tt
        within (Some size) is =
            let below = whole_below (length (take size (drop header.start given))) frame some in
            let same : frames * frame ≡ length (take size (drop header.start given)) / frame * frame =
            ap (λ n. n * frame) is in
            omega (arith, below.0, same, length-take size (drop header.start given))

    abbrev IsWhole : Option ℕ → SourceState → Type 0
    IsWhole declared now = elim declared [ Some size ↦ length given ≡ header.start + size | None ↦ IsAtEnd now.left ]

    -- where all samples were taken, they are those of all bytes
    pub whole_stays : (now : SourceState) → now.left ≡ Some more → IsTakenWhole script given now →
        input_signal script (given ++ more) ≡ input_signal script given
    whole_stays now left whole = by header.size refl whole
      where
        by : (size : Option ℕ) → header.size ≡ size → IsWhole
            (elim size [ Some n ↦ Some (n / frame * frame) | None ↦ None ]) now
            → input_signal script (given ++ more) ≡ input_signal script given
        by None is ended =
            let nothing : more ≡ [] = subst IsAtEnd left ended in
            ap (λ l. input_signal script (given ++ l)) nothing ∙ ap (input_signal script) (append-nil given)
        by (Some n) is count =
            let below = whole_below n frame some in
            let within : IsWithin header.size (n / frame * frame) =
            subst (λ size. IsWithin size (n / frame * frame)) (sym is) below.0 in
            let tail = take (n - n / frame * frame) more in
            let few : length tail < frame = omega (arith, below.1, length-take (n - n / frame * frame) more) in
            let nothing : samples_of tail ≡ [] = nil_from_length (samples_of tail)
            (length-samples header.coding script.input.channels tail ∙ small_quotient (length tail) frame few) in
            goes_on (n / frame) count within
            ∙ ap (λ size. input_signal script given ++ samples_of (tail_of size (n / frame * frame) more)) is
            ∙ ap (λ l. input_signal script given ++ l) nothing
            ∙ append-nil (input_signal script given)

-- ---- frames of more bytes

sample_count_stays : (header : Header) (bytes more : List ℕ) →
    length (sample_bytes header bytes) ≤ length (sample_bytes header (bytes ++ more))
sample_count_stays header bytes more = by header.size
  where
    by : (size : Option ℕ) → length {A = ℕ} (elim size [
      | Some n ↦ take n (drop header.start bytes)
      | None ↦ drop
          header.start bytes
    ]) ≤ length {A = ℕ} (elim size [
      | Some n ↦ take n (drop header.start (bytes ++ more))
      | None ↦
          drop header.start (bytes ++ more)
    ])
    by None = omega (
      arith,
      length-drop header.start bytes,
      length-drop header.start (bytes ++ more),
      length-append bytes more,
    )
    by (Some n) = omega (
      arith,
      length-take n (drop header.start bytes),
      length-take n (drop header.start (bytes ++ more)),
      length-drop header.start bytes,
      length-drop header.start (bytes ++ more),
      length-append bytes more,
    )

-- the bytes of a frame of an input
abbrev pub frame_in : Script → List ℕ → ℕ
frame_in script bytes = frame_bytes script (input_header script bytes).coding

pub frames_of_bytes : (script : Script) (bytes : List ℕ) →
    frames_in_bytes script bytes ≡ length (sample_bytes (input_header script bytes) bytes) / frame_in script bytes
frames_of_bytes script bytes = length-samples (input_header script bytes).coding script.input.channels
    (sample_bytes (input_header script bytes) bytes)

-- without a header there are none
pub no_frames : (script : Script) (bytes : List ℕ) → (HasHeader script bytes → ⊥) → frames_in_bytes script bytes ≡ 0
no_frames script bytes none = frames_of_bytes script bytes ∙
    ap (λ n. n / frame_in script bytes) (by script.input.kind none) ∙ none_of_them (frame_in script bytes)
  where
    none_of_them : (frame : ℕ) → 0 / frame ≡ 0
    none_of_them frame = omega arith

    by_said : (said : Result Header (HeaderFault × ℕ)) → (IsOk said → ⊥) →
        length (sample_bytes (result_unwrap_or said (no_samples (wanted_of script) bytes)) bytes) ≡ 0
    by_said (Ok header) not = absurd (not refl)
    by_said (Err fault) not = omega (arith, length-drop (length bytes) bytes)

    by : (k : InputKind) → (HeaderIsThere k (wanted_of script) bytes → ⊥) →
        length (sample_bytes (header_by k (wanted_of script) bytes) bytes) ≡ 0
    by (kind.Raw rate) not = absurd (not tt)
    by kind.Wave not = by_said (header_of bytes (wanted_of script)) not

-- more bytes have no fewer frames
pub frames_stay : (script : Script) (bytes more : List ℕ) → HasHeader script bytes →
    frames_in_bytes script bytes ≤ frames_in_bytes script (bytes ++ more)
frames_stay script bytes more has =
    let header = input_header script bytes in
    let frame = frame_bytes script header.coding in
    let later : frames_in_bytes script (bytes ++ more) ≡ length (sample_bytes header (bytes ++ more)) / frame =
    frames_of_bytes script (bytes ++ more) ∙ ap (λ (h : Header). length (sample_bytes h (bytes ++ more)) / frame_bytes
    script h.coding) (input_header-append script bytes more has) in
    omega (
      arith,
      frames_of_bytes script bytes,
      later,
      quotient_more (length (sample_bytes header bytes))
          (length (sample_bytes header (bytes ++ more))) frame (sample_count_stays header bytes more),
    )

-- ---- the whole of the samples

pub quotient_is : (n f m : ℕ) → 0 < f → n * f ≤ m → m < n * f + f → m / f ≡ n
quotient_is n f m some low high =
    let split : m ≡ n * f + (m - n * f) = omega (arith, low) in
    ap (λ k. k / f) split ∙ div-mul-add n f (m - n * f) (omega (arith, low, high))

factor_some : (a b : ℕ) → 0 < a * b → 1 ≤ a
factor_some a b some = grind (arith)

module _ (script : Script) (given more : List ℕ) (has : HasHeader script given) (some : 0 < frame_in script given) where
  pub signal_stays : (now : SourceState) → now.left ≡ Some more → IsTakenWhole script given now →
      input_signal script (given ++ more) ≡ input_signal script given
  signal_stays = whole_stays script given more has (factor_some script.input.channels
      (width (input_header script given).coding) some)

  pub output_stays : (now : SourceState) → now.left ≡ Some more → IsTakenWhole script given now →
      output script (given ++ more) ≡ output script given
  output_stays now left whole = rw (signal_stays now left whole, input_header-append script given more has) refl

-- ---- faults

-- a fault that was found is that of the whole input
pub fault_told : (script : Script) (given more : List ℕ) (now : SourceState) (fault : HeaderFault × ℕ) →
    now.left ≡ Some more → HasFault script given now fault → input_fault script (given ++ more) ≡ Some fault
fault_told script given more now fault left (inl all) = all more
fault_told script given more now fault left (inr (ended, here)) =
    let nothing : more ≡ [] = subst IsAtEnd left ended in
    ap (λ more. input_fault script (given ++ more)) nothing ∙ ap (input_fault script) (append-nil given) ∙ here

pub some_not_none : (found : Option (HeaderFault × ℕ)) (fault : HeaderFault × ℕ) → found ≡ Some fault → found ≡ None → ⊥
some_not_none found fault is none = let same : Some fault ≡ None = sym is ∙ none in cc

-- without a fault the header is there
pub good_header : (script : Script) (bytes : List ℕ) → input_fault script bytes ≡ None → HasHeader script bytes
good_header script bytes none = by script.input.kind refl
  where
    by_said : (said : Result Header (HeaderFault × ℕ)) → script.input.kind ≡ kind.Wave →
        header_of bytes (wanted_of script) ≡ said → IsOk (header_of bytes (wanted_of script))
    by_said (Ok _) wave is = subst IsOk (sym is) refl
    by_said (Err fault) wave is = absurd (some_not_none (input_fault script bytes) fault
        (fault_by_header script bytes fault.0 fault.1 wave is) none)

    by : (k : InputKind) → script.input.kind ≡ k → HasHeader script bytes
    by (kind.Raw rate) is = subst (λ k. HeaderIsThere k (wanted_of script) bytes) (sym is) tt
    by kind.Wave is = subst (λ k. HeaderIsThere k (wanted_of script) bytes) (sym is)
        (by_said (header_of bytes (wanted_of script)) is refl)

-- ---- what an input that stops a stream isn't

-- not all is within the limit
module _ (script : Script) (given more : List ℕ) (all : length given ≡ MAX_INPUT) where
  abbrev EndsWithin : Option ℕ → Type 0
  EndsWithin declared = elim declared [
    | Some size ↦ HasHeader script (take MAX_INPUT (given ++ more)) ×
        ((input_header script (given ++ more)).start + size ≤ MAX_INPUT)
    | None ↦ length (given ++ more) < MAX_INPUT
  ]

  pub past_limit : (HasHeader script given → IfSome (declared_bytes script (input_header script given))
      (λ size. length given < (input_header script given).start + size)) → InLimit script (given ++ more) → ⊥
  past_limit wanted limit =
      by (declared_bytes script (input_header script (given ++ more)))
      (λ has. subst (λ (h : Header). IfSome (declared_bytes script h) (λ size. length given < h.start + size))
      (sym (input_header-append script given more has)) (wanted has)) limit
    where
      by : (declared : Option ℕ) → (HasHeader script given →
          IfSome declared (λ size. length given < (input_header script (given ++ more)).start + size)) →
          EndsWithin declared → ⊥
      by None here short = absurd (omega (arith, short, all, length-append given more))
      by (Some size) here within = absurd (omega (
        arith,
        here (subst (HasHeader script) (take_at given more MAX_INPUT all) within.0),
        all,
        within.1,
      ))

-- ---- where the input tells its bytes

pub told : (input now : SourceState) (given : List ℕ) (P : List ℕ → Type 0) → Gave input now given →
    ((more : List ℕ) → now.left ≡ Some more → P (given ++ more)) → IfSome input.left P
told input now given P gave holds = subst (λ left. IfSome left P) (sym gave.front) (by now.left refl)
  where
    by : (left : Option (List ℕ)) → now.left ≡ left → IfSome (prepend_known given left) P
    by None is = tt
    by (Some more) is = holds more is
