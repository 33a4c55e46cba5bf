-- A generated input is whole, within the limit, and of as many frames as were asked for.
use Rattle.std.proofs.Common.{◌≡◌, ℕ, ◌+◌, ◌-◌, ◌*◌, ◌/◌, ◌<◌, ◌≤◌, nat_lt, Bool, false, List, ◌++◌, if◌then◌else◌}
use Rattle.std.proofs.Common.{length, take, drop, Some, None, Ok, Err, refl, sym, ap, ◌∙◌, subst, arith, append_assoc}
use Rattle.std.proofs.Common.{length-append}
use Rattle.std.proofs.lemmas.Bool.Decides.{nat_tests}
use Rattle.std.proofs.lemmas.List.{take_all, length-take, length-drop}
use Rattle.std.proofs.lemmas.Nat.{div-mul-add}
use Rattle.std.specs.Result.{result_unwrap_or}
use Rattle.dsp_defs.specs.Bytes.{coded, coding_of, width, word_bytes}
use Rattle.dsp_defs.specs.Generator.{generated, generated_bytes}
use Rattle.dsp_defs.specs.Output.{HasHeader, header_by, input_header, sample_bytes, wanted_of}
use Rattle.dsp_defs.specs.Wave.{header_of, wave_header, pad}
use Rattle.dsp_defs.specs.declared.format.Coding.{Coding}
use Rattle.dsp_defs.specs.declared.format.Container.{Container}
use Rattle.dsp_defs.specs.declared.format.Fmt.{Fmt}
use Rattle.dsp_defs.specs.declared.format.Fmt.TheVariants.{Q7, Q15, Q31}
use Rattle.dsp_defs.specs.declared.format.Container.TheVariants as container
use Rattle.dsp_defs.specs.declared.format.InputKind.{InputKind}
use Rattle.dsp_defs.specs.declared.format.InputKind.TheVariants as kind
use Rattle.dsp_defs.specs.declared.limits.TheConstants.{MAX_CHANNELS, MAX_GENERATED, MAX_INPUT, GENERATED_RATE}
use Rattle.dsp_defs.specs.declared.script.Script.{Script}
use Rattle.dsp_defs.specs.declared.wave.Header.{Header}
use Rattle.dsp_defs.specs.declared.wave.HeaderFault.TheVariants.{Short}
use Rattle.dsp_defs.proofs.CodingLemmas.{width-coding_of}
use Rattle.dsp_defs.proofs.WaveLaws.{header_of-wave_header}
use Rattle.dsp_wave.proofs.GeneratorLemmas.{data_small, header_fits, generated-made, generated_bytes-small, length-made}
use Rattle.dsp_session.specs.Session.{frame_bytes}
use Rattle.dsp_session.specs.Stream.{declared_bytes, frames_in_bytes, in_whole_frames, input_fault, short_fault}
use Rattle.dsp_session.specs.Stream.{wave_fault}
use Rattle.dsp_input.specs.Taking.{InLimit}
use Rattle.dsp_input.proofs.InputLaws.{frames_of_bytes, good_header}
use Rattle.dsp_unit.proofs.ChainPlaces.{product_some}
use Rattle.std.proofs.Math.Nat.{div-mul-le_self}

-- all declared bytes are there
not_short : (script : Script) (coding : Coding) (rate declared count : ℕ) → 44 + declared ≤ count →
    short_fault script (record { rate = rate; start = 44; size = Some declared; coding = coding }) count ≡ None
not_short script coding rate declared count all =
    let floor = div-mul-le_self declared (frame_bytes script coding) in
    let test : nat_lt count (44 + in_whole_frames script coding declared) ≡ false = grind (arith, nat_tests) in
    ap (λ (b : Bool). if b then Some (Short declared (count - 44), count) else None) test

module _ (script : Script) (seed frames : ℕ) (few : (1 ≤ script.input.channels) ×
    (script.input.channels ≤ MAX_CHANNELS)) (short : frames ≤ MAX_GENERATED) where
  abbrev bytes : List ℕ
  bytes = generated_bytes script.input seed frames

  abbrev size : ℕ
  size = frames * script.input.channels * word_bytes script.input.format

  small : size ≤ MAX_GENERATED * MAX_CHANNELS * word_bytes Q31
  small = data_small script.input.format script.input.channels frames few.1 short

  samples_size : (c : Container) → length (coded (coding_of c script.input.format)
      (generated script.input.format script.input.channels seed frames)) ≡ size
  samples_size c =
      ap length (generated-made c script.input.format script.input.channels seed frames) ∙
      length-made c script.input.format seed (frames * script.input.channels)

  of_kind : (k : InputKind) → script.input.kind ≡ k → bytes ≡ generated_bytes
      (record { kind = k; format = script.input.format; channels = script.input.channels }) seed frames
  of_kind k is = ap (λ (k : InputKind). generated_bytes
      (record { kind = k; format = script.input.format; channels = script.input.channels }) seed frames) is

  -- ---- a WAVE input

  abbrev head : List ℕ
  head = wave_header container.Wave script.input.format script.input.channels GENERATED_RATE (Some frames)

  abbrev behind : List ℕ
  behind = coded (coding_of container.Wave script.input.format)
      (generated script.input.format script.input.channels seed frames) ++ pad script.input.format script.input.channels
      (Some frames)

  wave_bytes : script.input.kind ≡ kind.Wave → bytes ≡ head ++ behind
  wave_bytes is =
      of_kind kind.Wave is
      ∙ append_assoc head (coded (coding_of container.Wave script.input.format)
      (generated script.input.format script.input.channels seed frames))
      (pad script.input.format script.input.channels (Some frames))

  abbrev header : Header
  header = record {
    rate = GENERATED_RATE;
    start = 44;
    size = Some size;
    coding =
        coding_of container.Wave script.input.format;
  }

  wave_header_of : script.input.kind ≡ kind.Wave → header_of bytes (wanted_of script) ≡ Ok header
  wave_header_of is =
      ap (λ bytes. header_of bytes (wanted_of script)) (wave_bytes is)
      ∙ header_of-wave_header script.input.format script.input.channels GENERATED_RATE (Some frames) behind few.1
      (omega arith) container.Wave (header_fits script.input.format script.input.channels frames few.1 short)

  wave_length : script.input.kind ≡ kind.Wave → 44 + size ≤ length bytes
  wave_length is =
      let samples = coded (coding_of container.Wave script.input.format)
      (generated script.input.format script.input.channels seed frames) in
      let last = pad script.input.format script.input.channels (Some frames) in
      let first : length head ≡ 44 = refl in
      omega (
        arith,
        ap length (wave_bytes is),
        length-append head behind,
        length-append samples last,
        samples_size container.Wave,
        first,
      )

  -- ---- all inputs

  pub generated_good : input_fault script bytes ≡ None
  generated_good = by script.input.kind refl
    where
      by : (k : InputKind) → script.input.kind ≡ k → input_fault script bytes ≡ None
      by (kind.Raw rate) is = ap (λ k. elim k [ kind.Raw rate ↦ None | kind.Wave ↦ wave_fault script bytes ]) is
      by kind.Wave is =
          ap (λ k. elim k [ kind.Raw rate ↦ None | kind.Wave ↦ wave_fault script bytes ]) is
          ∙ ap (λ r. elim r [ Err fault ↦ Some fault | Ok header ↦ short_fault script header (length bytes) ])
          (wave_header_of is)
          ∙ not_short script (coding_of container.Wave script.input.format) GENERATED_RATE size (length bytes)
          (wave_length is)

  raw_header_is : (rate : ℕ) → script.input.kind ≡ kind.Raw rate →
      input_header script bytes ≡ record {
        rate = rate;
        start = 0;
        size = None;
        coding =
            coding_of container.Raw script.input.format;
      }
  raw_header_is rate is = ap (λ k. header_by k (wanted_of script) bytes) is

  wave_header_is : script.input.kind ≡ kind.Wave → input_header script bytes ≡ header
  wave_header_is is =
      ap (λ k. header_by k (wanted_of script) bytes) is
      ∙ ap (λ r. result_unwrap_or r (record {
        rate = 0;
        start = length bytes;
        size = None;
        coding =
            coding_of container.Wave script.input.format;
      })) (wave_header_of is)

  raw_length : (rate : ℕ) → script.input.kind ≡ kind.Raw rate → length bytes ≡ size
  raw_length rate is = ap length (of_kind (kind.Raw rate) is) ∙ samples_size container.Raw

  generated_has : HasHeader script bytes
  generated_has = good_header script bytes generated_good

  all_bytes : length bytes ≤ MAX_INPUT
  all_bytes = generated_bytes-small script.input seed frames few.1 short

  abbrev EndsWithin : Header → Type 0
  EndsWithin h = elim (declared_bytes script h) [
    | Some size ↦ HasHeader script (take MAX_INPUT bytes) ×
        (h.start + size ≤ MAX_INPUT)
    | None ↦ length bytes < MAX_INPUT
  ]

  -- what follows for the header
  abbrev Says : Header → Type 0
  Says h = EndsWithin h × (length (sample_bytes h bytes) ≡ size) ×
      (script.input.channels * width h.coding ≡ script.input.channels * word_bytes script.input.format)

  says : Says (input_header script bytes)
  says = by script.input.kind refl
    where
      has : HasHeader script (take MAX_INPUT bytes)
      has = subst (HasHeader script) (sym (take_all MAX_INPUT bytes (omega (arith, all_bytes)))) generated_has

      by : (k : InputKind) → script.input.kind ≡ k → Says (input_header script bytes)
      by (kind.Raw rate) is =
          subst Says (sym (raw_header_is rate is)) (
            omega (arith, raw_length rate is, small),
            raw_length rate is,
            ap (λ w. script.input.channels * w) (width-coding_of container.Raw script.input.format),
          )
      by kind.Wave is =
          subst Says (sym (wave_header_is is)) (
            (
              has,
              omega (
                arith,
                small,
                div-mul-le_self size (frame_bytes script
                    (coding_of container.Wave script.input.format)),
              ),
            ),
            omega (arith, length-take size (drop 44 bytes), length-drop 44 bytes, wave_length is),
            ap (λ w. script.input.channels * w) (width-coding_of container.Wave script.input.format),
          )

  pub generated_in_limit : InLimit script bytes
  generated_in_limit = says.0

  -- as many frames as were asked for
  some : 0 < script.input.channels * word_bytes script.input.format
  some = product_some script.input.channels (word_bytes script.input.format) few.0 (word-some script.input.format)
    where
      word-some : (format : Fmt) → 0 < word_bytes format
      word-some Q7 = omega arith
      word-some Q15 = omega arith
      word-some Q31 = omega arith

  whole : size / (script.input.channels * word_bytes script.input.format) ≡ frames
  whole =
      let frame = script.input.channels * word_bytes script.input.format in
      let same : size ≡ frames * frame + 0 = grind arith in
      ap (λ n. n / frame) same ∙ div-mul-add frames frame 0 some

  pub generated_frames : frames_in_bytes script bytes ≡ frames
  generated_frames = frames_of_bytes script bytes ∙ (λ i. says.1 i / says.2 i) ∙ whole
