-- No more frames stand in some bytes than as many of the narrowest coding have, and more frames cost no less.
use Rattle.std.proofs.Common.{◌∷◌, ◌≡◌, ◌⊎◌, ℕ, zero, suc, ◌*◌, ◌/◌, ◌<◌, ◌≤◌, List, [], length, take, drop, Option}
use Rattle.std.proofs.Common.{Some, None, Result, Ok, Err, refl, sym, ap, ◌∙◌, subst, arith, inl, inr}
use Rattle.std.proofs.lemmas.List.{length-take, length-drop}
use Rattle.std.specs.Result.{result_unwrap_or}
use Rattle.dsp_defs.specs.Output.{header_by, wanted_of, input_header, sample_bytes}
use Rattle.dsp_defs.specs.Bytes.{coding_of, format_in, width}
use Rattle.dsp_defs.specs.Wave.{file_coding, header_of}
use Rattle.dsp_defs.specs.declared.format.Coding.{Coding}
use Rattle.dsp_defs.specs.declared.format.Coding.TheVariants.{Raw7, Raw15, Raw31, Wave7, Wave15, Wave24, Wave31}
use Rattle.dsp_defs.specs.declared.format.Container.TheVariants as container
use Rattle.dsp_defs.specs.declared.format.Fmt.{Fmt}
use Rattle.dsp_defs.specs.declared.format.InputKind.{InputKind}
use Rattle.dsp_defs.specs.declared.format.InputKind.TheVariants as kind
use Rattle.dsp_defs.specs.declared.script.Script.{Script}
use Rattle.dsp_defs.specs.declared.wave.Header.{Header}
use Rattle.dsp_defs.specs.declared.wave.HeaderFault.{HeaderFault}
use Rattle.dsp_defs.specs.declared.wave.Wanted.{Wanted}
use Rattle.dsp_defs.proofs.HeaderCoding.{header_coding}
use Rattle.dsp_defs.proofs.CodingLemmas.{width-some, format_in-coding_of}
use Rattle.std.proofs.Math.Nat.{mul-le-mul}
use Rattle.dsp_unit.proofs.CostLaws.{block_cost_grows, quotient_more}
use Rattle.dsp_session.specs.Session.{frame_bytes}
use Rattle.dsp_session.specs.Stream.{frames_in_bytes}
use Rattle.dsp_input.proofs.FaultLaws.{no_samples}
use Rattle.dsp_input.proofs.InputLaws.{frame_in, frames_of_bytes}
use Rattle.dsp_laws.specs.Taken.{least_frame_bytes, narrowest_coding}
use Rattle.dsp_defs.specs.Block.{format_after, channels_after}
use Rattle.dsp_defs.specs.Shape.{given_frames}
use Rattle.dsp_defs.specs.Cost.{cost}
use Rattle.dsp_defs.specs.declared.script.Block.{Block}
use Rattle.dsp_defs.specs.declared.script.Block.TheVariants.{ConvPartial}
use Rattle.dsp_unit.proofs.TurnLaws.{whole_frames_more}

sample_count_within : (header : Header) (bytes : List ℕ) → length (sample_bytes header bytes) ≤ length bytes
sample_count_within header bytes = by header.size
  where
    by : (size : Option ℕ) → length {A = ℕ} (elim size [
      | Some n ↦ take n (drop header.start bytes)
      | None ↦ drop
          header.start bytes
    ]) ≤ length bytes
    by None = omega (arith, length-drop header.start bytes)
    by (Some n) = omega (arith, length-take n (drop header.start bytes), length-drop header.start bytes)

-- no coding of a format is narrower than the narrowest
narrow : (coding : Coding) → width (file_coding (format_in coding) 24) ≤ width coding
narrow Raw7 = omega arith
narrow Raw15 = omega arith
narrow Raw31 = omega arith
narrow Wave7 = omega arith
narrow Wave15 = omega arith
narrow Wave24 = omega arith
narrow Wave31 = omega arith

narrow_of : (format : Fmt) (coding : Coding) → format_in coding ≡ format → width (file_coding format 24) ≤ width coding
narrow_of format coding is = subst (λ f. width (file_coding f 24) ≤ width coding) is (narrow coding)

narrowest_is_least : (k : InputKind) (format : Fmt) (channels : ℕ) (bytes : List ℕ)
    → width (narrowest_coding (record { kind = k; format = format; channels = channels })) ≤ width
    (header_by k (record { format = format; channels = channels }) bytes).coding
narrowest_is_least (kind.Raw rate) format channels bytes = omega arith
narrowest_is_least kind.Wave format channels bytes = by (record { format = format; channels = channels })
    (header_of bytes (record { format = format; channels = channels })) refl refl
  where
    by : (wanted : Wanted) (said : Result Header (HeaderFault × ℕ)) → header_of bytes wanted ≡ said →
        wanted.format ≡ format
        → width (file_coding format 24) ≤ width (result_unwrap_or said (no_samples wanted bytes)).coding
    by wanted (Ok header) is same = narrow_of format header.coding (header_coding bytes wanted header is ∙ same)
    by wanted (Err fault) is same = narrow_of format (coding_of container.Wave wanted.format)
        (format_in-coding_of container.Wave wanted.format ∙ same)

quotient_less : (n c w v : ℕ) → v ≤ w → 0 < v → n / (c * w) ≤ n / (c * v)
quotient_less n zero w v narrower some = (let none : (k : ℕ) → 0 * k ≡ 0 = λ k. omega arith in
    rw (none w, none v) (omega arith))
quotient_less n (suc c) w v narrower some =
    let one : 1 ≤ suc c = omega arith in
    let same : suc c ≤ suc c = omega arith in
    let size : 0 < suc c * v = mul-le-mul one some in
    let less : suc c * v ≤ suc c * w = mul-le-mul same narrower in
    by (suc c * w) (suc c * v) size less
  where
    by : (f g : ℕ) → 0 < g → g ≤ f → n / f ≤ n / g
    by f g some less = grind arith

pub frames_within : (script : Script) (bytes : List ℕ) →
    frames_in_bytes script bytes ≤ length bytes / least_frame_bytes script
frames_within script bytes =
    let input = script.input in
    let frame = frame_in script bytes in
    let most = quotient_less (length bytes) input.channels (width (input_header script bytes).coding)
    (width (narrowest_coding input)) (narrowest_is_least input.kind input.format input.channels bytes)
    (width-some (narrowest_coding input)) in
    omega (
      arith,
      frames_of_bytes script bytes,
      most,
      quotient_more
          (length (sample_bytes (input_header script bytes) bytes)) (length bytes) frame
          (sample_count_within (input_header script bytes) bytes),
    )

-- raw bytes are all samples
pub raw_frames : (script : Script) (bytes : List ℕ) →
    (script.input.kind ≡ kind.Wave) ⊎ (frames_in_bytes script bytes ≡ length bytes / least_frame_bytes script)
raw_frames script bytes = by script.input.kind refl
  where
    by : (k : InputKind) → script.input.kind ≡ k → (script.input.kind ≡ kind.Wave) ⊎
        (frames_in_bytes script bytes ≡ length bytes / least_frame_bytes script)
    by kind.Wave is = inl is
    by (kind.Raw rate) is =
        inr (frames_of_bytes script bytes
        ∙ ap (λ k. length (sample_bytes (header_by k (wanted_of script) bytes) bytes) / frame_bytes script
        (header_by k (wanted_of script) bytes).coding) is
        ∙ ap (λ k. length bytes / frame_bytes script (narrowest_coding
        (record { kind = k; format = script.input.format; channels = script.input.channels }))) (sym is))

given_frames_more : (block : Block) (n m : ℕ) → n ≤ m → given_frames block n ≤ given_frames block m
given_frames_more (ConvPartial first count taps) n m h = omega arith
given_frames_more block n m h = whole_frames_more block n m h

pub cost_more : (format : Fmt) (channels : ℕ) (blocks : List Block) (n m : ℕ) → n ≤ m →
    cost format channels blocks n ≤ cost format channels blocks m
cost_more format channels [] n m h = omega arith
cost_more format channels (block ∷ blocks) n m h =
    let given = given_frames_more block n m h in
    let here = block_cost_grows format channels block n m (given_frames block n) (given_frames block m) h given in
    let later = cost_more (format_after format block) (channels_after channels block) blocks (given_frames block n)
    (given_frames block m) given in
    omega (arith, here, later)
