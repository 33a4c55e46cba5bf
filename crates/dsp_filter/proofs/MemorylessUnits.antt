-- Units of blocks without memory, from what their loops write.
use Rattle.std.proofs.Common.{◌≡◌, ◌∙◌, ap, sym, subst, ℕ, ◌+◌, ◌*◌, ◌/◌, ◌%◌, ◌<◌, ◌≤◌, ℤ, pos, List, map, take}
use Rattle.std.proofs.Common.{length, arith, mul-one, length-take-le}
use Rattle.std.specs.Prelude.{All, FitsSigned}
use Rattle.std.proofs.lemmas.List.{length-map, get_or-take, get_or_default}
use Rattle.std.proofs.lemmas.List.FromFn.{length-map-range_with_len, fill_by_all}
use Rattle.std.proofs.Math.Nat.{mul-div_cancel, div-lt_iff_lt-mul}
use Rattle.std.proofs.lemmas.Nat.{mul-add-lt}
use Rattle.std.specs.Int.{Width}
use Rattle.dsp_defs.specs.Signal.{sample, values}
use Rattle.dsp_defs.specs.Formats.{word}
use Rattle.dsp_defs.specs.Block.{Frame, one_sample, frames_in, given_frame, format_after, channels_after}
use Rattle.dsp_defs.specs.Counts.{Counts}
use Rattle.dsp_unit.specs.Unit.{UnitState, IsSignal, IsOutput, Feeds}
use Rattle.dsp_defs.proofs.Signal.{values_cong}
use Rattle.dsp_defs.proofs.FrameLemmas.{length-frames_in, frames_in-map, frames_in-pairs}
use Rattle.dsp_defs.proofs.Causal.{map-values}
use Rattle.dsp_unit.specs.Memoryless.{IsMemoryless}
use Rattle.dsp_unit.proofs.MemorylessLaws.{IsIdle, memoryless-feeds}
use Rattle.dsp_defs.specs.declared.format.Fmt.{Fmt}
use Rattle.dsp_defs.specs.declared.script.Block.{Block}
use Rattle.dsp_filter.specs.Memoryless.{Gives}

-- ---- what a loop writes

module _ (format : Fmt) (channels : ℕ) (block : Block) (taken given : List ℤ) where
  -- one number for each
  pub map-gives : (f : ℤ → ℤ) → IsSignal format channels taken → channels_after channels block ≡ channels →
      ((x : Frame) → given_frame format block x ≡ map f x) →
      given ≡ map f taken → All (FitsSigned (word (format_after format block))) given →
      Gives format channels block taken given
  map-gives f signal same each is fits = record {
    frames = rw (same, is) (frames_in-map f channels taken ∙
        ap (λ g. map g (frames_in channels taken)) (λ i x. sym (each x) i));
    whole_frames = rw (same, is) (length-map taken f ∙ signal.whole_frames);
    in_format = fits;
  }

  -- one number for each frame of two
  pub pairs-give : (f : ℤ → ℤ → ℤ) → channels ≡ 2 → channels_after channels block ≡ 1 →
      ((x : Frame) → given_frame format block x ≡ one_sample (f (sample x 0) (sample x 1))) →
      given ≡ values (length taken / 2) (λ n. f (sample taken (n * 2)) (sample taken (n * 2 + 1))) →
      All (FitsSigned (word (format_after format block))) given → Gives format channels block taken given
  pairs-give f two one each is fits = record {
    frames = rw (one, is) (frames_in-pairs f taken ∙ ap
        (λ c. map (λ (x : Frame). one_sample (f (sample x 0) (sample x 1))) (frames_in c taken)) (sym two) ∙
        ap (λ g. map g (frames_in channels taken)) (λ i x. sym (each x) i));
    whole_frames = rw (one, is) (length-map-range_with_len _ 0 (length taken / 2) ∙ sym (length-frames_in 2 taken) ∙
        ap (λ c. length (frames_in c taken)) (sym two) ∙ sym (mul-one (length (frames_in channels taken))));
    in_format = fits;
  }

-- frames of `width` numbers, place by place
module _ (format : Fmt) (channels width count : ℕ) (block : Block) (taken out : List ℤ) (some : 0 < width)
    (whole : length taken / channels ≡ count) (room : count * width ≤ length out) where
  cut_length : length (take (count * width) out) ≡ count * width
  cut_length = length-take-le (count * width) out room

  cut_sample : (n c : ℕ) → n < count → c < width → sample (take (count * width) out) (n * width + c) ≡ sample out
      (n * width + c)
  cut_sample n c h k = get_or-take (count * width) out (n * width + c) (pos 0)
      (let bound = mul-add-lt n width c count h k in omega (arith, bound))

  taken_frame : ℕ → Frame
  taken_frame n = values channels (λ k. sample taken (n * channels + k))

  frames_given : ((x : Frame) → length (given_frame format block x) ≡ width) →
      ((n c : ℕ) → n < count → c < width → sample out (n * width + c) ≡ sample
      (given_frame format block (taken_frame n)) c) →
      frames_in width (take (count * width) out) ≡ map (given_frame format block) (frames_in channels taken)
  unfolding frames_in taken_frame
  frames_given long here =
      let size : length (take (count * width) out) / width ≡ count = ap (λ l. l / width) cut_length ∙
      mul-div_cancel count some in
      ap (λ size. values size (λ n. values width (λ c. sample (take (count * width) out) (n * width + c)))) size
      ∙ values_cong count (λ n. values width (λ c. sample (take (count * width) out) (n * width + c)))
      (λ n. given_frame format block (taken_frame n))
      (λ n h. sym (fill_by_all (λ c. sample (take (count * width) out) (n * width + c))
      (given_frame format block (taken_frame n)) width (pos 0) (long (taken_frame n))
      (λ c k. sym (cut_sample n c h k ∙ here n c h k))))
      ∙ sym (map-values (given_frame format block) 0 count taken_frame)
      ∙ ap (λ m. map (given_frame format block) (values m taken_frame)) (sym whole)

  cut_fits : (w : Width) → ((n c : ℕ) → n < count → c < width → FitsSigned w (sample out (n * width + c))) →
      All (FitsSigned w) (take (count * width) out)
  cut_fits w fits k d h =
      let below : k < count * width = rw cut_length at h in
      let split : k / width * width + k % width ≡ k = omega (arith, some) in
      let n : k / width < count = (div-lt_iff_lt-mul some).1 below in
      let c : k % width < width = omega (arith, some) in
      subst (FitsSigned w) (ap (sample out) split ∙ sym (get_or-take (count * width) out k (pos 0) below) ∙
      sym (get_or_default (take (count * width) out) k d (pos 0) h)) (fits (k / width) (k % width) n c)

  pub places-give : channels_after channels block ≡ width →
      ((x : Frame) → length (given_frame format block x) ≡ width) →
      ((n c : ℕ) → n < count → c < width → sample out (n * width + c) ≡ sample
      (given_frame format block (values channels (λ k. sample taken (n * channels + k)))) c) →
      ((n c : ℕ) → n < count → c < width → FitsSigned (word (format_after format block)) (sample out (n * width + c)))
      → Gives format channels block taken (take (count * width) out)
  unfolding taken_frame
  places-give wide long here fits = record {
    frames = rw wide (frames_given long here);
    whole_frames = rw (wide, length-frames_in channels taken, whole) cut_length;
    in_format = cut_fits (word (format_after format block)) fits;
  }

-- ---- units

module _ (u : UnitState) (price : ℕ) (taken given : List ℤ) (gives : Gives u.format u.channels u.block taken given)
  where
    same : length (frames_in (channels_after u.channels u.block) given) ≡ length (frames_in u.channels taken)
    same = ap length gives.frames ∙ length-map (frames_in u.channels taken) (given_frame u.format u.block)

    pub gives-output : (most : ℕ) → length (frames_in u.channels taken) ≤ most → IsOutput u most given
    gives-output most fits = record {
      signal = record {
        whole_frames = gives.whole_frames ∙ ap (λ n. n * channels_after u.channels u.block) (sym same);
        in_format = gives.in_format;
      };
      at_most = omega (arith, same, fits);
    }

    pub gives-fed : IsIdle u → IsMemoryless u.format u.channels u.block price (given_frame u.format u.block) →
        (before after : Counts) →
        after.multiplies ≡ before.multiplies + length (frames_in u.channels taken) * price →
        after.turns ≤ before.turns + length (frames_in u.channels taken) * price →
        Feeds u u (frames_in u.channels taken) (frames_in (channels_after u.channels u.block) given) before after
    gives-fed idle m before after counted turned =
        rw gives.frames (memoryless-feeds u price (given_frame u.format u.block) idle m (frames_in u.channels taken)
        before after counted turned)
