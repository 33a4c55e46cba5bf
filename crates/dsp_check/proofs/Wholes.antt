-- What the definitions say of a block that works on each channel, on whole signals.
use Rattle.std.proofs.Common.{◌≡◌, ◌∙◌, ap, refl, sym, subst, ℕ, ◌+◌, ◌-◌, ◌<◌, ◌≤◌, ℤ, List, []}
use Rattle.std.proofs.Common.{length, get_or, map, arith, rules}
use Rattle.std.specs.Prelude.{Option, Some, None, IsSome}
use Rattle.std.proofs.lemmas.List.{length-map, get_or-map, get_or_default}
use Rattle.std.proofs.lemmas.List.FromFn.{fill_by_all}
use Rattle.dsp_defs.specs.Block.{applied, channel, channels_after, format_after, frames_of}
use Rattle.dsp_defs.specs.Block.{whole, whole_channel}
use Rattle.dsp_defs.specs.Cost.{whole_block_cost}
use Rattle.dsp_defs.specs.Shape.{whole_frames}
use Rattle.dsp_defs.specs.declared.flow.Flow.{Flow}
use Rattle.dsp_defs.specs.declared.format.Fmt.{Fmt}
use Rattle.dsp_defs.specs.declared.script.Block.{Block}
use Rattle.dsp_defs.specs.declared.script.Block.TheVariants.{Add, Fir}
use Rattle.dsp_defs.proofs.FrameLaws.{IsCounted, whole_channel_counted}
use Rattle.dsp_check.specs.Channels.{AreChannels, InFormat, frame_count}
use Rattle.dsp_check.specs.Evaluating.{Gives}
use Rattle.dsp_check.proofs.Signals.{channel-frames}

-- a block that works on each channel leaves the format and the channels
kept : (format : Fmt) (block : Block) (c : ℕ) → IsSome (whole_channel format block) →
    (format_after format block ≡ format) × (channels_after c block ≡ c)
kept format Add c h = absurd (cc)
kept format block c h = (first_of (search rules, cc), first_of (search rules, cc))

-- its products are those of each channel
pub costs-add : (format : Fmt) (block : Block) (c k n : ℕ) → IsSome (whole_channel format block) →
    whole_block_cost format c block n + whole_block_cost format k block n ≡ whole_block_cost format (c + k) block n
costs-add format (Fir taps) c k n h = grind arith
costs-add format block c k n h = first_of (omega arith, grind arith, cc)

pub costs-within : (format : Fmt) (block : Block) (c count n : ℕ) → IsSome (whole_channel format block) → c < count →
    whole_block_cost format c block n + whole_block_cost format 1 block n ≤ whole_block_cost format count block n
costs-within format block c count n h less =
    let all : c + 1 + (count - (c + 1)) ≡ count = omega (arith, less) in
    let same = ap (λ k. whole_block_cost format k block n) all in
    omega (arith, costs-add format block c 1 n h, costs-add format block (c + 1) (count - (c + 1)) n h)

-- what a block gives of one channel
abbrev pub of_channel : Option (List ℤ → List ℤ) → List ℤ → List ℤ
of_channel None = λ x. x
of_channel (Some f) = f

pub some-is : (o : Option (List ℤ → List ℤ)) → IsSome o → o ≡ Some (of_channel o)
some-is None some = absurd (cc)
some-is (Some f) some = refl

module _ (flow : Flow) (block : Block) (some : IsSome (whole_channel flow.format block)) (x : List (List ℤ))
    (are : AreChannels x) where
  abbrev given : List ℤ → List ℤ
  given = of_channel (whole_channel flow.format block)

  long : (c : ℕ) → c < length x → length (get_or (map given x) c []) ≡ whole_frames block (frame_count x)
  long c inside =
      ap length (get_or-map given x c [] [] inside)
      ∙ subst (λ o. IsCounted o (whole_frames block)) (some-is _ some) (whole_channel_counted flow.format block)
      (get_or x c [])
      ∙ ap (whole_frames block) (are.alike c [] inside)

  pub are-by-channel : AreChannels (map given x)
  are-by-channel = record {
    some = omega (arith, length-map x given, are.some);
    few = omega (arith, length-map x given, are.few);
    alike = λ c d inside. ap length (get_or_default (map given x) c d [] inside)
        ∙ long c (omega (arith, inside, length-map x given)) ∙ sym (long 0 are.some);
  }

  pub gives-by-channel : flow.channels ≡ length x → InFormat flow.format (map given x) →
      Gives flow block x (map given x)
  gives-by-channel here fits = record {
    values =
        ap frames_of (fill_by_all (λ c. given (channel c (frames_of x))) (map given x) (length x) []
        (length-map x given)
        (λ c inside. get_or-map given x c [] [] inside ∙ ap given (sym (channel-frames x c are inside))))
        ∙ ap (λ o. applied flow.format (length x) block o (frames_of x)) (sym (some-is _ some))
        ∙ ap (λ c. whole flow.format c block (frames_of x)) (sym here);
    channels_are = length-map x given ∙ sym here ∙ sym (kept flow.format block flow.channels some).1;
    in_format = subst (λ f. InFormat f (map given x)) (sym (kept flow.format block flow.channels some).0) fits;
  }
