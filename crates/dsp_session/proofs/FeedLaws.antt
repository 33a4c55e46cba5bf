-- What one call of a session gives, and where it is refused.
use Rattle.std.proofs.Common.{◌≡◌, ℕ, zero, suc, ◌+◌, ◌<◌, ◌≤◌, List, [], ◌∷◌, ◌++◌, length}
use Rattle.std.proofs.Common.{sym, ap, ◌∙◌, subst, arith}
use Rattle.std.proofs.lemmas.List.{nil_from_length}
use Rattle.dsp_defs.specs.Block.{Frame, live, live_chain, format_after, channels_after}
use Rattle.dsp_defs.specs.Counts.{Counts}
use Rattle.dsp_defs.specs.Cost.{live_cost}
use Rattle.dsp_defs.specs.Output.{output_coding, live_bytes}
use Rattle.dsp_defs.specs.Shape.{gathered, whole_frames, HasChannels}
use Rattle.dsp_defs.specs.declared.format.Fmt.{Fmt}
use Rattle.dsp_defs.specs.declared.script.Block.{Block}
use Rattle.dsp_defs.specs.declared.script.Block.TheVariants.{Correlate}
use Rattle.dsp_defs.specs.declared.script.Script.{Script}
use Rattle.dsp_unit.proofs.ChainPlaces.{live_chain-nil, has_channels}
use Rattle.dsp_defs.proofs.FrameLaws.{length-live}
use Rattle.dsp_defs.proofs.SampleLaws.{coded-append}
use Rattle.dsp_chain.specs.Chain.{made_of}
use Rattle.dsp_session.specs.SessionState.{SessionState}
use Rattle.dsp_session.specs.Session.{IsReady, StandsFor, SameSession, Feeds, signal, output_bytes}
use Rattle.dsp_session.specs.Session.{live_values, live_cost_of, turns_of}
use Rattle.dsp_session.specs.Passing.{PassCosts}

quiet_chain : (format : Fmt) (channels : ℕ) (blocks : List Block) (n : ℕ) → HasChannels channels blocks →
    0 < gathered blocks n → (x : List Frame) → live_chain format channels blocks x ≡ []
quiet_chain format channels [] n has some x = absurd (omega (arith, some))
quiet_chain format zero (block ∷ blocks) n has some x = absurd (omega (arith, has.0))
quiet_chain format (suc channels) (Correlate taps ∷ blocks) n has some x =
    ap (live_chain (format_after format (Correlate taps)) (channels_after (suc channels) (Correlate taps)) blocks)
    (nil_from_length _ (length-live format channels (Correlate taps) x))
    ∙ live_chain-nil (format_after format (Correlate taps)) (channels_after (suc channels) (Correlate taps)) blocks
quiet_chain format (suc channels) (block ∷ blocks) n has some x =
    quiet_chain (format_after format block) (channels_after (suc channels) block) blocks (whole_frames block n) has.1
    some (live format (suc channels) block x)

pub quiet_script : (script : Script) (block : ℕ) → IsReady script block → (n : ℕ) → 0 < gathered script.blocks n →
    (x : List Frame) → live_bytes script x ≡ []
quiet_script script block ready n some x =
    let fit = ready.sound.1.fit in
    ap (output_bytes script) (quiet_chain script.input.format script.input.channels script.blocks n
    (has_channels (record { format = script.input.format; channels = script.input.channels }) script.blocks
    fit.chain fit.channels.0) some x)

-- what a session that stands for x has made
pub made_live : (s : SessionState) (x : List Frame) → StandsFor s x → made_of s.chain ≡ live_cost_of s.script (length x)
made_live s x stands = stands.live.made ∙ (λ i. live_cost (stands.holds.input i).format
    (stands.holds.input i).channels (stands.holds.blocks i) (stands.chain.counted i))

module _ (s next : SessionState) (bytes : List ℕ) (before after : Counts) (same : SameSession s next)
    (fed : Feeds s next bytes before after) (x : List Frame) (stands : StandsFor s x) where
  pub feed_out : live_bytes s.script (x ++ signal s.script s.coding bytes) ≡ live_bytes s.script x ++ next.out
  feed_out =
      ap (output_bytes s.script) (fed.values x stands) ∙
      coded-append (output_coding s.script) (live_values s.script x) fed.given ∙
      ap (λ z. live_bytes s.script x ++ z) (sym fed.frames.out)

  pub feed_costs : PassCosts s.banked s.script s.coding x bytes before after
  feed_costs =
      let old = made_live s x stands in
      let after_is = fed.stands x stands in
      let new : made_of next.chain ≡ live_cost_of s.script (length (x ++ signal s.script s.coding bytes)) =
      made_live next (x ++ signal s.script s.coding bytes) after_is ∙
      ap (λ (t : Script). live_cost_of t (length (x ++ signal s.script s.coding bytes))) same.script in
      record {
        rise = omega (arith, fed.multiplies, old, new);
        turned = subst (λ m. after.turns ≤ before.turns + turns_of s.banked s.script m
            (length (x ++ signal s.script s.coding bytes))) stands.chain.counted
            (subst (λ n. after.turns ≤ before.turns + turns_of s.banked s.script s.chain.frames n)
            after_is.chain.counted fed.turns);
      }

-- ---- from any state
