-- FIR and sparse filters work on each channel by itself, over a window of its last samples: the laws of the impls. A
-- ghost item cites nothing of its own crate but specs, so they stand here. No clause cites them.
use Rattle.std.specs.Prelude.{ℕ, suc, ◌-◌, ◌*◌, ◌≡◌, ◌≤◌, max, ℤ, pos, ◌≤ℤ◌, nat_abs, List, [], ◌∷◌, length, map}
use Rattle.std.specs.Prelude.{fold, All, refl}
use Rattle.std.proofs.Common.{arith}
use Rattle.std.proofs.lemmas.Int.{ints}
use Rattle.std.proofs.Math.Nat.{max-le}
use Rattle.dsp_defs.specs.Kept.{greatest}
use Rattle.dsp_defs.specs.declared.limits.TheConstants.{MAX_DELAY}
use Rattle.dsp_filter.specs.Making.{AreTaps}
use Rattle.dsp_defs.specs.Cost.{lane_turns}
use Rattle.dsp_defs.proofs.KeptLaws.{kept_of_channel-place}
use Rattle.dsp_filter.proofs.Units.{scaled}
use Rattle.dsp_fir.specs.WindowState.{IsWindowBlock}
use Rattle.dsp_defs.specs.declared.format.Fmt.{Fmt}
use Rattle.dsp_defs.specs.declared.script.Block.{Block}
use Rattle.dsp_defs.specs.declared.script.Block.TheVariants.{Fir, Sparse}
use Rattle.dsp_fir.specs.ByChannel.{IsWindowIn}

-- such delays are within the greatest one
fold-few : (bound most : ℕ) (delays : List ℤ) → most ≤ bound → All (λ d. pos 0 ≤ℤ d) delays →
    All (λ d. d ≤ℤ pos bound) delays → fold max most (map nat_abs delays) ≤ bound
fold-few bound most [] h low high = h
fold-few bound most (d ∷ delays) h low high =
    let some : pos 0 ≤ℤ d = low 0 (pos 0) (omega arith) in
    let little : d ≤ℤ pos bound = high 0 (pos 0) (omega arith) in
    let first : nat_abs d ≤ bound = omega (arith, ints, some, little) in
    fold-few bound (max most (nat_abs d)) delays (max-le h first) (λ k e g. low (suc k) e (omega (arith, g)))
    (λ k e g. high (suc k) e (omega (arith, g)))

greatest-few : (delays : List ℤ) → All (λ d. pos 0 ≤ℤ d) delays → All (λ d. d ≤ℤ pos MAX_DELAY) delays →
    greatest delays ≤ MAX_DELAY
greatest-few delays low high = fold-few MAX_DELAY 0 delays (omega arith) low high

once : (a b : ℕ) → 1 * a * b ≡ a * b
once a b = omega arith

-- they work on each channel by itself, over a window of its last samples
fir-windowed : (format : Fmt) (taps : List ℤ) → AreTaps format taps → IsWindowBlock format (Fir taps)
fir-windowed format taps is = record {
  samples = record {
    by_channel = record {
      live_is = refl;
      whole_is = refl;
      channels_same = λ c. refl;
      format_same = refl;
      keeps_is = λ c x. refl;
      kinds_are = λ c n. refl;
      keeps_place = λ x. kept_of_channel-place format (Fir taps) x tt;
      no_measures = λ c number kept. refl;
      live_cost = λ c n. scaled c n (length taps);
      so_far = λ c n taken given. scaled c taken (length taps);
      turns = λ c m n. scaled c (length taps) (lane_turns format (n - m));
    };
    taken = λ n. tt;
    whole_is_live = λ x. refl;
    most_same = λ n. refl;
    live_same = λ n. refl;
    whole_same = λ n. refl;
    kinds_are = λ n. refl;
    live_cost = λ n. once n (length taps);
  };
  keeps = λ x. refl;
  few = omega (arith, is.1);
  turns = λ m n. once (length taps) (lane_turns format (n - m));
  no_group = tt;
}

sparse-windowed : (format : Fmt) (taps delays : List ℤ) → IsWindowIn format (Sparse taps delays) →
    IsWindowBlock format (Sparse taps delays)
sparse-windowed format taps delays is = record {
  samples = record {
    by_channel = record {
      live_is = refl;
      whole_is = refl;
      channels_same = λ c. refl;
      format_same = refl;
      keeps_is = λ c x. refl;
      kinds_are = λ c n. refl;
      keeps_place = λ x. kept_of_channel-place format (Sparse taps delays) x tt;
      no_measures = λ c number kept. refl;
      live_cost = λ c n. scaled c n (length taps);
      so_far = λ c n taken given. scaled c taken (length taps);
      turns = λ c m n. scaled c (length taps) (lane_turns format (n - m));
    };
    taken = λ n. tt;
    whole_is_live = λ x. refl;
    most_same = λ n. refl;
    live_same = λ n. refl;
    whole_same = λ n. refl;
    kinds_are = λ n. refl;
    live_cost = λ n. once n (length taps);
  };
  keeps = λ x. refl;
  few = greatest-few delays is.3 is.4;
  turns = λ m n. once (length taps) (lane_turns format (n - m));
  no_group = tt;
}

pub windowed : (format : Fmt) (block : Block) → IsWindowIn format block → IsWindowBlock format block
windowed format (Fir taps) is = fir-windowed format taps is
windowed format (Sparse taps delays) is = sparse-windowed format taps delays is
windowed format block is = absurd is
