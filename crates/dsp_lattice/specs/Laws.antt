-- Lattices work on samples one by one: the laws of the impls. A ghost item cites nothing of its own crate but specs,
-- so they stand here. No clause cites them.
use Rattle.std.specs.Prelude.{◌≡◌, ℕ, ◌+◌, ◌-◌, ◌*◌, ℤ, List, length, refl}
use Rattle.std.proofs.Common.{◌∙◌, arith}
use Rattle.std.proofs.lemmas.List.{length-replicate}
use Rattle.dsp_defs.specs.Formats.{word}
use Rattle.dsp_defs.specs.Kept.{InWord}
use Rattle.dsp_unit.specs.Filter.{IsSteady, IsStepwise}
use Rattle.dsp_defs.proofs.KeptLaws.{kept_of_channel-place}
use Rattle.dsp_defs.proofs.KeptLaws.{in_words-place}
use Rattle.dsp_filter.proofs.Units.{scaled, less-scaled}
use Rattle.dsp_defs.specs.declared.format.Fmt.{Fmt}
use Rattle.dsp_defs.specs.declared.script.Block.{Block}
use Rattle.dsp_defs.specs.declared.script.Block.TheVariants.{LatticeFir, LatticeIir}
use Rattle.dsp_lattice.specs.LatticeState.{coefficients_of, IsFirLatticeIn, IsIirLatticeIn}

one : (n a : ℕ) → 1 * n * a ≡ n * a
one n a = omega arith

less-one : (m n a : ℕ) → 1 * n * a - 1 * m * a ≡ n * a - m * a
less-one m n a = (λ i. one n a i - one m a i)

-- they work on samples one by one
pub fir-steady : (format : Fmt) (k : List ℤ) → IsSteady format (LatticeFir k) (2 * length k)
fir-steady format k = record {
  by_channel = record {
    live_is = refl;
    whole_is = refl;
    channels_same = λ c. refl;
    format_same = refl;
    keeps_is = λ c x. refl;
    kinds_are = λ c n. refl;
    keeps_place = λ x. kept_of_channel-place format (LatticeFir k) x tt;
    no_measures = λ c number kept. refl;
    live_cost = λ c n. scaled c n (2 * length k);
    so_far = λ c n taken given. scaled c taken (2 * length k);
    turns = λ c m n. less-scaled c m n (2 * length k);
  };
  taken = λ n. tt;
  whole_is_live = λ x. refl;
  most_same = λ n. refl;
  live_same = λ n. refl;
  whole_same = λ n. refl;
  kinds_same = λ n. refl;
  placed = λ numbers size. in_words-place (word format) (length k) numbers
      (size ∙ length-replicate (length k) (InWord (word format)));
  live_cost = λ n. one n (2 * length k);
}

pub fir-stepwise : (format : Fmt) (block : Block) → IsFirLatticeIn format block →
    IsStepwise format block (2 * length (coefficients_of block))
fir-stepwise format (LatticeFir k) is = record {
  steady = fir-steady format k;
  turns = λ m n. less-one m n (2 * length k);
  no_place = λ n. refl;
  no_group = tt;
}
fir-stepwise format block is = absurd is

pub iir-steady : (format : Fmt) (k v : List ℤ) → IsSteady format (LatticeIir k v) (3 * length k + 1)
iir-steady format k v = record {
  by_channel = record {
    live_is = refl;
    whole_is = refl;
    channels_same = λ c. refl;
    format_same = refl;
    keeps_is = λ c x. refl;
    kinds_are = λ c n. refl;
    keeps_place = λ x. kept_of_channel-place format (LatticeIir k v) x tt;
    no_measures = λ c number kept. refl;
    live_cost = λ c n. scaled c n (3 * length k + 1);
    so_far = λ c n taken given. scaled c taken (3 * length k + 1);
    turns = λ c m n. less-scaled c m n (3 * length k + 1);
  };
  taken = λ n. tt;
  whole_is_live = λ x. refl;
  most_same = λ n. refl;
  live_same = λ n. refl;
  whole_same = λ n. refl;
  kinds_same = λ n. refl;
  placed = λ numbers size. in_words-place (word format) (length k) numbers
      (size ∙ length-replicate (length k) (InWord (word format)));
  live_cost = λ n. one n (3 * length k + 1);
}

pub iir-stepwise : (format : Fmt) (block : Block) → IsIirLatticeIn format block →
    IsStepwise format block (3 * length (coefficients_of block) + 1)
iir-stepwise format (LatticeIir k v) is = record {
  steady = iir-steady format k v;
  turns = λ m n. less-one m n (3 * length k + 1);
  no_place = λ n. refl;
  no_group = tt;
}
iir-stepwise format block is = absurd is
