-- A controller works on samples one by one: the laws of the impls. A ghost item cites nothing of its own crate but
-- specs, so they stand here. No clause cites them.
use Rattle.std.specs.Prelude.{ℤ, refl}
use Rattle.std.proofs.Common.{arith}
use Rattle.dsp_unit.specs.Filter.{IsSteady, IsStepwise}
use Rattle.dsp_defs.proofs.KeptLaws.{kept_of_channel-place}
use Rattle.dsp_defs.proofs.KeptLaws.{in_words-place}
use Rattle.dsp_filter.proofs.Units.{less-scaled}
use Rattle.dsp_defs.specs.Formats.{word}
use Rattle.dsp_defs.specs.declared.format.Fmt.{Fmt}
use Rattle.dsp_defs.specs.declared.script.Block.{Block}
use Rattle.dsp_defs.specs.declared.script.Block.TheVariants.{Pid}
use Rattle.dsp_adapt.specs.PidState.{IsPidIn}

-- it works on samples one by one
pub pid-steady : (format : Fmt) (kp ki kd : ℤ) → IsSteady format (Pid kp ki kd) 3
pid-steady format kp ki kd = record {
  by_channel = record {
    live_is = refl;
    whole_is = refl;
    channels_same = λ c. refl;
    format_same = refl;
    keeps_is = λ c x. refl;
    kinds_are = λ c n. refl;
    keeps_place = λ x. kept_of_channel-place format (Pid kp ki kd) x tt;
    no_measures = λ c number kept. refl;
    live_cost = λ c n. omega arith;
    so_far = λ c n taken given. omega arith;
    turns = λ c m n. less-scaled c m n 3;
  };
  taken = λ n. tt;
  whole_is_live = λ x. refl;
  most_same = λ n. refl;
  live_same = λ n. refl;
  whole_same = λ n. refl;
  kinds_same = λ n. refl;
  placed = λ numbers size. in_words-place (word format) 3 numbers size;
  live_cost = λ n. omega arith;
}

pub pid-stepwise : (format : Fmt) (block : Block) → IsPidIn format block → IsStepwise format block 3
pid-stepwise format (Pid kp ki kd) is = record {
  steady = pid-steady format kp ki kd;
  turns = λ m n. omega arith;
  no_place = λ n. refl;
  no_group = tt;
}
pid-stepwise format block is = absurd is
