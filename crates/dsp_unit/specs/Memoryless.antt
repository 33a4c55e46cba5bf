-- Blocks without memory.
use Rattle.std.specs.Prelude.{◌≡◌, ℕ, ◌-◌, ◌*◌, ℤ, List, [], map, flat_map}
use Rattle.std.specs.List.{range_with_len}
use Rattle.dsp_defs.specs.Block.{Frame, channel, whole, live}
use Rattle.dsp_defs.specs.Shape.{whole_frames, live_frames}
use Rattle.dsp_defs.specs.Cost.{live_block_cost, block_turns}
use Rattle.dsp_defs.specs.Kept.{kept_of_channel, kept_numbers, kinds_by, kept_kinds, kept_measures, IsTaken, place_of}
use Rattle.dsp_defs.specs.declared.format.Fmt.{Fmt}
use Rattle.dsp_defs.specs.declared.script.Block.{Block}

-- each frame gives one frame, of itself alone
pub record IsMemoryless (format : Fmt) (channels : ℕ) (block : Block) (price : ℕ) (f : Frame → Frame) : Type 0 where
  pub live_is : (x : List Frame) → live format channels block x ≡ map f x
  pub whole_is : (x : List Frame) → whole format channels block x ≡ map f x
  pub keeps_is : (x : List Frame) → kept_numbers format channels block x ≡ flat_map
      (λ c. kept_of_channel format block (channel c x)) (range_with_len 0 channels)
  pub keeps_nothing : (x : List ℤ) → kept_of_channel format block x ≡ []
  pub kinds_are : (n : ℕ) → kept_kinds format channels block n ≡ flat_map (λ (_ : ℕ). kinds_by format block n)
      (range_with_len 0 channels)
  pub kinds : (n : ℕ) → kinds_by format block n ≡ []
  pub live_frames : (n : ℕ) → live_frames block n ≡ n
  pub whole_frames : (n : ℕ) → whole_frames block n ≡ n
  pub live_cost : (n : ℕ) → live_block_cost format channels block n ≡ n * price
  pub turns : (m n : ℕ) → block_turns format channels block m n ≡ live_block_cost format channels block n -
      live_block_cost format channels block m
  pub taken : (n : ℕ) → IsTaken block n
  pub place_is : (n : ℕ) → place_of block n ≡ 0
  pub no_measures : (number : ℕ) (kept : List ℤ) → kept_measures format channels number block kept ≡ []
