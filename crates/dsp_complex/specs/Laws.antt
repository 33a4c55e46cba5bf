-- Each frame of a block of this crate gives one frame, of itself alone: the laws of the impls. A ghost item cites
-- nothing of its own crate but specs, so they stand here. No clause cites them.
use Rattle.std.proofs.Common.{◌≡◌, refl, ℕ, arith}
use Rattle.dsp_defs.specs.Block.{given_frame}
use Rattle.dsp_unit.specs.Unit.{most_frames}
use Rattle.dsp_unit.specs.Memoryless.{IsMemoryless}
use Rattle.dsp_defs.specs.declared.format.Fmt.{Fmt}
use Rattle.dsp_filter.specs.Memoryless.{price}
use Rattle.dsp_complex.specs.declared.operation.Operation.{Operation}
use Rattle.dsp_complex.specs.declared.operation.Operation.TheVariants as operation
use Rattle.dsp_complex.specs.ComplexUnit.{block_of}

-- each frame gives one frame, of itself alone
pub gives-frames : (format : Fmt) (channels : ℕ) (o : Operation) →
    IsMemoryless format channels (block_of o) (price (block_of o) channels) (given_frame format (block_of o))
gives-frames format channels operation.Conj = record {
  live_is = λ x. refl;
  whole_is = λ x. refl;
  keeps_is = λ x. refl;
  keeps_nothing = λ x. refl;
  kinds_are = λ n. refl;
  kinds = λ n. refl;
  live_frames = λ n. refl;
  whole_frames = λ n. refl;
  live_cost = λ n. omega arith;
  turns = λ m n. refl;
  taken = λ n. tt;
  place_is = λ n. refl;
  no_measures = λ number kept. refl;
}
gives-frames format channels o = record {
  live_is = λ x. refl;
  whole_is = λ x. refl;
  keeps_is = λ x. refl;
  keeps_nothing = λ x. refl;
  kinds_are = λ n. refl;
  kinds = λ n. refl;
  live_frames = λ n. refl;
  whole_frames = λ n. refl;
  live_cost = λ n. omega arith;
  turns = λ m n. refl;
  taken = λ n. tt;
  place_is = λ n. refl;
  no_measures = λ number kept. refl;
}

-- n frames give n
pub gives-as-many : (n : ℕ) (o : Operation) → most_frames (block_of o) n ≡ n
gives-as-many n operation.Conj = refl
gives-as-many n o = refl
