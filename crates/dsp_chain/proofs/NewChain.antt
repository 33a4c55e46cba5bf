-- A new chain.
use Rattle.std.proofs.Common.{◌≡◌, ◌∙◌, ap, refl, ◌≤◌, Bool, false, List, [], ◌∷◌}
use Rattle.std.proofs.Common.{length, None, arith}
use Rattle.dsp_defs.specs.Grammar.{IsChain, correlates}
use Rattle.dsp_defs.specs.Cost.{chain_turns}
use Rattle.dsp_defs.specs.Shape.{group_of, whole_frames, gathered}
use Rattle.dsp_unit.specs.Unit.{UnitState}
use Rattle.dsp_unit.specs.Line.{Place, blocks_of, InLine, AllNew, AllCount}
use Rattle.dsp_defs.specs.declared.limits.TheConstants.{MAX_BLOCKS, MAX_CHANNELS, MAX_CORRELATES}
use Rattle.dsp_defs.specs.declared.script.Block.{Block}
use Rattle.dsp_defs.specs.declared.script.Block.TheVariants.{Interpolate, Conv, ConvPartial, Correlate}
use Rattle.dsp_unit.proofs.ChainPlaces.{AllOpen, flow_at}
use Rattle.dsp_unit.proofs.NewLine.{new-stand, new-count, new-turns, groups-nothing}
use Rattle.dsp_unit.proofs.TailLaws.{count-took}
use Rattle.dsp_shape.proofs.FewFrames.{few_places, few-taken}
use Rattle.dsp_chain.specs.Chain.{ChainState, IsWhole, IsNewChain}
use Rattle.dsp_chain.proofs.ChainCalls.{chain-live}
use Rattle.dsp_chain.proofs.Measured.{few-places}

-- ---- no frames

whole-nothing : (b : Block) → whole_frames b 0 ≡ 0
whole-nothing (Interpolate factor taps) = omega arith
whole-nothing (Conv taps) = refl
whole-nothing (ConvPartial first count taps) = omega arith
whole-nothing (Correlate taps) = refl
whole-nothing b = groups-nothing (group_of b)

pub gathered-nothing : (blocks : List Block) → gathered blocks 0 ≡ 0
gathered-nothing [] = refl
gathered-nothing (Correlate taps ∷ blocks) = refl
gathered-nothing (b ∷ blocks) = ap (gathered blocks) (whole-nothing b) ∙ gathered-nothing blocks

-- ---- the chain

-- a chain of new units
abbrev pub made : Place → List UnitState → ChainState
made p us = record { input = p; units = us; frames = 0; ended = false; failed = None }

pub new-whole : (banked : Bool) (p : Place) (us : List UnitState) (blocks : List Block) → blocks_of us ≡ blocks →
    InLine p us → AllNew banked us → IsChain (flow_at p) blocks → 1 ≤ p.channels → p.channels ≤ MAX_CHANNELS →
    length blocks ≤ MAX_BLOCKS → correlates blocks ≤ MAX_CORRELATES → AllOpen p blocks → IsWhole (made p us)
new-whole banked p us blocks are line fresh chain some few many one opens =
    let counts : AllCount us 0 = new-count banked us fresh in
    record {
      line = line;
      took = count-took us 0 counts;
      counts = λ _. counts;
      taken = rw are (few-taken blocks 0 one (omega (arith, gathered-nothing blocks))
          (few_places p blocks 0 opens many one (omega arith)));
      chain = rw are chain;
      channels = some;
      few_channels = rw are (few-places (flow_at p) blocks chain few);
      few_blocks = rw are many;
      one_correlate = rw are one;
      few_frames = rw are (λ n fits. few_places p blocks n opens many one fits);
    }

pub new-chain : (banked : Bool) (p : Place) (us : List UnitState) (blocks : List Block) → blocks_of us ≡ blocks →
    InLine p us → AllNew banked us → IsNewChain banked p blocks (made p us)
new-chain banked p us blocks are line fresh = record {
  input = refl;
  blocks_are = are;
  stands = record {
    running = refl;
    works = refl;
    counted = refl;
    units =
        new-stand banked p.format p.channels us fresh;
  };
  live = chain-live (made p us) line (new-count banked us fresh);
  turns = λ m n. new-turns banked p us m n line fresh ∙ ap (λ bs. chain_turns banked p.format p.channels bs m n) are;
}
