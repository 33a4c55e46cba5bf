-- What holds of the blocks of a sound script, each at its place.
use Rattle.std.proofs.Common.{◌≡◌, ℕ, ◌+◌, ◌<◌, ◌≤◌, ◌^◌, List, ◌∷◌, length, Option, Some, None}
use Rattle.std.proofs.Common.{get_or, drop, add-one, drop-cons, refl, subst, arith}
use Rattle.dsp_defs.specs.declared.limits.TheConstants.{MAX_CHANNELS}
use Rattle.dsp_defs.specs.declared.flow.Flow.{Flow}
use Rattle.dsp_defs.specs.declared.script.Block.{Block}
use Rattle.dsp_defs.specs.declared.script.Script.{Script}
use Rattle.dsp_defs.specs.Block.{channels_after}
use Rattle.dsp_defs.specs.Grammar.{Suits, IsChain, IsSound, input_flow}
use Rattle.dsp_defs.specs.Table.{flow_after}
use Rattle.dsp_defs.specs.Shape.{group_of}
use Rattle.dsp_unit.proofs.ChainPlaces.{TakesAndGives, takes_and_gives, some_channels_after, few_channels_after}
use Rattle.dsp_shape.specs.Lengths.{IsGroup}

-- the blocks may stand where this flows
pub record IsPlaced (flow : Flow) (blocks : List Block) : Type 0 where
  pub channels : (1 ≤ flow.channels) × (flow.channels ≤ MAX_CHANNELS)
  pub chain : IsChain flow blocks

-- they may stand somewhere
abbrev pub MayStand : List Block → Type 0
MayStand blocks = (flow : Flow) × IsPlaced flow blocks

-- the rest of a list, from one of its elements on
pub rest_from : {A : Type 0} (xs : List A) (i : ℕ) (x : A) → i < length xs → x ≡ get_or xs i x →
    drop i xs ≡ x ∷ drop (i + 1) xs
rest_from xs i x lt is = rw (add-one, drop-cons xs i x lt, ← is) refl

-- what holds of it holds from that element on
pub from_here : {A : Type 0} (P : List A → Type 0) (xs : List A) (i : ℕ) (x : A) → i < length xs → x ≡ get_or xs i x →
    P (drop i xs) → P (x ∷ drop (i + 1) xs)
from_here P xs i x lt is h = subst P (rest_from xs i x lt is) h

is_group : (group : Option (ℕ × ℕ)) → TakesAndGives group → IsGroup group
is_group None both = tt
is_group (Some g) both = both

group_here : (flow : Flow) (b : Block) → Suits flow b → IsGroup (group_of b)
group_here flow b s = is_group (group_of b) (takes_and_gives flow b s)

pub placed_after : (flow : Flow) (b : Block) (blocks : List Block) → IsPlaced flow (b ∷ blocks) →
    IsPlaced (flow_after b flow) blocks
placed_after flow b blocks p = record {
  channels = (
    some_channels_after flow b p.chain.0 p.channels.0,
    few_channels_after flow b p.chain.0 p.channels.1,
  );
  chain = p.chain.1;
}

pub few_here : (flow : Flow) (b : Block) (blocks : List Block) → IsPlaced flow (b ∷ blocks) →
    channels_after flow.channels b < 2 ^ 8
few_here flow b blocks p = omega (arith, few_channels_after flow b p.chain.0 p.channels.1)

pub stand_behind : (b : Block) (blocks : List Block) → MayStand (b ∷ blocks) → MayStand blocks
stand_behind b blocks (flow, p) = (flow_after b flow, placed_after flow b blocks p)

pub group_of_first : (b : Block) (blocks : List Block) → MayStand (b ∷ blocks) → IsGroup (group_of b)
group_of_first b blocks (flow, p) = group_here flow b p.chain.0

pub placed_sound : (s : Script) → IsSound s → IsPlaced (input_flow s.input) s.blocks
placed_sound s (text, reads) = record { channels = reads.fit.channels; chain = reads.fit.chain }
