-- A chain in the making: the units of the blocks so far.
use Rattle.std.proofs.Common.{◌≡◌, ◌∙◌, ap, refl, sym, subst, ℕ, ◌+◌, ◌*◌, ◌<◌, ◌≤◌, Bool, List, [], ◌∷◌, ◌++◌}
use Rattle.std.proofs.Common.{length, take, drop, get_or, arith}
use Rattle.dsp_unit.specs.Unit.{UnitState, IsMade, turns_of, most_frames}
use Rattle.dsp_unit.specs.Line.{Place, place_after, place_behind, blocks_of, InLine, AllNew}
use Rattle.dsp_unit.proofs.NewLine.{place-more, blocks-more, line-more, new-more}
use Rattle.dsp_unit.proofs.ChainPlaces.{IsOpen, AllOpen, flow_at, few_channels_after}
use Rattle.dsp_defs.specs.Grammar.{Suits}
use Rattle.dsp_defs.specs.Block.{channels_after}
use Rattle.dsp_defs.specs.Cost.{unit_turns}
use Rattle.std.proofs.lemmas.List.{drop_more}
use Rattle.std.proofs.lemmas.Nat.{mul-le}
use Rattle.dsp_defs.specs.declared.limits.TheConstants.{MAX_CHANNELS, MAX_SAMPLES}
use Rattle.dsp_defs.specs.Table.{flow_after}
use Rattle.dsp_defs.specs.declared.script.Block.{Block}

-- the blocks so far have new units in their places and end at `here`, and each of those left has its place open
pub record Making (banked : Bool) (p here : Place) (blocks : List Block) (i : ℕ) (us : List UnitState) : Type 0 where
  pub blocks_so_far : blocks_of us ≡ take i blocks
  pub line : InLine p us
  pub fresh : AllNew banked us
  pub reached : place_behind p (take i blocks) ≡ here
  pub few_channels : here.channels ≤ MAX_CHANNELS
  places : AllOpen here (drop i blocks)

-- no unit is made
pub making-none : (banked : Bool) (p : Place) (blocks : List Block) → p.channels ≤ MAX_CHANNELS → AllOpen p blocks →
    Making banked p p blocks 0 []
making-none banked p blocks few places = record {
  blocks_so_far = refl;
  line = tt;
  fresh = tt;
  reached =
      refl;
  few_channels = few;
  places = places;
}

-- one more is
pub making-more :
    (banked : Bool) (p here next : Place) (blocks : List Block) (i j : ℕ) (us : List UnitState) (u : UnitState)
    (b : Block) → drop i blocks ≡ b ∷ drop j blocks → take j blocks ≡ take i blocks ++ b ∷ [] →
    next ≡ place_after here b → IsMade banked b here.format here.channels here.capacity u →
    Making banked p here blocks i us → Making banked p next blocks j (us ++ u ∷ [])
making-more banked p here next blocks i j us u b first more step is m = record {
  blocks_so_far = blocks-more us u ∙ (λ k. m.blocks_so_far k ++ is.block k ∷ []) ∙ sym more;
  line = line-more p us u m.line (rw behind (record {
    format = is.format;
    channels = is.channels;
    capacity =
        is.capacity;
  }));
  fresh = new-more banked us u m.fresh ((is.stands, is.counts, bound), tt);
  reached = ap (place_behind p) more ∙ place-more p (take i blocks) b ∙ ap (λ q. place_after q b) m.reached ∙ sym step;
  few_channels = subst (λ (q : Place). q.channels ≤ MAX_CHANNELS) (sym step)
      (few_channels_after (flow_at here) b places.1 m.few_channels);
  places = subst (λ (q : Place). AllOpen q (drop j blocks)) (sym step) places.2;
}
  where
    bound : (m n : ℕ) → turns_of u m n ≡ unit_turns banked u.format u.channels u.block m n
    bound = λ m n. is.turns m n ∙ sym (λ i. unit_turns banked (is.format i) (is.channels i) (is.block i) m n)

    places : AllOpen here (b ∷ drop j blocks)
    places = subst (AllOpen here) first m.places

    behind : place_behind p (blocks_of us) ≡ here
    behind = ap (place_behind p) m.blocks_so_far ∙ m.reached

-- the blocks from one of them on
pub next-first : (blocks : List Block) (i : ℕ) (b : Block) → i < length blocks → b ≡ get_or blocks i b →
    drop i blocks ≡ b ∷ drop (i + 1) blocks
next-first blocks i b within read = drop_more blocks i b within ∙ ap (λ (e : Block). e ∷ drop (i + 1) blocks) (sym read)

-- the place that is reached is open
open-here : (here : Place) (blocks : List Block) → AllOpen here blocks → IsOpen here
open-here here [] places = places
open-here here (b ∷ blocks) places = places.0

pub making-open : (banked : Bool) (p here : Place) (blocks : List Block) (i : ℕ) (us : List UnitState) →
    Making banked p here blocks i us → IsOpen here
making-open banked p here blocks i us m = open-here here (drop i blocks) m.places

-- what the next block of a chain in the making needs
pub record Next (here : Place) (b : Block) : Type 0 where
  pub suits : Suits (flow_at here) b
  pub open_here : IsOpen here
  pub few_channels : channels_after here.channels b ≤ MAX_CHANNELS
  pub few_frames : most_frames b here.capacity ≤ MAX_SAMPLES
  pub few_samples : most_frames b here.capacity * channels_after here.channels b ≤ MAX_SAMPLES

-- an open place has no more frames than samples
few-frames : (p : Place) → IsOpen p → p.capacity ≤ MAX_SAMPLES
few-frames p is =
    let frames : p.capacity * 1 ≤ p.capacity * p.channels =
    mul-le p.capacity 1 p.capacity p.channels (omega arith) is.channels in
    omega (arith, frames, is.samples)

pub making-next : (banked : Bool) (p here : Place) (blocks : List Block) (i j : ℕ) (us : List UnitState) (b : Block) →
    drop i blocks ≡ b ∷ drop j blocks → Making banked p here blocks i us → Next here b
making-next banked p here blocks i j us b first m = record {
  suits = places.1;
  open_here = places.0;
  few_channels = few_channels_after (flow_at here) b places.1 m.few_channels;
  few_frames = few-frames (place_after here b) behind;
  few_samples = behind.samples;
}
  where
    places : AllOpen here (b ∷ drop j blocks)
    places = subst (AllOpen here) first m.places

    behind : IsOpen (place_after here b)
    behind = open-here (place_after here b) (drop j blocks) places.2

-- the place behind it is what flows there
pub next-place : (here next : Place) (block : Block) → flow_at next ≡ flow_after block (flow_at here) →
    next.capacity ≡ most_frames block here.capacity → next ≡ place_after here block
next-place here next block flow frames = λ i. record {
  format = (flow i).format;
  channels =
      (flow i).channels;
  capacity = frames i;
}
