-- A line of units gives what the chain of their blocks gives.
use Rattle.std.proofs.Common.{◌≡◌, ◌∙◌, ap, ap₂, refl, subst, ℕ, ◌+◌, ◌≤◌, ℤ, List, [], ◌∷◌, ◌++◌, length, arith}
use Rattle.std.proofs.Common.{false, Option, Some, None, IfSome}
use Rattle.dsp_defs.specs.Streaming.{Continues}
use Rattle.dsp_defs.specs.Block.{Frame, live, live_chain, format_after, channels_after}
use Rattle.dsp_defs.specs.Shape.{live_frames, frames_behind}
use Rattle.dsp_defs.specs.Cost.{live_block_cost, unit_turns}
use Rattle.dsp_defs.specs.Kept.{limit_of}
use Rattle.dsp_defs.specs.Counts.{Counts}
use Rattle.dsp_unit.specs.Unit.{UnitState, StandsFor, CountsFrames, Accepts, Feeds, IsOutput, most_frames, frames_in}
use Rattle.dsp_unit.specs.Line.{Place, place_after, Passes, MadeFor, blocks_of, AllStand, AllTaken, AllAccept}
use Rattle.dsp_unit.specs.Line.{FeedsLine, IsFed}
use Rattle.dsp_defs.proofs.Streaming.{continues_chain}
use Rattle.dsp_unit.proofs.TurnLaws.{taken_live}

-- no units give the frames on
feeds-none : (p : Place) (taken : List Frame) (counts : Counts) → FeedsLine p [] [] taken taken counts counts
feeds-none p taken counts = record {
  blocks = refl;
  in_line = tt;
  runs = tt;
  same_turns = λ m n. refl;
  values = λ x h. refl;
  stands = λ x h. tt;
  frames = λ n h. refl;
  counts = λ n h. tt;
  multiplies = λ n h. refl;
  turns = λ n h. omega arith;
}

-- a unit, and the line behind it
feeds-then :
    (p : Place) (u v : UnitState) (us vs : List UnitState) (taken piece given : List Frame)
    (before between after : Counts) →
    MadeFor p u → v.ended ≡ false → Feeds u v taken piece before between →
    FeedsLine (place_after p u.block) us vs piece given between after →
    FeedsLine p (u ∷ us) (v ∷ vs) taken given before after
feeds-then p u v us vs taken piece given before between after made runs one line = record {
  blocks = ap₂ (λ b bs. b ∷ bs) one.made.block line.blocks;
  in_line = (
    record {
      format = one.made.format ∙ made.format;
      channels = one.made.channels ∙ made.channels;
      capacity =
          one.made.capacity ∙ made.capacity;
    },
    rw one.made.block line.in_line,
  );
  runs = (runs, line.runs);
  same_turns = λ m n. ap₂ (λ (here later : ℕ). here + later)
      (λ i. unit_turns (one.made.banked i) (one.made.format i) (one.made.channels i) (one.made.block i) m n)
      (rw one.made.block (line.same_turns (live_frames u.block m) (live_frames u.block n)));
  values = λ x h.
      continues_chain (live p.format p.channels u.block)
      (live_chain (format_after p.format u.block) (channels_after p.channels u.block) (blocks_of us)) x taken piece
      given
      (continues x h.0) (line.values (live p.format p.channels u.block x) h.1);
  stands = λ x h.
      let later : AllStand (format_after p.format u.block) (channels_after p.channels u.block) vs
      (live p.format p.channels u.block x ++ piece) = line.stands (live p.format p.channels u.block x) h.1 in
      let same : live p.format p.channels u.block (x ++ taken) ≡ live p.format p.channels u.block x ++ piece =
      continues x h.0 in
      (one.stands x h.0, rw (one.made.block, same) later);
  frames = λ n h.
      ap (frames_behind live_frames (blocks_of us)) (one.frames n h.0) ∙ line.frames (live_frames u.block n) h.1;
  counts = λ n h.
      let same = one.frames n h.0 in
      (one.counts n h.0, rw (one.made.block, same) (line.counts (live_frames u.block n) h.1));
  multiplies = λ n h.
      let same = one.frames n h.0 in
      let first : live_block_cost p.format p.channels u.block (n + length taken) + before.multiplies ≡ live_block_cost
      p.format p.channels u.block n + between.multiplies =
      rw (made.format, made.channels) at (one.multiplies n h.0) in
      let second = line.multiplies (live_frames u.block n) h.1 in
      rw same (omega (arith, first, second));
  turns = λ n h.
      let same = one.frames n h.0 in
      let first = one.turns n h.0 in
      let second = line.turns (live_frames u.block n) h.1 in
      rw same (omega (arith, first, second));
}
  where
    continues : (x : List Frame) → StandsFor u x → Continues (live p.format p.channels u.block) x taken piece
    continues x h = rw (made.format, made.channels) at (one.values x h)

-- what a unit gives passes the place behind it
pub output-passes : (p : Place) (u : UnitState) (given : List ℤ) → MadeFor p u →
    IsOutput u (most_frames u.block u.capacity) given → Passes (place_after p u.block) given
output-passes p u given made output = record {
  signal = rw (made.format, made.channels) at output.signal;
  at_most = rw (made.channels, made.capacity) at output.at_most;
}

-- the same of samples
pub fed-none : (p : Place) (frames : List ℤ) (counts : Counts) → Passes p frames →
    IsFed p [] [] frames frames counts counts
fed-none p frames counts passes = record { passes = passes; feeds = feeds-none p (frames_in p.channels frames) counts }

pub fed-then :
    (p : Place) (u v : UnitState) (us vs : List UnitState) (frames piece given : List ℤ)
    (before between after : Counts) →
    MadeFor p u → v.ended ≡ false → Feeds u v (frames_in u.channels frames)
    (frames_in (channels_after u.channels u.block) piece) before between →
    IsFed (place_after p u.block) us vs piece given between after →
    IsFed p (u ∷ us) (v ∷ vs) frames given before after
fed-then p u v us vs frames piece given before between after made runs one line = record {
  passes = line.passes;
  feeds = feeds-then p u v us vs _ (frames_in (channels_after p.channels u.block) piece) _ before between after made
      runs
      (subst (λ c. Feeds u v (frames_in c frames) (frames_in (channels_after c u.block) piece) before between)
      made.channels one) line.feeds;
}

-- ---- what a line can take

-- the first unit can take what the line can
pub accepts-first : (u : UnitState) (us : List UnitState) (more : ℕ) → AllAccept (u ∷ us) more → Accepts u more
accepts-first u us more accepts = within-limit (limit_of u.block) accepts.2.0
  where
    within-limit : (limit : Option ℕ) → IfSome limit (λ limit. accepts.0 + more ≤ limit) →
        IfSome limit (λ limit. (n : ℕ) × CountsFrames u n × (n + more ≤ limit))
    within-limit None h = tt
    within-limit (Some limit) h = (accepts.0, accepts.1.0, h)

-- and the line behind it what that gives
pub accepts-behind : (u v : UnitState) (us : List UnitState) (taken given : List Frame) (before after : Counts) →
    Feeds u v taken given before after → AllAccept (u ∷ us) (length taken) → AllAccept us (length given)
accepts-behind u v us taken given before after one accepts =
    let n = accepts.0 in (
      live_frames u.block n,
      accepts.1.1,
      subst (AllTaken (blocks_of us)) (one.frames n accepts.1.0)
          (taken_live u.block (blocks_of us) (n + length taken) accepts.2),
    )
