-- A chain is a line of units with a count of frames.
use Rattle.std.proofs.Common.{◌≡◌, ◌∙◌, ap, refl, sym, subst, ◌+◌, ◌/◌, ◌≤◌, ℤ, List, length, true, false, [], ◌++◌}
use Rattle.std.proofs.Common.{None, IsTrue, arith, length-append}
use Rattle.std.specs.Prelude.{is_some}
use Rattle.dsp_defs.specs.Block.{Frame}
use Rattle.dsp_defs.specs.Counts.{Counts}
use Rattle.dsp_unit.specs.Unit.{UnitState, frames_in}
use Rattle.dsp_unit.specs.Line.{InLine, IsFed, IsFinished, AllCount, AllTaken, AllTook, AllGave, AllSpent}
use Rattle.dsp_unit.specs.Line.{place_behind, blocks_of, line_given, line_made, line_turns}
use Rattle.dsp_defs.proofs.FrameLemmas.{length-frames_in}
use Rattle.dsp_unit.proofs.TailLaws.{count-given, count-made, stand-gave, gave-front, made-within, took-within}
use Rattle.dsp_unit.proofs.TailLaws.{spent-gave, spent-given, spent-made, nothing-passes}
use Rattle.dsp_unit.proofs.MemorylessLaws.{no-frames}
use Rattle.dsp_defs.specs.Cost.{live_cost}
use Rattle.dsp_defs.specs.Shape.{live_frames, frames_behind}
use Rattle.dsp_chain.specs.Chain.{ChainState, IsLive, IsSpent, IsWhole, FeedsChain, FinishesChain, live_of, made_of}

-- a chain whose tail is not begun
pub chain-live : (c : ChainState) → InLine c.input c.units → AllCount c.units c.frames → IsLive c
chain-live c line counts = record {
  given = count-given c.units c.frames counts;
  made = count-made c.input c.units c.frames line counts;
  gave = λ x stands.
      let gave : AllGave c.input c.units x (live_of c x) = stand-gave c.input c.units x line stands.units in
      record {
        works = stands.works;
        counted = stands.counted;
        units = gave;
        front =
            gave-front c.input c.units x (live_of c x) line gave;
      };
}

-- a chain whose tail is spent
chain-spent : (c : ChainState) → InLine c.input c.units → AllTook c.units c.frames → AllSpent c.units → IsSpent c
chain-spent c line took spent = record {
  given = spent-given c.units c.frames spent took;
  made = spent-made c.input c.units c.frames line spent took;
  gave = λ x ys gave. (spent-gave c.input c.units x ys 1 line spent gave.units).0;
  measured = λ x ys gave. (spent-gave c.input c.units x ys 1 line spent gave.units).1;
}

-- what holds of a chain holds of it after a call that leaves its places as they were
pub whole-again : (c d : ChainState) → IsWhole c → d.input ≡ c.input → blocks_of d.units ≡ blocks_of c.units →
    InLine d.input d.units → AllTook d.units d.frames → (d.ended ≡ false → AllCount d.units d.frames) →
    AllTaken (blocks_of d.units) d.frames → IsWhole d
whole-again c d is input blocks line took counts taken = record {
  line = line;
  took = took;
  counts = counts;
  taken = taken;
  chain = rw (input, blocks) is.chain;
  channels = rw input is.channels;
  few_channels = rw (input, blocks) is.few_channels;
  few_blocks = rw blocks is.few_blocks;
  one_correlate = rw blocks is.one_correlate;
  few_frames = rw blocks is.few_frames;
}

pub chain-fed :
    (c d : ChainState) (links news : List UnitState) (frames given : List ℤ) (before after : Counts) →
    links ≡ c.units → d.units ≡ news → d.input ≡ c.input → d.ended ≡ c.ended → c.ended ≡ false → d.failed ≡ None →
    d.frames ≡ c.frames + length frames / c.input.channels →
    InLine c.input c.units → AllCount c.units c.frames →
    IsFed c.input links news frames given before after → FeedsChain c d frames given before after
chain-fed c d links news frames given before after links_are news_are input ended runs works count line counts fed =
    record {
      same = record {
        input = input;
        blocks = ap blocks_of news_are ∙ fed'.feeds.blocks;
        turns =
            λ m n. ap (λ us. line_turns us m n) news_are ∙ fed'.feeds.same_turns m n;
      };
      running = ended ∙ runs;
      works = works;
      counted = more;
      passes = fed'.passes;
      values = λ x stands. fed'.feeds.values x stands.units;
      stands = λ x stands. record {
        running = ended ∙ stands.running;
        works = works;
        counted = more ∙ ap (λ n. n + length taken) stands.counted ∙ sym (length-append x taken);
        units = rw (input, news_are) (fed'.feeds.stands x stands.units);
      };
      gives = (let risen = fed'.feeds.frames c.frames counts in live.given ∙
          (λ i. frames_behind live_frames (blocks i) (more i)) ∙ risen ∙
          ap (λ k. k + length (frames_in (place_behind c.input (blocks_of c.units)).channels given))
          (sym (count-given c.units c.frames counts)));
      multiplies =
          let risen = fed'.feeds.multiplies c.frames counts in
          let new : made_of d ≡ live_cost c.input.format c.input.channels (blocks_of c.units)
          (c.frames + length taken) =
          live.made ∙ (λ i. live_cost (input i).format (input i).channels (blocks i) (more i)) in
          let old = count-made c.input c.units c.frames line counts in
          omega (arith, risen, new, old);
      turns = subst (λ n. after.turns ≤ before.turns + line_turns c.units c.frames n) (sym more)
          (fed'.feeds.turns c.frames counts);
      live = live;
    }
  where
    fed' : IsFed c.input c.units news frames given before after
    fed' = subst (λ us. IsFed c.input us news frames given before after) links_are fed

    taken : List Frame
    taken = frames_in c.input.channels frames

    more : d.frames ≡ c.frames + length taken
    more = count ∙ ap (λ n. c.frames + n) (sym (length-frames_in c.input.channels frames))

    blocks : blocks_of d.units ≡ blocks_of c.units
    blocks = ap blocks_of news_are ∙ fed'.feeds.blocks

    live : IsLive d
    live = chain-live d (rw (input, news_are) fed'.feeds.in_line)
        (rw (more, news_are) (fed'.feeds.counts c.frames counts))

pub chain-finished :
    (c d : ChainState) (links news : List UnitState) (given : List ℤ) (before after : Counts) →
    links ≡ c.units → d.units ≡ news → d.input ≡ c.input → d.ended ≡ true → d.failed ≡ c.failed → c.failed ≡ None →
    d.frames ≡ c.frames → InLine c.input c.units → AllTook c.units c.frames →
    IsFinished c.input links news given before after → (given ≡ [] → AllSpent news) →
    FinishesChain c d given before after
chain-finished c d links news given before after links_are news_are input ended failed works count line took finished
    spent = record {
      same = record {
        input = input;
        blocks = ap blocks_of news_are ∙ done.finishes.blocks;
        turns =
            λ m n. ap (λ us. line_turns us m n) news_are ∙ done.finishes.same_turns m n;
      };
      ended = ended;
      failed = failed;
      counted = count;
      passes = done.passes;
      gave = λ x ys gave.
          let next : AllGave d.input d.units x (ys ++ pieces) =
          rw (input, news_are) (done.finishes.gave x ys gave.units) in
          record {
            works = failed ∙ works;
            counted = count ∙ gave.counted;
            units = next;
            front =
                gave-front d.input d.units x (ys ++ pieces) line' next;
          };
      gives = (λ i. line_given (news_are i) (count i)) ∙ done.finishes.frames c.frames took;
      multiplies = (let made = done.finishes.multiplies c.frames took in let new : made_of d ≡ line_made news c.frames =
          (λ i. line_made (news_are i) (count i)) in omega (arith, made, new));
      turns = done.finishes.turns c.frames took;
      few = took-within d.units d.frames took';
      within = made-within d.input d.units d.frames line' took';
      spent = λ none _. chain-spent d line' took' (rw news_are (spent none));
      refused = λ some. absurd (none-some (ap is_some works) some);
    }
  where
    done : IsFinished c.input c.units news given before after
    done = subst (λ us. IsFinished c.input us news given before after) links_are finished

    pieces : List Frame
    pieces = frames_in (place_behind c.input (blocks_of c.units)).channels given

    line' : InLine d.input d.units
    line' = rw (input, news_are) done.finishes.in_line

    took' : AllTook d.units d.frames
    took' = rw (count, news_are) (done.finishes.took c.frames took)

    none-some : is_some c.failed ≡ false → IsTrue (is_some c.failed) → ⊥
    none-some none some = (let e : true ≡ false = sym some ∙ none in cc)

-- a chain that has failed gives nothing
pub chain-refused :
    (c d : ChainState) (counts : Counts) → d.units ≡ c.units → d.input ≡ c.input → d.ended ≡ true →
    d.failed ≡ c.failed → d.frames ≡ c.frames → IsTrue (is_some c.failed) → InLine c.input c.units →
    AllTook c.units c.frames →
    FinishesChain c d [] counts counts
chain-refused c d counts units input ended failed count some line took = record {
  same = record { input = input; blocks = ap blocks_of units; turns = λ m n. ap (λ us. line_turns us m n) units };
  ended = ended;
  failed = failed;
  counted = count;
  passes = nothing-passes (place_behind c.input (blocks_of c.units));
  gave = λ x ys gave. absurd (some-none gave.works);
  gives = (λ i. line_given (units i) (count i)) ∙ (let nothing : length
      (frames_in (place_behind c.input (blocks_of c.units)).channels []) ≡ 0 =
      ap length (no-frames (place_behind c.input (blocks_of c.units)).channels) in omega (arith, nothing));
  multiplies = ap (λ k. k + counts.multiplies) (λ i. line_made (units i) (count i));
  turns = omega arith;
  few = took-within d.units d.frames (rw (count, units) took);
  within = made-within d.input d.units d.frames (rw (input, units) line) (rw (count, units) took);
  spent = λ _ works. absurd (some-none works);
  refused = λ _. (refl, units, refl);
}
  where
    some-none : c.failed ≡ None → ⊥
    some-none works = (let e : true ≡ false = sym some ∙ ap is_some works in cc)
