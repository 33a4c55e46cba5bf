-- The tails of a line of units.
use Rattle.std.proofs.Common.{◌≡◌, ◌∙◌, ap, ap₂, refl, sym, subst, inl, inr, ◌⊎◌, ℕ, ◌+◌, ◌-◌, ◌≤◌, List, [], ◌∷◌}
use Rattle.std.proofs.Common.{◌++◌, length, arith, length-append}
use Rattle.std.proofs.lemmas.List.{append_assoc, append-nil}
use Rattle.dsp_defs.specs.Block.{Frame, whole, live, live_chain, whole_chain}
use Rattle.dsp_defs.specs.Shape.{live_frames, whole_frames, frames_behind}
use Rattle.dsp_defs.specs.Cost.{live_block_cost, live_cost, cost_so_far, unit_turns}
use Rattle.dsp_defs.specs.Measure.{measures, block_measures}
use Rattle.dsp_defs.specs.Kept.{kept_measures}
use Rattle.dsp_defs.specs.Streaming.{Begins}
use Rattle.dsp_defs.specs.Counts.{Counts}
use Rattle.dsp_unit.specs.Unit.{UnitState, MadeAs, StandsFor, CountsFrames, TookFrames, given_so_far, made_so_far}
use Rattle.dsp_unit.specs.Unit.{turns_of, Finishes, measures_of, whole_products}
use Rattle.dsp_unit.specs.Line.{Place, place_after, MadeFor, blocks_of, InLine, AllRun, AllStand, AllCount, AllTaken}
use Rattle.dsp_unit.specs.Line.{AllAccept, FeedsLine, chain_products, AllTook, line_given, line_made, line_turns}
use Rattle.dsp_unit.specs.Line.{Gave, GaveLive, AllGave, AllSpent, FinishesLine, measured_by, Passes}
use Rattle.dsp_defs.proofs.ChainLaws.{whole_chain_begins}
use Rattle.dsp_unit.proofs.CostLaws.{live_within_whole, live_is_so_far, so_far_grows, live_cost_within_products}
use Rattle.dsp_unit.proofs.TurnLaws.{all_taken_fewer, line_turns_within}
use Rattle.dsp_unit.proofs.MeasureLaws.{kept-measures}
use Rattle.dsp_unit.proofs.MemorylessLaws.{no-frames}
use Rattle.dsp_defs.specs.declared.measure.Measure.{Measure}
use Rattle.dsp_defs.specs.declared.script.Block.{Block}

-- ---- a line that runs

pub count-runs : (us : List UnitState) (n : ℕ) → AllCount us n → AllRun us
count-runs [] n counts = tt
count-runs (u ∷ us) n counts = (counts.0.running, count-runs us (live_frames u.block n) counts.1)

-- a unit that runs has given its live frames
given-live : (u : UnitState) (n : ℕ) → CountsFrames u n → given_so_far u n ≡ live_frames u.block n
given-live u n counts = (let whole = counts.tail_frames in omega (arith, whole))

counts-took : (u : UnitState) (n : ℕ) → CountsFrames u n → TookFrames u n
counts-took u n counts = record {
  place = counts.place;
  tail_within =
      (let whole = counts.tail_frames in omega (arith, whole));
}

-- a line that counts n frames took them
pub count-took : (us : List UnitState) (n : ℕ) → AllCount us n → AllTook us n
count-took [] n counts = tt
count-took (u ∷ us) n counts = (
  counts-took u n counts.0,
  inl (subst (AllCount us) (sym (given-live u n counts.0)) counts.1),
)

-- has given the live frames
pub count-given : (us : List UnitState) (n : ℕ) → AllCount us n →
    line_given us n ≡ frames_behind live_frames (blocks_of us) n
count-given [] n counts = refl
count-given (u ∷ us) n counts = ap (line_given us) (given-live u n counts.0) ∙
    count-given us (live_frames u.block n) counts.1

-- and has made the products of their cost
pub count-made : (p : Place) (us : List UnitState) (n : ℕ) → InLine p us → AllCount us n →
    line_made us n ≡ live_cost p.format p.channels (blocks_of us) n
count-made p [] n line counts = refl
count-made p (u ∷ us) n line counts = ap₂ (λ (here later : ℕ). here + later) here
    (ap (line_made us) (given-live u n counts.0) ∙ count-made (place_after p u.block) us (live_frames u.block n) line.1
    counts.1)
  where
    here : made_so_far u n ≡ live_block_cost p.format p.channels u.block n
    here = (λ i. cost_so_far (line.0.format i) (line.0.channels i) u.block n n (given-live u n counts.0 i)) ∙
        live_is_so_far p.format p.channels u.block n

-- what a unit has measured of the frames that it took
measured-here : (u : UnitState) (number : ℕ) (x : List Frame) → StandsFor u x →
    measures_of number u ≡ block_measures u.format u.channels number u.block x
measured-here u number x stands = ap (kept_measures u.format u.channels number u.block) stands.keeps ∙
    kept-measures u.format u.channels number u.block x

-- a unit that stands for x has given what is live of it
stand-given : (u : UnitState) (x : List Frame) → StandsFor u x → Gave u x (live u.format u.channels u.block x)
stand-given u x stands = record { given = stands.tail_follows; measured = λ number. measured-here u number x stands }

-- and so has a line
pub stand-gave : (p : Place) (us : List UnitState) (x : List Frame) → InLine p us →
    AllStand p.format p.channels us x → AllGave p us x (live_chain p.format p.channels (blocks_of us) x)
stand-gave p [] x line stand = refl
stand-gave p (u ∷ us) x line stand = (
  live p.format p.channels u.block x,
  rw (← line.0.format, ← line.0.channels) (stand-given u x stand.0),
  inl (record { stands = stand.1; live = refl }),
)

-- ---- what a line has given is a front of the whole

-- what it has given is the front of what it gives of a whole signal
pub gave-front : (p : Place) (us : List UnitState) (x ys : List Frame) → InLine p us → AllGave p us x ys →
    Begins ys (whole_chain p.format p.channels (blocks_of us) x)
gave-front p [] x ys line e = ([], sym e ∙ sym (append-nil ys))
gave-front p (u ∷ us) x ys line (piece, gave, later) =
    let q = place_after p u.block in
    let chain = whole_chain q.format q.channels (blocks_of us) in
    let here : whole p.format p.channels u.block x ≡ piece ++ u.tail =
    rw (line.0.format, line.0.channels) at gave.given in
    elim later [
      | inl live ↦ (
          let begins = whole_chain_begins q.format q.channels (blocks_of us) piece u.tail in
          (begins.0, ap chain here ∙ begins.1 ∙ ap (λ l. l ++ begins.0) (sym live.live))
          )
      | inr spent ↦ (
          let begins = gave-front q us piece ys line.1 spent.1 in
          (begins.0, ap chain (here ∙ ap (λ t. piece ++ t) spent.0 ∙ append-nil piece) ∙ begins.1)
          )
    ]

-- ---- a line that is spent

-- a unit at the front that is spent, and the line behind it
spent-behind : (p : Place) (u : UnitState) (us : List UnitState) (piece ys : List Frame) → InLine p (u ∷ us) →
    (GaveLive (place_after p u.block) us piece ys ⊎ ((u.tail ≡ []) × AllGave (place_after p u.block) us piece ys)) →
    AllGave (place_after p u.block) us piece ys
spent-behind p u us piece ys line (inl live) = subst (AllGave (place_after p u.block) us piece) (sym live.live)
    (stand-gave (place_after p u.block) us piece line.1 live.stands)
spent-behind p u us piece ys line (inr spent) = spent.1

pub spent-gave : (p : Place) (us : List UnitState) (x ys : List Frame) (number : ℕ) → InLine p us → AllSpent us →
    AllGave p us x ys →
    (ys ≡ whole_chain p.format p.channels (blocks_of us) x) ×
    (measured_by number us ≡ measures p.format p.channels number (blocks_of us) x)
spent-gave p [] x ys number line spent e = (e, refl)
spent-gave p (u ∷ us) x ys number line spent (piece, gave, later) =
    let q = place_after p u.block in
    let here : piece ≡ whole p.format p.channels u.block x = sym (append-nil piece) ∙
    ap (λ t. piece ++ t) (sym spent.0) ∙ sym (rw (line.0.format, line.0.channels) at gave.given) in
    let rest = spent-gave q us piece ys (number + 1) line.1 spent.1 (spent-behind p u us piece ys line later) in (
      rest.0 ∙ ap (whole_chain q.format q.channels (blocks_of us)) here,
      ap₂ {C = List Measure} (λ ms later. ms ++ later) (gave.measured number ∙
          (λ i. block_measures (line.0.format i) (line.0.channels i) number u.block x))
          (rest.1 ∙ ap (measures q.format q.channels (number + 1) (blocks_of us)) here),
    )

pub spent-took : (u : UnitState) (us : List UnitState) (n : ℕ) → AllCount us n ⊎ ((u.tail ≡ []) × AllTook us n) →
    AllTook us n
spent-took u us n (inl counts) = count-took us n counts
spent-took u us n (inr took) = took.1

pub given-whole : (u : UnitState) (n : ℕ) → u.tail ≡ [] → given_so_far u n ≡ whole_frames u.block n
given-whole u n none = ap (λ t. whole_frames u.block n - length t) none ∙ omega arith

-- it has given the frames of the whole signal, and made its products
pub spent-given : (us : List UnitState) (n : ℕ) → AllSpent us → AllTook us n →
    line_given us n ≡ frames_behind whole_frames (blocks_of us) n
spent-given [] n spent took = refl
spent-given (u ∷ us) n spent took = spent-given us (given_so_far u n) spent.1
    (spent-took u us (given_so_far u n) took.1) ∙ ap (frames_behind whole_frames (blocks_of us))
    (given-whole u n spent.0)

pub spent-made : (p : Place) (us : List UnitState) (n : ℕ) → InLine p us → AllSpent us → AllTook us n →
    line_made us n ≡ chain_products p.format p.channels (blocks_of us) n
spent-made p [] n line spent took = refl
spent-made p (u ∷ us) n line spent took =
    let q = place_after p u.block in
    ap₂ (λ (here later : ℕ). here + later) (λ i. cost_so_far (line.0.format i) (line.0.channels i) u.block n n
    (given-whole u n spent.0 i))
    (spent-made q us (given_so_far u n) line.1 spent.1 (spent-took u us (given_so_far u n) took.1) ∙
    ap (chain_products q.format q.channels (blocks_of us)) (given-whole u n spent.0))

-- ---- what is left is never below nothing

given-within : (u : UnitState) (n : ℕ) → given_so_far u n ≤ whole_frames u.block n
given-within u n = omega arith

-- a line has given no more frames than the whole signal has
pub took-within : (us : List UnitState) (n : ℕ) → AllTook us n →
    line_given us n ≤ frames_behind whole_frames (blocks_of us) n
took-within [] n took = omega arith
took-within (u ∷ us) n took = elim took.1 [
  | inl counts ↦ (
      let live = count-given us (given_so_far u n) counts in
      let within = live-behind (blocks_of us) (given_so_far u n) (whole_frames u.block n) (given-within u n) in
      omega (arith, live, within)
      )
  | inr spent ↦ subst (λ k. line_given us (given_so_far u n) ≤ frames_behind whole_frames (blocks_of us) k)
      (given-whole u n spent.0) (took-within us (given_so_far u n) spent.1)
]
  where
    live-behind : (blocks : List Block) (n m : ℕ) → n ≤ m →
        frames_behind live_frames blocks n ≤ frames_behind whole_frames blocks m
    live-behind [] n m h = h
    live-behind (block ∷ blocks) n m h = live-behind blocks (live_frames block n) (whole_frames block m)
        (live_within_whole block n m h)

-- and made no more products than its chain
pub made-within : (p : Place) (us : List UnitState) (n : ℕ) → InLine p us → AllTook us n →
    line_made us n ≤ chain_products p.format p.channels (blocks_of us) n
made-within p [] n line took = omega arith
made-within p (u ∷ us) n line took =
    let q = place_after p u.block in
    let here : made_so_far u n ≤ whole_products p.format p.channels u.block n =
    rw (line.0.format, line.0.channels) (so_far_grows p.format p.channels u.block n (given_so_far u n)
    (whole_frames u.block n) (given-within u n)) in
    let later : line_made us (given_so_far u n) ≤ chain_products q.format q.channels (blocks_of us)
    (whole_frames u.block n) = elim took.1 [
      | inl counts ↦ (
          let made = count-made q us (given_so_far u n) line.1 counts in
          let within = live_cost_within_products q.format q.channels (blocks_of us) (given_so_far u n)
          (whole_frames u.block n) (given-within u n) in
          omega (arith, made, within)
          )
      | inr spent ↦ subst (λ k. line_made us (given_so_far u n) ≤ chain_products q.format q.channels (blocks_of us) k)
          (given-whole u n spent.0) (made-within q us (given_so_far u n) line.1 spent.1)
    ] in
    omega (arith, here, later)

-- ---- steps

made-again : (p : Place) (u v : UnitState) → MadeAs u v → MadeFor p u → MadeFor p v
made-again p u v same made = record {
  format = same.format ∙ made.format;
  channels = same.channels ∙ made.channels;
  capacity = same.capacity ∙ made.capacity;
}

pub nothing-passes : (p : Place) → Passes p []
nothing-passes p = record {
  signal = record {
    whole_frames = rw (no-frames p.channels) (omega arith);
    in_format =
        λ k d h. absurd (omega (arith, h));
  };
  at_most = rw (no-frames p.channels) (omega arith);
}

-- no units give nothing
pub finishes-none : (p : Place) (counts : Counts) → FinishesLine p [] [] [] counts counts
finishes-none p counts = record {
  blocks = refl;
  in_line = tt;
  same_turns = λ m n. refl;
  gave = λ x ys gave. append-nil ys ∙ gave;
  took = λ n took. tt;
  frames = λ n took. omega arith;
  multiplies = λ n took. refl;
  turns = λ n took. omega arith;
}

-- one step after another
pub finishes-then :
    (p : Place) (us vs ws : List UnitState) (given more : List Frame) (before between after : Counts) →
    FinishesLine p us vs given before between → FinishesLine p vs ws more between after →
    FinishesLine p us ws (given ++ more) before after
finishes-then p us vs ws given more before between after one next = record {
  blocks = next.blocks ∙ one.blocks;
  in_line = next.in_line;
  same_turns = λ m n. next.same_turns m n ∙ one.same_turns m n;
  gave = λ x ys gave. subst (AllGave p ws x) (append_assoc ys given more)
      (next.gave x (ys ++ given) (one.gave x ys gave));
  took = λ n took. next.took n (one.took n took);
  frames = λ n took. (let first = one.frames n took in let second = next.frames n (one.took n took) in
      omega (arith, first, second, length-append given more));
  multiplies = λ n took. (let first = one.multiplies n took in let second = next.multiplies n (one.took n took) in
      omega (arith, first, second));
  turns = λ n took. (let first = one.turns n took in let second = next.turns n (one.took n took) in
      omega (arith, first, second));
}

-- a call of the first unit
module _ (p : Place) (u v : UnitState) (us : List UnitState) (line : InLine p (u ∷ us)) (piece : List Frame)
    (before between : Counts) (one : Finishes u v piece before between) where
  given-next : (n : ℕ) → TookFrames u n → given_so_far v n ≡ given_so_far u n + length piece
  given-next n took =
      let same = ap (λ b. whole_frames b n) one.made.block in
      let size : length u.tail ≡ length piece + length v.tail = ap length one.tail ∙ length-append piece v.tail in
      let within = took.tail_within in
      omega (arith, same, size, within)

  gave-next : (x ys : List Frame) → Gave u x ys → Gave v x (ys ++ piece)
  gave-next x ys gave = record {
    given = (λ i. whole (one.made.format i) (one.made.channels i) (one.made.block i) x) ∙ gave.given ∙
        ap (λ t. ys ++ t) one.tail ∙ sym (append_assoc ys piece v.tail);
    measured = λ number. one.measures number ∙ gave.measured number ∙
        sym (λ i. block_measures (one.made.format i) (one.made.channels i) number (one.made.block i) x);
  }

  front-nil : {A : Type 0} (xs ys : List A) → xs ++ ys ≡ [] → xs ≡ []
  front-nil [] ys e = refl
  front-nil (x ∷ xs) ys e = cc

  not-spent : (piece ≡ [] → ⊥) → u.tail ≡ [] → ⊥
  not-spent some none = some (front-nil piece v.tail (sym one.tail ∙ none))

  turn-products : (n : ℕ) → TookFrames u n → between.turns + before.multiplies ≤ before.turns + between.multiplies
  turn-products n took = (let made = one.multiplies n took in let turned = one.turns n took in
      omega (arith, made, turned))

  -- that gave nothing
  pub finishes-idle : piece ≡ [] → FinishesLine p (u ∷ us) (v ∷ us) [] before between
  finishes-idle none = record {
    blocks = ap (λ b. b ∷ blocks_of us) one.made.block;
    in_line = (made-again p u v one.made line.0, rw one.made.block line.1);
    same_turns = λ m n. ap₂ (λ (here later : ℕ). here + later)
        (λ i. unit_turns (one.made.banked i) (one.made.format i) (one.made.channels i) (one.made.block i) m n)
        (λ i. line_turns us (live_frames (one.made.block i) m) (live_frames (one.made.block i) n));
    gave = λ x ys (part, gave, later). (
      part,
      subst (Gave v x) (ap (λ g. part ++ g) none ∙ append-nil part) (gave-next x part gave),
      rw (one.made.block, append-nil ys) (elim later [
        | inl live ↦ inl live
        | inr spent ↦ inr (spent_now, spent.1)
      ]),
    );
    took = λ n took. (
      one.took n took.0,
      rw (same n took.0) (elim took.1 [
        | inl counts ↦ inl counts
        | inr spent ↦ inr (spent_now, spent.1)
      ]),
    );
    frames = λ n took. ap (line_given us) (same n took.0) ∙ omega arith;
    multiplies = λ n took. (let made = one.multiplies n took.0 in let later = ap (line_made us) (same n took.0) in
        omega (arith, made, later));
    turns = λ n took. turn-products n took.0;
  }
    where
      spent_now : v.tail ≡ []
      spent_now = sym (one.tail ∙ ap (λ g. g ++ v.tail) none) ∙ one.spent none

      same : (n : ℕ) → TookFrames u n → given_so_far v n ≡ given_so_far u n
      same n took = given-next n took ∙ ap (λ g. given_so_far u n + length g) none ∙ omega arith

  -- that gave a piece, with which the line behind it was fed
  module _ (vs : List UnitState) (given : List Frame) (after : Counts)
      (fed : FeedsLine (place_after p u.block) us vs piece given between after) (some : piece ≡ [] → ⊥) where
    counted : (n : ℕ) → AllTook (u ∷ us) n → AllCount us (given_so_far u n)
    counted n took = elim took.1 [
      | inl counts ↦ counts
      | inr spent ↦ absurd (not-spent some spent.0)
    ]

    counts-next : (n : ℕ) → AllTook (u ∷ us) n → AllCount vs (given_so_far v n)
    counts-next n took = subst (AllCount vs) (sym (given-next n took.0))
        (fed.counts (given_so_far u n) (counted n took))

    pub finishes-piece : FinishesLine p (u ∷ us) (v ∷ vs) given before after
    finishes-piece = record {
      blocks = ap₂ (λ b bs. b ∷ bs) one.made.block fed.blocks;
      in_line = (made-again p u v one.made line.0, rw one.made.block fed.in_line);
      same_turns = λ m n. ap₂ (λ (here later : ℕ). here + later)
          (λ i. unit_turns (one.made.banked i) (one.made.format i) (one.made.channels i) (one.made.block i) m n)
          ((λ i. line_turns vs (live_frames (one.made.block i) m) (live_frames (one.made.block i) n)) ∙
          fed.same_turns (live_frames u.block m) (live_frames u.block n));
      gave = λ x ys (part, gave, later). (
        part ++ piece,
        gave-next x part gave,
        inl (elim later [
          | inl live ↦ rw one.made.block (record {
            stands = fed.stands part live.stands;
            live = rw fed.blocks (ap (λ l. l ++ given) live.live ∙ sym (fed.values part live.stands));
          })
          | inr spent ↦ absurd (not-spent some spent.0)
        ]),
      );
      took = λ n took. (one.took n took.0, inl (counts-next n took));
      frames = λ n took.
          let g = given_so_far u n in
          let new = count-given vs (given_so_far v n) (counts-next n took) in
          let old = count-given us g (counted n took) in
          let risen = fed.frames g (counted n took) in
          new ∙ (λ i. frames_behind live_frames (fed.blocks i) (given-next n took.0 i)) ∙ risen ∙
          ap (λ k. k + length given) (sym old);
      multiplies = λ n took.
          let q = place_after p u.block in
          let g = given_so_far u n in
          let new = count-made q vs (given_so_far v n) fed.in_line (counts-next n took) ∙
          (λ i. live_cost q.format q.channels (fed.blocks i) (given-next n took.0 i)) in
          let old = count-made q us g line.1 (counted n took) in
          let made = one.multiplies n took.0 in
          let risen = fed.multiplies g (counted n took) in
          omega (arith, new, old, made, risen);
      turns = λ n took.
          let q = place_after p u.block in
          let g = given_so_far u n in
          let here = turn-products n took.0 in
          let made = fed.multiplies g (counted n took) in
          let turned = fed.turns g (counted n took) in
          let within = line_turns_within q us g (g + length piece) line.1 (omega arith) in
          omega (arith, here, made, turned, within);
    }

-- the first unit is spent, and the line behind it goes on
pub finishes-behind :
    (p : Place) (v : UnitState) (us ws : List UnitState) (given : List Frame) (before after : Counts) →
    InLine p (v ∷ us) → v.tail ≡ [] →
    FinishesLine (place_after p v.block) us ws given before after → FinishesLine p (v ∷ us) (v ∷ ws) given before after
finishes-behind p v us ws given before after line none next = record {
  blocks = ap (λ bs. v.block ∷ bs) next.blocks;
  in_line = (line.0, next.in_line);
  same_turns = λ m n. ap (λ later. turns_of v m n + later)
      (next.same_turns (live_frames v.block m) (live_frames v.block n));
  gave = λ x ys (part, gave, later). (
    part,
    gave,
    inr (
      none,
      next.gave part ys (spent-behind p v us part ys line later),
    ),
  );
  took = λ n took. (took.0, inr (none, next.took (given_so_far v n) (spent-took v us (given_so_far v n) took.1)));
  frames = λ n took. next.frames (given_so_far v n) (spent-took v us (given_so_far v n) took.1);
  multiplies = λ n took. (let made = next.multiplies (given_so_far v n) (spent-took v us (given_so_far v n) took.1) in
      omega (arith, made));
  turns = λ n took. next.turns (given_so_far v n) (spent-took v us (given_so_far v n) took.1);
}

-- ---- what a line can still take

-- while the first unit has a tail, the line behind it can take the rest of it
pub tail-accepts : (u : UnitState) (us : List UnitState) (n more : ℕ) → AllTook (u ∷ us) n →
    AllTaken (blocks_of (u ∷ us)) n → (u.tail ≡ [] → ⊥) → more ≤ length u.tail → AllAccept us more × AllRun us
tail-accepts u us n more took taken some few =
    let counts : AllCount us (given_so_far u n) = elim took.1 [
      | inl counts ↦ counts
      | inr spent ↦ absurd (some spent.0)
    ] in
    let within : given_so_far u n + more ≤ whole_frames u.block n =
    (let whole = took.0.tail_within in omega (arith, whole, few)) in (
      (
        given_so_far u n,
        counts,
        all_taken_fewer (blocks_of us) (given_so_far u n + more) (whole_frames u.block n)
            within taken.1,
      ),
      count-runs us (given_so_far u n) counts,
    )
