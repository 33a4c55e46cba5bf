-- A session goes on block by block, from any state that it is in.
use Rattle.std.proofs.Common.{◌≡◌, ℕ, suc, ◌+◌, ◌*◌, ◌<◌, ◌≤◌, List, [], ◌++◌, length, refl, sym, ap, ◌∙◌, subst}
use Rattle.std.proofs.Common.{arith, append_assoc, append-nil, length-append}
use Rattle.std.proofs.lemmas.List.{take_all}
use Rattle.dsp_ports.specs.Ports.{SourceState, SinkState, Gave}
use Rattle.dsp_ports.proofs.Moved.{Gave-nil, Gave-append, Took-nil, Took-append}
use Rattle.dsp_defs.specs.Block.{Frame}
use Rattle.dsp_defs.specs.Cost.{live_cost}
use Rattle.dsp_defs.specs.Counts.{Counts}
use Rattle.dsp_defs.specs.Output.{live_bytes}
use Rattle.dsp_defs.specs.Shape.{gathered}
use Rattle.dsp_defs.specs.declared.limits.TheConstants.{MAX_GATHERED, MAX_INPUT}
use Rattle.dsp_defs.specs.declared.script.Script.{Script}
use Rattle.dsp_defs.specs.declared.wave.Header.{Header}
use Rattle.dsp_chain.specs.Chain.{IsLive, made_of}
use Rattle.dsp_chain.proofs.NewChain.{gathered-nothing}
use Rattle.dsp_input.specs.declared.fault.InputFault.{InputFault}
use Rattle.dsp_input.specs.Taking.{InDeclared, PartRead, PartUnread, declared_bytes, frame_bytes}
use Rattle.dsp_session.specs.Opening.{of_input}
use Rattle.dsp_session.specs.SessionState.{SessionState}
use Rattle.dsp_session.specs.Session.{IsReady, Holds, StandsFor, signal, block_bytes, live_cost_of, turns_of}
use Rattle.dsp_session.specs.Advancing.{Runs, PassesOn, FailsToPassOn, Advances, Going, Reached, NotRead, NotPassed}
use Rattle.dsp_session.specs.Advancing.{Broke, turns_from}
use Rattle.dsp_session.specs.declared.fault.StreamFault.{StreamFault}
use Rattle.dsp_session.specs.declared.streaming.Last.{Last}
use Rattle.dsp_session.specs.declared.streaming.Span.{Span}
use Rattle.dsp_session.proofs.OpeningLaws.{some_frame, frames_of_blocks, signal-nil, signal-append, frames-whole}
use Rattle.dsp_session.proofs.FeedLaws.{feed_out}

-- a session that has taken nothing can take more
pub new_runs : (s : SessionState) → StandsFor s [] → Runs s
new_runs s stands = record {
  holds = stands.holds;
  running = stands.chain.running;
  works = stands.chain.works;
  live = stands.live;
  not_full = subst (λ n. gathered s.script.blocks n ≤ MAX_GATHERED) (sym stands.chain.counted)
      (omega (arith, gathered-nothing s.script.blocks));
}

-- and so can one behind a call
pub passed_runs : (old new : SessionState) (bytes : List ℕ) (sink after : SinkState) (before counts : Counts) →
    PassesOn old new bytes sink after before counts → Runs new
passed_runs old new bytes sink after before counts passes = record {
  holds = passes.fed.holds;
  running = passes.fed.running;
  works = passes.fed.works;
  live = passes.fed.live;
  not_full = subst (λ (s : Script). gathered s.blocks new.chain.frames ≤ MAX_GATHERED) (sym passes.same.script)
      passes.not_full;
}

-- it has made the live cost of its frames
pub made_counted : (s : SessionState) → Holds s → IsLive s.chain →
    made_of s.chain ≡ live_cost_of s.script s.chain.frames
made_counted s holds live = live.made ∙ (λ i. live_cost (holds.input i).format (holds.input i).channels
    (holds.blocks i) s.chain.frames)

pub made_runs : (s : SessionState) → Runs s → made_of s.chain ≡ live_cost_of s.script s.chain.frames
made_runs s runs = made_counted s runs.holds runs.live

-- no block is none
advances_none : (start : SessionState) (sink : SinkState) (before : Counts) → Runs start →
    Advances start start 0 [] sink sink before before
advances_none start sink before runs =
    let none = signal-nil start.script start.coding (some_frame start.script start.coding start.block
    runs.holds.ready) in
    let same : (x : List Frame) → x ++ signal start.script start.coding [] ≡ x = λ x. ap (λ y. x ++ y) none ∙
    append-nil x in
    record {
      same = record { script = refl; banked = refl; block = refl; coding = refl };
      runs = runs;
      long = omega arith;
      counted = omega arith;
      written = [];
      took = Took-nil sink;
      no_fault = refl;
      values = λ x stands. ap (live_bytes start.script) (same x) ∙ sym (append-nil (live_bytes start.script x));
      stands = λ x stands. subst (StandsFor start) (sym (same x)) stands;
      multiplies = refl;
      turned = omega arith;
    }

module _ (start session : SessionState) (blocks : ℕ) (heard : List ℕ) (sink then : SinkState) (before counts : Counts)
    (ready : IsReady start.script start.block)
    (advances : Advances start session blocks heard sink then before counts)
    (piece : List ℕ) (long : length piece ≡ block_bytes start.script start.coding start.block) where
  some : 0 < frame_bytes start.script start.coding
  some = some_frame start.script start.coding start.block ready

  abbrev old : List Frame
  old = signal start.script start.coding heard

  abbrev more : List Frame
  more = signal start.script start.coding piece

  together : signal start.script start.coding (heard ++ piece) ≡ old ++ more
  together = signal-append start.script start.coding some heard piece (blocks * start.block)
      (frames_of_blocks start.script start.coding start.block blocks (length heard) advances.long)

  piece_frames : length more ≡ start.block
  piece_frames = frames-whole start.script start.coding some piece start.block long

  same_signal : signal session.script session.coding piece ≡ more
  same_signal = λ i. signal (advances.same.script i) (advances.same.coding i) piece

  -- one block more
  module _ (fed : SessionState) (last : SinkState) (passed : Counts)
      (passes : PassesOn session fed piece then last counts passed) where
    script_is : fed.script ≡ start.script
    script_is = passes.same.script ∙ advances.same.script

    counted : fed.chain.frames ≡ start.chain.frames + suc blocks * start.block
    counted = omega (arith, passes.fed.counted, ap length same_signal, piece_frames, advances.counted)

    made_fed : made_of fed.chain ≡ live_cost_of start.script fed.chain.frames
    made_fed = made_runs fed (passed_runs session fed piece then last counts passed passes) ∙
        ap (λ (s : Script). live_cost_of s fed.chain.frames) script_is

    made_before : made_of session.chain ≡ live_cost_of start.script session.chain.frames
    made_before = made_runs session advances.runs ∙ ap (λ (s : Script). live_cost_of s session.chain.frames)
        advances.same.script

    step : (y : List Frame) → StandsFor session y → live_bytes start.script (y ++ more) ≡ live_bytes start.script y ++
        fed.out
    step y stands =
        (λ i. live_bytes (sym advances.same.script i) (y ++ signal (sym advances.same.script i)
        (sym advances.same.coding i) piece))
        ∙ feed_out session fed piece counts passed passes.same passes.fed y stands
        ∙ (λ i. live_bytes (advances.same.script i) y ++ fed.out)

    turned : passed.turns ≤ counts.turns + turns_of start.banked start.script
        (start.chain.frames + blocks * start.block) (start.chain.frames + suc blocks * start.block)
    turned =
        subst (λ n. passed.turns ≤ counts.turns + n) (λ i. turns_of (advances.same.banked i) (advances.same.script i)
        (advances.counted i) (counted i)) passes.fed.turns

    next : suc blocks ≡ blocks + 1
    next = omega arith

    advances_more : Advances start fed (blocks + 1) (heard ++ piece) sink last before passed
    advances_more = record {
      same = record {
        script = script_is;
        banked = passes.same.banked ∙ advances.same.banked;
        block =
            passes.same.block ∙ advances.same.block;
        coding = passes.same.coding ∙ advances.same.coding;
      };
      runs = passed_runs session fed piece then last counts passed passes;
      long = omega (arith, length-append heard piece, advances.long, long);
      counted = counted ∙ ap (λ k. start.chain.frames + k * start.block) next;
      written = advances.written ++ fed.out;
      took = Took-append sink then last advances.written fed.out advances.took passes.took;
      no_fault = passes.no_fault ∙ advances.no_fault;
      values = λ x stands.
          ap (λ y. live_bytes start.script (x ++ y)) together
          ∙ ap (live_bytes start.script) (sym (append_assoc x old more))
          ∙ step (x ++ old) (advances.stands x stands)
          ∙ ap (λ ys. ys ++ fed.out) (advances.values x stands)
          ∙ append_assoc (live_bytes start.script x) advances.written fed.out;
      stands = λ x stands.
          subst (StandsFor fed) (append_assoc x old more ∙ ap (λ y. x ++ y) (sym together))
          (subst (λ y. StandsFor fed ((x ++ old) ++ y)) same_signal
          (passes.fed.stands (x ++ old) (advances.stands x stands)));
      multiplies = omega (arith, passes.fed.multiplies, made_fed, made_before, advances.multiplies);
      turned = subst (λ k. passed.turns ≤ before.turns + turns_from start.banked start.script start.block
          start.chain.frames k) next (omega (arith, turned, advances.turned));
    }

-- ---- a part of the samples

pub going_starts : (start : SessionState) (header : Header) (span : Span) (input : SourceState) (sink : SinkState)
    (before : Counts) → Runs start
    → InDeclared (declared_bytes start.script header) span.from → header.start + span.from ≤ MAX_INPUT →
    span.from ≤ span.end
    → Going start start header span span.from input input sink sink before before
going_starts start header span input sink before runs declared limit part = record {
  heard = [];
  blocks = 0;
  advances = advances_none start sink before runs;
  taken_is = omega arith;
  declared = declared;
  in_limit = limit;
  in_span = part;
  gave = Gave-nil input;
  no_fault = refl;
  going = refl;
}

-- so many frames have at least as many bytes
few : (frames frame bytes : ℕ) → 0 < frame → frames * frame ≤ bytes → frames ≤ bytes
few frames frame bytes some h = grind arith

-- a block for which there is room in bytes
pub block_in_limit : (made block frame taken size start : ℕ) → 0 < frame → made * frame ≤ taken → size ≡ block * frame →
    start + taken + size ≤ MAX_INPUT → made + block ≤ MAX_INPUT
block_in_limit made block frame taken size start some before is within =
    let both : (made + block) * frame ≡ made * frame + block * frame = sum made block frame in
    few (made + block) frame MAX_INPUT some (omega (arith, both, before, is, within))
  where
    sum : (a b f : ℕ) → (a + b) * f ≡ a * f + b * f
    sum a b f = grind arith

-- the bytes of the frames that were taken are among those that have passed
pub going_frames : (start session : SessionState) (header : Header) (span : Span) (taken : ℕ) (input now : SourceState)
    (sink then : SinkState) (before counts : Counts) → start.coding ≡ header.coding
    → start.chain.frames * frame_bytes start.script header.coding ≤ span.from
    → Going start session header span taken input now sink then before counts
    → session.chain.frames * frame_bytes session.script session.coding ≤ taken
going_frames start session header span taken input now sink then before counts coding from going =
    let advances = going.advances in
    let frame = frame_bytes start.script start.coding in
    let heard : length going.heard ≡ going.blocks * start.block * frame =
    frames_of_blocks start.script start.coding start.block going.blocks (length going.heard) advances.long in
    let all : session.chain.frames * frame_bytes session.script session.coding ≡
    (start.chain.frames + going.blocks * start.block) * frame =
    (λ i. advances.counted i * frame_bytes (advances.same.script i) (advances.same.coding i)) in
    let first : start.chain.frames * frame ≤ span.from = rw coding from in
    omega (arith, all, sum start.chain.frames (going.blocks * start.block) frame, heard, first, going.taken_is)
  where
    sum : (a b f : ℕ) → (a + b) * f ≡ a * f + b * f
    sum a b f = grind arith

-- nothing has changed where no block was lent
pub still_going : (start session new : SessionState) (header : Header) (span : Span) (taken : ℕ)
    (input now later : SourceState) (sink then last : SinkState) (before counts made : Counts)
    → Going start session header span taken input now sink then before counts
    → (new ≡ session) × (later ≡ now) × (last ≡ then) × (made ≡ counts)
    → Going start new header span taken input later sink last before made
still_going start session new header span taken input now later sink then last before counts made going
    (worker, source, output, steps) = rw (worker, source, output, steps) going

add_up : (a b c f : ℕ) → (a + (b + c)) * f ≡ a * f + (b * f + c * f)
add_up a b c f = grind arith

module _ (start session : SessionState) (header : Header) (span : Span) (taken : ℕ) (input now : SourceState)
    (sink then : SinkState) (before counts : Counts)
    (ready : IsReady start.script start.block) (coding : start.coding ≡ header.coding)
    (from : start.chain.frames * frame_bytes start.script header.coding ≤ span.from)
    (going : Going start session header span taken input now sink then before counts)
    (later : SourceState) (piece : List ℕ) (count : ℕ) (long : length piece ≡ block_bytes start.script start.coding
    start.block) (full : length piece ≤ count)
    (read : PartRead start.script header span.end taken piece count now later) where
  abbrev advances : Advances start session going.blocks going.heard sink then before counts
  advances = going.advances

  all_read : count ≡ length piece
  all_read = omega (arith, full, read.within)

  -- what the next call asks for
  piece_is : signal session.script session.coding piece ≡ signal start.script start.coding piece
  piece_is = same_signal start session going.blocks going.heard sink then before counts ready advances piece long

  pub piece_whole : length piece ≡ length (signal session.script session.coding piece) * frame_bytes session.script
      session.coding
  piece_whole =
      long ∙ (λ i. sym (piece_frames start session going.blocks going.heard sink then
      before counts ready advances piece long) i * frame_bytes start.script start.coding)
      ∙ (λ i. length (sym piece_is i) * frame_bytes (sym advances.same.script i) (sym advances.same.coding i))

  pub piece_in_block : length (signal session.script session.coding piece) ≤ session.block
  piece_in_block = omega (
    arith,
    ap length piece_is,
    piece_frames start session going.blocks going.heard sink then
        before counts ready advances piece long,
    advances.same.block,
  )

  pub piece_few : session.chain.frames + length (signal session.script session.coding piece) ≤ MAX_INPUT
  piece_few =
      let frame = frame_bytes start.script header.coding in
      let some : 0 < frame = some_frame start.script header.coding start.block ready in
      let all : session.chain.frames + length (signal session.script session.coding piece) ≡ start.chain.frames +
      (going.blocks * start.block + start.block) =
      omega (
        arith,
        advances.counted,
        ap length piece_is,
        piece_frames start session going.blocks going.heard sink then before counts ready advances piece long,
      ) in
      let heard : length going.heard ≡ going.blocks * start.block * frame =
      frames_of_blocks start.script start.coding start.block going.blocks (length going.heard) advances.long ∙
      ap (λ c. going.blocks * start.block * frame_bytes start.script c) coding in
      let block : length piece ≡ start.block * frame = long ∙
      ap (λ c. start.block * frame_bytes start.script c) coding in
      let bytes : (start.chain.frames + (going.blocks * start.block + start.block)) * frame ≤ taken + count =
      omega (
        arith,
        add_up start.chain.frames (going.blocks * start.block) start.block frame,
        from,
        heard,
        block,
        going.taken_is,
        all_read,
      ) in
      let frames = few (start.chain.frames + (going.blocks * start.block + start.block)) frame (taken + count) some
      bytes in
      omega (arith, all, frames, read.in_limit)

  pub goes_on : (fed : SessionState) (last : SinkState) (passed : Counts) → PassesOn session fed piece then
      last counts passed
      → Going start fed header span (taken + count) input later sink last before passed
  goes_on fed last passed passes = record {
    heard = going.heard ++ piece;
    blocks = going.blocks + 1;
    advances = advances_more start session going.blocks going.heard sink then
        before counts ready advances piece long fed last passed passes;
    taken_is = omega (arith, going.taken_is, length-append going.heard piece, all_read);
    declared = read.declared;
    in_limit = omega (arith, read.in_limit);
    in_span = read.in_part;
    gave = Gave-append input now later going.heard piece going.going going.gave
        (subst (Gave now later) (take_all count piece full) read.gave);
    no_fault = read.no_fault ∙ going.no_fault;
    going = read.going (λ short. absurd (omega (arith, short, full))) ∙ going.going;
  }

-- ---- the next block did not come, did not pass, or was not whole

module _ (start session : SessionState) (header : Header) (span : Span) (taken : ℕ) (input now : SourceState)
    (sink then : SinkState) (before counts : Counts)
    (coding : start.coding ≡ header.coding) (going : Going start session header span taken input now sink then
    before counts) where
  pub broke_unread : (size : ℕ) → size ≡ block_bytes start.script start.coding start.block →
      (error : InputFault) (later : SourceState) → PartUnread start.script header span.end taken size error now later
      → Broke start session header span (of_input error) input later sink then before counts
  broke_unread size is error later unread = record {
    session = session;
    taken = taken;
    between = now;
    then = then;
    made = counts;
    going = going;
    breaks = NotRead error refl
        (subst (λ (s : Script). PartUnread s header span.end taken (block_bytes s session.coding session.block) error
        now later) (sym going.advances.same.script)
        (subst (λ n. PartUnread start.script header span.end taken n error now later)
        (is ∙ (λ i. block_bytes start.script (sym going.advances.same.coding i) (sym going.advances.same.block i)))
        unread))
        refl refl refl;
  }

  module _ (later : SourceState) (piece : List ℕ) (count : ℕ)
      (long : length piece ≡ block_bytes start.script start.coding start.block)
      (read : PartRead start.script header span.end taken piece count now later) where
    pub broke_unpassed : length piece ≤ count → (new : SessionState) (stop : StreamFault) (last : SinkState)
        (made : Counts) → FailsToPassOn stop session new piece then last counts made
        → Broke start new header span stop input later sink last before made
    broke_unpassed full new stop last made fails =
        let all : count ≡ length piece = omega (arith, full, read.within) in
        record {
          session = session;
          taken = taken;
          between = now;
          then = then;
          made = counts;
          going = going;
          breaks = NotPassed piece
              (long ∙ (λ i. block_bytes (sym going.advances.same.script i) (sym going.advances.same.coding i)
              (sym going.advances.same.block i)))
              (subst (λ (s : Script). PartRead s header span.end taken piece (length piece) now later)
              (sym going.advances.same.script)
              (subst (λ n. PartRead start.script header span.end taken piece n now later) all read))
              fails;
        }

    pub reached : count < length piece → Reached start session header span piece
        (record { before = taken; count = count }) input later sink then before counts
    reached short = record { between = now; going = going; size = long; short = short; read = read }

-- the frames of a session stand in as many bytes of samples as lie before the last block
frames_more : (a b f n : ℕ) → a * f ≡ n → (a + b) * f ≡ n + b * f
frames_more a b f n is = grind arith

pub reached_frames : (start session : SessionState) (header : Header) (span : Span) (block : List ℕ) (last : Last)
    (input now : SourceState) (sink after : SinkState) (before counts : Counts) → start.coding ≡ header.coding
    → start.chain.frames * frame_bytes start.script header.coding ≡ span.from →
    Reached start session header span block last input now sink after before counts
    → session.chain.frames * frame_bytes session.script header.coding ≡ last.before
reached_frames start session header span block last input now sink after before counts coding from reached =
    let advances = reached.going.advances in
    let frame = frame_bytes start.script header.coding in
    let heard : length reached.going.heard ≡ reached.going.blocks * start.block * frame =
    frames_of_blocks start.script start.coding start.block reached.going.blocks (length reached.going.heard)
    advances.long ∙ ap (λ c. reached.going.blocks * start.block * frame_bytes start.script c) coding in
    let all : (start.chain.frames + reached.going.blocks * start.block) * frame ≡ span.from + reached.going.blocks *
    start.block * frame =
    frames_more start.chain.frames (reached.going.blocks * start.block) frame span.from from in
    (λ i. advances.counted i * frame_bytes (advances.same.script i) header.coding) ∙ all ∙
    omega (arith, reached.going.taken_is, heard)

pub reached_size : (start session : SessionState) (header : Header) (span : Span) (block : List ℕ) (last : Last)
    (input now : SourceState) (sink after : SinkState) (before counts : Counts) → start.coding ≡ header.coding
    → Reached start session header span block last input now sink after before counts →
    length block ≡ block_bytes session.script header.coding session.block
reached_size start session header span block last input now sink after before counts coding reached =
    reached.size ∙ (λ i. block_bytes (sym reached.going.advances.same.script i) (coding i)
    (sym reached.going.advances.same.block i))
