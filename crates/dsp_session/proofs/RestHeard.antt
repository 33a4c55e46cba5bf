-- What a stream over the rest of an input has taken and written in whole blocks.
use Rattle.std.proofs.Common.{◌≡◌, ℕ, suc, ◌+◌, ◌*◌, ◌<◌, ◌≤◌, List, ◌++◌, length, take, drop}
use Rattle.std.proofs.Common.{sym, ap, ◌∙◌, subst, arith, append_assoc, length-append, inr}
use Rattle.std.proofs.lemmas.List.{take_at, drop_at}
use Rattle.dsp_ports.specs.Ports.{SourceState, SinkState, Gave}
use Rattle.dsp_defs.specs.Block.{Frame}
use Rattle.dsp_defs.specs.Counts.{Counts}
use Rattle.dsp_defs.specs.Output.{input_header, live_bytes}
use Rattle.dsp_defs.specs.declared.script.Script.{Script}
use Rattle.dsp_defs.specs.declared.wave.Header.{Header}
use Rattle.dsp_input.specs.Taking.{Opened, declared_bytes, frame_bytes}
use Rattle.dsp_session.specs.SessionState.{SessionState}
use Rattle.dsp_session.specs.Session.{IsReady, StandsFor, block_bytes, signal}
use Rattle.dsp_session.specs.Advancing.{Runs, Going}
use Rattle.dsp_session.specs.Resuming.{LaterLagsByOne}
use Rattle.dsp_session.specs.Resuming.{later_blocks_end, later_frames}
use Rattle.dsp_session.specs.declared.streaming.Span.{Span}
use Rattle.dsp_session.proofs.OpeningLaws.{some_frame, frames_of_blocks, signal_is, signal-append, frames-whole}
use Rattle.dsp_session.proofs.BlockLaws.{in_declared}
use Rattle.dsp_session.proofs.FirstClose.{at_most}
use Rattle.dsp_session.proofs.OpeningLaws.{length-signal}

-- behind the header and the frames that were passed over: how many frames these bytes have, what is written of them,
-- and how far reading is ahead of that
pub record HeardRest (start session : SessionState) (header : Header) (blocks : ℕ)
    (first skip heard wrote : List ℕ) : Type 0 where
  pub some : 0 < frame_bytes start.script header.coding
  pub skip_frames : length (signal start.script header.coding skip) ≡ start.chain.frames
  pub heard_frames : length (signal start.script header.coding heard) ≡ blocks * start.block
  pub together : (bytes : List ℕ) → signal start.script header.coding (heard ++ bytes) ≡ signal start.script
      header.coding heard ++ signal start.script header.coding bytes
  -- the frames are those of whole blocks, and of at most one more
  pub reaches : (bytes : List ℕ) → length bytes ≤ block_bytes start.script header.coding start.block →
      (start.chain.frames + blocks * start.block ≤ start.chain.frames + length
      (signal start.script header.coding (heard ++ bytes)))
      × (start.chain.frames + length (signal start.script header.coding (heard ++ bytes)) ≤ start.chain.frames +
      suc blocks * start.block)
  pub stands : (x : List Frame) → StandsFor start x →
      StandsFor session (x ++ signal start.script header.coding heard)
  pub wrote_is : (x : List Frame) → StandsFor start x →
      live_bytes start.script (x ++ signal start.script header.coding heard) ≡ live_bytes start.script x ++ wrote
  -- at most a block is ahead of what was written
  pub lags : (bytes written : List ℕ) → length bytes ≤ block_bytes start.script header.coding start.block →
      LaterLagsByOne start.script start.block start start.chain.frames (first ++ (skip ++ (heard ++ bytes)))
      (wrote ++ written)

-- the frames before the rest were passed over, and whole blocks of it have passed
module _ (start session : SessionState) (header : Header) (span : Span) (taken : ℕ)
    (input opened_at mid now : SourceState) (sink then : SinkState) (before counts : Counts)
    (runs : Runs start) (coding : start.coding ≡ header.coding)
    (from : span.from ≡ start.chain.frames * frame_bytes start.script header.coding)
    (opened : Opened start.script header input opened_at)
    (skip : List ℕ) (skipped : Gave opened_at mid skip) (skip_long : length skip ≡ span.from)
    (still : (mid.faults ≡ opened_at.faults) × (mid.ended ≡ opened_at.ended))
    (going : Going start session header span taken mid now sink then
    before counts) where
  abbrev script : Script
  script = start.script

  abbrev frames : ℕ
  frames = start.chain.frames

  ready : IsReady script start.block
  ready = runs.holds.ready

  abbrev heard : List ℕ
  heard = going.heard

  abbrev wrote : List ℕ
  wrote = going.advances.written

  some : 0 < frame_bytes script header.coding
  some = some_frame script header.coding start.block ready

  whole : length heard ≡ going.blocks * start.block * frame_bytes script header.coding
  whole = frames_of_blocks script start.coding start.block going.blocks (length heard) going.advances.long ∙
      ap (λ c. going.blocks * start.block * frame_bytes script c) coding

  abbrev fed : List Frame
  fed = signal script header.coding heard

  heard_frames : length fed ≡ going.blocks * start.block
  heard_frames = frames-whole script header.coding some heard (going.blocks * start.block) whole

  -- the frames behind those that were passed over
  abbrev later : List ℕ → List Frame
  later bytes = signal script header.coding (heard ++ bytes)

  together : (bytes : List ℕ) → later bytes ≡ fed ++ signal script header.coding bytes
  together bytes = signal-append script header.coding some heard bytes (going.blocks * start.block) whole

  abbrev given : List ℕ → List ℕ
  given bytes = opened.first ++ (skip ++ (heard ++ bytes))

  stands : (x : List Frame) → StandsFor start x → StandsFor session (x ++ fed)
  stands x is = subst (λ c. StandsFor session (x ++ signal script c heard)) coding (going.advances.stands x is)

  wrote_is : (x : List Frame) → StandsFor start x → live_bytes script (x ++ fed) ≡ live_bytes script x ++ wrote
  wrote_is x is = ap (λ c. live_bytes script (x ++ signal script c heard)) (sym coding) ∙ going.advances.values x is

  skip_frames : length (signal script header.coding skip) ≡ frames
  skip_frames = frames-whole script header.coding some skip frames (skip_long ∙ from)

  -- the later frames of the blocks that have passed
  heard_later : later_frames script frames (opened.first ++ (skip ++ heard)) ≡ fed
  heard_later =
      let in_heard = in_declared (declared_bytes script header) taken (length (skip ++ heard))
      (omega (arith, going.taken_is, skip_long, length-append skip heard)) going.declared in
      ap (drop frames) (
      signal_is script header some opened.first opened.opens (skip ++ heard) in_heard
      ∙ signal-append script header.coding some skip heard frames (skip_long ∙ from)
      ) ∙ drop_at (signal script header.coding skip) fed frames skip_frames

  -- at most a block is ahead of what was written
  lags : (bytes written : List ℕ) → length bytes ≤ block_bytes script header.coding start.block →
      LaterLagsByOne script start.block start frames (given bytes) (wrote ++ written)
  lags bytes written short =
      let long : length heard ≡ going.blocks * block_bytes script header.coding start.block = going.advances.long ∙
      ap (λ c. going.blocks * block_bytes script c start.block) coding in
      let ends : (blocks : ℕ) → later_blocks_end script start.block frames (input_header script (given bytes)) blocks
      ≡ header.start + blocks * block_bytes script header.coding start.block + frames * frame_bytes script
      header.coding =
      λ blocks. ap (λ (h : Header). later_blocks_end script start.block frames h blocks)
      (opened.opens.said (skip ++ (heard ++ bytes))) in
      let front : given bytes ≡ (opened.first ++ (skip ++ heard)) ++ bytes =
      ap (λ ys. opened.first ++ ys) (sym (append_assoc skip heard bytes)) ∙
      sym (append_assoc opened.first (skip ++ heard) bytes) in
      let count : length (opened.first ++ (skip ++ heard)) ≡ later_blocks_end script start.block frames
      (input_header script (given bytes)) going.blocks =
      omega (arith, ends going.blocks, length-append opened.first (skip ++ heard), length-append skip heard) in
      let taken_front : take (later_blocks_end script start.block frames (input_header script (given bytes))
      going.blocks) (given bytes) ≡ opened.first ++ (skip ++ heard) =
      ap (take (later_blocks_end script start.block frames (input_header script (given bytes)) going.blocks)) front ∙
      take_at (opened.first ++ (skip ++ heard)) bytes _ count in
      let all : length (given bytes) ≡ length (opened.first ++ (skip ++ heard)) + length bytes = ap length front ∙
      length-append (opened.first ++ (skip ++ heard)) bytes in
      record {
        blocks = going.blocks;
        wrote = inr (
          omega (arith, all, count),
          λ x is. (
            written,
            sym (append_assoc (live_bytes script x) wrote written)
                ∙ ap (λ ys. ys ++ written) (sym (ap (λ (y : List Frame). live_bytes script (x ++ y))
                (ap (later_frames script frames) taken_front ∙ heard_later) ∙ wrote_is x is)),
          ),
        );
        one = (let next = ends (going.blocks + 1) in omega (arith, next, all, count, ends going.blocks, short));
      }

  reaches : (bytes : List ℕ) → length bytes ≤ block_bytes script header.coding start.block →
      (frames + going.blocks * start.block ≤ frames + length (later bytes))
      × (frames + length (later bytes) ≤ frames + suc going.blocks * start.block)
  reaches bytes short =
      let more = length (signal script header.coding bytes) in
      let all : length (later bytes) ≡ going.blocks * start.block + more =
      omega (arith, ap length (together bytes), length-append fed (signal script header.coding bytes), heard_frames)
      in
      let within : more ≤ start.block =
      rw (length-signal script header.coding some bytes)
      (at_most start.block (length bytes) (frame_bytes script header.coding) some short) in
      (omega (arith, all), omega (arith, all, within))

  pub heard_rest : HeardRest start session header going.blocks opened.first skip heard wrote
  heard_rest = record {
    some = some;
    skip_frames = skip_frames;
    heard_frames = heard_frames;
    together = together;
    reaches = reaches;
    stands = stands;
    wrote_is = wrote_is;
    lags = lags;
  }
