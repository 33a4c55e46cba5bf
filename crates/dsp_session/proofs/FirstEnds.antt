-- What the loop over the first frames of an input answers makes the ends of that stream.
use Rattle.std.proofs.Common.{◌≡◌, ℕ, ◌+◌, ◌-◌, ◌*◌, ◌<◌, ◌≤◌, List, [], ◌++◌, length, sym, ap, ◌∙◌, subst}
use Rattle.std.proofs.Common.{arith, length-append}
use Rattle.std.proofs.lemmas.List.{take_all}
use Rattle.dsp_ports.specs.Ports.{SourceState, SinkState, Gave}
use Rattle.dsp_defs.specs.Counts.{Counts}
use Rattle.dsp_defs.specs.declared.limits.TheConstants.{MAX_INPUT}
use Rattle.dsp_defs.specs.declared.script.Script.{Script}
use Rattle.dsp_defs.specs.declared.wave.Header.{Header}
use Rattle.dsp_input.specs.declared.fault.InputFault.{InputFault}
use Rattle.dsp_input.specs.Taking.{PartRead, PartUnread, frame_bytes}
use Rattle.dsp_session.specs.SessionState.{SessionState}
use Rattle.dsp_session.specs.Session.{IsReady, StandsFor, signal, block_bytes}
use Rattle.dsp_session.specs.Opening.{Begun, of_input}
use Rattle.dsp_session.specs.Stream.{in_whole_blocks}
use Rattle.dsp_session.specs.Advancing.{FailsToPassOn, Going, Breaks, NotRead, NotPassed, Broke}
use Rattle.dsp_session.specs.Resuming.{FirstStopped}
use Rattle.dsp_session.specs.declared.fault.LengthFault.TheVariants as length_fault
use Rattle.dsp_session.specs.declared.fault.StreamFault.{StreamFault}
use Rattle.dsp_session.specs.declared.fault.StreamFault.TheVariants as fault
use Rattle.dsp_session.specs.declared.fault.PartFault.TheVariants as part_fault
use Rattle.dsp_session.specs.declared.streaming.Span.{Span}
use Rattle.dsp_session.proofs.OpeningLaws.{some_frame, frames_of_blocks, frames-whole, length-signal, signal-append}
use Rattle.dsp_session.proofs.BlockLaws.{block_some, in_blocks}
use Rattle.dsp_session.proofs.FirstLaws as laws
use Rattle.dsp_session.proofs.FirstClose.{at_most}
use Rattle.dsp_session.proofs.OpeningLaws.{less}

module _ (start : SessionState) (header : Header) (span : Span) (input mid : SourceState) (sink first : SinkState)
    (before : Counts)
    (new : StandsFor start []) (coding : start.coding ≡ header.coding) (from : span.from ≡ 0) (frames : ℕ)
    (end : span.end ≡ frames * frame_bytes start.script header.coding)
    (begun : Begun start.script header input mid sink first) where
  abbrev script : Script
  script = start.script

  ready : IsReady script start.block
  ready = new.holds.ready

  some : 0 < frame_bytes script header.coding
  some = some_frame script header.coding start.block ready

  -- no more frames came than were wanted
  few_frames : (bytes : List ℕ) → length bytes ≤ span.end → length (signal script header.coding bytes) ≤ frames
  few_frames bytes within = rw (length-signal script header.coding some bytes)
      (at_most frames (length bytes) (frame_bytes script header.coding) some (omega (arith, within, end)))

  module _ (session : SessionState) (taken : ℕ) (between : SourceState) (then : SinkState) (made : Counts)
      (going : Going start session header span taken mid between first then before made) where
    few_heard : (bytes : List ℕ) → taken + length bytes ≤ span.end →
        length (signal script header.coding (going.heard ++ bytes)) ≤ frames
    few_heard bytes within = few_frames (going.heard ++ bytes)
        (omega (arith, within, going.taken_is, from, length-append going.heard bytes))

    -- fewer came where the part has more
    fewer_heard : (bytes : List ℕ) → taken + length bytes < span.end →
        length (signal script header.coding (going.heard ++ bytes)) < frames
    fewer_heard bytes cut =
        let all = going.heard ++ bytes in
        rw (length-signal script header.coding some all)
        (less (length all) frames (frame_bytes script header.coding) some
        (omega (arith, cut, end, going.taken_is, from, length-append going.heard bytes)))

    size_is : block_bytes script session.coding session.block ≡ block_bytes script header.coding start.block
    size_is = λ i. block_bytes script ((going.advances.same.coding ∙ coding) i) (going.advances.same.block i)

    unread_first : (error : InputFault) (now : SourceState) →
        PartUnread script header span.end taken (block_bytes script session.coding session.block) error between now
        → FirstStopped start.banked script start.block frames (part_fault.Stream (of_input error)) input now sink then
        before made
    unread_first error now u =
        laws.stops_unread start session header span taken input mid between sink first then
        before made new coding from begun going frames now u.unread.bytes u.unread.gave u.unread.declared
        (few_heard u.unread.bytes (omega (arith, u.in_part))) (omega (arith, u.unread.in_limit))
        (omega (arith, u.unread.short, size_is)) (omega (arith, u.unread.short, size_is))
        (fewer_heard u.unread.bytes u.in_part) error u.unread.cause

    module _ (now : SourceState) (piece : List ℕ) (long : length piece ≡ block_bytes script start.coding start.block)
        (read : PartRead script header span.end taken piece (length piece) between now) where
      gave : Gave between now piece
      gave = subst (Gave between now) (take_all (length piece) piece (omega arith)) read.gave

      few : length (signal script header.coding (going.heard ++ piece)) ≤ frames
      few = few_heard piece read.in_part

      in_limit : header.start + (taken + length piece) ≤ MAX_INPUT
      in_limit = omega (arith, read.in_limit)

      in_block : length piece ≤ block_bytes script header.coding start.block
      in_block = omega (arith, long, ap (λ c. block_bytes script c start.block) coding)

      heard_long : length going.heard ≡ going.blocks * start.block * frame_bytes script header.coding
      heard_long = frames_of_blocks script start.coding start.block going.blocks (length going.heard)
          going.advances.long ∙ ap (λ c. going.blocks * start.block * frame_bytes script c) coding

      heard_frames : length (signal script header.coding going.heard) ≡ going.blocks * start.block
      heard_frames = frames-whole script header.coding some going.heard (going.blocks * start.block) heard_long

      piece_frames : length (signal script header.coding piece) ≡ start.block
      piece_frames = frames-whole script header.coding some piece start.block
          (long ∙ ap (λ c. block_bytes script c start.block) coding)

      all_frames : length (signal script header.coding (going.heard ++ piece)) ≡ going.blocks * start.block +
          start.block
      all_frames =
          ap length (signal-append script header.coding some going.heard piece (going.blocks * start.block) heard_long)
          ∙ length-append (signal script header.coding going.heard) (signal script header.coding piece) ∙
          (λ i. heard_frames i + piece_frames i)

      before_is : in_whole_blocks start.block (length (signal script header.coding (going.heard ++ piece)) - 1) ≡
          length (signal script header.coding going.heard)
      before_is =
          let one = block_some script start.block ready in
          in_blocks going.blocks start.block (length (signal script header.coding (going.heard ++ piece)) - 1) one
          (omega (arith, all_frames, one)) (omega (arith, all_frames, one)) ∙ sym heard_frames

      unpassed_first : (stop : StreamFault) (last : SessionState) (after : SinkState) (counts : Counts) →
          FailsToPassOn stop session last piece then after made counts
          → FirstStopped start.banked script start.block frames (part_fault.Stream stop) input now sink after before
          counts
      unpassed_first fault.Output last after counts (count, less, same, fed, fewer, took, risen) =
          laws.stops_unwritten start session header span taken input mid between sink first then
          before made new coding from begun going frames now piece gave read.declared few in_limit in_block last
          counts same fed after count took.put risen read.no_fault
      unpassed_first (fault.Lengths (length_fault.Gather told more)) last after counts fails =
          laws.stops_full start session header span taken input mid between sink first then
          before made new coding from begun going frames now piece gave read.declared few in_limit in_block last
          told more after counts fails read.no_fault before_is
      unpassed_first stop last after counts none = absurd none

  pub broke_first : (last : SessionState) (stop : StreamFault) (now : SourceState) (after : SinkState)
      (counts : Counts) → Broke start last header span stop mid now first after before counts
      → FirstStopped start.banked script start.block frames (part_fault.Stream stop) input now sink after before counts
  broke_first last stop now after counts broke = by broke.breaks
    where
      by : Breaks broke.session last header span.end broke.taken stop broke.between now broke.then
          after broke.made counts → FirstStopped start.banked script start.block frames (part_fault.Stream stop) input
          now sink after
          before counts
      by (NotRead error is unread same still made) =
          let u = subst (λ (s : Script). PartUnread s header span.end broke.taken
          (block_bytes s broke.session.coding broke.session.block) error broke.between now)
          broke.going.advances.same.script unread in
          subst (λ c. FirstStopped start.banked script start.block frames (part_fault.Stream stop) input now sink
          after before c)
          (sym made)
          (subst (λ s. FirstStopped start.banked script start.block frames (part_fault.Stream stop) input now sink s
          before
          broke.made) (sym still)
          (subst (λ f. FirstStopped start.banked script start.block frames (part_fault.Stream f) input now sink
          broke.then
          before broke.made) (sym is)
          (unread_first broke.session broke.taken broke.between broke.then broke.made broke.going error now u)))
      by (NotPassed piece long read fails) =
          let same = broke.going.advances.same in
          unpassed_first broke.session broke.taken broke.between broke.then broke.made broke.going now piece
          (long ∙ (λ i. block_bytes (same.script i) (same.coding i) (same.block i)))
          (subst (λ (s : Script). PartRead s header span.end broke.taken piece (length piece) broke.between now)
          same.script read)
          stop last after counts fails
