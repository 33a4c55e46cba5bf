-- What the loop over the rest of an input and its close answer makes the ends of that stream.
use Rattle.std.proofs.Common.{◌≡◌, ℕ, ◌+◌, ◌-◌, ◌*◌, ◌/◌, ◌^◌, ◌<◌, ◌≤◌, List, ◌++◌, length, take, Option, Some, None}
use Rattle.std.proofs.Common.{Ok, Err, refl, sym, ap, ◌∙◌, subst, arith, length-append, inl, inr}
use Rattle.std.proofs.lemmas.List.{length-take-le, take_all}
use Rattle.std.specs.Io.KnownBytes.{IsAtEnd}
use Rattle.dsp_ports.specs.Ports.{SourceState, SinkState, Gave}
use Rattle.dsp_ports.specs.declared.source.Failed.{Failed}
use Rattle.dsp_defs.specs.Counts.{Counts}
use Rattle.dsp_defs.specs.Shape.{window_at}
use Rattle.dsp_defs.specs.declared.limits.TheConstants.{MAX_INPUT}
use Rattle.dsp_defs.specs.declared.script.Script.{Script}
use Rattle.dsp_defs.specs.declared.wave.Header.{Header}
use Rattle.dsp_input.specs.declared.fault.InputFault.{InputFault}
use Rattle.dsp_input.specs.Taking.{AreAll, Fits, InDeclared, IsTakenWhole, Opened, PartRead, PartUnread}
use Rattle.dsp_input.specs.Taking.{declared_bytes, frame_bytes}
use Rattle.dsp_session.specs.SessionState.{SessionState}
use Rattle.dsp_session.specs.Session.{IsReady, signal, block_bytes, measured}
use Rattle.dsp_session.specs.Opening.{of_input}
use Rattle.dsp_session.specs.Advancing.{Runs, FailsToPassOn, Going, Reached, Breaks, NotRead, NotPassed, Broke}
use Rattle.dsp_session.specs.Advancing.{Closed, FailsToClose, Windowed, Unpassed, Unfinished, count_of, whole_front}
use Rattle.dsp_session.specs.Resuming.{RestDone, RestStopped}
use Rattle.dsp_session.specs.declared.fault.LengthFault.TheVariants as length_fault
use Rattle.dsp_session.specs.declared.fault.StreamFault.{StreamFault}
use Rattle.dsp_session.specs.declared.fault.StreamFault.TheVariants as fault
use Rattle.dsp_session.specs.declared.fault.PartFault.TheVariants as part_fault
use Rattle.dsp_session.specs.declared.streaming.Last.{Last}
use Rattle.dsp_session.specs.declared.streaming.Span.{Span}
use Rattle.dsp_session.proofs.OpeningLaws.{some_frame, frames_are, front_signal, frames-whole, length-signal}
use Rattle.dsp_session.proofs.BlockLaws.{in_declared}
use Rattle.dsp_session.proofs.RestLaws as laws

-- as many frames as whole ones among these bytes are less than a block
fewer : (n b f : ℕ) → 0 < f → n < b * f → n / f ≤ b
fewer n b f some h = grind arith

module _ (start : SessionState) (header : Header) (span : Span) (input opened_at mid now : SourceState)
    (sink : SinkState) (before : Counts)
    (runs : Runs start) (coding : start.coding ≡ header.coding)
    (from : span.from ≡ start.chain.frames * frame_bytes start.script header.coding)
    (opened : Opened start.script header input opened_at)
    (skip : List ℕ) (skipped : Gave opened_at mid skip) (skip_long : length skip ≡ span.from)
    (still : (mid.faults ≡ opened_at.faults) × (mid.ended ≡ opened_at.ended)) where
  abbrev script : Script
  script = start.script

  ready : IsReady script start.block
  ready = runs.holds.ready

  some : 0 < frame_bytes script header.coding
  some = some_frame script header.coding start.block ready

  -- ---- a block did not come, or did not pass

  module _ (session : SessionState) (taken : ℕ) (between : SourceState) (then : SinkState) (made : Counts)
      (going : Going start session header span taken mid between sink then before made) where
    size_is : block_bytes script session.coding session.block ≡ block_bytes script header.coding start.block
    size_is = λ i. block_bytes script ((going.advances.same.coding ∙ coding) i) (going.advances.same.block i)

    unread_rest : (error : InputFault) → PartUnread script header span.end taken
        (block_bytes script session.coding session.block) error between now
        → RestStopped script start.block start start.chain.frames (part_fault.Stream (of_input error)) input now sink
        then before made
    unread_rest error u =
        laws.rest_unread start session header span taken input opened_at mid between sink then
        before made runs coding from opened skip skipped skip_long still going
        now u.unread.bytes u.unread.gave u.unread.declared (omega (arith, u.unread.in_limit))
        (omega (arith, u.unread.short, size_is)) (omega (arith, u.unread.short, size_is)) error u.unread.cause

    module _ (piece : List ℕ) (long : length piece ≡ block_bytes script start.coding start.block)
        (read : PartRead script header span.end taken piece (length piece) between now) where
      gave : Gave between now piece
      gave = subst (Gave between now) (take_all (length piece) piece (omega arith)) read.gave

      in_limit : header.start + (taken + length piece) ≤ MAX_INPUT
      in_limit = omega (arith, read.in_limit)

      in_block : length piece ≤ block_bytes script header.coding start.block
      in_block = omega (arith, long, ap (λ c. block_bytes script c start.block) coding)

      piece_frames : length (signal script header.coding piece) ≡ start.block
      piece_frames = frames-whole script header.coding some piece start.block
          (long ∙ ap (λ c. block_bytes script c start.block) coding)

      unpassed_rest : (stop : StreamFault) (last : SessionState) (after : SinkState) (counts : Counts) →
          FailsToPassOn stop session last piece then after made counts
          → RestStopped script start.block start start.chain.frames (part_fault.Stream stop) input now sink after
          before counts
      unpassed_rest fault.Output last after counts (count, less, same, fed, few, took, risen) =
          laws.rest_unwritten start session header span taken input opened_at mid between sink then
          before made runs coding from opened skip skipped skip_long still going
          now piece gave read.declared in_limit in_block piece refl last counts same fed after count took.put risen
          read.no_fault
      unpassed_rest (fault.Lengths (length_fault.Gather told more)) last after counts fails =
          laws.rest_full start session header span taken input opened_at mid between sink then
          before made runs coding from opened skip skipped skip_long still going
          now piece gave read.declared in_limit in_block piece refl last told more after counts fails read.no_fault
          (omega (arith, piece_frames)) (λ less. absurd (omega (arith, less, piece_frames)))
      unpassed_rest stop last after counts none = absurd none

  pub broke_rest : (last : SessionState) (stop : StreamFault) (after : SinkState) (counts : Counts) →
      Broke start last header span stop mid now sink after before counts
      → RestStopped script start.block start start.chain.frames (part_fault.Stream stop) input now sink after before
      counts
  broke_rest last stop after counts broke = by broke.breaks
    where
      by : Breaks broke.session last header span.end broke.taken stop broke.between now broke.then
          after broke.made counts → RestStopped script start.block start start.chain.frames (part_fault.Stream stop)
          input now sink after before counts
      by (NotRead error is unread same unmoved unspent) =
          let u = subst (λ (s : Script). PartUnread s header span.end broke.taken
          (block_bytes s broke.session.coding broke.session.block) error broke.between now)
          broke.going.advances.same.script unread in
          subst (λ c. RestStopped script start.block start start.chain.frames (part_fault.Stream stop) input now sink
          after before c) (sym unspent)
          (subst (λ s. RestStopped script start.block start start.chain.frames (part_fault.Stream stop) input now sink
          s before broke.made) (sym unmoved)
          (subst (λ f. RestStopped script start.block start start.chain.frames (part_fault.Stream f) input now sink
          broke.then before broke.made) (sym is)
          (unread_rest broke.session broke.taken broke.between broke.then broke.made broke.going error u)))
      by (NotPassed piece long read fails) =
          let same = broke.going.advances.same in
          unpassed_rest broke.session broke.taken broke.between broke.then broke.made broke.going piece
          (long ∙ (λ i. block_bytes (same.script i) (same.coding i) (same.block i)))
          (subst (λ (s : Script). PartRead s header span.end broke.taken piece (length piece) broke.between now)
          same.script read)
          stop last after counts fails

  -- ---- the samples have ended

  module _ (session : SessionState) (block : List ℕ) (last : Last) (then : SinkState) (made : Counts)
      (unended : span.end ≡ 2 ^ 64 - 1) (reached : Reached start session header span block last mid now sink then
      before made) where
    abbrev going : Going start session header span last.before mid reached.between sink then before made
    going = reached.going

    abbrev bytes : List ℕ
    bytes = take last.count block

    abbrev piece : List ℕ
    piece = whole_front session.script header last.count block

    bytes_long : length bytes ≡ last.count
    bytes_long = length-take-le last.count block reached.read.within

    declared : InDeclared (declared_bytes script header) (last.before + length bytes)
    declared = in_declared (declared_bytes script header) (last.before + last.count) (last.before + length bytes)
        (omega (arith, bytes_long)) reached.read.declared

    all_in_limit : header.start + (last.before + length bytes) ≤ MAX_INPUT
    all_in_limit = omega (arith, bytes_long, reached.read.in_limit)

    shorter : length bytes < block_bytes script header.coding start.block
    shorter = omega (
      arith,
      bytes_long,
      reached.short,
      reached.size,
      ap (λ c. block_bytes script c start.block) coding,
    )

    all_in_block : length bytes ≤ block_bytes script header.coding start.block
    all_in_block = omega (arith, shorter)

    same_more : signal script header.coding piece ≡ signal script header.coding bytes
    same_more = (λ i. signal script header.coding (whole_front (going.advances.same.script i) header last.count
        block)) ∙ front_signal script header.coding some last.count block reached.read.within

    abbrev all : List ℕ
    all = skip ++ (going.heard ++ bytes)

    all_long : length all ≡ last.before + last.count
    all_long = omega (
      arith,
      going.taken_is,
      skip_long,
      bytes_long,
      length-append skip (going.heard ++ bytes),
      length-append going.heard bytes,
    )

    given_long : length (opened.first ++ all) ≡ header.start + (last.before + last.count)
    given_long = omega (arith, opened.opens.start, all_long, length-append opened.first all)

    ended : AreAll (declared_bytes script header) (last.before + last.count) now
    ended = elim (reached.read.ended reached.short) [
      | inl is ↦ absurd
          (omega (arith, is, unended, reached.read.in_limit))
      | inr rest ↦ rest
    ]

    abbrev IsWhole : Option ℕ → Header → Type 0
    IsWhole size h = elim size [ Some size ↦ length (opened.first ++ all) ≡ h.start + size | None ↦ IsAtEnd now.left ]

    is_whole : IsTakenWhole script (opened.first ++ all) now
    is_whole = subst (λ (h : Header). IsWhole (declared_bytes script h) h) (sym (opened.opens.said all))
        (by_size (declared_bytes script header) ended)
      where
        by_size : (size : Option ℕ) → AreAll size (last.before + last.count) now → IsWhole size header
        by_size None end = end
        by_size (Some size) whole = omega (arith, given_long, whole)

    few_more : length (signal script header.coding bytes) ≤ start.block
    few_more =
        let size : length block ≡ start.block * frame_bytes script header.coding = reached.size ∙
        ap (λ c. block_bytes script c start.block) coding in
        let within = fewer last.count start.block (frame_bytes script header.coding) some
        (omega (arith, reached.short, size)) in
        let count : length (signal script header.coding bytes) ≡ last.count / frame_bytes script header.coding =
        length-signal script header.coding some bytes ∙ ap (λ n. n / frame_bytes script header.coding) bytes_long in
        omega (arith, within, count)

    -- the frames of all
    abbrev total : ℕ
    total = start.chain.frames + length (signal script header.coding (going.heard ++ bytes))

    counted : session.chain.frames + count_of session piece ≡ total
    counted = laws.fed_frames start session header span last.before input opened_at mid reached.between sink then
        before made runs coding from opened skip skipped skip_long still going now bytes reached.read.gave declared
        all_in_limit all_in_block piece same_more

    window : (found : Option (ℕ × ℕ)) → window_at session.script.blocks
        (session.chain.frames + count_of session piece) ≡ found → window_at script.blocks total ≡ found
    window found is = (λ i. window_at (sym going.advances.same.script i).blocks (sym counted i)) ∙ is

    pub unclosed_rest : (new : SessionState) (stop : StreamFault) (after : SinkState) (counts : Counts) →
        FailsToClose session new header piece stop then after made counts
        → RestStopped script start.block start start.chain.frames (part_fault.Stream stop) input now sink after before
        counts
    unclosed_rest new stop after counts (Windowed end full is found unmoved unspent) =
        subst (λ c. RestStopped script start.block start start.chain.frames (part_fault.Stream stop) input now sink
        after before c) (sym unspent)
        (subst (λ s. RestStopped script start.block start start.chain.frames (part_fault.Stream stop) input now sink s
        before made) (sym unmoved)
        (subst (λ f. RestStopped script start.block start start.chain.frames (part_fault.Stream f) input now sink then
        before made) (sym is)
        (laws.rest_windowed start session header span last.before input opened_at mid reached.between sink then
        before made runs coding from opened skip skipped skip_long still going now bytes reached.read.gave declared
        all_in_limit all_in_block
        shorter end full is_whole (window (Some (end, full)) found) reached.read.no_fault)))
    unclosed_rest new stop after counts (Unpassed none fails) = by stop fails
      where
        by : (stop : StreamFault) → FailsToPassOn stop session new piece then after made counts →
            RestStopped script start.block start start.chain.frames (part_fault.Stream stop) input now sink after before
            counts
        by fault.Output (count, less, same, fed, few, took, risen) =
            laws.rest_unwritten start session header span last.before input opened_at mid reached.between sink then
            before made runs coding from opened skip skipped skip_long still going now bytes reached.read.gave
            declared all_in_limit all_in_block
            piece same_more new counts same fed after count took.put risen reached.read.no_fault
        by (fault.Lengths (length_fault.Gather told more)) fails =
            laws.rest_full start session header span last.before input opened_at mid reached.between sink then
            before made runs coding from opened skip skipped skip_long still going now bytes reached.read.gave
            declared all_in_limit all_in_block
            piece same_more new told more after counts fails reached.read.no_fault few_more
            (λ less. (is_whole, window None none))
        by stop none = absurd none
    unclosed_rest new stop after counts (Unfinished fed middle spent error is none passes writes costs limit turned
        failed) =
        subst (λ f. RestStopped script start.block start start.chain.frames (part_fault.Stream f) input now sink after
        before counts) (sym is)
        (laws.rest_unfinished start session header span last.before input opened_at mid reached.between sink then
        before made runs coding from opened skip skipped skip_long still going now bytes reached.read.gave declared
        all_in_limit all_in_block
        piece same_more fed spent passes.same passes.fed (Err error) middle after counts passes.took passes.no_fault
        writes (window None none) limit turned is_whole reached.read.no_fault failed)

    pub closed_rest : Fits script header → (new : SessionState) (after : SinkState) (counts : Counts) →
        Closed session new header piece then after made counts
        → RestDone script start start.chain.frames ((last.before + last.count) / frame_bytes script header.coding)
        input now sink after before counts (measured new)
    closed_rest fits new after counts closed =
        laws.rest_done start session header span last.before input opened_at mid reached.between sink then
        before made runs coding from opened skip skipped skip_long still going now bytes reached.read.gave declared
        all_in_limit all_in_block
        piece same_more closed.fed closed.made closed.passes.same closed.passes.fed {E = Failed} (Ok tt) closed.then
        after counts closed.passes.took closed.passes.no_fault closed.writes (window None closed.no_window)
        closed.limit closed.turned is_whole reached.read.no_fault closed.writes.whole closed.no_fault closed.settled
        fits
        closed.passes.not_full (λ x is. (closed.costs x is).exact) (measured new) closed.measures
        ((last.before + last.count) / frame_bytes script header.coding) total_is
        (λ none. omega (
          arith,
          bytes_long,
          reached.read.room_left reached.short none
              (omega (arith, unended, reached.read.in_limit)),
        ))
      where
        total_is : (last.before + last.count) / frame_bytes script header.coding ≡ total
        total_is =
            sym (frames_are script header some opened.first opened.opens all
            (in_declared (declared_bytes script header) (last.before + last.count) (length all) (sym all_long)
            reached.read.declared)
            ∙ length-signal script header.coding some all ∙ ap (λ n. n / frame_bytes script header.coding) all_long)
            ∙ laws.count_is start session header span last.before input opened_at mid reached.between sink then
            before made runs coding from opened skip skipped skip_long still going now bytes reached.read.gave
            declared all_in_limit all_in_block
