-- The ends of a stream over the first frames of an input.
use Rattle.std.proofs.Common.{◌≡◌, ℕ, suc, ◌+◌, ◌-◌, ◌*◌, ◌<◌, ◌≤◌, List, [], ◌++◌, length, take, drop, Option, Some}
use Rattle.std.proofs.Common.{None, refl, sym, ap, ◌∙◌, subst, arith, append_assoc, append-nil, length-append}
use Rattle.std.proofs.Common.{inr}
use Rattle.std.proofs.lemmas.List.{take-append-drop}
use Rattle.dsp_ports.specs.Ports.{append_put}
use Rattle.dsp_ports.specs.Ports.{SourceState, SinkState, one_more, Gave, Took, settled_after}
use Rattle.dsp_ports.proofs.Moved.{Took-nil, Took-append, Gave-append, append_put-append}
use Rattle.dsp_defs.specs.Block.{Frame}
use Rattle.dsp_defs.specs.Counts.{Counts}
use Rattle.dsp_defs.specs.Output.{declared_frames, output_header, live_bytes, part}
use Rattle.dsp_defs.specs.Output.{whole_blocks, input_signal}
use Rattle.dsp_defs.specs.Streaming.{Begins}
use Rattle.dsp_defs.specs.declared.script.Script.{Script}
use Rattle.dsp_defs.specs.declared.wave.Header.{Header}
use Rattle.dsp_input.specs.declared.fault.InputFault.{InputFault}
use Rattle.dsp_input.specs.Taking.{InDeclared, IsUnread, declared_bytes, frame_bytes, frames_in_bytes}
use Rattle.dsp_session.specs.SessionState.{SessionState}
use Rattle.dsp_session.specs.Session.{IsReady, StandsFor, SameSession, Feeds, block_bytes, signal, live_cost_of}
use Rattle.dsp_session.specs.Session.{turns_of}
use Rattle.dsp_chain.specs.Chain.{made_of}
use Rattle.dsp_defs.specs.Shape.{gathered, held}
use Rattle.dsp_defs.specs.declared.limits.TheConstants.{MAX_GATHERED, MAX_INPUT}
use Rattle.dsp_session.specs.Advancing.{Going, FailsToPassOn, turns_from}
use Rattle.dsp_session.proofs.FeedLaws.{feed_out, made_live, quiet_script}
use Rattle.dsp_session.specs.declared.streaming.Span.{Span}
use Rattle.dsp_unit.proofs.CostLaws.{live_cost-zero}
use Rattle.dsp_session.proofs.BlockLaws.{block_some, frames_between, in_declared, lags}
use Rattle.dsp_session.proofs.TurnLaws.{part_before, part_behind}
use Rattle.dsp_session.proofs.PlainLaws.{live_bytes-nil}
use Rattle.dsp_session.specs.Opening.{Begun, of_input}
use Rattle.dsp_session.specs.Stream.{LagsByOne, in_whole_blocks}
use Rattle.dsp_session.specs.Resuming.{IsFirstCause, IsOfInput, IsPartUnflushed, CountsPartFault, FirstStopped}
use Rattle.dsp_session.specs.Resuming.{FirstWritten, HasFrames, part_turns}
use Rattle.dsp_session.specs.declared.fault.LengthFault.TheVariants as length_fault
use Rattle.dsp_session.specs.declared.fault.StreamFault.TheVariants as fault
use Rattle.dsp_session.specs.declared.fault.PartFault.{PartFault}
use Rattle.dsp_session.specs.declared.fault.PartFault.TheVariants as part_fault
use Rattle.dsp_session.proofs.OpeningLaws.{some_frame, frames_of_blocks, frames_are, part_blocks}
use Rattle.dsp_session.proofs.OpeningLaws.{signal-append}
use Rattle.dsp_session.proofs.PartLaws.{live_cost_more, begins_behind, unread_cause}
use Rattle.dsp_session.proofs.PartLaws.{input_first, part_unflushed, unread_faults}
use Rattle.dsp_session.proofs.FirstBefore.{first_stops, front_of, input_wrote}

-- the header of the output was written, and the session has taken whole blocks since it was new
module _ (start session : SessionState) (header : Header) (span : Span) (taken : ℕ) (input mid now : SourceState)
    (sink first then : SinkState) (before counts : Counts)
    (new : StandsFor start []) (coding : start.coding ≡ header.coding) (from : span.from ≡ 0)
    (begun : Begun start.script header input mid sink first)
    (going : Going start session header span taken mid now first then before counts) where
  abbrev script : Script
  script = start.script

  ready : IsReady script start.block
  ready = new.holds.ready

  abbrev head : List ℕ
  head = output_header script header

  abbrev heard : List ℕ
  heard = going.heard

  abbrev wrote : List ℕ
  wrote = going.advances.written

  abbrev x : List Frame
  x = signal script header.coding heard

  some_bytes : 0 < frame_bytes script header.coding
  some_bytes = some_frame script header.coding start.block ready

  whole : length heard ≡ going.blocks * start.block * frame_bytes script header.coding
  whole = frames_of_blocks script start.coding start.block going.blocks (length heard) going.advances.long ∙
      ap (λ c. going.blocks * start.block * frame_bytes script c) coding

  stands : StandsFor session x
  stands = subst (λ c. StandsFor session (signal script c heard)) coding (going.advances.stands [] new)

  -- what was written are the live values of the frames so far
  wrote_is : live_bytes script x ≡ wrote
  wrote_is = ap (λ c. live_bytes script (signal script c heard)) (sym coding) ∙ going.advances.values [] new ∙
      ap (λ xs. xs ++ wrote) (live_bytes-nil script)

  together : (bytes : List ℕ) → signal script header.coding (heard ++ bytes) ≡ x ++ signal script header.coding bytes
  together bytes = signal-append script header.coding some_bytes heard bytes (going.blocks * start.block) whole

  took_so_far : Took sink then (head ++ wrote)
  took_so_far = Took-append sink first then head wrote begun.took going.advances.took

  put_so_far : then.put ≡ append_put sink.put (head ++ wrote)
  put_so_far = took_so_far.put

  -- nothing more was written, and the output was not flushed
  unflushed_so_far : (stop : PartFault) → IsPartUnflushed stop sink then ((head ++ wrote) ++ [])
  unflushed_so_far stop = part_unflushed stop sink then ((head ++ wrote) ++ [])
      (took_so_far.settled ∙ ap (λ (ys : List ℕ). settled_after sink.settled (length ys))
      (sym (append-nil (head ++ wrote))))

  clean : then.faults ≡ sink.faults
  clean = going.advances.no_fault ∙ begun.no_fault

  cost_so_far : counts.multiplies ≡ before.multiplies + live_cost_of script (length x)
  cost_so_far =
      let none : live_cost_of script start.chain.frames ≡ 0 = ap (live_cost_of script) new.chain.counted ∙
      live_cost-zero script.input.format script.input.channels script.blocks in
      let all : live_cost_of script session.chain.frames ≡ live_cost_of script (length x) =
      ap (live_cost_of script) stands.chain.counted in
      omega (arith, going.advances.multiplies, none, all)

  begins : (bytes written : List ℕ) → Begins (wrote ++ written)
      (live_bytes script (x ++ signal script header.coding bytes))
      → Begins ((head ++ wrote) ++ written) (head ++ live_bytes script (signal script header.coding (heard ++ bytes)))
  begins bytes written front =
      subst (λ xs. Begins xs (head ++ live_bytes script (signal script header.coding (heard ++ bytes))))
      (sym (append_assoc head wrote written))
      (begins_behind head (wrote ++ written) (live_bytes script (signal script header.coding (heard ++ bytes)))
      (subst (λ y. Begins (wrote ++ written) (live_bytes script y)) (sym (together bytes)) front))

  -- so many frames
  abbrev frames_heard : List ℕ → ℕ
  frames_heard bytes = length (signal script header.coding (heard ++ bytes))

  cost_within : (bytes : List ℕ) → counts.multiplies ≤ before.multiplies + live_cost_of script (frames_heard bytes)
  cost_within bytes =
      let more = live_cost_more script (length x) (frames_heard bytes)
      (rw (together bytes) (omega (arith, length-append x (signal script header.coding bytes)))) in
      omega (arith, more, cost_so_far)

  pub put_more : (written : List ℕ) (after : SinkState) → after.put ≡ append_put then.put written →
      after.put ≡ append_put sink.put ((head ++ wrote) ++ written)
  put_more written after put = put ∙ ap (λ known. append_put known written) put_so_far ∙
      sym (append_put-append sink.put (head ++ wrote) written)

  module _ (frames : ℕ) (later : SourceState) (bytes : List ℕ) (gave : Gave now later bytes)
      (declared : InDeclared (declared_bytes script header) (taken + length bytes)) (few : frames_heard bytes ≤ frames)
      (limit : header.start + (taken + length bytes) ≤ MAX_INPUT)
      (short : length bytes ≤ block_bytes script header.coding start.block) where
    abbrev given : List ℕ
    given = begun.opened.first ++ (heard ++ bytes)

    all_taken : length (heard ++ bytes) ≡ taken + length bytes
    all_taken = omega (arith, going.taken_is, from, length-append heard bytes)

    in_all : InDeclared (declared_bytes script header) (length (heard ++ bytes))
    in_all = in_declared (declared_bytes script header) (taken + length bytes) (length (heard ++ bytes))
        (omega (arith, going.taken_is, from, length-append heard bytes)) declared

    -- at most a block is ahead of what was written
    pub lag_at : (written : List ℕ) → LagsByOne script start.block (begun.opened.first ++ (heard ++ bytes))
        ((head ++ wrote) ++ written)
    lag_at written =
        let heard_declared = in_declared (declared_bytes script header) taken (length heard)
        (omega (arith, going.taken_is, from)) going.declared in
        subst (λ ys. LagsByOne script start.block (begun.opened.first ++ (heard ++ bytes)) ((head ++ ys) ++ written))
        wrote_is
        (lags script start.block ready header begun.opened.first begun.opened.opens going.blocks heard bytes written
        heard_declared
        (going.advances.long ∙ ap (λ c. going.blocks * block_bytes script c start.block) coding) short)

    -- all that came was worked on or not, and this was written of it
    stops_at : (stop : PartFault) (written : List ℕ) (after : SinkState) (made : Counts) →
        after.put ≡ append_put then.put written → IsPartUnflushed stop sink after ((head ++ wrote) ++ written)
        → FirstWritten stop script start.block given ((head ++ wrote) ++ written) sink after
        → IsFirstCause stop script start.block frames (begun.opened.first ++ (heard ++ bytes)) later →
        CountsPartFault stop input later sink after
        → (IsOfInput stop → frames_heard bytes < frames)
        → made.multiplies ≤ before.multiplies + live_cost_of script (frames_heard bytes)
        → made.turns ≤ before.turns + part_turns start.banked script start.block 0 (frames_heard bytes)
        → FirstStopped start.banked script start.block frames stop input later sink after before made
    stops_at stop written after made put unflushed shape cause faults fewer cost turned =
        first_stops start.banked script start.block ready frames header input mid sink begun.opened stop
        (heard ++ bytes)
        ((head ++ wrote) ++ written) later after before made
        in_all (omega (arith, limit, all_taken)) (lag_at written)
        (Gave-append mid now later heard bytes going.going going.gave gave) (put_more written after put) unflushed
        shape cause faults few fewer cost turned

    -- ---- each end

    read_so_far : now.faults ≡ input.faults
    read_so_far = going.no_fault ∙ begun.opened.no_fault

    nothing_more : then.put ≡ append_put then.put []
    nothing_more = (Took-nil then).put

    count_is : frames_in_bytes script (begun.opened.first ++ (heard ++ bytes)) ≡ frames_heard bytes
    count_is = frames_are script header some_bytes begun.opened.first begun.opened.opens (heard ++ bytes) in_all

    -- the frames are those of whole blocks, and of at most one more
    bounds : (going.blocks * start.block ≤ frames_heard bytes) × (frames_heard bytes ≤ suc going.blocks * start.block)
    bounds =
        let (low, high) = frames_between script start.block ready header begun.opened.first begun.opened.opens
        going.blocks heard bytes in_all
        (going.advances.long ∙ ap (λ c. going.blocks * block_bytes script c start.block) coding) short in
        (omega (arith, low, count_is), omega (arith, high, count_is))

    start_none : start.chain.frames ≡ 0
    start_none = new.chain.counted

    turned_from : counts.turns ≤ before.turns + turns_from start.banked script start.block 0 going.blocks
    turned_from = subst (λ m. counts.turns ≤ before.turns + turns_from start.banked script start.block m going.blocks)
        start_none going.advances.turned

    turns_so_far : counts.turns ≤ before.turns + part_turns start.banked script start.block 0 (frames_heard bytes)
    turns_so_far = part_before start.banked script start.block 0 going.blocks (frames_heard bytes) before.turns
        counts.turns (block_some script start.block ready) (omega (arith, bounds.0)) (omega (arith, bounds.1))
        turned_from

    -- the output of the whole blocks, where less than a block more came
    whole_written : length bytes < block_bytes script header.coding start.block →
        (head ++ wrote) ++ [] ≡ part script start.block given
    whole_written shorter = append-nil (head ++ wrote) ∙ ap (λ ys. head ++ ys) (sym wrote_is) ∙
        sym (part_blocks script header some_bytes begun.opened.first begun.opened.opens start.block going.blocks heard
        bytes (going.advances.long ∙ ap (λ c. going.blocks * block_bytes script c start.block) coding) shorter in_all)

    pub stops_unread : length bytes < block_bytes script header.coding start.block → frames_heard bytes < frames →
        (error : InputFault) → IsUnread error script header (taken + length bytes) now later →
        FirstStopped start.banked script start.block frames (part_fault.Stream (of_input error)) input later sink then
        before counts
    stops_unread shorter fewer error unread =
        stops_at (part_fault.Stream (of_input error)) [] then
        counts nothing_more (unflushed_so_far (part_fault.Stream (of_input error)))
        (input_wrote error script start.block given ((head ++ wrote) ++ []) sink then (inr (whole_written shorter)))
        (input_first error script start.block frames (begun.opened.first ++ (heard ++ bytes)) later
        (unread_cause script start.block header begun.opened.first begun.opened.opens (heard ++ bytes)
        (taken + length bytes) all_taken now later error unread))
        (unread_faults error script header (taken + length bytes) input now later sink then unread read_so_far clean)
        (λ _. fewer) (cost_within bytes) turns_so_far

    -- nothing, or the output of the whole blocks
    abbrev BlocksWritten : Option ℕ → Type 0
    BlocksWritten size = elim size [
      | Some declared ↦ then ≡ sink
      | None ↦ (head ++ wrote) ++ [] ≡ part script start.block given
    ]

    -- the input ends before the part does
    pub stops_behind : length bytes < block_bytes script header.coding start.block →
        declared_frames script header ≡ None →
        (got : ℕ) → got < frames → HasFrames script given later got → later.faults ≡ now.faults → FirstStopped
        start.banked script start.block frames (part_fault.Behind frames got) input later
        sink then before counts
    stops_behind shorter undeclared got fewer has same =
        stops_at (part_fault.Behind frames got) [] then counts nothing_more
        (unflushed_so_far (part_fault.Behind frames got))
        (subst (λ (h : Header). BlocksWritten (declared_frames script h))
        (sym (begun.opened.opens.said (heard ++ bytes)))
        (subst BlocksWritten (sym undeclared) (whole_written shorter)))
        (begun.opened.opens.has (heard ++ bytes), refl, fewer, has) (same ∙ read_so_far, clean) (λ none. absurd none)
        (cost_within bytes) turns_so_far

    -- the frames of these bytes were fed to it, and the sink has failed within what they add, or behind it
    module _ (fed : SessionState) (made : Counts) (same : SameSession session fed)
        (feeds : Feeds session fed bytes counts made) where
      coded : session.coding ≡ header.coding
      coded = going.advances.same.coding ∙ coding

      more : signal session.script session.coding bytes ≡ signal script header.coding bytes
      more = λ i. signal (going.advances.same.script i) (coded i) bytes

      adds : live_bytes script (x ++ signal script header.coding bytes) ≡ wrote ++ fed.out
      adds =
          (λ i. live_bytes (sym going.advances.same.script i) (x ++ sym more i))
          ∙ feed_out session fed bytes counts made same feeds x stands
          ∙ (λ i. live_bytes (going.advances.same.script i) x ++ fed.out) ∙ ap (λ ys. ys ++ fed.out) wrote_is

      pub adds_all : live_bytes script (signal script header.coding (heard ++ bytes)) ≡ wrote ++ fed.out
      adds_all = ap (live_bytes script) (together bytes) ∙ adds

      pub fed_stands : StandsFor fed (signal script header.coding (heard ++ bytes))
      fed_stands = subst (StandsFor fed) (ap (λ y. x ++ y) more ∙ sym (together bytes)) (feeds.stands x stands)

      pub made_is : made.multiplies ≡ before.multiplies + live_cost_of script (frames_heard bytes)
      made_is =
          let script_is : fed.script ≡ script = same.script ∙ going.advances.same.script in
          let after : made_of fed.chain ≡ live_cost_of script (frames_heard bytes) =
          made_live fed (signal script header.coding (heard ++ bytes)) fed_stands ∙
          ap (λ (s : Script). live_cost_of s (frames_heard bytes)) script_is in
          let prior : made_of session.chain ≡ live_cost_of script (length x) = made_live session x stands ∙
          ap (λ (s : Script). live_cost_of s (length x)) going.advances.same.script in
          omega (arith, feeds.multiplies, after, prior, cost_so_far)

      pub turns_fed : made.turns ≤ before.turns + part_turns start.banked script start.block 0 (frames_heard bytes)
      turns_fed =
          let from_blocks : session.chain.frames ≡ 0 + going.blocks * start.block =
          omega (arith, going.advances.counted, start_none) in
          let to_all : fed.chain.frames ≡ frames_heard bytes = fed_stands.chain.counted in
          let call : made.turns ≤ counts.turns + turns_of start.banked script (0 + going.blocks * start.block)
          (frames_heard bytes) =
          subst (λ n. made.turns ≤ counts.turns + n) (λ i. turns_of (going.advances.same.banked i)
          (going.advances.same.script i) (from_blocks i) (to_all i)) feeds.turns in
          part_behind start.banked script start.block 0 going.blocks (frames_heard bytes) before.turns counts.turns
          made.turns (block_some script start.block ready) (omega (arith, bounds.0)) (omega (arith, bounds.1))
          turned_from call

      pub stops_unwritten : (after : SinkState) (count : ℕ) → after.put ≡ append_put then.put (take count fed.out) →
          after.faults ≡ one_more then.faults → later.faults ≡ now.faults
          → FirstStopped start.banked script start.block frames (part_fault.Stream fault.Output) input later sink
          after before made
      stops_unwritten after count put risen still =
          stops_at (part_fault.Stream fault.Output) (take count fed.out) after made put tt
          (front_of start.banked script start.block ready frames header input mid sink begun.opened (heard ++ bytes)
          ((head ++ wrote) ++ take count fed.out) in_all (begins bytes (take count fed.out) (
            drop count fed.out,
            adds ∙ ap (λ ys. wrote ++ ys) (sym (take-append-drop count fed.out)) ∙
                sym (append_assoc wrote (take count fed.out) (drop count fed.out)),
          )))
          (begun.opened.opens.has (heard ++ bytes))
          (still ∙ read_so_far, risen ∙ ap one_more clean) (λ none. absurd none) (omega (arith, made_is))
          turns_fed

    -- a script with a correlation gives nothing but the header before its end
    none_written : ((y : List Frame) → live_bytes script y ≡ []) → (head ++ wrote) ++ [] ≡ part script start.block given
    none_written quiet =
        append-nil (head ++ wrote) ∙ ap (λ ys. head ++ ys) (sym wrote_is ∙ quiet x ∙
        sym (quiet (whole_blocks start.block (input_signal script given))))
        ∙ ap (λ (h : Header). output_header script h ++ live_bytes script
        (whole_blocks start.block (input_signal script given))) (sym (begun.opened.opens.said (heard ++ bytes)))

    -- they would be too many for a correlation
    pub stops_full : (last : SessionState) (told more : ℕ) (after : SinkState) (made : Counts) →
        FailsToPassOn (fault.Lengths (length_fault.Gather told more)) session last bytes then after counts made →
        later.faults ≡ now.faults
        → in_whole_blocks start.block (frames_heard bytes - 1) ≡ length x →
        FirstStopped start.banked script start.block frames (part_fault.Stream (fault.Lengths (length_fault.Gather
        told more)))
        input later sink after before made
    stops_full last told more after made (fails, over, told_is, sum, still) same before_is =
        let script_is = going.advances.same.script in
        let coded : session.coding ≡ header.coding = going.advances.same.coding ∙ coding in
        let count : session.chain.frames + length (signal session.script session.coding bytes) ≡ frames_heard bytes =
        (λ i. stands.chain.counted i + length (signal (script_is i) (coded i) bytes)) ∙
        sym (length-append x (signal script header.coding bytes)) ∙ sym (ap length (together bytes)) in
        let total : gathered session.script.blocks (session.chain.frames + length
        (signal session.script session.coding bytes)) ≡ gathered script.blocks
        (frames_in_bytes script (begun.opened.first ++ (heard ++ bytes))) =
        (λ i. gathered (script_is i).blocks ((count ∙ sym count_is) i)) in
        let prior : session.chain.frames ≡ in_whole_blocks start.block
        (frames_in_bytes script (begun.opened.first ++ (heard ++ bytes)) - 1) =
        stands.chain.counted ∙ sym before_is ∙ ap (λ n. in_whole_blocks start.block (n - 1)) (sym count_is) in
        subst (λ c. FirstStopped start.banked script start.block frames
        (part_fault.Stream (fault.Lengths (length_fault.Gather told more))) input later sink after before c)
        (sym fails.no_steps)
        (subst (λ s. FirstStopped start.banked script start.block frames
        (part_fault.Stream (fault.Lengths (length_fault.Gather told more))) input later sink s before counts)
        (sym still)
        (stops_at (part_fault.Stream (fault.Lengths (length_fault.Gather told more))) [] then
        counts nothing_more
        (unflushed_so_far (part_fault.Stream (fault.Lengths (length_fault.Gather told more))))
        (inr (none_written (quiet_script script start.block ready (frames_in_bytes script given)
        (omega (arith, subst (λ n. MAX_GATHERED < n) total over))))) (
          begun.opened.opens.has (heard ++ bytes),
          record {
            over = subst (λ n. MAX_GATHERED < n) total over;
            has_is = told_is ∙ (λ i. held (script_is i).blocks (prior i));
            more_is = omega (arith, sum, total);
          },
        )
        (same ∙ read_so_far, clean) (λ none. absurd none) (cost_within bytes) turns_so_far))
