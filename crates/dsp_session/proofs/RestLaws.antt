-- The ends of a stream over the rest of an input.
use Rattle.std.proofs.Common.{◌≡◌, ℕ, suc, ◌+◌, ◌-◌, ◌*◌, ◌<◌, ◌≤◌, List, [], ◌++◌, length, take, drop, Some, None}
use Rattle.std.proofs.Common.{Result}
use Rattle.std.proofs.Common.{sym, ap, ◌∙◌, subst, arith, append_assoc, append-nil, length-append, inl, inr}
use Rattle.std.proofs.lemmas.Bool.{cases_lt}
use Rattle.std.proofs.lemmas.List.{take-append-drop, drop_at}
use Rattle.dsp_ports.specs.Ports.{append_put}
use Rattle.dsp_ports.specs.Ports.{SourceState, SinkState, one_more, Gave, Took, IsSettled, settled_after}
use Rattle.dsp_ports.proofs.Moved.{Took-nil, Gave-append, append_put-append}
use Rattle.dsp_chain.specs.Chain.{made_of}
use Rattle.dsp_defs.specs.Block.{Frame}
use Rattle.dsp_defs.specs.Counts.{Counts}
use Rattle.dsp_defs.specs.Output.{HasHeader, input_header, input_signal, live_bytes, output_pad, whole_blocks}
use Rattle.dsp_defs.specs.Output.{whole_bytes}
use Rattle.dsp_defs.specs.Shape.{gathered, held, window_at}
use Rattle.dsp_defs.specs.Streaming.{Begins}
use Rattle.dsp_defs.specs.declared.limits.TheConstants.{MAX_GATHERED, MAX_INPUT}
use Rattle.dsp_defs.specs.declared.measure.Measure.{Measure}
use Rattle.dsp_defs.specs.declared.script.Script.{Script}
use Rattle.dsp_defs.specs.declared.wave.Header.{Header}
use Rattle.dsp_unit.proofs.CostLaws.{live_cost_within, products_are_cost}
use Rattle.dsp_input.specs.declared.fault.InputFault.{InputFault}
use Rattle.dsp_input.specs.Taking.{Fits, InDeclared, IsTakenWhole, IsUnread, Opened, declared_bytes, frame_bytes}
use Rattle.dsp_input.specs.Taking.{frames_in_bytes}
use Rattle.dsp_session.specs.Opening.{of_input}
use Rattle.dsp_session.specs.SessionState.{SessionState}
use Rattle.dsp_session.specs.Session.{IsReady, StandsFor, SameSession, Feeds, block_bytes, signal, cost_of}
use Rattle.dsp_session.specs.Session.{TurnsByProducts, live_cost_of, products_of, measures_of, turns_of}
use Rattle.dsp_session.specs.Stream.{in_whole_blocks}
use Rattle.dsp_session.specs.Passing.{WritesTail}
use Rattle.dsp_session.specs.Advancing.{Runs, Going, FailsToPassOn, count_of}
use Rattle.dsp_session.specs.Resuming.{IsRestCause, IsPartUnflushed, CountsPartFault, RestDone}
use Rattle.dsp_session.specs.Resuming.{RestStopped, RestWritten, later_frames, part_turns}
use Rattle.dsp_session.specs.Resuming.{rest_turns}
use Rattle.dsp_session.specs.declared.fault.LengthFault.TheVariants as length_fault
use Rattle.dsp_session.specs.declared.fault.StreamFault.TheVariants as fault
use Rattle.dsp_session.specs.declared.fault.PartFault.{PartFault}
use Rattle.dsp_session.specs.declared.fault.PartFault.TheVariants as part_fault
use Rattle.dsp_session.specs.declared.streaming.Span.{Span}
use Rattle.dsp_session.proofs.AdvanceLaws.{made_counted, made_runs}
use Rattle.dsp_session.proofs.FeedLaws.{feed_out, quiet_script}
use Rattle.dsp_session.proofs.OpeningLaws.{signal_is, signal-append, less}
use Rattle.dsp_session.proofs.OpeningLaws.{length-signal, whole_blocks-append}
use Rattle.dsp_session.proofs.BlockLaws.{block_some, in_blocks, in_declared}
use Rattle.dsp_session.proofs.TurnLaws.{part_before, part_behind, rest_behind}
use Rattle.dsp_session.proofs.PartLaws.{unread_cause, input_rest, input_wrote_rest, part_unflushed, unread_faults}
use Rattle.dsp_session.proofs.RestHeard.{HeardRest, heard_rest}

-- the frames before the rest were passed over, and whole blocks of it have passed
module _ (start session : SessionState) (header : Header) (span : Span) (taken : ℕ)
    (input opened_at mid now : SourceState) (sink then : SinkState) (before counts : Counts)
    (runs : Runs start) (coding : start.coding ≡ header.coding)
    (from : span.from ≡ start.chain.frames * frame_bytes start.script header.coding)
    (opened : Opened start.script header input opened_at)
    (skip : List ℕ) (skipped : Gave opened_at mid skip) (skip_long : length skip ≡ span.from)
    (still : (mid.faults ≡ opened_at.faults) × (mid.ended ≡ opened_at.ended))
    (going : Going start session header span taken mid now sink then
    before counts) where
  abbrev script : Script
  script = start.script

  abbrev frames : ℕ
  frames = start.chain.frames

  ready : IsReady script start.block
  ready = runs.holds.ready

  abbrev heard : List ℕ
  heard = going.heard

  abbrev wrote : List ℕ
  wrote = going.advances.written

  abbrev fed : List Frame
  fed = signal script header.coding heard

  -- the frames behind those that were passed over
  abbrev later : List ℕ → List Frame
  later bytes = signal script header.coding (heard ++ bytes)

  abbrev given : List ℕ → List ℕ
  given bytes = opened.first ++ (skip ++ (heard ++ bytes))

  heard_part : HeardRest start session header going.blocks opened.first skip heard wrote
  heard_part = heard_rest start session header span taken input opened_at mid now sink then before counts runs coding
      from opened skip skipped skip_long still going

  open heard_part use {some, skip_frames, heard_frames, together, reaches, stands, wrote_is, lags}

  module _ (end : SourceState) (bytes : List ℕ) (gave : Gave now end bytes)
      (declared : InDeclared (declared_bytes script header) (taken + length bytes))
      (below_limit : header.start + (taken + length bytes) ≤ MAX_INPUT)
      (short : length bytes ≤ block_bytes script header.coding start.block) where
    -- the frames by then, and a signal with the later ones
    abbrev reached : ℕ
    reached = frames + length (later bytes)

    abbrev with_later : List Frame → List Frame
    with_later x = x ++ later_frames script frames (given bytes)

    has : HasHeader script (given bytes)
    has = opened.opens.has (skip ++ (heard ++ bytes))

    said : input_header script (given bytes) ≡ header
    said = opened.opens.said (skip ++ (heard ++ bytes))

    all_long : length (skip ++ (heard ++ bytes)) ≡ taken + length bytes
    all_long = omega (arith, going.taken_is, skip_long, length-append skip (heard ++ bytes), length-append heard bytes)

    in_all : InDeclared (declared_bytes script header) (length (skip ++ (heard ++ bytes)))
    in_all = in_declared (declared_bytes script header) (taken + length bytes) (length (skip ++ (heard ++ bytes)))
        (sym all_long) declared

    signal_all : input_signal script (given bytes) ≡ signal script header.coding skip ++ later bytes
    signal_all =
        signal_is script header some opened.first opened.opens (skip ++ (heard ++ bytes)) in_all
        ∙ signal-append script header.coding some skip (heard ++ bytes) frames (skip_long ∙ from)

    later_is : later_frames script frames (given bytes) ≡ later bytes
    later_is = ap (drop frames) signal_all ∙ drop_at (signal script header.coding skip) (later bytes) frames skip_frames

    pub count_is : frames_in_bytes script (given bytes) ≡ reached
    count_is = ap length signal_all ∙ length-append (signal script header.coding skip) (later bytes) ∙
        ap (λ n. n + length (later bytes)) skip_frames

    given_long : length (given bytes) ≡ header.start + (taken + length bytes)
    given_long = omega (arith, all_long, opened.opens.start, length-append opened.first (skip ++ (heard ++ bytes)))

    gave_all : Gave input end (given bytes)
    gave_all = Gave-append input opened_at end opened.first (skip ++ (heard ++ bytes)) opened.going opened.gave
        (Gave-append opened_at mid end skip (heard ++ bytes) still.1 skipped
        (Gave-append mid now end heard bytes going.going going.gave gave))

    all_in_limit : length (given bytes) ≤ MAX_INPUT
    all_in_limit = omega (arith, below_limit, given_long)

    -- a front of what the frames add was written, or of all
    rest_stops : (stop : PartFault) (written : List ℕ) (after : SinkState) (made : Counts) →
        after.put ≡ append_put sink.put (wrote ++ written) → IsPartUnflushed stop sink after (wrote ++ written)
        → ((x : List Frame) → StandsFor start x → RestWritten stop script start.block x frames (given bytes)
        (wrote ++ written) end sink after)
        → IsRestCause stop script start.block frames (given bytes) end → CountsPartFault stop input end sink after
        → made.multiplies + live_cost_of script frames ≤ before.multiplies + cost_of script reached
        → made.turns ≤ before.turns + rest_turns start.banked script start.block frames reached
        → RestStopped script start.block start frames stop input end sink after before made
    rest_stops stop written after made put unflushed wrote cause faults cost turned = record {
      given = given bytes;
      written = going.advances.written ++ written;
      gave = gave_all;
      in_limit = all_in_limit;
      put = put;
      unflushed = unflushed;
      cause = cause;
      idle = λ fewer. absurd (omega (arith, fewer, count_is));
      wrote = wrote;
      lag = λ _. lags bytes written short;
      faults = faults;
      cost = λ enough. rw count_is cost;
      turns = λ enough. rw count_is turned;
    }

    put_more : (written : List ℕ) (after : SinkState) → after.put ≡ append_put then.put written →
        after.put ≡ append_put sink.put (wrote ++ written)
    put_more written after put = put ∙ ap (λ known. append_put known written) going.advances.took.put ∙
        sym (append_put-append sink.put wrote written)

    cost_within : counts.multiplies + live_cost_of script frames ≤ before.multiplies + cost_of script reached
    cost_within =
        let fewer : session.chain.frames ≤ reached =
        omega (arith, heard_frames, ap length (together bytes), length-append fed (signal script header.coding bytes))
        in
        let within = live_cost_within script.input.format script.input.channels script.blocks session.chain.frames
        reached fewer in
        omega (arith, going.advances.multiplies, within)

    bounds : (frames + going.blocks * start.block ≤ reached) × (reached ≤ frames + suc going.blocks * start.block)
    bounds = reaches bytes short

    turns_so_far : counts.turns ≤ before.turns + part_turns start.banked script start.block frames reached
    turns_so_far = part_before start.banked script start.block frames going.blocks reached before.turns counts.turns
        (block_some script start.block ready) bounds.0 bounds.1 going.advances.turned

    live_within : live_cost_of script reached ≤ cost_of script reached
    live_within = live_cost_within script.input.format script.input.channels script.blocks reached reached
        (omega arith)

    read_so_far : now.faults ≡ input.faults
    read_so_far = going.no_fault ∙ still.0 ∙ opened.no_fault

    later_behind : (x : List Frame) → (x ++ fed) ++ signal script header.coding bytes ≡ with_later x
    later_behind x = append_assoc x fed (signal script header.coding bytes) ∙
        ap (λ y. x ++ y) (sym (together bytes) ∙ sym later_is)

    -- what the whole blocks of the later frames add was written
    abbrev BlocksWritten : List Frame → Type 0
    BlocksWritten x = live_bytes script x ++ (wrote ++ []) ≡ live_bytes script
        (x ++ whole_blocks start.block (later_frames script frames (given bytes)))

    -- where less than a block more came
    blocks_written : length bytes < block_bytes script header.coding start.block → (x : List Frame) →
        StandsFor start x → BlocksWritten x
    blocks_written shorter x is =
        let rest : length (signal script header.coding bytes) < start.block =
        rw (length-signal script header.coding some bytes)
        (less (length bytes) start.block (frame_bytes script header.coding) some shorter) in
        let front : whole_blocks start.block (later_frames script frames (given bytes)) ≡ fed =
        ap (whole_blocks start.block) (later_is ∙ together bytes) ∙
        whole_blocks-append start.block going.blocks fed (signal script header.coding bytes) heard_frames rest in
        ap (λ ys. live_bytes script x ++ ys) (append-nil wrote) ∙ sym (wrote_is x is)
        ∙ ap (λ (y : List Frame). live_bytes script (x ++ y)) (sym front)

    -- where nothing comes before the end
    none_written : ((y : List Frame) → live_bytes script y ≡ []) → (x : List Frame) → StandsFor start x →
        BlocksWritten x
    none_written quiet x is =
        ap (λ ys. live_bytes script x ++ ys) (append-nil wrote) ∙ sym (wrote_is x is)
        ∙ quiet (x ++ fed) ∙ sym (quiet (x ++ whole_blocks start.block (later_frames script frames (given bytes))))

    -- just the live output of the blocks was written
    stops_there : (stop : PartFault) →
        ((x : List Frame) → StandsFor start x → RestWritten stop script start.block x frames (given bytes)
        (wrote ++ []) end sink then)
        → IsRestCause stop script start.block frames (given bytes) end → CountsPartFault stop input end sink then
        → RestStopped script start.block start frames stop input end sink then before counts
    stops_there stop shape cause faults = rest_stops stop [] then counts (put_more [] then (Took-nil then).put)
        (part_unflushed stop sink then (wrote ++ []) (going.advances.took.settled ∙
        ap (λ (ys : List ℕ). settled_after sink.settled (length ys)) (sym (append-nil wrote))))
        shape cause faults cost_within (rest_behind start.banked script start.block frames reached before.turns
        counts counts turns_so_far (omega arith) (omega (arith, live_within)))

    -- ---- ends

    pub rest_unread : length bytes < block_bytes script header.coding start.block → (error : InputFault) → IsUnread
        error script header (taken + length bytes) now end →
        RestStopped script start.block start frames (part_fault.Stream (of_input error)) input end sink then
        before counts
    rest_unread shorter error unread =
        stops_there (part_fault.Stream (of_input error))
        (λ x is. input_wrote_rest error script start.block x frames (given bytes) (wrote ++ []) end sink then
        (inr (blocks_written shorter x is)))
        (input_rest error script start.block frames (given bytes) end
        (unread_cause script start.block header opened.first opened.opens (skip ++ (heard ++ bytes))
        (taken + length bytes) all_long now end error unread))
        (unread_faults error script header (taken + length bytes) input now end sink then
        unread read_so_far going.advances.no_fault)

    pub rest_windowed : length bytes < block_bytes script header.coding start.block → (stop_end full : ℕ) →
        IsTakenWhole script (given bytes) end →
        window_at script.blocks reached ≡ Some (stop_end, full) → end.faults ≡ now.faults
        → RestStopped script start.block start frames (part_fault.Stream
        (fault.Lengths (length_fault.Window stop_end full))) input end sink then before counts
    rest_windowed shorter stop_end full ended found clean =
        stops_there (part_fault.Stream (fault.Lengths (length_fault.Window stop_end full)))
        (λ x is. inr (blocks_written shorter x is))
        (has, ended, ap (window_at script.blocks) count_is ∙ found)
        (clean ∙ read_so_far, going.advances.no_fault)

    -- the frames of these bytes, which are those of all that came, were fed to it
    module _ (piece : List ℕ) (same_more : signal script header.coding piece ≡ signal script header.coding bytes) where
      abbrev more : List Frame
      more = signal script header.coding bytes

      in_session : signal session.script session.coding piece ≡ more
      in_session = (λ i. signal (going.advances.same.script i) ((going.advances.same.coding ∙ coding) i) piece) ∙
          same_more

      all_fed : (x : List Frame) → (x ++ fed) ++ signal session.script session.coding piece ≡ with_later x
      all_fed x = ap (λ y. (x ++ fed) ++ y) in_session ∙ later_behind x

      pub fed_frames : session.chain.frames + count_of session piece ≡ reached
      fed_frames =
          omega (arith, heard_frames, ap length in_session, ap length (together bytes), length-append fed more)

      -- a correlation would gather too many
      pub rest_full : (last : SessionState) (told over : ℕ) (after : SinkState) (made : Counts) →
          FailsToPassOn (fault.Lengths (length_fault.Gather told over)) session last piece then after counts made →
          end.faults ≡ now.faults
          → length more ≤ start.block → (length more < start.block → IsTakenWhole script (given bytes) end ×
          (window_at script.blocks reached ≡ None))
          → RestStopped script start.block start frames (part_fault.Stream
          (fault.Lengths (length_fault.Gather told over))) input end sink after before made
      rest_full last told over after made (fails, past, told_is, sum, still) clean within ended =
          let stop = part_fault.Stream (fault.Lengths (length_fault.Gather told over)) in
          let script_is = going.advances.same.script in
          let all_frames : length (later bytes) ≡ going.blocks * start.block + length more =
          omega (arith, ap length (together bytes), length-append fed more, heard_frames) in
          let before_is : frames + in_whole_blocks start.block (frames_in_bytes script (given bytes) - frames - 1) ≡
          session.chain.frames =
          (let blocks = in_blocks going.blocks start.block (frames_in_bytes script (given bytes) - frames - 1)
          (block_some script start.block ready) (omega (arith, count_is, all_frames, one))
          (omega (arith, count_is, all_frames, within, one)) in
          omega (arith, blocks, going.advances.counted)) in
          let total : gathered session.script.blocks (session.chain.frames + count_of session piece) ≡ gathered
          script.blocks (frames_in_bytes script (given bytes)) =
          (λ i. gathered (script_is i).blocks ((fed_frames ∙ sym count_is) i)) in
          subst (λ c. RestStopped script start.block start frames stop input end sink after before c)
          (sym fails.no_steps)
          (subst (λ s. RestStopped script start.block start frames stop input end sink s before counts) (sym still)
          (stops_there stop (λ x is. inr (none_written (quiet_script script start.block ready
          (frames_in_bytes script (given bytes)) (omega (arith, subst (λ n. MAX_GATHERED < n) total past))) x is)) (
            has,
            omega (arith, count_is, all_frames, one),
            record {
              over = subst (λ n. MAX_GATHERED < n) total past;
              has_is = told_is ∙ (λ i. held (script_is i).blocks (sym before_is i));
              more_is = omega (arith, sum, total);
              no_window = λ fewer. (let (whole, none) = ended
                  (omega (arith, fewer, before_is, count_is, all_frames, going.advances.counted)) in
                  (whole, ap (window_at script.blocks) count_is ∙ none));
            },
          ) (clean ∙ read_so_far, going.advances.no_fault)))
        where
          one : 0 < length more
          one = elim (cases_lt 0 (length more)) [
            | inl here ↦ here
            | inr none ↦
                let same : session.chain.frames + count_of session piece ≡ session.chain.frames =
                omega (arith, none, ap length in_session) in
                absurd (omega (
                  arith,
                  going.advances.runs.not_full,
                  subst (λ n. MAX_GATHERED < gathered session.script.blocks n) same past,
                ))
          ]

      module _ (last : SessionState) (made : Counts) (same : SameSession session last)
          (feeds : Feeds session last piece counts made) where
        last_script : last.script ≡ script
        last_script = same.script ∙ going.advances.same.script

        last_counted : last.chain.frames ≡ reached
        last_counted = feeds.counted ∙ fed_frames

        adds : (x : List Frame) → StandsFor start x →
            live_bytes script (with_later x) ≡ live_bytes script x ++ (wrote ++ last.out)
        adds x is =
            ap (live_bytes script) (sym (all_fed x))
            ∙ (λ i. live_bytes (sym going.advances.same.script i)
            ((x ++ fed) ++ signal session.script session.coding piece))
            ∙ feed_out session last piece counts made same feeds (x ++ fed) (stands x is)
            ∙ (λ i. live_bytes (going.advances.same.script i) (x ++ fed) ++ last.out)
            ∙ ap (λ ys. ys ++ last.out) (wrote_is x is) ∙ append_assoc (live_bytes script x) wrote last.out

        last_stands : (x : List Frame) → StandsFor start x → StandsFor last (with_later x)
        last_stands x is = subst (StandsFor last) (all_fed x) (feeds.stands (x ++ fed) (stands x is))

        made_is : made.multiplies + live_cost_of script frames ≡ before.multiplies + live_cost_of script reached
        made_is =
            let after : made_of last.chain ≡ live_cost_of script reached =
            made_counted last feeds.holds feeds.live ∙ (λ i. live_cost_of (last_script i) (last_counted i)) in
            let prior : made_of session.chain ≡ live_cost_of script session.chain.frames =
            made_runs session going.advances.runs ∙ ap (λ (s : Script). live_cost_of s session.chain.frames)
            going.advances.same.script in
            omega (arith, feeds.multiplies, after, prior, going.advances.multiplies)

        turns_fed : made.turns ≤ before.turns + part_turns start.banked script start.block frames reached
        turns_fed =
            let call : made.turns ≤ counts.turns + turns_of start.banked script (frames + going.blocks * start.block)
            reached =
            subst (λ n. made.turns ≤ counts.turns + n) (λ i. turns_of (going.advances.same.banked i)
            (going.advances.same.script i) (going.advances.counted i) (last_counted i)) feeds.turns in
            part_behind start.banked script start.block frames going.blocks reached before.turns counts.turns
            made.turns (block_some script start.block ready) bounds.0 bounds.1 going.advances.turned call

        pub rest_unwritten : (after : SinkState) (count : ℕ) →
            after.put ≡ append_put then.put (take count last.out) → after.faults ≡ one_more then.faults →
            end.faults ≡ now.faults
            → RestStopped script start.block start frames (part_fault.Stream fault.Output) input end sink after before
            made
        rest_unwritten after count put risen clean =
            rest_stops (part_fault.Stream fault.Output) (take count last.out) after made
            (put_more (take count last.out) after put) tt
            (λ x is. inl (
              drop count last.out,
              adds x is ∙ ap (λ ys. live_bytes script x ++ (wrote ++ ys)) (sym (take-append-drop count last.out))
                  ∙ ap (λ ys. live_bytes script x ++ ys) (sym (append_assoc wrote (take count last.out)
                  (drop count last.out)))
                  ∙ sym (append_assoc (live_bytes script x) (wrote ++ take count last.out) (drop count last.out)),
            ))
            has (clean ∙ read_so_far, risen ∙ ap one_more going.advances.no_fault)
            (omega (arith, made_is, live_within))
            (rest_behind start.banked script start.block frames reached before.turns made made turns_fed
            (omega arith) (omega (arith, live_within)))

        -- and the tail of all was written, or a part of it
        module _ {E : Type 0} (result : Result (Unit {0}) E) (middle after : SinkState) (spent : Counts)
            (took : Took then middle last.out) (unfailed : middle.faults ≡ then.faults)
            (writes : WritesTail result last (output_pad last.script header) middle after)
            (none : window_at script.blocks reached ≡ None)
            (limit : spent.multiplies + live_cost_of session.script last.chain.frames ≤ made.multiplies +
            products_of session.script last.chain.frames) (turned : TurnsByProducts made spent)
            (ended : IsTakenWhole script (given bytes) end) (clean : end.faults ≡ now.faults) where
          abbrev added : List ℕ
          added = last.out ++ writes.written

          put_all : after.put ≡ append_put sink.put (wrote ++ added)
          put_all = put_more added after (writes.put ∙ ap (λ known. append_put known writes.written) took.put ∙
              sym (append_put-append then.put last.out writes.written))

          -- behind the live values of x
          behind_live : (x : List Frame) → StandsFor start x →
              live_bytes last.script (with_later x) ++ writes.written ≡ live_bytes script x ++ (wrote ++ added)
          behind_live x is =
              ap (λ (s : Script). live_bytes s (with_later x) ++ writes.written) last_script
              ∙ ap (λ ys. ys ++ writes.written) (adds x is)
              ∙ append_assoc (live_bytes script x) (wrote ++ last.out) writes.written ∙
              ap (λ ys. live_bytes script x ++ ys) (append_assoc wrote last.out writes.written)

          all_of : (x : List Frame) → whole_bytes last.script (with_later x) ++ output_pad last.script header
              ≡ whole_bytes script (with_later x) ++ output_pad script (input_header script (given bytes))
          all_of x =
              (λ i. whole_bytes (last_script i) (with_later x) ++ output_pad (last_script i) header)
              ∙ ap (λ (h : Header). whole_bytes script (with_later x) ++ output_pad script h) (sym said)

          costs : spent.multiplies + live_cost_of script reached ≤ made.multiplies + cost_of script reached
          costs =
              let tail : spent.multiplies + live_cost_of script reached ≤ made.multiplies + products_of script
              reached =
              subst {A = ℕ × ℕ} (λ n. spent.multiplies + n.0 ≤ made.multiplies + n.1)
              (λ i. (
                live_cost_of (going.advances.same.script i) (last_counted i),
                products_of (going.advances.same.script i) (last_counted i),
              )) limit in
              let products = products_are_cost script.input.format script.input.channels script.blocks reached none in
              omega (arith, tail, products)

          cost_all : spent.multiplies + live_cost_of script frames ≤ before.multiplies + cost_of script reached
          cost_all = omega (arith, costs, made_is)

          turns_all : spent.turns ≤ before.turns + rest_turns start.banked script start.block frames reached
          turns_all = rest_behind start.banked script start.block frames reached before.turns made spent turns_fed
              turned costs

          pub rest_unfinished : after.faults ≡ one_more middle.faults →
              RestStopped script start.block start frames (part_fault.Stream fault.Output) input end sink after before
              spent
          rest_unfinished failed =
              rest_stops (part_fault.Stream fault.Output) added after spent put_all tt
              (λ x is. inr (
                ended,
                subst (λ ys. Begins (live_bytes script x ++ (wrote ++ added)) ys) (all_of x)
                    (subst (λ ys. Begins ys (whole_bytes last.script (with_later x) ++ output_pad last.script header))
                    (behind_live x is) (writes.begins (with_later x) (last_stands x is))),
              ))
              has (clean ∙ read_so_far, failed ∙ ap one_more (unfailed ∙ going.advances.no_fault)) cost_all turns_all

          pub rest_done : ((x : List Frame) → StandsFor last x → live_bytes last.script x ++ writes.written ≡
              whole_bytes last.script x ++ output_pad last.script header)
              → after.faults ≡ middle.faults → IsSettled after → Fits script header →
              gathered session.script.blocks last.chain.frames ≤ MAX_GATHERED
              → ((x : List Frame) → StandsFor last x → spent.multiplies + live_cost_of last.script (length x) ≡
              made.multiplies + products_of last.script (length x))
              → (found : List Measure) → ((x : List Frame) → StandsFor last x → found ≡ measures_of last.script x)
              → (total : ℕ) → total ≡ reached →
              (header.size ≡ None → header.start + (taken + length bytes) < MAX_INPUT)
              → RestDone script start frames total input end sink after before spent found
          rest_done whole still settled fits few costs found measures total total_is room = record {
            given = given bytes;
            written = wrote ++ added;
            gave = gave_all;
            has = has;
            in_limit = all_in_limit;
            room_left = λ none. omega (arith, room (ap (λ (h : Header). h.size) (sym said) ∙ none), given_long);
            whole = ended;
            frame_count = total_is ∙ sym count_is;
            enough = omega (arith, total_is);
            limits = record {
              fits = subst (Fits script) (sym said) fits;
              not_full = subst (λ n. n ≤ MAX_GATHERED) (λ i. gathered (going.advances.same.script i).blocks
                  ((last_counted ∙ sym total_is) i)) few;
            };
            no_window = ap (window_at script.blocks) total_is ∙ none;
            put = put_all;
            lag = lags bytes added short;
            output = λ x is. sym (behind_live x is) ∙ whole (with_later x) (last_stands x is) ∙ all_of x;
            settled = settled;
            no_input_fault = clean ∙ read_so_far;
            no_output_fault = still ∙ unfailed ∙ going.advances.no_fault;
            cost = subst (λ n. spent.multiplies + live_cost_of script frames ≤ before.multiplies + cost_of script n)
                (sym total_is) cost_all;
            turns = subst (λ n. spent.turns ≤ before.turns + rest_turns start.banked script start.block frames n)
                (sym total_is) turns_all;
            exact = λ x is. (let stands = last_stands x is in
                let long : length (with_later x) ≡ reached = sym stands.chain.counted ∙ last_counted in
                let costs : spent.multiplies + live_cost_of script reached ≡ made.multiplies + products_of script
                reached =
                subst {A = ℕ × ℕ} (λ n. spent.multiplies + n.0 ≡ made.multiplies + n.1)
                (λ i. (live_cost_of (last_script i) (long i), products_of (last_script i) (long i)))
                (costs (with_later x) stands) in
                let products = products_are_cost script.input.format script.input.channels script.blocks reached
                none in
                let sum : spent.multiplies + live_cost_of script frames ≡ before.multiplies + cost_of script
                reached = omega (arith, costs, products, made_is) in
                sum ∙ ap (λ n. before.multiplies + cost_of script n) (sym total_is));
            measures = λ x is. measures (with_later x) (last_stands x is) ∙
                ap (λ (s : Script). measures_of s (with_later x)) last_script;
          }
