-- The last of the first frames of an input, and the ends of the stream over them.
use Rattle.std.proofs.Common.{◌≡◌, ℕ, ◌+◌, ◌-◌, ◌*◌, ◌/◌, ◌<◌, ◌≤◌, List, [], ◌++◌, length, take, Option, Some}
use Rattle.std.proofs.Common.{None, IfSome, refl, sym, ap, ◌∙◌, subst, arith, append_assoc, length-append, inl, inr}
use Rattle.std.proofs.lemmas.Bool.{cases_lt}
use Rattle.std.proofs.lemmas.List.{length-take-le, take_all}
use Rattle.std.specs.Io.KnownBytes.{IsAtEnd}
use Rattle.dsp_ports.specs.Ports.{append_put}
use Rattle.std.specs.Option.{option_map}
use Rattle.dsp_ports.specs.Ports.{SourceState, SinkState, one_more, Flushed}
use Rattle.dsp_ports.proofs.Moved.{Gave-append, flushed-settled}
use Rattle.dsp_defs.specs.Block.{Frame}
use Rattle.dsp_defs.specs.Counts.{Counts}
use Rattle.dsp_defs.specs.Output.{declared_frames, input_header, live_bytes, output_header}
use Rattle.dsp_defs.specs.Shape.{gathered}
use Rattle.dsp_defs.specs.declared.limits.TheConstants.{MAX_GATHERED, MAX_INPUT}
use Rattle.dsp_defs.specs.declared.script.Script.{Script}
use Rattle.dsp_defs.specs.declared.wave.Header.{Header}
use Rattle.dsp_input.specs.Taking.{AreAll, Fits, InDeclared, declared_bytes, frame_bytes, frames_in_bytes}
use Rattle.dsp_input.specs.Taking.{in_whole_frames}
use Rattle.dsp_session.specs.SessionState.{SessionState}
use Rattle.dsp_session.specs.Session.{IsReady, StandsFor, block_bytes, signal, live_cost_of}
use Rattle.dsp_session.specs.Opening.{Begun}
use Rattle.dsp_session.specs.Stream.{LagsByOne, in_whole_blocks}
use Rattle.dsp_session.specs.Advancing.{FailsToPassOn, PassesOn, Going, Reached, count_of}
use Rattle.dsp_session.specs.Resuming.{FirstDone, FirstStopped, first_output, part_turns}
use Rattle.dsp_session.specs.declared.fault.LengthFault.TheVariants as length_fault
use Rattle.dsp_session.specs.declared.fault.StreamFault.{StreamFault}
use Rattle.dsp_session.specs.declared.fault.StreamFault.TheVariants as fault
use Rattle.dsp_session.specs.declared.fault.PartFault.TheVariants as part_fault
use Rattle.dsp_session.specs.declared.streaming.Last.{Last}
use Rattle.dsp_session.specs.declared.streaming.Span.{Span}
use Rattle.dsp_session.proofs.AdvanceLaws.{passed_runs}
use Rattle.dsp_session.proofs.OpeningLaws.{some_frame, frames_of_blocks, frames-whole, frames_are, length-signal}
use Rattle.dsp_session.proofs.OpeningLaws.{signal-append, signal_is}
use Rattle.dsp_session.proofs.PartLaws.{first_is}
use Rattle.dsp_session.proofs.BlockLaws.{block_some, in_blocks, in_declared}
use Rattle.dsp_session.proofs.FirstLaws as laws
use Rattle.dsp_session.proofs.OpeningLaws.{less}

pub at_most : (k n f : ℕ) → 0 < f → n ≤ k * f → n / f ≤ k
at_most k n f some h = grind arith

pub fewer_bytes : (k q f : ℕ) → k ≤ q → k * f ≤ q * f
fewer_bytes k q f h = grind arith

fewer_frames : (k q f : ℕ) → k * f < q * f → k < q
fewer_frames k q f h = grind arith

whole_count : (n f : ℕ) → 0 < f → n * f / f ≡ n
whole_count n f some = grind arith

spread : (a b f : ℕ) → (a + b) * f ≡ a * f + b * f
spread a b f = grind arith

module _ (start session : SessionState) (header : Header) (span : Span) (block : List ℕ) (last : Last)
    (mid now : SourceState) (first then : SinkState) (before counts : Counts)
    (new : StandsFor start []) (coding : start.coding ≡ header.coding) (from : span.from ≡ 0) (frames : ℕ)
    (end : span.end ≡ frames * frame_bytes start.script header.coding)
    (reached : Reached start session header span block last mid now first then before counts) where
  abbrev script : Script
  script = start.script

  ready : IsReady script start.block
  ready = new.holds.ready

  abbrev frame : ℕ
  frame = frame_bytes script header.coding

  some : 0 < frame
  some = some_frame script header.coding start.block ready

  abbrev between : SourceState
  between = reached.between

  abbrev going : Going start session header span last.before mid between first then before counts
  going = reached.going

  abbrev came : ℕ
  came = last.before + last.count

  abbrev bytes : List ℕ
  bytes = take last.count block

  abbrev all : List ℕ
  all = going.heard ++ bytes

  long : length bytes ≡ last.count
  long = length-take-le last.count block reached.read.within

  declared : InDeclared (declared_bytes script header) (last.before + length bytes)
  declared = in_declared (declared_bytes script header) (last.before + last.count) (last.before + length bytes)
      (omega (arith, long)) reached.read.declared

  heard_all : length going.heard ≡ last.before
  heard_all = omega (arith, going.taken_is, from)

  all_long : length all ≡ came
  all_long = omega (arith, heard_all, long, length-append going.heard bytes)

  in_all : InDeclared (declared_bytes script header) (length all)
  in_all = in_declared (declared_bytes script header) (last.before + last.count) (length all) (sym all_long)
      reached.read.declared

  count_is : length (signal script header.coding all) ≡ came / frame
  count_is = length-signal script header.coding some all ∙ ap (λ n. n / frame) all_long

  few : length (signal script header.coding all) ≤ frames
  few = rw count_is (at_most frames came frame some (omega (arith, reached.read.in_part, end)))

  in_limit : header.start + (last.before + length bytes) ≤ MAX_INPUT
  in_limit = omega (arith, long, reached.read.in_limit)

  shorter : length bytes < block_bytes script header.coding start.block
  shorter = omega (arith, long, reached.short, reached.size, ap (λ c. block_bytes script c start.block) coding)

  in_block : length bytes ≤ block_bytes script header.coding start.block
  in_block = omega (arith, shorter)

  abbrev whole : Option ℕ → Option ℕ
  whole size = elim size [ Some s ↦ Some (in_whole_frames script header.coding s) | None ↦ None ]

  -- ---- the part has ended

  module _ (full : span.end ≤ came) where
    exact : came ≡ frames * frame
    exact = omega (arith, full, reached.read.in_part, end)

    abbrev blocks : ℕ
    blocks = going.blocks * start.block

    heard_long : length going.heard ≡ blocks * frame
    heard_long = frames_of_blocks script start.coding start.block going.blocks (length going.heard)
        going.advances.long ∙ ap (λ c. blocks * frame_bytes script c) coding

    heard_frames : length (signal script header.coding going.heard) ≡ blocks
    heard_frames = frames-whole script header.coding some going.heard blocks heard_long

    abbrev more : List Frame
    more = signal script header.coding bytes

    all_frames : length (signal script header.coding all) ≡ frames
    all_frames = count_is ∙ ap (λ n. n / frame) exact ∙ whole_count frames frame some

    rest : blocks + length more ≡ frames
    rest =
        sym (ap length (signal-append script header.coding some going.heard bytes blocks heard_long) ∙
        length-append (signal script header.coding going.heard) more ∙ ap (λ n. n + length more) heard_frames)
        ∙ all_frames

    bytes_whole : length bytes ≡ length more * frame
    bytes_whole = (let sum = spread blocks (length more) frame in
        let total : (blocks + length more) * frame ≡ frames * frame = ap (λ n. n * frame) rest in
        omega (arith, sum, total, exact, heard_all, heard_long, long))

    in_session : signal session.script session.coding bytes ≡ more
    in_session = λ i. signal (going.advances.same.script i) ((going.advances.same.coding ∙ coding) i) bytes

    fed_count : count_of session bytes ≡ length more
    fed_count = ap length in_session

    pub fed_whole : length bytes ≡ count_of session bytes * frame_bytes session.script session.coding
    fed_whole = bytes_whole ∙ (λ i. sym fed_count i * frame_bytes (sym going.advances.same.script i)
        (sym (going.advances.same.coding ∙ coding) i))

    more_short : length more < start.block
    more_short =
        let size : length block ≡ start.block * frame = reached.size ∙
        ap (λ c. start.block * frame_bytes script c) coding in
        fewer_frames (length more) start.block frame (omega (arith, bytes_whole, long, reached.short, size))

    pub fed_in_block : count_of session bytes ≤ session.block
    fed_in_block = omega (arith, fed_count, more_short, going.advances.same.block)

    session_frames : session.chain.frames ≡ blocks
    session_frames = omega (arith, going.advances.counted, new.chain.counted)

    all_counted : session.chain.frames + count_of session bytes ≡ frames
    all_counted = omega (arith, session_frames, fed_count, rest)

    pub fed_few : frames ≤ MAX_INPUT → session.chain.frames + count_of session bytes ≤ MAX_INPUT
    fed_few small = omega (arith, all_counted, small)

    -- where the last frames are too many there are some
    some_more : MAX_GATHERED < gathered session.script.blocks (session.chain.frames + count_of session bytes) →
        0 < length more
    some_more over = elim (cases_lt 0 (length more)) [
      | inl here ↦ here
      | inr none ↦
          let same : session.chain.frames + count_of session bytes ≡ session.chain.frames =
          omega (arith, none, fed_count) in
          absurd (omega (
            arith,
            going.advances.runs.not_full,
            subst (λ n. MAX_GATHERED < gathered session.script.blocks n) same over,
          ))
    ]

    before_is : 0 < length more → in_whole_blocks start.block (length (signal script header.coding all) - 1) ≡ length
        (signal script header.coding going.heard)
    before_is one =
        in_blocks going.blocks start.block (length (signal script header.coding all) - 1)
        (block_some script start.block ready) (omega (arith, all_frames, rest, one))
        (omega (arith, all_frames, rest, more_short, one)) ∙ sym heard_frames

  -- ---- from the begin of the input on

  module _ (input : SourceState) (sink : SinkState) (begun : Begun start.script header input mid sink first) where
    abbrev given : List ℕ
    given = begun.opened.first ++ all

    frames_given : frames_in_bytes script given ≡ came / frame
    frames_given = frames_are script header some begun.opened.first begun.opened.opens all in_all ∙ count_is

    -- so many frames are declared, or came
    abbrev Counted : Option ℕ → Type 0
    Counted size = elim size [
      | Some declared ↦ came / frame ≡ declared
      | None ↦
          (came / frame ≡ frames_in_bytes script given) × IsAtEnd now.left
    ]

    -- the input ends before the part does
    pub behind : came < span.end → IfSome (declared_frames script header) (λ got. frames ≤ got) →
        FirstStopped start.banked script start.block frames (part_fault.Behind frames (came / frame)) input now sink
        then
        before counts
    behind cut enough =
        laws.stops_behind start session header span last.before input mid between sink first then
        before counts new coding from begun going frames now bytes reached.read.gave declared few in_limit in_block
        shorter (undeclared header.size enough ended) (came / frame) (less came frames frame some (omega (
          arith,
          cut,
          end,
        )))
        (subst (λ (h : Header). Counted (declared_frames script h)) (sym (begun.opened.opens.said all))
        (by_size header.size enough ended))
        reached.read.no_fault
      where
        ended : AreAll (declared_bytes script header) came now
        ended = elim (reached.read.ended reached.short) [ inl is ↦ absurd (omega (arith, is, cut)) | inr rest ↦ rest ]

        undeclared : (size : Option ℕ) → IfSome (option_map (λ s. s / frame) size) (λ got. frames ≤ got) →
            AreAll (whole size) came now → option_map (λ s. s / frame) size ≡ None
        undeclared None enough end = refl
        undeclared (Some size) enough is = absurd (let more = fewer_bytes frames (size / frame) frame enough in
            omega (arith, more, is, cut, end))

        by_size : (size : Option ℕ) → IfSome (option_map (λ s. s / frame) size) (λ got. frames ≤ got) →
            AreAll (whole size) came now → Counted (option_map (λ s. s / frame) size)
        by_size None enough end = (sym frames_given, end)
        by_size (Some size) enough is = absurd (let more = fewer_bytes frames (size / frame) frame enough in
            omega (arith, more, is, cut, end))

    module _ (full : span.end ≤ came) where
      pub unpassed : (stop : StreamFault) (fed : SessionState) (after : SinkState) (made : Counts) →
          FailsToPassOn stop session fed bytes then after counts made
          → FirstStopped start.banked script start.block frames (part_fault.Stream stop) input now sink after before
          made
      unpassed fault.Output fed after made (count, less, same, feeds, fewer, took, risen) =
          laws.stops_unwritten start session header span last.before input mid between sink first then
          before counts new coding from begun going frames now bytes reached.read.gave declared few in_limit
          in_block fed made same feeds
          after count took.put risen reached.read.no_fault
      unpassed (fault.Lengths (length_fault.Gather told more)) fed after made fails =
          laws.stops_full start session header span last.before input mid between sink first then
          before counts new coding from begun going frames now bytes reached.read.gave declared few in_limit
          in_block fed told more
          after made fails reached.read.no_fault (before_is full (some_more full fails.1))
      unpassed stop fed after made none = absurd none

      -- the last frames have passed
      module _ (fed : SessionState) (after : SinkState) (made : Counts)
          (passes : PassesOn session fed bytes then after counts made) where
        pub unflushed : (final : SinkState) → final.put ≡ after.put → final.faults ≡ one_more after.faults →
            FirstStopped start.banked script start.block frames (part_fault.Stream fault.Output) input now sink final
            before made
        unflushed final put failed =
            laws.stops_unwritten start session header span last.before input mid between sink first then
            before counts new coding from begun going frames now bytes reached.read.gave declared few in_limit
            in_block fed made passes.same passes.fed final (length fed.out)
            (put ∙ passes.took.put ∙ ap (append_put then.put)
            (sym (take_all (length fed.out) fed.out (omega arith)))) (failed ∙ ap one_more passes.no_fault)
            reached.read.no_fault

        counted : fed.chain.frames ≡ frames
        counted = passes.fed.counted ∙ all_counted full

        same_frames : frames_in_bytes script given ≡ frames
        same_frames = frames_given ∙ sym count_is ∙ all_frames full

        header_is : input_header script given ≡ header
        header_is = begun.opened.opens.said all

        exact_length : length given ≡ header.start + frames * frame_bytes script header.coding
        exact_length = omega (
          arith,
          begun.opened.opens.start,
          all_long,
          exact full,
          length-append begun.opened.first all,
        )

        fed_stands : StandsFor fed (signal script header.coding all)
        fed_stands = laws.fed_stands start session header span last.before input mid between sink first then
            before counts new coding from begun going frames now bytes reached.read.gave declared few in_limit in_block
            fed made passes.same passes.fed

        adds : live_bytes script (signal script header.coding all) ≡ going.advances.written ++ fed.out
        adds = laws.adds_all start session header span last.before input mid between sink first then
            before counts new coding from begun going frames now bytes reached.read.gave declared few in_limit in_block
            fed made passes.same passes.fed

        output_is : first_output script frames given ≡ (output_header script header ++ going.advances.written) ++
            fed.out
        output_is =
            ap (λ n. first_output script n given) (sym same_frames) ∙
            first_is script header some begun.opened.first begun.opened.opens all in_all
            ∙ ap (λ xs. output_header script header ++ xs) adds ∙
            sym (append_assoc (output_header script header) going.advances.written fed.out)

        put_all : after.put ≡ append_put sink.put ((output_header script header ++ going.advances.written) ++ fed.out)
        put_all = laws.put_more start session header span last.before input mid between sink first then
            before counts new coding from begun going fed.out after passes.took.put

        pub done : (final : SinkState) → Flushed after final → final.faults ≡ after.faults →
            FirstDone script frames fed input now sink final before made
        done final flushed clean = record {
          given = given;
          gave = Gave-append input mid now begun.opened.first all begun.opened.going begun.opened.gave
              (Gave-append mid between now going.heard bytes going.going going.gave reached.read.gave);
          has = begun.opened.opens.has all;
          exact = subst (λ (h : Header). length given ≡ h.start + frames * frame_bytes script h.coding)
              (sym header_is) exact_length;
          frame_count = sym same_frames;
          in_limit = omega (
            arith,
            begun.opened.opens.start,
            all_long,
            reached.read.in_limit,
            length-append begun.opened.first all,
          );
          stands = subst (StandsFor fed) (sym (signal_is script header some begun.opened.first begun.opened.opens all
              in_all)) fed_stands;
          runs = passed_runs session fed bytes then after counts made passes;
          limits = record {
            fits = subst (Fits script) (sym header_is) begun.fits;
            not_full = subst (λ n. n ≤ MAX_GATHERED) (λ i. gathered (going.advances.same.script i).blocks (counted i))
                passes.not_full;
          };
          put = flushed.put ∙ put_all ∙ ap (append_put sink.put) (sym output_is);
          lag = subst (λ b. LagsByOne script b given (first_output script frames given))
              (sym (passes.same.block ∙ going.advances.same.block))
              (subst (LagsByOne script start.block given) (sym output_is)
              (laws.lag_at start session header span last.before input mid between sink first then
              before counts new coding from begun going frames now bytes reached.read.gave declared few in_limit
              in_block fed.out));
          settled = flushed-settled after final flushed;
          no_input_fault = reached.read.no_fault ∙ going.no_fault ∙ begun.opened.no_fault;
          no_output_fault = clean ∙ passes.no_fault ∙ going.advances.no_fault ∙ begun.no_fault;
          cost = laws.made_is start session header span last.before input mid between sink first then
              before counts new coding from begun going frames now bytes reached.read.gave declared few in_limit
              in_block fed made passes.same passes.fed
              ∙ ap (λ n. before.multiplies + live_cost_of script n) (all_frames full);
          turns = subst (λ n. made.turns ≤ before.turns + n) (λ i. part_turns
              (sym (passes.same.banked ∙ going.advances.same.banked) i) script
              (sym (passes.same.block ∙ going.advances.same.block) i) 0 (all_frames full i))
              (laws.turns_fed start session header span last.before input mid between sink first then
              before counts new coding from begun going frames now bytes reached.read.gave declared few in_limit
              in_block fed made passes.same passes.fed);
        }
