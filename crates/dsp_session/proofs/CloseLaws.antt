-- The samples have ended: the last of them, the tail, and what that makes of the whole stream.
use Rattle.std.proofs.Common.{◌≡◌, ℕ, suc, ◌+◌, ◌-◌, ◌*◌, ◌/◌, ◌<◌, ◌≤◌, Bool, List, [], ◌++◌, length, take, Option}
use Rattle.std.proofs.Common.{Some, None, Result, Ok, Err, sym, ap, ◌∙◌, subst, arith, append_assoc, append-nil}
use Rattle.std.proofs.Common.{length-append, inl, inr}
use Rattle.std.proofs.lemmas.Bool.{cases_lt}
use Rattle.std.proofs.lemmas.List.{length-take-le}
use Rattle.std.specs.Io.KnownBytes.{IsAtEnd}
use Rattle.dsp_ports.specs.Ports.{append_put}
use Rattle.dsp_ports.specs.Ports.{SourceState, SinkState, one_more, IsSettled}
use Rattle.dsp_ports.proofs.Moved.{append_put-append}
use Rattle.dsp_defs.specs.Block.{Frame}
use Rattle.dsp_defs.specs.Counts.{Counts}
use Rattle.dsp_defs.specs.Output.{HasHeader, input_header, input_signal, output_header, output_pad, output_coding}
use Rattle.dsp_defs.specs.Output.{live_bytes, whole_bytes, output, part}
use Rattle.dsp_defs.specs.Shape.{frames_given, gathered, held, window_at}
use Rattle.dsp_defs.specs.Streaming.{Begins}
use Rattle.dsp_defs.specs.declared.limits.TheConstants.{MAX_GATHERED, MAX_INPUT}
use Rattle.dsp_defs.specs.declared.measure.Measure.{Measure}
use Rattle.dsp_defs.specs.declared.script.Script.{Script}
use Rattle.dsp_defs.specs.declared.wave.Header.{Header}
use Rattle.dsp_defs.proofs.ChainLaws.{whole_chain_begins}
use Rattle.dsp_unit.proofs.ChainPlaces.{has_channels}
use Rattle.dsp_unit.proofs.CostLaws.{live_cost_within, products_are_cost}
use Rattle.dsp_defs.proofs.FrameLaws.{length-whole_chain, frames_are_given}
use Rattle.dsp_defs.proofs.OutputLaws.{coded_begins}
use Rattle.dsp_input.specs.Taking.{AreAll, Fits, InDeclared, IsTakenWhole, declared_bytes, frame_bytes, frames_in_bytes}
use Rattle.dsp_session.specs.SessionState.{SessionState}
use Rattle.dsp_session.specs.Session.{IsReady, SameSession, signal, whole_values, cost_of, live_cost_of, products_of}
use Rattle.dsp_session.specs.Session.{TurnsByProducts, turns_of, run_turns, measures_of}
use Rattle.dsp_session.specs.Stream.{Stopped, Done, Part, KeepsLimits, LagsByOne, in_whole_blocks}
use Rattle.dsp_session.specs.Passing.{PassCosts, Passes, FailsToPass, Passed, WritesRest, TailCosts}
use Rattle.dsp_session.specs.declared.fault.LengthFault.TheVariants as length_fault
use Rattle.dsp_session.specs.declared.fault.StreamFault.{StreamFault}
use Rattle.dsp_session.specs.declared.fault.StreamFault.TheVariants as fault
use Rattle.dsp_session.specs.declared.streaming.Last.{Last}
use Rattle.dsp_session.proofs.OpeningLaws.{some_frame, front_signal, frames_of_blocks, length-signal}
use Rattle.dsp_session.proofs.OpeningLaws.{signal-append, frames-whole, signal_is, frames_are, output_is, part_blocks}
use Rattle.dsp_session.proofs.BlockLaws.{Standing, between, block_some, blocks_keep, in_blocks, in_declared, lag}
use Rattle.dsp_session.proofs.BlockLaws.{stops_between, stops_within, whole_blocks_are}
use Rattle.dsp_session.proofs.TurnLaws.{turns_behind, turns_end}
use Rattle.std.proofs.Math.Nat.{div-mul-le_self}

quotient_within : (n f : ℕ) → n / f ≤ n
quotient_within n f = grind arith

-- a whole signal has the frames that are given
pub whole_length : (script : Script) (block : ℕ) → IsReady script block → (x : List Frame) →
    window_at script.blocks (length x) ≡ None → length (whole_values script x) ≡ frames_given script.blocks (length x)
whole_length script block ready x window =
    let fit = ready.sound.1.fit in
    length-whole_chain script.input.format script.input.channels script.blocks x
    (has_channels (record { format = script.input.format; channels = script.input.channels }) script.blocks
    fit.chain fit.channels.0)
    ∙ frames_are_given script.blocks (length x) window

live_front : (script : Script) (x : List Frame) → Begins (live_bytes script x) (whole_bytes script x)
live_front script x =
    let (rest, split) = whole_chain_begins script.input.format script.input.channels script.blocks x [] in
    coded_begins (output_coding script) _ _ (rest, ap (whole_values script) (sym (append-nil x)) ∙ split)

module _ (script : Script) (block : ℕ) (ready : IsReady script block) (session : SessionState) (header : Header)
    (piece : List ℕ) (last : Last) (input now : SourceState) (sink then : SinkState) (before counts : Counts)
    (passed : Passed script block session header piece last input now sink then before counts) where
  frame : 0 < frame_bytes script header.coding
  frame = some_frame script header.coding block ready

  abbrev heard : List ℕ
  heard = passed.heard

  abbrev x : List Frame
  x = signal script header.coding heard

  abbrev rest : List ℕ
  rest = take last.count piece

  -- the frames of the last samples, and their bytes
  abbrev count : ℕ
  count = last.count / frame_bytes script header.coding

  abbrev fed_bytes : List ℕ
  fed_bytes = take (count * frame_bytes script header.coding) piece

  abbrev given : List ℕ
  given = passed.first ++ (heard ++ rest)

  abbrev head : List ℕ
  head = output_header script header

  rest_length : length rest ≡ last.count
  rest_length = length-take-le last.count piece (omega (arith, passed.short))

  some_left : count * frame_bytes script header.coding ≤ last.count
  some_left = div-mul-le_self last.count (frame_bytes script header.coding)

  fed_length : length fed_bytes ≡ count * frame_bytes script header.coding
  fed_length = length-take-le (count * frame_bytes script header.coding) piece (omega (arith, some_left, passed.short))

  pub fed_frames : length (signal script header.coding fed_bytes) ≡ count
  fed_frames = frames-whole script header.coding frame fed_bytes count fed_length

  fed_signal : signal script header.coding rest ≡ signal script header.coding fed_bytes
  fed_signal = sym (front_signal script header.coding frame last.count piece (omega (arith, passed.short)))

  all_signal : signal script header.coding (heard ++ rest) ≡ x ++ signal script header.coding fed_bytes
  all_signal =
      signal-append script header.coding frame heard rest (passed.blocks * block)
      (frames_of_blocks script header.coding block passed.blocks (length heard) passed.blocks_heard) ∙
      ap (λ y. x ++ y) fed_signal

  given_length : length (heard ++ rest) ≡ last.before + last.count
  given_length = omega (arith, passed.heard_count, rest_length, length-append heard rest)

  declared : InDeclared (declared_bytes script header) (length (heard ++ rest))
  declared = in_declared (declared_bytes script header) (last.before + last.count) (length (heard ++ rest))
      (sym given_length) passed.declared

  standing : Standing session.banked script block header passed.first passed.blocks heard rest input now sink then
      before counts
  standing = record {
    whole = passed.blocks_heard;
    short = omega (arith, rest_length, passed.short, passed.size);
    declared = declared;
    in_limit = omega (arith, given_length, passed.in_limit);
    gave = passed.gave;
    took = passed.took;
    cost = passed.cost;
    turned = passed.turned;
  }

  frames_is : frames_in_bytes script given ≡ length (x ++ signal script header.coding fed_bytes)
  frames_is = frames_are script header frame passed.first passed.opens (heard ++ rest) declared ∙ ap length all_signal

  -- the signal of all bytes that were taken
  signal_all : input_signal script given ≡ x ++ signal script header.coding fed_bytes
  signal_all = signal_is script header frame passed.first passed.opens (heard ++ rest) declared ∙ all_signal

  frames_taken : length (x ++ signal script header.coding fed_bytes) ≡ (last.before + last.count) / frame_bytes
      script header.coding
  frames_taken = ap length (sym all_signal) ∙ length-signal script header.coding frame (heard ++ rest) ∙
      ap (λ n. n / frame_bytes script header.coding) given_length

  has : HasHeader script given
  has = passed.opens.has (heard ++ rest)

  given_all : length given ≡ header.start + (last.before + last.count)
  given_all = omega (arith, passed.opens.start, given_length, length-append passed.first (heard ++ rest))

  abbrev IsWhole : Option ℕ → Header → Type 0
  IsWhole declared header = elim declared [ Some size ↦ length given ≡ header.start + size | None ↦ IsAtEnd now.left ]

  is_whole : IsTakenWhole script given now
  is_whole = subst (λ (h : Header). IsWhole (declared_bytes script h) h) (sym (passed.opens.said (heard ++ rest)))
      (by_declared (declared_bytes script header) passed.ended)
    where
      by_declared : (size : Option ℕ) → AreAll size (last.before + last.count) now → IsWhole size header
      by_declared None end = end
      by_declared (Some size) all = omega (arith, given_all, all)

  output_all : output script given ≡ head ++ (whole_bytes script (x ++ signal script header.coding fed_bytes) ++
      output_pad script header)
  output_all =
      output_is script header frame passed.first passed.opens (heard ++ rest) declared
      ∙ ap (λ y. head ++ whole_bytes script y ++ output_pad script header) all_signal
      ∙ append_assoc head (whole_bytes script (x ++ signal script header.coding fed_bytes)) (output_pad script header)

  cost_so_far : (multiplied frames : ℕ) → frames ≤ length (x ++ signal script header.coding fed_bytes) →
      multiplied ≡ before.multiplies + live_cost_of script frames →
      multiplied ≤ before.multiplies + cost_of script (frames_in_bytes script given)
  cost_so_far multiplied frames fewer cost =
      let products = live_cost_within script.input.format script.input.channels script.blocks frames
      (length (x ++ signal script header.coding fed_bytes)) fewer in
      rw frames_is (omega (arith, products, cost))

  -- what was written is the part output of it
  parted : head ++ live_bytes script x ≡ part script block given
  parted = sym (part_blocks script header frame passed.first passed.opens block passed.blocks heard rest
      passed.blocks_heard (omega (arith, rest_length, passed.short, passed.size)) declared)

  fed_all : session.chain.frames + count ≡ length (x ++ signal script header.coding fed_bytes)
  fed_all = ap (λ n. n + count) passed.stands.chain.counted ∙ ap (λ n. length x + n) (sym fed_frames) ∙
      sym (length-append x (signal script header.coding fed_bytes))

  frames_heard : length x ≡ passed.blocks * block
  frames_heard = frames-whole script header.coding frame heard (passed.blocks * block)
      (frames_of_blocks script header.coding block passed.blocks (length heard) passed.blocks_heard)

  abbrev low : passed.blocks * block ≤ frames_in_bytes script given
  low = (between script block ready header passed.first passed.opens session.banked passed.blocks heard rest input now
      sink then before counts standing).0

  abbrev high : frames_in_bytes script given ≤ suc passed.blocks * block
  high = (between script block ready header passed.first passed.opens session.banked passed.blocks heard rest input now
      sink then before counts standing).1

  whole_blocks : in_whole_blocks block (frames_in_bytes script given) ≡ passed.blocks * block
  whole_blocks = whole_blocks_are script block ready header passed.first passed.opens passed.blocks heard rest
      declared passed.blocks_heard (omega (arith, rest_length, passed.short, passed.size))

  limits : KeepsLimits script (input_header script given) (in_whole_blocks block (frames_in_bytes script given))
  limits = blocks_keep script block header given (passed.opens.said (heard ++ rest)) passed.fits whole_blocks
      passed.not_full

  fed_turns : (after : Counts) → PassCosts session.banked script header.coding x fed_bytes counts after →
      after.turns ≤ counts.turns + turns_of session.banked script (passed.blocks * block) (frames_in_bytes script given)
  fed_turns after costs = subst (λ n. after.turns ≤ counts.turns + n)
      (λ i. turns_of session.banked script (frames_heard i) (sym frames_is i)) costs.turned

  -- where the last samples were too many, some came
  frames_between_strictly : MAX_GATHERED < gathered script.blocks
      (length (x ++ signal script header.coding fed_bytes)) → passed.blocks * block < frames_in_bytes script given
  frames_between_strictly over =
      elim (cases_lt (passed.blocks * block) (frames_in_bytes script given)) [
        | inl more ↦ more
        | inr fewer ↦
            let same : length (x ++ signal script header.coding fed_bytes) ≡ passed.blocks * block =
            omega (arith, fewer, low, frames_is) in
            absurd (omega (arith, passed.not_full, subst (λ n. MAX_GATHERED < gathered script.blocks n) same over))
      ]

  -- a window ends past its convolution
  pub stops_window : (end full : ℕ) → window_at script.blocks (session.chain.frames + count) ≡ Some (end, full) →
      Stopped session.banked script block (fault.Lengths (length_fault.Window end full)) input now sink then
      before counts
  stops_window end full window =
      let frames : session.chain.frames + count ≡ frames_in_bytes script given =
      sym (frames_is ∙ length-append x (signal script header.coding fed_bytes) ∙
      omega (arith, passed.stands.chain.counted, fed_frames)) in
      stops_between script block ready header passed.first passed.opens session.banked passed.blocks heard rest input
      now sink then before counts standing (fault.Lengths (length_fault.Window end full))
      (has, is_whole, ap (window_at script.blocks) (sym frames) ∙ window)
      (Part has parted limits (passed.cost ∙ ap (λ n. before.multiplies + live_cost_of script n)
      (frames_heard ∙ sym whole_blocks)))
      (passed.no_input_fault, passed.no_output_fault)

  -- the output failed within the values of the last samples
  pub stops_unpassed : None ≡ window_at script.blocks (session.chain.frames + count) →
      (stop : StreamFault) (final : SinkState) (after : Counts) →
      FailsToPass stop session.banked script header.coding x fed_bytes then final counts after →
      Stopped session.banked script block stop input now sink final before after
  stops_unpassed window fault.Output final after (added, written, is, (back, split), less, put, risen, costs, kept) =
      let y = x ++ signal script header.coding fed_bytes in
      let (tail, whole) = live_front script y in
      let begins : output script given ≡ (head ++ live_bytes script x ++ written) ++
      (back ++ (tail ++ output_pad script header)) =
      output_all ∙ ap (λ xs. head ++ (xs ++ output_pad script header))
      (whole ∙ ap (λ xs. xs ++ tail) (is ∙ ap (λ xs. live_bytes script x ++ xs) split))
      ∙ regroup head (live_bytes script x) written back tail (output_pad script header) in
      stops_within script block ready header passed.first passed.opens session.banked passed.blocks heard rest input
      now sink then before counts standing written final after put (
        limits,
        inr (
          (back ++ (tail ++ output_pad script header), begins),
          is_whole,
          ap (window_at script.blocks) (frames_is ∙ sym fed_all) ∙ sym window,
          subst (λ n. gathered script.blocks n ≤ MAX_GATHERED) (sym frames_is) kept,
        ),
      )
      (passed.no_input_fault, risen ∙ ap one_more passed.no_output_fault)
      (cost_so_far after.multiplies (length y) (omega arith) (omega (arith, costs.rise, passed.cost)))
      (turns_behind session.banked script block passed.blocks (frames_in_bytes script given) before.turns
      counts.turns after.turns (block_some script block ready) low high passed.turned (fed_turns after costs))
    where
      regroup : (a b c d e f : List ℕ) → a ++ (((b ++ (c ++ d)) ++ e) ++ f) ≡ (a ++ b ++ c) ++ (d ++ (e ++ f))
      regroup a b c d e f =
          ap (λ xs. a ++ xs) (ap (λ xs. (xs ++ e) ++ f) (sym (append_assoc b c d)) ∙
          append_assoc ((b ++ c) ++ d) e f ∙ append_assoc (b ++ c) d (e ++ f))
          ∙ sym (append_assoc a (b ++ c) (d ++ (e ++ f))) ∙ ap (λ xs. xs ++ (d ++ (e ++ f))) (sym (append_assoc a b c))
  stops_unpassed window (fault.Lengths (length_fault.Gather told more)) final after
      (over, held_is, more_is, same, still) =
      let blocks_before : in_whole_blocks block (frames_in_bytes script given - 1) ≡ passed.blocks * block =
      in_blocks passed.blocks block (frames_in_bytes script given - 1) (block_some script block ready)
      (omega (arith, frames_between_strictly over)) (omega (arith, high, block_some script block ready)) in
      let worked : length x ≡ in_whole_blocks block (frames_in_bytes script given - 1) = frames_heard ∙
      sym blocks_before in
      let stop = fault.Lengths (length_fault.Gather told more) in
      subst (λ made. Stopped session.banked script block stop input now sink final before made) (sym still)
      (subst (λ last. Stopped session.banked script block stop input now sink last before counts) (sym same)
      (stops_between script block ready header passed.first passed.opens session.banked passed.blocks heard rest input
      now sink then before counts standing stop (
        has,
        record {
          over = subst (λ n. MAX_GATHERED < gathered script.blocks n) (sym frames_is) over;
          has_is = held_is ∙ ap (held script.blocks) worked;
          more_is = more_is ∙ ap (gathered script.blocks) (sym frames_is);
          no_window = λ _. (is_whole, ap (window_at script.blocks) (frames_is ∙ sym fed_all) ∙ sym window);
        },
      )
      (Part has parted
      (record {
        fits = subst (Fits script) (sym (passed.opens.said (heard ++ rest))) passed.fits;
        not_full = subst (λ n. gathered script.blocks n ≤ MAX_GATHERED) (sym blocks_before) passed.not_full;
      })
      (passed.cost ∙ ap (λ n. before.multiplies + live_cost_of script n) worked))
      (passed.no_input_fault, passed.no_output_fault)))
  stops_unpassed window _ final after none = absurd none

  -- no window ends past its convolution
  module _ (window : None ≡ window_at script.blocks (session.chain.frames + count)) where
    no_window : window_at script.blocks (length (x ++ signal script header.coding fed_bytes)) ≡ None
    no_window = ap (window_at script.blocks) (sym fed_all) ∙ sym window

    products_are : products_of script (length (x ++ signal script header.coding fed_bytes)) ≡ cost_of script
        (length (x ++ signal script header.coding fed_bytes))
    products_are = products_are_cost script.input.format script.input.channels script.blocks
        (length (x ++ signal script header.coding fed_bytes)) no_window

    -- the last samples have passed
    module _ (fed : SessionState) (mid : SinkState) (fed_counts : Counts) (same : SameSession session fed)
        (passes : Passes session.banked script header.coding x fed_bytes fed then mid counts fed_counts) where
      abbrev y : List Frame
      y = x ++ signal script header.coding fed_bytes

      fed_script : fed.script ≡ script
      fed_script = same.script ∙ passed.script_is

      put_then : (final : SinkState) (written : List ℕ) → final.put ≡ append_put mid.put written →
          final.put ≡ append_put then.put (fed.out ++ written)
      put_then final written put = put ∙ ap (λ known. append_put known written) passes.took.put ∙
          sym (append_put-append then.put fed.out written)

      written_is : (written : List ℕ) → head ++ live_bytes script x ++ (fed.out ++ written) ≡ head ++
          (live_bytes script y ++ written)
      written_is written =
          append_assoc head (live_bytes script x) (fed.out ++ written)
          ∙ ap (λ xs. head ++ xs) (sym (append_assoc (live_bytes script x) fed.out written) ∙
          ap (λ xs. xs ++ written) (sym passes.out))

      late_turns : (spent : Counts) → spent.multiplies + live_cost_of script (length y) ≤ fed_counts.multiplies +
          products_of script (length y) → TurnsByProducts fed_counts spent →
          spent.turns ≤ before.turns + run_turns session.banked script block (frames_in_bytes script given)
      late_turns spent limit turned =
          let all : spent.multiplies + live_cost_of script (length y) ≤ fed_counts.multiplies + cost_of script
          (length y) = omega (arith, limit, products_are) in
          turns_end session.banked script block passed.blocks (frames_in_bytes script given) before.turns counts.turns
          fed_counts.turns spent.turns fed_counts.multiplies spent.multiplies (block_some script block ready) low
          high passed.turned (fed_turns fed_counts passes.costs) turned
          (subst (λ n. spent.multiplies + live_cost_of script n ≤ fed_counts.multiplies + cost_of script n)
          (sym frames_is) all)

      cost_all : (more : ℕ) → more + live_cost_of script (length y) ≤ fed_counts.multiplies + products_of script
          (length y) → more ≤ before.multiplies + cost_of script (length y)
      cost_all more limit = omega (arith, limit, products_are, passes.costs.rise, passed.cost)

      module _ {E : Type 0} (result : Result (Unit {0}) E) (final : SinkState) (spent : Counts)
          (writes : WritesRest result (live_bytes fed.script y)
          (whole_bytes fed.script y ++ output_pad fed.script header) mid final)
          (costs : TailCosts result fed.script (length y) fed_counts spent) where
        tail_writes : WritesRest result (live_bytes script y) (whole_bytes script y ++ output_pad script header) mid
            final
        tail_writes = subst (λ (s : Script). WritesRest result (live_bytes s y)
            (whole_bytes s y ++ output_pad s header) mid final) fed_script writes

        tail_costs : TailCosts result script (length y) fed_counts spent
        tail_costs = subst (λ (s : Script). TailCosts result s (length y) fed_counts spent) fed_script costs

      pub stream_done : {E : Type 0} (final : SinkState) (spent : Counts) (frames : ℕ) →
          WritesRest {T = Unit {0}} {E = E} (Ok tt) (live_bytes fed.script y)
          (whole_bytes fed.script y ++ output_pad fed.script header) mid final →
          TailCosts {T = Unit {0}} {E = E} (Ok tt) fed.script (length y) fed_counts spent
          → TurnsByProducts fed_counts spent → IsSettled final → final.faults ≡ mid.faults → frames ≡
          (last.before + last.count) / frame_bytes script
          header.coding → (found : List Measure) → found ≡ measures_of fed.script y →
          Done session.banked script block frames input now sink final before spent found
      stream_done {E} final spent frames writes costs turned settled faults is found measured =
          let tail = tail_writes {E = E} (Ok tt) final spent writes costs in
          let all : head ++ live_bytes script x ++ (fed.out ++ tail.written) ≡ output script given =
          written_is tail.written ∙ ap (λ xs. head ++ xs) tail.whole ∙ sym output_all in
          let exact : spent.multiplies + live_cost_of script (length y) ≡ fed_counts.multiplies + products_of script
          (length y) = (tail_costs {E = E} (Ok tt) final spent writes costs).exact in
          record {
            given = given;
            gave = passed.gave;
            has = has;
            in_limit = omega (arith, given_all, passed.in_limit);
            room_left = λ none. omega (
              arith,
              given_all,
              passed.room_left
                  (ap (λ (h : Header). h.size) (sym (passed.opens.said (heard ++ rest))) ∙ none),
            );
            whole = is_whole;
            limits = record {
              fits = subst (Fits script) (sym (passed.opens.said (heard ++ rest))) passed.fits;
              not_full = subst (λ n. gathered script.blocks n ≤ MAX_GATHERED) (frames_taken ∙ sym is) passes.not_full;
            };
            no_window = ap (window_at script.blocks) (is ∙ sym frames_taken) ∙ no_window;
            put = put_then final tail.written tail.put ∙
                ap (λ known. append_put known (fed.out ++ tail.written)) passed.took.put ∙
                sym (append_put-append sink.put (head ++ live_bytes script x) (fed.out ++ tail.written)) ∙
                ap (append_put sink.put) all;
            lag = subst (LagsByOne script block given) all (lag script block ready header passed.first passed.opens
                session.banked passed.blocks heard rest input now sink then before counts standing
                (fed.out ++ tail.written));
            settled = settled;
            no_input_fault = passed.no_input_fault;
            no_output_fault = faults ∙ passes.no_fault ∙ passed.no_output_fault;
            frame_count = is ∙ sym (frames_is ∙ frames_taken);
            cost = (let sum : spent.multiplies ≡ before.multiplies + cost_of script (length y) =
                omega (arith, exact, products_are, passes.costs.rise, passed.cost) in sum ∙
                ap (λ n. before.multiplies + cost_of script n) (frames_taken ∙ sym is));
            turns = subst (λ n. spent.turns ≤ before.turns + run_turns session.banked script block n)
                (frames_is ∙ frames_taken ∙ sym is) (late_turns spent (omega (arith, exact)) turned);
            measures = measured ∙ ap (λ (s : Script). measures_of s y) fed_script ∙
                ap (measures_of script) (sym signal_all);
          }

      pub stream_unfinished : {E : Type 0} (error : E) (final : SinkState) (spent : Counts) →
          WritesRest {T = Unit {0}} (Err error) (live_bytes fed.script y)
          (whole_bytes fed.script y ++ output_pad fed.script header) mid final →
          TailCosts {T = Unit {0}} (Err error) fed.script (length y) fed_counts spent
          → TurnsByProducts fed_counts spent → final.faults ≡ one_more mid.faults → Stopped session.banked script
          block fault.Output input now sink final
          before spent
      stream_unfinished error final spent writes costs turned failed =
          let tail = tail_writes (Err error) final spent writes costs in
          let (back, split) = tail.begins in
          let limit = (tail_costs (Err error) final spent writes costs).limit in
          let begins : output script given ≡ (head ++ live_bytes script x ++ (fed.out ++ tail.written)) ++ back =
          output_all ∙ ap (λ xs. head ++ xs) split ∙ sym (append_assoc head (live_bytes script y ++ tail.written)
          back) ∙ ap (λ xs. xs ++ back) (sym (written_is tail.written)) in
          stops_within script block ready header passed.first passed.opens session.banked passed.blocks heard rest input
          now sink then before counts standing (fed.out ++ tail.written) final spent (put_then final tail.written
          tail.put) (
            limits,
            inr (
              (back, begins),
              is_whole,
              ap (window_at script.blocks) frames_is ∙ no_window,
              subst (λ n. gathered script.blocks n ≤ MAX_GATHERED) (sym frames_is) passes.not_full,
            ),
          )
          (passed.no_input_fault, failed ∙ ap one_more (passes.no_fault ∙ passed.no_output_fault))
          (rw frames_is (cost_all spent.multiplies limit))
          (late_turns spent limit turned)

-- the same of equal scripts and block lengths
pub passed_as : (script same_script : Script) (block same_block : ℕ) (session : SessionState) (header : Header)
    (piece same_piece : List ℕ) (last : Last) (input now : SourceState) (sink then : SinkState) (before counts : Counts)
    →
    same_script ≡ script → same_block ≡ block → same_piece ≡ piece →
    Passed script block session header piece last input now sink then before counts →
    Passed same_script same_block session header same_piece last input now sink then before counts
passed_as script same_script block same_block session header piece same_piece last input now sink then
    before counts s b p passed =
    subst (λ (t : Script). Passed t same_block session header same_piece last input now sink then before counts) (sym s)
    (subst (λ n. Passed script n session header same_piece last input now sink then before counts) (sym b)
    (subst (λ xs. Passed script block session header xs last input now sink then before counts) (sym p) passed))

pub done_as :
    (banked same_banked : Bool) (script same_script : Script) (block same_block frames same_frames : ℕ)
    (input now : SourceState) (sink then : SinkState)
    (before counts : Counts) (found : List Measure) →
    banked ≡ same_banked → script ≡ same_script → block ≡ same_block → frames ≡ same_frames
    → Done banked script block frames input now sink then before counts found
    → Done same_banked same_script same_block same_frames input now sink then before counts found
done_as banked same_banked script same_script block same_block frames same_frames input now sink then
    before counts found k s b f done =
    subst (λ t. Done t same_script same_block same_frames input now sink then before counts found) k
    (subst (λ (t : Script). Done banked t same_block same_frames input now sink then before counts found) s
    (subst (λ n. Done banked script n same_frames input now sink then before counts found) b
    (subst (λ n. Done banked script block n input now sink then before counts found) f done)))

pub few_taken : (start before count f : ℕ) → start + (before + count) ≤ MAX_INPUT → (before + count) / f ≤ MAX_INPUT
few_taken start before count f limit = omega (arith, quotient_within (before + count) f, limit)

pub same_quotient : (before count f g : ℕ) → f ≡ g → (before + count) / f ≡ (before + count) / g
same_quotient before count f g same = ap (λ n. (before + count) / n) same
