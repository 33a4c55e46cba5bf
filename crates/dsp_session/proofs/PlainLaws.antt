-- A stream over a whole input is a stream over the part of it that begins before the first sample and does not end.
use Rattle.std.proofs.Common.{◌≡◌, ℕ, zero, suc, ◌+◌, ◌-◌, ◌*◌, ◌^◌, ◌<◌, ◌≤◌, Bool, List, [], ◌++◌, length, take}
use Rattle.std.proofs.Common.{drop, refl, sym, ap, ◌∙◌, subst, arith, length-append, length-take-le}
use Rattle.std.proofs.lemmas.List.{take-append-drop}
use Rattle.dsp_ports.specs.Ports.{SourceState, SinkState, Took}
use Rattle.dsp_defs.specs.Block.{Frame}
use Rattle.dsp_defs.specs.Counts.{Counts}
use Rattle.dsp_defs.specs.Output.{live_bytes}
use Rattle.dsp_defs.specs.Shape.{gathered, held}
use Rattle.dsp_defs.specs.declared.format.Coding.{Coding}
use Rattle.dsp_defs.specs.declared.limits.TheConstants.{MAX_GATHERED}
use Rattle.dsp_defs.specs.declared.script.Script.{Script}
use Rattle.dsp_defs.specs.declared.wave.Header.{Header}
use Rattle.dsp_unit.proofs.ChainPlaces.{live_chain-nil}
use Rattle.dsp_unit.proofs.CostLaws.{live_cost-zero}
use Rattle.dsp_input.specs.declared.fault.InputFault.{InputFault}
use Rattle.dsp_input.specs.Taking.{PartRead, PartUnread}
use Rattle.dsp_session.specs.SessionState.{SessionState}
use Rattle.dsp_session.specs.Session.{IsReady, StandsFor, signal, block_bytes, live_cost_of, turns_of, calls_turns}
use Rattle.dsp_session.specs.Opening.{Begun, of_input}
use Rattle.dsp_session.specs.Stream.{Stopped, StaysRefused}
use Rattle.dsp_session.specs.Passing.{Passes, FailsToPass, Passed}
use Rattle.dsp_session.specs.Advancing.{PassesOn, FailsToPassOn, Reached, Breaks, NotRead, NotPassed, Broke}
use Rattle.dsp_session.specs.Advancing.{turns_from, count_of}
use Rattle.dsp_session.specs.Advancing as advancing
use Rattle.dsp_session.specs.declared.fault.LengthFault.TheVariants as length_fault
use Rattle.dsp_session.specs.declared.fault.StreamFault.{StreamFault}
use Rattle.dsp_session.specs.declared.fault.StreamFault.TheVariants as fault
use Rattle.dsp_session.specs.declared.streaming.Last.{Last}
use Rattle.dsp_session.specs.declared.streaming.Span.{Span}
use Rattle.dsp_session.proofs.FeedLaws.{feed_out, feed_costs}
use Rattle.dsp_session.proofs.PassingLaws as passing
use Rattle.dsp_session.proofs.PassingLaws.{Going}
use Rattle.dsp_session.proofs.OpenLaws.{input_stays}
use Rattle.dsp_input.proofs.WholeRead.{whole_read}
use Rattle.dsp_session.proofs.TurnLaws.{call_more}

-- ---- a call

pub passes_plain : (old new : SessionState) (bytes : List ℕ) (sink after : SinkState) (before counts : Counts) →
    PassesOn old new bytes sink after before counts
    → (x : List Frame) → StandsFor old x → Passes old.banked old.script old.coding x bytes new sink after before counts
passes_plain old new bytes sink after before counts passes x stands = record {
  stands = passes.fed.stands x stands;
  out = feed_out old new bytes before counts passes.same passes.fed x stands;
  costs = feed_costs old new bytes before counts passes.same passes.fed x stands;
  not_full = subst (λ n. gathered old.script.blocks n ≤ MAX_GATHERED) (passes.fed.stands x stands).chain.counted
      passes.not_full;
  took = passes.took;
  no_fault = passes.no_fault;
}

pub fails_plain : (stop : StreamFault) (old new : SessionState) (bytes : List ℕ) (sink after : SinkState)
    (before counts : Counts) → FailsToPassOn stop old new bytes sink after before counts
    → (x : List Frame) → StandsFor old x → FailsToPass stop old.banked old.script old.coding x bytes sink after before
    counts
fails_plain fault.Output old new bytes sink after before counts (count, less, same, fed, few, took, risen) x stands = (
  new.out,
  take count new.out,
  feed_out old new bytes before counts same fed x stands,
  (drop count new.out, sym (take-append-drop count new.out)),
  omega (arith, less, length-take-le count new.out (omega (arith, less))),
  took.put,
  risen,
  feed_costs old new bytes before counts same fed x stands,
  subst (λ n. gathered old.script.blocks n ≤ MAX_GATHERED) (fed.stands x stands).chain.counted few,
)
fails_plain (fault.Lengths (length_fault.Gather told more)) old new bytes sink after before counts
    (fails, over, told_is, sum, same) x stands =
    let all : old.chain.frames + count_of old bytes ≡ length (x ++ signal old.script old.coding bytes) =
    ap (λ n. n + count_of old bytes) stands.chain.counted ∙
    sym (length-append x (signal old.script old.coding bytes)) in
    let turned : more + told ≡ told + more = omega arith in (
      subst (λ n. MAX_GATHERED < gathered old.script.blocks n) all over,
      told_is ∙ ap (held old.script.blocks) stands.chain.counted,
      turned ∙ sum ∙ ap (gathered old.script.blocks) all,
      same,
      fails.no_steps,
    )
fails_plain stop old new bytes sink after before counts none x stands = absurd none

-- ---- blocks

turns_plain : (banked : Bool) (script : Script) (size calls : ℕ)
    → turns_from banked script size 0 calls ≡ calls_turns banked script size (calls * size) calls
turns_plain banked script size zero = refl
turns_plain banked script size (suc k) =
    let from : 0 + k * size ≡ k * size = omega arith in
    let to : 0 + suc k * size ≡ suc k * size = omega arith in
    (λ i. turns_plain banked script size k i + turns_of banked script (from i) (to i)) ∙
    call_more banked script size k (k * size) refl

pub live_bytes-nil : (script : Script) → live_bytes script [] ≡ []
live_bytes-nil script = rw (live_chain-nil script.input.format script.input.channels script.blocks) refl

module _ (start session : SessionState) (header : Header) (span : Span) (taken : ℕ) (input now : SourceState)
    (sink then : SinkState) (before counts : Counts)
    (new : StandsFor start []) (coding : start.coding ≡ header.coding) (from : span.from ≡ 0)
    (going : advancing.Going start session header span taken input now sink then before counts) where
  abbrev script : Script
  script = start.script

  kept_flag : session.banked ≡ start.banked
  kept_flag = going.advances.same.banked

  ready : IsReady script start.block
  ready = new.holds.ready

  abbrev heard_signal : Coding → List Frame
  heard_signal c = signal script c going.heard

  pub stands : StandsFor session (heard_signal header.coding)
  stands = subst (λ c. StandsFor session (heard_signal c)) coding (going.advances.stands [] new)

  pub none : start.chain.frames ≡ 0
  none = new.chain.counted

  written_is : going.advances.written ≡ live_bytes script (heard_signal header.coding)
  written_is =
      sym (going.advances.values [] new ∙ ap (λ xs. xs ++ going.advances.written) (live_bytes-nil script)) ∙
      ap (λ c. live_bytes script (heard_signal c)) coding

  pub frames_are : session.chain.frames ≡ going.blocks * start.block
  frames_are = omega (arith, going.advances.counted, none)

  abbrev going_plain : Going script start.block header taken session input now sink then before counts
  going_plain = record {
    heard = going.heard;
    blocks = going.blocks;
    script_is = going.advances.same.script;
    block_is = going.advances.same.block;
    coding_is = going.advances.same.coding ∙ coding;
    stands = stands;
    blocks_heard = going.advances.long ∙ ap (λ c. going.blocks * block_bytes script c start.block) coding;
    taken_is = omega (arith, going.taken_is, from);
    declared = going.declared;
    in_limit = going.in_limit;
    gave = going.gave;
    took = subst (Took sink then) written_is going.advances.took;
    not_full = subst (λ n. n ≤ MAX_GATHERED) (λ i. gathered (going.advances.same.script i).blocks (frames_are i))
        going.advances.runs.not_full;
    going = going.going;
    no_input_fault = going.no_fault;
    no_output_fault = going.advances.no_fault;
    cost = (let first : live_cost_of script start.chain.frames ≡ 0 = ap (live_cost_of script) none ∙
        live_cost-zero script.input.format script.input.channels script.blocks in
        let last : live_cost_of script session.chain.frames ≡ live_cost_of script
        (length (heard_signal header.coding)) = ap (live_cost_of script) stands.chain.counted in
        omega (arith, going.advances.multiplies, first, last));
    turned = subst (λ banked. counts.turns ≤ before.turns + calls_turns banked script start.block
        (going.blocks * start.block) going.blocks) (sym going.advances.same.banked)
        (subst (λ n. counts.turns ≤ before.turns + n)
        (ap (λ m. turns_from start.banked script start.block m going.blocks) none ∙
        turns_plain start.banked script start.block going.blocks) going.advances.turned);
  }

  -- from the begin of the input on
  module _ (origin : SourceState) (empty : SinkState) (begun : Begun script header origin input empty sink) where
    pub stops_unread : (error : InputFault) (later : SourceState) →
        PartUnread session.script header span.end taken (block_bytes session.script session.coding session.block) error
        now later
        → Stopped start.banked script start.block (of_input error) origin later empty then before counts
    stops_unread error later unread =
        let same = going.advances.same in
        let scripted : PartUnread script header span.end taken (block_bytes script session.coding session.block) error
        now later =
        subst (λ (s : Script). PartUnread s header span.end taken (block_bytes s session.coding session.block) error
        now later) same.script unread in
        let sized : PartUnread script header span.end taken (block_bytes script header.coding start.block) error now
        later =
        subst (λ n. PartUnread script header span.end taken n error now later)
        (λ i. block_bytes script ((same.coding ∙ coding) i) (same.block i)) scripted in
        subst (λ banked. Stopped banked script start.block (of_input error) origin later empty then before counts)
        kept_flag
        (passing.stops_unread script start.block ready header taken session input now sink then
        before counts going_plain origin empty begun later error sized.unread)

    pub stops_unpassed : (stop : StreamFault) (later : SourceState) (piece : List ℕ) (last : SessionState)
        (after : SinkState) (made : Counts)
        → length piece ≡ block_bytes session.script session.coding session.block →
        PartRead session.script header (2 ^ 64 - 1) taken piece (length piece) now later
        → FailsToPassOn stop session last piece then after counts made →
        Stopped start.banked script start.block stop origin later empty after before made
    stops_unpassed stop later piece last after made long read fails =
        let same = going.advances.same in
        let sized : length piece ≡ block_bytes script header.coding start.block = long ∙
        (λ i. block_bytes (same.script i) ((same.coding ∙ coding) i) (same.block i)) in
        let whole = whole_read script header taken piece (length piece) now later
        (subst (λ (s : Script). PartRead s header (2 ^ 64 - 1) taken piece (length piece) now later) same.script
        read) in
        let scripted : FailsToPass stop session.banked script session.coding (heard_signal header.coding) piece then
        after counts made =
        subst (λ (s : Script). FailsToPass stop session.banked s session.coding (heard_signal header.coding) piece
        then after counts made) same.script
        (fails_plain stop session last piece then after counts made fails (heard_signal header.coding) stands) in
        let coded : FailsToPass stop session.banked script header.coding (heard_signal header.coding) piece then
        after counts made =
        subst (λ c. FailsToPass stop session.banked script c (heard_signal header.coding) piece then
        after counts made) (same.coding ∙ coding) scripted in
        subst (λ banked. Stopped banked script start.block stop origin later empty after before made) kept_flag
        (passing.stops_unpassed script start.block ready header taken session input now sink then
        before counts going_plain origin empty begun later
        (length piece) piece sized (omega arith) whole after made stop coded)

    passed_plain : (later : SourceState) (block : List ℕ) (count : ℕ) →
        length block ≡ block_bytes script start.coding start.block → count < length block
        → PartRead script header (2 ^ 64 - 1) taken block count now later
        → Passed script start.block session header block (record { before = taken; count = count }) origin later empty
        then before counts
    passed_plain later block count long short read =
        passing.passes script start.block ready header taken session input now sink then
        before counts going_plain origin empty begun later count block
        (long ∙ ap (λ c. block_bytes script c start.block) coding) short
        (whole_read script header taken block count now later read)

-- a call that was refused will be refused again
pub refused_on : (stop : StreamFault) (old new : SessionState) (bytes : List ℕ) (sink after : SinkState)
    (before counts : Counts) → FailsToPassOn stop old new bytes sink after before counts → StaysRefused stop new
refused_on fault.Output old new bytes sink after before counts fails = tt
refused_on (fault.Lengths (length_fault.Gather told more)) old new bytes sink after before counts
    (fails, over, told_is, sum, same) = (
      ap (λ (s : SessionState). s.chain.failed) fails.same,
      told_is ∙
          ap (λ (s : SessionState). held s.script.blocks s.chain.frames) (sym fails.same),
    )
refused_on stop old new bytes sink after before counts none = absurd none

-- ---- a whole input

module _ (start : SessionState) (header : Header) (span : Span) (new : StandsFor start [])
    (coding : start.coding ≡ header.coding) (from : span.from ≡ 0) (all : span.end ≡ 2 ^ 64 - 1)
    (input now : SourceState) (sink : SinkState) (before : Counts) where
  -- the blocks so far have passed, and the samples have ended
  pub reached_plain : (session : SessionState) (block : List ℕ) (last : Last) (then : SinkState) (counts : Counts) →
      Reached start session header span block last input now sink then before counts
      → (origin : SourceState) (empty : SinkState) → Begun start.script header origin input empty sink
      → Passed start.script start.block session header block last origin now empty then before counts
  reached_plain session block last then counts reached origin empty begun =
      passed_plain start session header span last.before input reached.between sink then
      before counts new coding from reached.going origin empty begun now block last.count reached.size reached.short
      (subst (λ end. PartRead start.script header end last.before block last.count reached.between now) all
      reached.read)

  -- a block did not come or did not pass
  module _ (last : SessionState) (stop : StreamFault) (after : SinkState) (counts : Counts)
      (broke : Broke start last header span stop input now sink after before counts) where
    pub broke_plain : (origin : SourceState) (empty : SinkState) → Begun start.script header origin input empty sink →
        Stopped start.banked start.script start.block stop origin now empty after before counts
    broke_plain origin empty begun = by broke.breaks
      where
        by : Breaks broke.session last header span.end broke.taken stop broke.between now broke.then
            after broke.made counts → Stopped start.banked start.script start.block stop origin now empty after before
            counts
        by (NotRead error is unread same still made) =
            let stopped = stops_unread start broke.session header span broke.taken input broke.between sink broke.then
            before broke.made new coding from broke.going origin empty begun error now unread in
            subst (λ c. Stopped start.banked start.script start.block stop origin now empty after before c) (sym made)
            (subst (λ s. Stopped start.banked start.script start.block stop origin now empty s before broke.made)
            (sym still)
            (subst (λ f. Stopped start.banked start.script start.block f origin now empty broke.then
            before broke.made) (sym is) stopped))
        by (NotPassed piece long read fails) =
            stops_unpassed start broke.session header span broke.taken input broke.between sink broke.then
            before broke.made new coding from broke.going origin empty begun stop now piece last after counts long
            (subst (λ end. PartRead broke.session.script header end broke.taken piece (length piece) broke.between
            now) all read) fails

    pub broke_stays : StaysRefused stop last
    broke_stays = by broke.breaks
      where
        by : Breaks broke.session last header span.end broke.taken stop broke.between now broke.then
            after broke.made counts → StaysRefused stop last
        by (NotRead error is unread same still made) = subst (λ f. StaysRefused f last) (sym is)
            (input_stays error last)
        by (NotPassed piece long read fails) = refused_on stop broke.session last piece broke.then
            after broke.made counts fails
