-- Whole blocks of a stream have passed: the frames of what was taken, how far reading is ahead, and a stop behind them.
use Rattle.std.proofs.Common.{◌≡◌, ℕ, zero, suc, ◌+◌, ◌*◌, ◌/◌, ◌<◌, ◌≤◌, Bool, List, [], ◌++◌, length, take, Option}
use Rattle.std.proofs.Common.{Some}
use Rattle.std.proofs.Common.{None, sym, ap, ◌∙◌, subst, arith, append_assoc, append-nil, length-append, inr}
use Rattle.std.proofs.lemmas.List.{take_at}
use Rattle.dsp_ports.specs.Ports.{append_put}
use Rattle.dsp_ports.specs.Ports.{SourceState, SinkState, Gave, Took}
use Rattle.dsp_ports.proofs.Moved.{append_put-append}
use Rattle.dsp_defs.specs.Counts.{Counts}
use Rattle.dsp_defs.specs.Output.{input_header, output_header, live_bytes, part}
use Rattle.dsp_defs.specs.Shape.{gathered}
use Rattle.dsp_defs.specs.declared.limits.TheConstants.{MAX_GATHERED, MAX_INPUT}
use Rattle.dsp_defs.specs.declared.script.Script.{Script}
use Rattle.dsp_defs.specs.declared.wave.Header.{Header}
use Rattle.dsp_unit.proofs.CostLaws.{live_cost_within}
use Rattle.dsp_input.specs.Taking.{Fits, InDeclared, Opens, declared_bytes, frame_bytes, frames_in_bytes}
use Rattle.dsp_session.specs.Session.{IsReady, signal, block_bytes, cost_of, live_cost_of, calls_turns, run_turns}
use Rattle.dsp_session.specs.Stream.{IsCause, HasWritten, CountsFault, Stopped, KeepsLimits, LagsByOne, IsInDeclared}
use Rattle.dsp_session.specs.Stream.{blocks_end, in_whole_blocks}
use Rattle.dsp_session.specs.declared.fault.StreamFault.{StreamFault}
use Rattle.dsp_session.specs.declared.fault.StreamFault.TheVariants as fault
use Rattle.dsp_session.proofs.OpeningLaws.{some_frame, frames_of_blocks, length-signal, frames_are, part_blocks}
use Rattle.dsp_session.proofs.OpenLaws.{some_block, none_behind, unflushed_by}
use Rattle.dsp_shape.proofs.Paces.{legal_parts}
use Rattle.dsp_session.proofs.TurnLaws.{turns_before}

pub block_some : (script : Script) (block : ℕ) → IsReady script block → 0 < block
block_some script zero ready = absurd (omega (
  arith,
  (legal_parts script.input.channels script.blocks zero
      ready.legal).some,
))
block_some script (suc n) ready = omega arith

pub in_declared : (declared : Option ℕ) (n m : ℕ) → n ≡ m → InDeclared declared n → InDeclared declared m
in_declared declared n m same within = subst (InDeclared declared) same within

-- the whole blocks among some frames
pub in_blocks : (blocks block n : ℕ) → 0 < block → blocks * block ≤ n → n < suc blocks * block →
    in_whole_blocks block n ≡ blocks * block
in_blocks blocks block n some low high = ap (λ q. q * block) (floor blocks block n some low high)
  where
    floor : (k b m : ℕ) → 0 < b → k * b ≤ m → m < suc k * b → m / b ≡ k
    floor k b m some low high = grind arith

-- they have kept the limits
pub blocks_keep : (script : Script) (block : ℕ) (header : Header) (given : List ℕ) →
    input_header script given ≡ header → Fits script header → {frames : ℕ} →
    in_whole_blocks block (frames_in_bytes script given) ≡ frames → gathered script.blocks frames ≤ MAX_GATHERED
    → KeepsLimits script (input_header script given) (in_whole_blocks block (frames_in_bytes script given))
blocks_keep script block header given said fits whole kept =
    record {
      fits = subst (Fits script) (sym said) fits;
      not_full =
          subst (λ n. gathered script.blocks n ≤ MAX_GATHERED) (sym whole) kept;
    }

fewer_declared : (size : Option ℕ) (n m : ℕ) → n ≤ m → InDeclared size m → InDeclared size n
fewer_declared None n m less within = tt
fewer_declared (Some size) n m less within = omega (arith, less, within)

-- behind the header the blocks of `heard` have passed, and at most one block more was taken
pub record Standing (banked : Bool) (script : Script) (block : ℕ) (header : Header) (first : List ℕ) (blocks : ℕ)
    (heard bytes : List ℕ) (input now : SourceState) (sink then : SinkState) (before counts : Counts) : Type 0 where
  pub whole : length heard ≡ blocks * block_bytes script header.coding block
  pub short : length bytes ≤ block_bytes script header.coding block
  pub declared : InDeclared (declared_bytes script header) (length (heard ++ bytes))
  pub in_limit : header.start + length (heard ++ bytes) ≤ MAX_INPUT
  pub gave : Gave input now (first ++ (heard ++ bytes))
  pub took : Took sink then (output_header script header ++ live_bytes script (signal script header.coding heard))
  pub cost : counts.multiplies ≡ before.multiplies + live_cost_of script (length (signal script header.coding heard))
  pub turned : counts.turns ≤ before.turns + calls_turns banked script block (blocks * block) blocks

module _ (script : Script) (block : ℕ) (ready : IsReady script block) (header : Header) (first : List ℕ)
    (opens : Opens script header first) where
  frame : 0 < frame_bytes script header.coding
  frame = some_frame script header.coding block ready

  abbrev head : List ℕ
  head = output_header script header

  ends_at : (bytes : List ℕ) (blocks : ℕ) → blocks_end script block (input_header script (first ++ bytes)) blocks ≡
      length first + blocks * block_bytes script header.coding block
  ends_at bytes blocks = ap (λ (h : Header). blocks_end script block h blocks) (opens.said bytes) ∙
      ap (λ n. n + blocks * block_bytes script header.coding block) opens.start

  -- the cost of the frames so far is at most that of all that were taken
  pub cost_within : (before multiplies : ℕ) (heard bytes : List ℕ) →
      InDeclared (declared_bytes script header) (length (heard ++ bytes)) →
      multiplies ≡ before + live_cost_of script (length (signal script header.coding heard))
      → multiplies ≤ before + cost_of script (frames_in_bytes script (first ++ (heard ++ bytes)))
  cost_within before multiplies heard bytes declared cost =
      let all = length (signal script header.coding (heard ++ bytes)) in
      let fewer : length (signal script header.coding heard) ≤ all =
      rw (length-signal script header.coding frame heard, length-signal script header.coding frame (heard ++ bytes))
      (div_grows (length heard) (length (heard ++ bytes)) (frame_bytes script header.coding)
      (omega (arith, length-append heard bytes))) in
      let products = live_cost_within script.input.format script.input.channels script.blocks
      (length (signal script header.coding heard)) all fewer in
      rw (frames_are script header frame first opens (heard ++ bytes) declared) (omega (arith, products, cost))
    where
      div_grows : (n m f : ℕ) → n ≤ m → n / f ≤ m / f
      div_grows n m f h = grind arith

  -- the frames are those of the blocks that passed, and at most a block more
  pub frames_between : (blocks : ℕ) (heard bytes : List ℕ) →
      InDeclared (declared_bytes script header) (length (heard ++ bytes)) →
      length heard ≡ blocks * block_bytes script header.coding block →
      length bytes ≤ block_bytes script header.coding block
      → (blocks * block ≤ frames_in_bytes script (first ++ (heard ++ bytes))) ×
      (frames_in_bytes script (first ++ (heard ++ bytes)) ≤ suc blocks * block)
  frames_between blocks heard bytes declared long short =
      let count : frames_in_bytes script (first ++ (heard ++ bytes)) ≡ length (heard ++ bytes) / frame_bytes script
      header.coding = frames_are script header frame first opens (heard ++ bytes) declared ∙
      length-signal script header.coding frame (heard ++ bytes) in
      rw count (
        at_least (blocks * block) (length (heard ++ bytes)) (frame_bytes script header.coding) frame
            (omega (
              arith,
              frames_of_blocks script header.coding block blocks (length heard) long,
              length-append heard bytes,
            )),
        at_most (suc blocks * block) (length (heard ++ bytes)) (frame_bytes script header.coding) frame
            (omega (
              arith,
              frames_of_blocks script header.coding block blocks (length heard) long,
              short,
              length-append heard bytes,
            )),
      )
    where
      at_least : (k n f : ℕ) → 0 < f → k * f ≤ n → k ≤ n / f
      at_least k n f some h = grind arith

      at_most : (k n f : ℕ) → 0 < f → n ≤ k * f → n / f ≤ k
      at_most k n f some h = grind arith

  -- less than a block more leaves the whole blocks
  pub whole_blocks_are : (blocks : ℕ) (heard bytes : List ℕ) →
      InDeclared (declared_bytes script header) (length (heard ++ bytes)) →
      length heard ≡ blocks * block_bytes script header.coding block →
      length bytes < block_bytes script header.coding block
      → in_whole_blocks block (frames_in_bytes script (first ++ (heard ++ bytes))) ≡ blocks * block
  whole_blocks_are blocks heard bytes declared long short =
      let (low, _) = frames_between blocks heard bytes declared long (omega (arith, short)) in
      let count : frames_in_bytes script (first ++ (heard ++ bytes)) ≡ length (heard ++ bytes) / frame_bytes script
      header.coding = frames_are script header frame first opens (heard ++ bytes) declared ∙
      length-signal script header.coding frame (heard ++ bytes) in
      let fewer : length (heard ++ bytes) / frame_bytes script header.coding < suc blocks * block =
      below (suc blocks * block) (length (heard ++ bytes)) (frame_bytes script header.coding) frame
      (omega (
        arith,
        frames_of_blocks script header.coding block blocks (length heard) long,
        short,
        length-append heard bytes,
      )) in
      in_blocks blocks block (frames_in_bytes script (first ++ (heard ++ bytes))) (block_some script block ready) low
      (omega (arith, count, fewer))
    where
      below : (k n f : ℕ) → 0 < f → n < k * f → n / f < k
      below k n f some h = grind arith

  -- beyond the blocks that passed, at most one block was taken
  pub lags : (blocks : ℕ) (heard bytes written : List ℕ) → InDeclared (declared_bytes script header) (length heard) →
      length heard ≡ blocks * block_bytes script header.coding block →
      length bytes ≤ block_bytes script header.coding block
      → LagsByOne script block (first ++ (heard ++ bytes))
      (head ++ live_bytes script (signal script header.coding heard) ++ written)
  lags blocks heard bytes written declared long short =
      let given = first ++ (heard ++ bytes) in
      let count : blocks_end script block (input_header script given) blocks ≡ length (first ++ heard) =
      ends_at (heard ++ bytes) blocks ∙ omega (arith, long, length-append first heard) in
      let next = ends_at (heard ++ bytes) (blocks + 1) in
      let front : take (blocks_end script block (input_header script given) blocks) given ≡ first ++ heard =
      ap (take (blocks_end script block (input_header script given) blocks)) (sym (append_assoc first heard bytes)) ∙
      take_at (first ++ heard) bytes _ (sym count) in
      let none : InDeclared (declared_bytes script header) (length (heard ++ [])) =
      in_declared (declared_bytes script header) (length heard) (length (heard ++ []))
      (ap length (sym (append-nil heard))) declared in
      let parted : part script block (first ++ heard) ≡ head ++ live_bytes script (signal script header.coding heard) =
      ap (λ xs. part script block (first ++ xs)) (sym (append-nil heard)) ∙
      part_blocks script header frame first opens block blocks heard [] long
      (some_block script header.coding block ready) none in
      record {
        blocks = blocks;
        taken = rw count (omega (
          arith,
          length-append first (heard ++ bytes),
          length-append heard bytes,
          length-append first heard,
        ));
        wrote = inr (written, ap (λ xs. xs ++ written) (sym (ap (part script block) front ∙ parted)));
        one = rw next (omega (arith, long, short, length-append first (heard ++ bytes), length-append heard bytes));
      }

  -- ---- a stop behind them

  module _ (banked : Bool) (blocks : ℕ) (heard bytes : List ℕ) (input now : SourceState) (sink then : SinkState)
      (before counts : Counts)
      (standing : Standing banked script block header first blocks heard bytes input now sink then before counts)
    where
      abbrev given : List ℕ
      given = first ++ (heard ++ bytes)

      abbrev wrote : List ℕ
      wrote = head ++ live_bytes script (signal script header.coding heard)

      pub between : (blocks * block ≤ frames_in_bytes script given) ×
          (frames_in_bytes script given ≤ suc blocks * block)
      between = frames_between blocks heard bytes standing.declared standing.whole standing.short

      -- what a run that stops there has taken
      in_limit : length given ≤ MAX_INPUT
      in_limit = omega (arith, opens.start, standing.in_limit, length-append first (heard ++ bytes))

      behind : IsInDeclared script given
      behind = none_behind script header first opens (heard ++ bytes) standing.declared

      pub lag : (written : List ℕ) → LagsByOne script block given (wrote ++ written)
      lag written = lags blocks heard bytes written (fewer_declared (declared_bytes script header) (length heard)
          (length (heard ++ bytes)) (omega (arith, length-append heard bytes)) standing.declared) standing.whole
          standing.short

      -- with just the output of the blocks
      pub stops_between : (stop : StreamFault) → IsCause stop script block given now →
          HasWritten stop script block given wrote now sink then before counts → CountsFault stop input now sink then →
          Stopped banked script block stop input now sink then before counts
      stops_between stop cause has_written faults = record {
        given = given;
        written = wrote;
        gave = standing.gave;
        in_limit = in_limit;
        put = standing.took.put;
        unflushed = unflushed_by stop sink then wrote standing.took.settled;
        cause = cause;
        wrote = has_written;
        faults = faults;
        in_declared = λ _. behind;
        lag = λ _. subst (LagsByOne script block given) (append-nil wrote) (lag []);
        cost = cost_within before.multiplies counts.multiplies heard bytes standing.declared standing.cost;
        turns = turns_before banked script block blocks (frames_in_bytes script given) before.turns counts.turns
            (block_some script block ready) between.0 between.1 standing.turned;
      }

      -- the output failed within what stands behind it
      pub stops_within : (written : List ℕ) (after : SinkState) (made : Counts) →
          after.put ≡ append_put then.put written →
          HasWritten fault.Output script block given (wrote ++ written) now sink after before made →
          CountsFault fault.Output input now sink after
          → made.multiplies ≤ before.multiplies + cost_of script (frames_in_bytes script given)
          → made.turns ≤ before.turns + run_turns banked script block (frames_in_bytes script given)
          → Stopped banked script block fault.Output input now sink after before made
      stops_within written after made put has_written faults cost turns = record {
        given = given;
        written = wrote ++ written;
        gave = standing.gave;
        in_limit = in_limit;
        put = put ∙ ap (λ known. append_put known written) standing.took.put ∙
            sym (append_put-append sink.put wrote written);
        unflushed = tt;
        cause = opens.has (heard ++ bytes);
        wrote = has_written;
        faults = faults;
        in_declared = λ _. behind;
        lag = λ _. lag written;
        cost = cost;
        turns = turns;
      }
