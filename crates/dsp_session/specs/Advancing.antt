-- How a session goes on from any state that it is in, whatever it has taken before: by a call, by whole blocks, and
-- to its end.
use Rattle.std.specs.Prelude.{◌≡◌, ℕ, zero, suc, ◌+◌, ◌*◌, ◌/◌, ◌<◌, ◌≤◌, true, false, Bool, List, ◌++◌, length, take}
use Rattle.std.specs.Prelude.{Some, None, Ok, Err}
use Rattle.dsp_ports.specs.Ports.{SourceState, SinkState, one_more, Gave, Took, IsSettled}
use Rattle.dsp_ports.specs.declared.source.Failed.{Failed}
use Rattle.dsp_defs.specs.Block.{Frame}
use Rattle.dsp_defs.specs.Counts.{Counts}
use Rattle.dsp_defs.specs.Output.{live_bytes, output_pad}
use Rattle.dsp_defs.specs.Shape.{gathered, held, window_at}
use Rattle.dsp_defs.specs.declared.limits.TheConstants.{MAX_GATHERED, MAX_INPUT}
use Rattle.dsp_defs.specs.declared.script.Script.{Script}
use Rattle.dsp_defs.specs.declared.wave.Header.{Header}
use Rattle.dsp_chain.specs.Chain.{IsLive}
use Rattle.dsp_input.specs.declared.fault.InputFault.{InputFault}
use Rattle.dsp_input.specs.Taking.{InDeclared, PartRead, PartUnread, declared_bytes, frame_bytes}
use Rattle.dsp_session.specs.Opening.{of_input}
use Rattle.dsp_session.specs.SessionState.{SessionState}
use Rattle.dsp_session.specs.Session.{Holds, StandsFor, SameSession, Feeds, Fails, signal, block_bytes, live_cost_of}
use Rattle.dsp_session.specs.Session.{TurnsByProducts, products_of, turns_of, measured, measures_of}
use Rattle.dsp_session.specs.Passing.{WritesTail, TailCosts}
use Rattle.dsp_session.specs.declared.fault.LengthFault.TheVariants as length_fault
use Rattle.dsp_session.specs.declared.fault.StreamFault.{StreamFault}
use Rattle.dsp_session.specs.declared.fault.StreamFault.TheVariants as fault
use Rattle.dsp_session.specs.declared.streaming.Last.{Last}
use Rattle.dsp_session.specs.declared.streaming.Next.{Next}
use Rattle.dsp_session.specs.declared.streaming.Span.{Span}

-- it can take more: nothing of its tail was given, no call was refused, and a correlation has gathered no more than
-- it may
pub record Runs (s : SessionState) : Type 0 where
  pub holds : Holds s
  pub running : s.chain.ended ≡ false
  pub works : s.chain.failed ≡ None
  pub live : IsLive s.chain
  pub not_full : gathered s.script.blocks s.chain.frames ≤ MAX_GATHERED

-- how many frames some bytes have
abbrev pub count_of : SessionState → List ℕ → ℕ
count_of s bytes = length (signal s.script s.coding bytes)

-- ---- one call

-- the frames of the bytes were worked on, and what they add was written
pub record PassesOn (old new : SessionState) (bytes : List ℕ) (sink after : SinkState) (before counts : Counts) : Type
    0 where
  pub same : SameSession old new
  pub fed : Feeds old new bytes before counts
  pub not_full : gathered old.script.blocks new.chain.frames ≤ MAX_GATHERED
  pub took : Took sink after new.out
  pub no_fault : after.faults ≡ sink.faults

-- they were, and the sink has failed within what they add; or a correlation would gather too many
abbrev pub FailsToPassOn : StreamFault → SessionState → SessionState → List ℕ → SinkState → SinkState → Counts →
    Counts → Type 0
FailsToPassOn fault.Output old new bytes sink after before counts =
    (count : ℕ) × (count < length new.out) × SameSession old new × Feeds old new bytes before counts ×
    (gathered old.script.blocks new.chain.frames ≤ MAX_GATHERED)
    × Took sink after (take count new.out) × (after.faults ≡ one_more sink.faults)
FailsToPassOn (fault.Lengths (length_fault.Gather told more)) old new bytes sink after before counts =
    Fails old new (record { held = told; more = more }) before counts
    × (MAX_GATHERED < gathered old.script.blocks (old.chain.frames + count_of old bytes))
    × (told ≡ held old.script.blocks old.chain.frames)
    × (told + more ≡ gathered old.script.blocks (old.chain.frames + count_of old bytes)) × (after ≡ sink)
FailsToPassOn fault old new bytes sink after before counts = ⊥

-- ---- whole blocks

-- the turn bound of so many calls of `size` frames each, from m frames on
abbrev pub turns_from : Bool → Script → ℕ → ℕ → ℕ → ℕ
turns_from banked script size m zero = 0
turns_from banked script size m (suc calls) = turns_from banked script size m calls + turns_of banked script
    (m + calls * size) (m + suc calls * size)

-- from `start` on so many blocks have passed, which have these bytes: what they add to the live values was written,
-- for the multiplies of just these
pub record Advances (start session : SessionState) (blocks : ℕ) (bytes : List ℕ) (sink after : SinkState)
    (before counts : Counts) : Type 0 where
  pub same : SameSession start session
  pub runs : Runs session
  pub long : length bytes ≡ blocks * block_bytes start.script start.coding start.block
  pub counted : session.chain.frames ≡ start.chain.frames + blocks * start.block
  pub written : List ℕ
  pub took : Took sink after written
  pub no_fault : after.faults ≡ sink.faults
  pub values : (x : List Frame) → StandsFor start x → live_bytes start.script
      (x ++ signal start.script start.coding bytes) ≡ live_bytes start.script x ++ written
  pub stands : (x : List Frame) → StandsFor start x → StandsFor session (x ++ signal start.script start.coding bytes)
  pub multiplies : counts.multiplies + live_cost_of start.script start.chain.frames ≡ before.multiplies + live_cost_of
      start.script session.chain.frames
  pub turned : counts.turns ≤ before.turns + turns_from start.banked start.script start.block start.chain.frames blocks

-- ---- a part of an input

-- what a stream took of the samples in whole blocks, and wrote of them; it has begun behind `span.from` bytes of
-- samples
pub record Going (start session : SessionState) (header : Header) (span : Span) (taken : ℕ) (input now : SourceState)
    (sink after : SinkState) (before counts : Counts) : Type 0 where
  pub heard : List ℕ
  pub blocks : ℕ
  pub advances : Advances start session blocks heard sink after before counts
  pub taken_is : taken ≡ span.from + length heard
  pub declared : InDeclared (declared_bytes start.script header) taken
  pub in_limit : header.start + taken ≤ MAX_INPUT
  pub in_span : taken ≤ span.end
  pub gave : Gave input now heard
  pub no_fault : now.faults ≡ input.faults
  pub going : now.ended ≡ input.ended

-- the samples have ended within a block, or the part of them has, and all the blocks before it have passed
pub record Reached (start session : SessionState) (header : Header) (span : Span) (block : List ℕ) (last : Last)
    (input now : SourceState) (sink after : SinkState) (before counts : Counts) : Type 0 where
  pub between : SourceState
  pub going : Going start session header span last.before input between sink after before counts
  pub size : length block ≡ block_bytes start.script start.coding start.block
  pub short : last.count < length block
  pub read : PartRead start.script header span.end last.before block last.count between now

-- the next block did not come, or it did not pass
pub data Breaks (session new : SessionState) (header : Header) (end taken : ℕ) (stop : StreamFault)
    (input now : SourceState) (sink after : SinkState) (before counts : Counts) : Type 0 where
  NotRead : (error : InputFault) → stop ≡ of_input error →
      PartUnread session.script header end taken (block_bytes session.script session.coding session.block) error input
      now
      → new ≡ session → after ≡ sink → counts ≡ before →
      Breaks session new header end taken stop input now sink after before counts
  NotPassed : (piece : List ℕ) → length piece ≡ block_bytes session.script session.coding session.block →
      PartRead session.script header end taken piece (length piece) input now
      → FailsToPassOn stop session new piece sink after before counts →
      Breaks session new header end taken stop input now sink after before counts

-- the next block was lent and passed, so many bytes; or nothing has changed
abbrev pub PassesLent : Bool → SessionState → SessionState → ℕ → Next → SourceState → SourceState → SinkState →
    SinkState → Counts → Counts → Type 0
PassesLent true old new size next input now sink after before counts =
    (piece : List ℕ) × (length piece ≡ size) ×
    PartRead old.script next.header next.end next.taken piece size input now ×
    PassesOn old new piece sink after before counts
PassesLent false old new size next input now sink after before counts =
    (new ≡ old) × (now ≡ input) × (after ≡ sink) × (counts ≡ before)

-- and all the blocks before it have passed
pub record Broke (start new : SessionState) (header : Header) (span : Span) (stop : StreamFault)
    (input now : SourceState) (sink after : SinkState) (before counts : Counts) : Type 0 where
  pub session : SessionState
  pub taken : ℕ
  pub between : SourceState
  pub then : SinkState
  pub made : Counts
  pub going : Going start session header span taken input between sink then before made
  pub breaks : Breaks session new header span.end taken stop between now then after made counts

-- ---- the end

-- the bytes of the whole frames among the first ones of a block
abbrev pub whole_front : Script → Header → ℕ → List ℕ → List ℕ
whole_front script header count block = take (count / frame_bytes script header.coding * frame_bytes script
    header.coding) block

-- the samples have ended within a block, behind whole blocks of them, so that the stream may be closed
pub record MayClose (session : SessionState) (header : Header) (block : List ℕ) (last : Last) : Type 0 where
  pub runs : Runs session
  pub coding : session.coding ≡ header.coding
  pub size : length block ≡ block_bytes session.script header.coding session.block
  pub short : last.count < length block
  pub frames : session.chain.frames * frame_bytes session.script header.coding ≡ last.before
  pub limit : last.before + last.count ≤ MAX_INPUT

-- the frames of the last bytes were worked on, and the tail and the pad byte were written and made sure of
pub record Closed (old new : SessionState) (header : Header) (bytes : List ℕ) (sink after : SinkState)
    (before counts : Counts) : Type 0 where
  pub no_window : window_at old.script.blocks (old.chain.frames + count_of old bytes) ≡ None
  pub fed : SessionState
  pub then : SinkState
  pub made : Counts
  pub passes : PassesOn old fed bytes sink then before made
  pub writes : WritesTail {T = Unit {0}} {E = Failed} (Ok tt) fed (output_pad fed.script header) then after
  pub costs : (x : List Frame) → StandsFor fed x → TailCosts {T = Unit {0}} {E = Failed} (Ok tt) fed.script (length x)
      made counts
  pub measures : (x : List Frame) → StandsFor fed x → measured new ≡ measures_of fed.script x
  pub limit : counts.multiplies + live_cost_of old.script fed.chain.frames ≤ made.multiplies + products_of old.script
      fed.chain.frames
  pub turned : TurnsByProducts made counts
  pub settled : IsSettled after
  pub no_fault : after.faults ≡ then.faults

-- a window ends past its convolution; or the last frames did not pass; or the output failed behind them
pub data FailsToClose (old new : SessionState) (header : Header) (bytes : List ℕ) (stop : StreamFault)
    (sink after : SinkState) (before counts : Counts) : Type 0 where
  Windowed : (end full : ℕ) → stop ≡ fault.Lengths (length_fault.Window end full) →
      window_at old.script.blocks (old.chain.frames + count_of old bytes) ≡ Some (end, full)
      → after ≡ sink → counts ≡ before → FailsToClose old new header bytes stop sink after before counts
  Unpassed : window_at old.script.blocks (old.chain.frames + count_of old bytes) ≡ None →
      FailsToPassOn stop old new bytes sink after before counts
      → FailsToClose old new header bytes stop sink after before counts
  Unfinished : (fed : SessionState) (then : SinkState) (made : Counts) (error : Failed) → stop ≡ fault.Output →
      window_at old.script.blocks (old.chain.frames + count_of old bytes) ≡ None
      → PassesOn old fed bytes sink then before made
      → WritesTail {T = Unit {0}} (Err error) fed (output_pad fed.script header) then after
      → ((x : List Frame) → StandsFor fed x → TailCosts {T = Unit {0}} (Err error) fed.script (length x) made counts)
      → counts.multiplies + live_cost_of old.script fed.chain.frames ≤ made.multiplies + products_of old.script
      fed.chain.frames
      → TurnsByProducts made counts → after.faults ≡ one_more then.faults
      → FailsToClose old new header bytes stop sink after before counts
