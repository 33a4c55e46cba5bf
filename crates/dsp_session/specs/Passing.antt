-- Block after block: what is taken, worked on and written.
use Rattle.std.specs.Prelude.{◌≡◌, ℕ, ◌+◌, ◌*◌, ◌<◌, ◌≤◌, Bool, List, [], ◌++◌, length, take, None, Result, OnOk}
use Rattle.dsp_ports.specs.Ports.{append_put}
use Rattle.dsp_ports.specs.Ports.{SourceState, SinkState, CountsFaults, one_more, Gave, Took}
use Rattle.dsp_defs.specs.Block.{Frame}
use Rattle.dsp_defs.specs.Counts.{Counts}
use Rattle.dsp_defs.specs.Output.{live_bytes, output_header, whole_bytes}
use Rattle.dsp_defs.specs.Shape.{gathered, held}
use Rattle.dsp_defs.specs.Streaming.{Begins}
use Rattle.dsp_defs.specs.declared.format.Coding.{Coding}
use Rattle.dsp_defs.specs.declared.limits.TheConstants.{MAX_GATHERED, MAX_INPUT}
use Rattle.dsp_defs.specs.declared.script.Script.{Script}
use Rattle.dsp_defs.specs.declared.wave.Header.{Header}
use Rattle.dsp_input.specs.Taking.{AreAll, Fits, InDeclared, Opens, declared_bytes}
use Rattle.dsp_session.specs.SessionState.{SessionState}
use Rattle.dsp_session.specs.Session.{StandsFor, SameSession, signal, block_bytes, live_cost_of, products_of, turns_of}
use Rattle.dsp_session.specs.Session.{TurnsByProducts, calls_turns, measured, measures_of}
use Rattle.dsp_chain.specs.Chain.{made_of}
use Rattle.dsp_session.specs.declared.fault.LengthFault.TheVariants as length_fault
use Rattle.dsp_session.specs.declared.fault.StreamFault.{StreamFault}
use Rattle.dsp_session.specs.declared.fault.StreamFault.TheVariants as fault
use Rattle.dsp_session.specs.declared.streaming.Last.{Last}

-- ---- working and writing

-- the steps of a call that adds the frames of these bytes to x
pub record PassCosts (banked : Bool) (script : Script) (coding : Coding) (x : List Frame) (bytes : List ℕ)
    (before counts : Counts) : Type 0 where
  pub rise : counts.multiplies + live_cost_of script (length x) ≡ before.multiplies + live_cost_of script
      (length (x ++ signal script coding bytes))
  pub turned : counts.turns ≤ before.turns + turns_of banked script (length x)
      (length (x ++ signal script coding bytes))

-- the frames were worked on, and their live values were written
pub record Passes (banked : Bool) (script : Script) (coding : Coding) (x : List Frame) (bytes : List ℕ)
    (new : SessionState) (sink after : SinkState) (before counts : Counts) : Type 0 where
  pub stands : StandsFor new (x ++ signal script coding bytes)
  pub out : live_bytes script (x ++ signal script coding bytes) ≡ live_bytes script x ++ new.out
  pub costs : PassCosts banked script coding x bytes before counts
  pub not_full : gathered script.blocks (length (x ++ signal script coding bytes)) ≤ MAX_GATHERED
  pub took : Took sink after new.out
  pub no_fault : after.faults ≡ sink.faults

-- the frames were worked on, and the sink has failed within their values; or a correlation would gather too many
abbrev pub FailsToPass : StreamFault → Bool → Script → Coding → List Frame → List ℕ → SinkState → SinkState → Counts →
    Counts → Type 0
FailsToPass fault.Output banked script coding x bytes sink after before counts =
    (given written : List ℕ) × (live_bytes script (x ++ signal script coding bytes) ≡ live_bytes script x ++ given) ×
    Begins written given
    × (length written < length given) × (after.put ≡ append_put sink.put written) ×
    (after.faults ≡ one_more sink.faults) × PassCosts banked script coding x bytes before counts
    × (gathered script.blocks (length (x ++ signal script coding bytes)) ≤ MAX_GATHERED)
FailsToPass (fault.Lengths (length_fault.Gather told more)) banked script coding x bytes sink after before counts =
    (MAX_GATHERED < gathered script.blocks (length (x ++ signal script coding bytes))) ×
    (told ≡ held script.blocks (length x))
    × (more + told ≡ gathered script.blocks (length (x ++ signal script coding bytes))) × (after ≡ sink) ×
    (counts ≡ before)
FailsToPass fault banked script coding x bytes sink after before counts = ⊥

-- ---- the blocks so far

-- the samples ended within a block, and all the blocks before it have passed
pub record Passed (script : Script) (frames : ℕ) (session : SessionState) (header : Header) (block : List ℕ)
    (last : Last) (input now : SourceState) (sink after : SinkState) (before counts : Counts) : Type 0 where
  pub first : List ℕ
  pub heard : List ℕ
  pub blocks : ℕ
  pub script_is : session.script ≡ script
  pub block_is : session.block ≡ frames
  pub coding_is : session.coding ≡ header.coding
  pub opens : Opens script header first
  pub stands : StandsFor session (signal script header.coding heard)
  pub heard_count : last.before ≡ length heard
  pub blocks_heard : length heard ≡ blocks * block_bytes script header.coding frames
  pub size : length block ≡ block_bytes script header.coding frames
  pub short : last.count < length block
  pub in_limit : header.start + (last.before + last.count) ≤ MAX_INPUT
  pub room_left : header.size ≡ None → header.start + (last.before + last.count) < MAX_INPUT
  pub declared : InDeclared (declared_bytes script header) (last.before + last.count)
  pub ended : AreAll (declared_bytes script header) (last.before + last.count) now
  pub gave : Gave input now (first ++ (heard ++ take last.count block))
  pub took : Took sink after (output_header script header ++ live_bytes script (signal script header.coding heard))
  pub no_input_fault : now.faults ≡ input.faults
  pub no_output_fault : after.faults ≡ sink.faults
  pub fits : Fits script header
  pub not_full : gathered script.blocks (blocks * frames) ≤ MAX_GATHERED
  pub cost : counts.multiplies ≡ before.multiplies + live_cost_of script (length (signal script header.coding heard))
  pub turned : counts.turns ≤ before.turns + calls_turns session.banked script frames (blocks * frames) blocks

-- ---- the end

-- after a front of the bytes a part of the rest was written, and all of it where the sink has not failed
pub record WritesRest {T E : Type 0} (result : Result T E) (front all : List ℕ) (sink after : SinkState) : Type 0 where
  pub written : List ℕ
  pub put : after.put ≡ append_put sink.put written
  pub begins : Begins (front ++ written) all
  pub whole : OnOk result (front ++ written ≡ all)

-- the same of each signal that the session stands for, by the same bytes: they are what is to come of it as a whole
-- signal, and what stands behind that
pub record WritesTail {T E : Type 0} (result : Result T E) (session : SessionState) (behind : List ℕ)
    (sink after : SinkState) : Type 0 where
  pub written : List ℕ
  pub put : after.put ≡ append_put sink.put written
  pub begins : (x : List Frame) → StandsFor session x →
      Begins (live_bytes session.script x ++ written) (whole_bytes session.script x ++ behind)
  pub whole : (x : List Frame) → StandsFor session x →
      OnOk result (live_bytes session.script x ++ written ≡ whole_bytes session.script x ++ behind)

-- the multiplies are at most those of a whole signal of n frames, and exactly those where all was written
pub record TailCosts {T E : Type 0} (result : Result T E) (script : Script) (n : ℕ) (before counts : Counts) : Type 0
  where
    pub limit : counts.multiplies + live_cost_of script n ≤ before.multiplies + products_of script n
    pub exact : OnOk result (counts.multiplies + live_cost_of script n ≡ before.multiplies + products_of script n)

-- the tail was written, or a part of it, by a session that began so
pub record WroteTail {T E : Type 0} (result : Result T E) (old new : SessionState) (sink after : SinkState)
    (before counts : Counts) : Type 0 where
  pub same : SameSession old new
  pub written : WritesTail result old [] sink after
  pub costs : (x : List Frame) → StandsFor old x → TailCosts result old.script (length x) before counts
  pub limit : counts.multiplies + made_of old.chain ≤ before.multiplies + products_of old.script old.chain.frames
  pub turned : TurnsByProducts before counts
  pub measures : (x : List Frame) → StandsFor old x → OnOk result (measured new ≡ measures_of old.script x)
  pub faults : CountsFaults result sink.faults after.faults
