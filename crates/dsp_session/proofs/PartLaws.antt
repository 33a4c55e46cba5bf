-- What streams over a part of an input have in common: what is written of more frames, and what more frames cost.
use Rattle.std.proofs.Common.{◌≡◌, ◌⊎◌, ℕ, ◌<◌, ◌≤◌, false, List, ◌++◌, length, take, sym, ap, ◌∙◌, arith}
use Rattle.std.proofs.Common.{append_assoc}
use Rattle.dsp_ports.specs.Ports.{SourceState, SinkState, one_more, settled_after}
use Rattle.std.proofs.lemmas.List.{take_all}
use Rattle.dsp_defs.specs.Block.{Frame}
use Rattle.dsp_defs.specs.Output.{HasHeader, input_header, output_coding, output_header, input_signal, live_bytes}
use Rattle.dsp_defs.specs.Output.{whole_blocks}
use Rattle.dsp_defs.specs.Streaming.{Begins}
use Rattle.dsp_defs.specs.declared.script.Script.{Script}
use Rattle.dsp_defs.specs.declared.wave.Header.{Header}
use Rattle.dsp_defs.proofs.ChainLaws.{live_chain_causal}
use Rattle.dsp_defs.proofs.OutputLaws.{coded_begins}
use Rattle.dsp_input.specs.declared.fault.InputFault.{InputFault}
use Rattle.dsp_input.specs.declared.fault.InputFault.TheVariants as input_fault
use Rattle.dsp_input.specs.Taking.{InDeclared, IsUnread, Opens, declared_bytes, frame_bytes, frames_in_bytes}
use Rattle.dsp_session.specs.Opening.{of_input}
use Rattle.dsp_session.specs.Session.{signal, live_values, live_cost_of}
use Rattle.dsp_session.specs.Stream.{IsCause, CountsFault}
use Rattle.dsp_session.specs.Resuming.{IsFirstCause, IsPartUnflushed, IsRestCause, RestWritten, first_output}
use Rattle.dsp_session.specs.Resuming.{later_frames}
use Rattle.dsp_session.specs.declared.fault.PartFault.{PartFault}
use Rattle.dsp_session.specs.declared.fault.PartFault.TheVariants as part_fault
use Rattle.dsp_input.proofs.CauseLaws.{unread_by}
use Rattle.dsp_session.proofs.OpenLaws.{input_cause, unflushed_by}
use Rattle.dsp_session.proofs.OpeningLaws.{signal_is}
use Rattle.dsp_session.proofs.TurnLaws.{chain_turns_within}

-- ---- lists

pub begins_behind : {A : Type 0} (front xs ys : List A) → Begins xs ys → Begins (front ++ xs) (front ++ ys)
begins_behind front xs ys (rest, is) = (rest, ap (λ l. front ++ l) is ∙ sym (append_assoc front xs rest))

-- ---- values and costs

pub live_goes_on : (script : Script) (x more : List Frame) →
    Begins (live_bytes script x) (live_bytes script (x ++ more))
live_goes_on script x more =
    coded_begins (output_coding script) (live_values script x) (live_values script (x ++ more))
    (live_chain_causal script.input.format script.input.channels script.blocks x more)

-- more frames have no less cost
pub live_cost_more : (script : Script) (m n : ℕ) → m ≤ n → live_cost_of script m ≤ live_cost_of script n
live_cost_more script m n more = (let within = chain_turns_within false script.input.format script.input.channels
    script.blocks m n more in omega (arith, within))

-- ---- what was written of the rest

-- a fault of the input leaves what was written so far
pub input_wrote_rest : (f : InputFault) (script : Script) (block : ℕ) (x : List Frame) (from : ℕ)
    (given written : List ℕ) (now : SourceState) (sink after : SinkState) →
    ((HasHeader script given → ⊥) × (after ≡ sink)) ⊎ (live_bytes script x ++ written ≡ live_bytes script
    (x ++ whole_blocks block (later_frames script from given)))
    → RestWritten (part_fault.Stream (of_input f)) script block x from given written now sink after
input_wrote_rest input_fault.Failed script block x from given written now sink after wrote = wrote
input_wrote_rest (input_fault.Limit told most) script block x from given written now sink after wrote = wrote
input_wrote_rest (input_fault.Header f offset) script block x from given written now sink after wrote = wrote

-- ---- an output that was not flushed

pub part_unflushed : (stop : PartFault) (sink after : SinkState) (written : List ℕ) →
    after.settled ≡ settled_after sink.settled (length written) → IsPartUnflushed stop sink after written
part_unflushed (part_fault.Behind at got) sink after written same = same
part_unflushed (part_fault.Stream stop) sink after written same = unflushed_by stop sink after written same

-- ---- the output of the first frames

pub first_is : (script : Script) (header : Header) (some : 0 < frame_bytes script header.coding) (first : List ℕ)
    (opens : Opens script header first) (bytes : List ℕ) → InDeclared (declared_bytes script header) (length bytes)
    → first_output script (frames_in_bytes script (first ++ bytes)) (first ++ bytes) ≡ output_header script header ++
    live_bytes script (signal script header.coding bytes)
first_is script header some first opens bytes declared =
    let whole : take (frames_in_bytes script (first ++ bytes)) (input_signal script (first ++ bytes)) ≡ input_signal
    script (first ++ bytes) =
    take_all (frames_in_bytes script (first ++ bytes)) (input_signal script (first ++ bytes)) (omega arith) in
    ap (λ x. output_header script (input_header script (first ++ bytes)) ++ live_bytes script x)
    (whole ∙ signal_is script header some first opens bytes declared)
    ∙ ap (λ (h : Header). output_header script h ++ live_bytes script (signal script header.coding bytes))
    (opens.said bytes)

-- ---- samples that did not come

pub unread_cause : (script : Script) (block : ℕ) (header : Header) (first : List ℕ) → Opens script header first →
    (bytes : List ℕ) (taken : ℕ) → length bytes ≡ taken → (now later : SourceState) (f : InputFault)
    → IsUnread f script header taken now later → IsCause (of_input f) script block (first ++ bytes) later
unread_cause script block header first opens bytes taken long now later f unread =
    input_cause f script block (first ++ bytes) later (unread_by script header first opens bytes taken long now later
    f unread)

-- neither part asks for more than that
pub input_first : (f : InputFault) (script : Script) (block frames : ℕ) (given : List ℕ) (now : SourceState) →
    IsCause (of_input f) script block given now
    → IsFirstCause (part_fault.Stream (of_input f)) script block frames given now
input_first input_fault.Failed script block frames given now cause = cause
input_first (input_fault.Limit told most) script block frames given now cause = cause
input_first (input_fault.Header f offset) script block frames given now cause = cause

pub input_rest : (f : InputFault) (script : Script) (block from : ℕ) (given : List ℕ) (now : SourceState) →
    IsCause (of_input f) script block given now
    → IsRestCause (part_fault.Stream (of_input f)) script block from given now
input_rest input_fault.Failed script block from given now cause = cause
input_rest (input_fault.Limit told most) script block from given now cause = cause
input_rest (input_fault.Header f offset) script block from given now cause = cause

pub unread_faults : (f : InputFault) (script : Script) (header : Header) (taken : ℕ) (input now later : SourceState)
    (sink after : SinkState) → IsUnread f script header taken now later → now.faults ≡ input.faults →
    after.faults ≡ sink.faults
    → CountsFault (of_input f) input later sink after
unread_faults input_fault.Failed script header taken input now later sink after unread clean still =
    (unread.0 ∙ ap one_more clean, still)
unread_faults (input_fault.Limit told most) script header taken input now later sink after unread clean still =
    (unread.3 ∙ clean, still)
unread_faults (input_fault.Header f offset) script header taken input now later sink after
    (declared, size_is, f_is, place, end, same, fewer) clean still = (same ∙ clean, still)
