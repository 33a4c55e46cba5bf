-- The commands, and the statuses that they may end with.
use Rattle.std.proofs.Common.{◌≡◌, ◌≢◌, ◌⊎◌, ℕ, ◌≤◌, Bool, List, refl, sym, ◌∙◌, subst, arith, inl, inr, None, Some}
use Rattle.std.proofs.Common.{Option, IsSome, IsTrue, IsFalse, true, false, ap}
use Rattle.dsp_ports.specs.Ports.{SinkState}
use Rattle.dsp_command.specs.Words.{command_of}
use Rattle.dsp_command.specs.declared.command.Command.{Command}
use Rattle.dsp_command.specs.declared.command.Command.TheVariants.{Run, Gen, Print, Stop, Go, Convert}
use Rattle.dsp_defs.specs.declared.script.Script.{Script}
use Rattle.dsp_session.specs.declared.fault.PartFault.{PartFault}
use Rattle.dsp_session.specs.declared.fault.PartFault.TheVariants as part_fault
use Rattle.dsp_session.specs.declared.fault.StreamFault.{StreamFault}
use Rattle.dsp_session.specs.declared.fault.StreamFault.TheVariants.{Header}
use Rattle.dsp_cli.specs.Fault.{status_of, stream_status}
use Rattle.dsp_cli.specs.Run.{HasSource, HasText, HasBlocks, HasOutput, IsStream, IsGen, IsPrint, IsDone, IsRefusal}
use Rattle.dsp_cli.specs.Run.{IsRefused, IsAnswer, ReportsText}
use Rattle.dsp_cli.specs.Script.{chosen, chosen_block, is_legal_for, named_by}
use Rattle.dsp_cli.specs.declared.fault.Fault.{Fault}
use Rattle.dsp_cli.specs.declared.fault.Fault.TheVariants.{Stream, Part, Conversion, Comparison}
use Rattle.dsp_au.specs.declared.fault.ConvertFault.{ConvertFault}
use Rattle.dsp_au.specs.declared.fault.ConvertFault.TheVariants as convert_fault
use Rattle.dsp_check.specs.declared.fault.CheckFault.{CheckFault}
use Rattle.dsp_check.specs.declared.fault.CheckFault.TheVariants as check_fault

-- ---- commands

pub command_not_none : (words : List (List ℕ)) → IsSome (command_of words) → command_of words ≡ None → ⊥
command_not_none words some none = absurd (let same = subst IsSome none some in cc)

pub stream_some : (words : List (List ℕ)) → IsStream words → IsSome (command_of words)
stream_some words (inl (named, banked, is)) = subst IsSome (sym is) refl
stream_some words (inr (seed, frames, is)) = subst IsSome (sym is) refl

pub stream_or_print : (words : List (List ℕ)) → IsStream words → IsPrint words → ⊥
stream_or_print words (inl (named, banked, is)) print = let same : Some (Run named banked) ≡ Some Print = sym is ∙
    print in cc
stream_or_print words (inr (seed, frames, is)) print = let same : Some (Gen seed frames) ≡ Some Print = sym is ∙
    print in cc

pub no_stop : (words : List (List ℕ)) → IsStream words → (at : ℕ) → command_of words ≡ Some (Stop at) → ⊥
no_stop words (inl (named, banked, is)) at stop = let same : Some (Run named banked) ≡ Some (Stop at) = sym is ∙
    stop in cc
no_stop words (inr (seed, frames, is)) at stop = let same : Some (Gen seed frames) ≡ Some (Stop at) = sym is ∙ stop in
    cc

-- the block length of a command's script, and whether it is legal
pub block_of : (words : List (List ℕ)) {command : Option Command} → command_of words ≡ command → (script : Script) →
    chosen_block words script ≡ chosen (named_by command) script
block_of words is script = ap (λ command. chosen (named_by command) script) is

pub block_legal : (words : List (List ℕ)) {command : Option Command} → command_of words ≡ command →
    (script : Script) → IsTrue (is_legal_for script (chosen (named_by command) script))
    → IsTrue (is_legal_for script (chosen_block words script))
block_legal words is script legal = subst (λ n. IsTrue (is_legal_for script n)) (sym (block_of words is script)) legal

pub legal_not : {test : Bool} → IsTrue test → IsFalse test → ⊥
legal_not is not = let same : true ≡ false = sym is ∙ not in cc

-- what holds of a run and of a gen holds of the words of a stream
pub of_stream : (words : List (List ℕ)) (P : Option Command → Type 0) → IsStream words
    → ((named : Option ℕ) (banked : Bool) → command_of words ≡ Some (Run named banked) → P (Some (Run named banked)))
    → ((seed frames : ℕ) → command_of words ≡ Some (Gen seed frames) → P (Some (Gen seed frames))) →
    P (command_of words)
of_stream words P (inl (named, banked, is)) run gen = subst P (sym is) (run named banked is)
of_stream words P (inr (seed, frames, is)) run gen = subst P (sym is) (gen seed frames is)

-- a command that reads a text is one
pub text_some : (command : Option Command) → HasText command → IsSome command
text_some None text = absurd text
text_some (Some command) text = refl

pub source_some : (command : Option Command) → HasSource command → IsSome command
source_some None source = absurd source
source_some (Some command) source = refl

pub blocks_text : (command : Option Command) → HasBlocks command → HasText command
blocks_text None blocks = absurd blocks
blocks_text (Some Print) blocks = absurd blocks
blocks_text (Some Go) blocks = absurd blocks
blocks_text (Some (Convert direction)) blocks = absurd blocks
blocks_text command blocks = tt

-- what reads a text reads a source
pub text_source : (command : Option Command) → HasText command → HasSource command
text_source None text = absurd text
text_source (Some Go) text = absurd text
text_source (Some (Convert direction)) text = absurd text
text_source command text = tt

-- a stream works by a script, in blocks, and writes
pub stream_blocks : (words : List (List ℕ)) → IsStream words → HasBlocks (command_of words)
stream_blocks words stream = of_stream words HasBlocks stream (λ named banked is. tt) (λ seed frames is. tt)

pub stream_text : (words : List (List ℕ)) → IsStream words → HasText (command_of words)
stream_text words stream = of_stream words HasText stream (λ named banked is. tt) (λ seed frames is. tt)

pub stream_output : (words : List (List ℕ)) → IsStream words → HasOutput (command_of words)
stream_output words stream = of_stream words HasOutput stream (λ named banked is. tt) (λ seed frames is. tt)

-- ---- statuses

-- those of a conversion that stops
pub conversion_status : (fault : ConvertFault) → (status_of (Conversion fault) ≡ 4) ⊎
    (status_of (Conversion fault) ≡ 5) ⊎ (status_of (Conversion fault) ≡ 7) ⊎ (status_of (Conversion fault) ≡ 8)
conversion_status (convert_fault.Wave fault offset) = inl refl
conversion_status fault = grind arith

-- those of a check that stops
pub comparison_status : (fault : CheckFault)
    → (status_of (Comparison fault) ≡ 4) ⊎ (status_of (Comparison fault) ≡ 5) ⊎ (status_of (Comparison fault) ≡ 7)
    ⊎ (status_of (Comparison fault) ≡ 10) ⊎ (status_of (Comparison fault) ≡ 11) ⊎ (status_of (Comparison fault) ≡ 14)
comparison_status (check_fault.Header fault offset) = inl refl
comparison_status fault = grind arith

-- those of a stream that stops, over a whole input or a part of it
stream_statuses : (fault : StreamFault) → (stream_status fault ≡ 4) ⊎ (stream_status fault ≡ 5) ⊎
    (stream_status fault ≡ 7) ⊎ (stream_status fault ≡ 8)
stream_statuses (Header fault offset) = inl refl
stream_statuses fault = grind arith

pub part_status : (fault : PartFault) → (status_of (Part fault) ≡ 4) ⊎ (status_of (Part fault) ≡ 5) ⊎
    (status_of (Part fault) ≡ 7) ⊎ (status_of (Part fault) ≡ 8)
part_status (part_fault.Behind at got) = inr (inl refl)
part_status (part_fault.Stream fault) = stream_statuses fault

pub reports_done : {text : List ℕ} {status : ℕ} {report told : SinkState} → ReportsText text status report told →
    IsDone status
reports_done (inl way) = inl way.0
reports_done (inr way) = inr way.0

-- a fault's status is not that of what is done
pub fault_not_done : (fault : Fault) → IsDone (status_of fault) → ⊥
fault_not_done (Stream fault) done = omega (arith, stream_statuses fault, done)
fault_not_done (Part fault) done = omega (arith, part_status fault, done)
fault_not_done (Conversion fault) done = omega (arith, conversion_status fault, done)
fault_not_done (Comparison fault) done = omega (arith, comparison_status fault, done)
fault_not_done fault done = omega (arith, done)

-- that of a refusal is another than those of what is begun
pub refused_not_done : (status : ℕ) → IsRefusal status → IsDone status → ⊥
refused_not_done status refused done = omega (arith, refused, done)

pub stream_not_refused : (fault : StreamFault) → IsRefusal (status_of (Stream fault)) → ⊥
stream_not_refused fault refused = omega (arith, stream_statuses fault, refused)

-- a stream that was not begun was refused
pub stream_refused : (words : List (List ℕ)) (status : ℕ) → IsStream words → IsRefused (command_of words) status →
    IsRefusal status
stream_refused words status (inl (named, banked, is)) refused = subst (λ command. IsRefused command status) is refused
stream_refused words status (inr (seed, frames, is)) refused = subst (λ command. IsRefused command status) is refused

-- ---- which may come

-- what reads a text may end with
pub any_answers : (command : Option Command) (status : ℕ) → HasText command →
    (status ≡ 2) ⊎ (status ≡ 6) ⊎ (status ≡ 10) → IsAnswer command status
any_answers None status some is = absurd some
any_answers (Some Go) status some is = absurd some
any_answers (Some (Convert direction)) status some is = absurd some
any_answers command status some is = grind arith

-- and what reads a script or a state
pub source_answers : (command : Option Command) (status : ℕ) → HasSource command → (status ≡ 6) ⊎ (status ≡ 10) →
    IsAnswer command status
source_answers None status some is = absurd some
source_answers (Some (Convert direction)) status some is = absurd some
source_answers command status some is = grind arith

-- what a command that works in blocks may end with
pub length_answers : (command : Option Command) → HasBlocks command → IsAnswer command 3
length_answers None blocks = absurd blocks
length_answers (Some Print) blocks = absurd blocks
length_answers (Some Go) blocks = absurd blocks
length_answers (Some (Convert direction)) blocks = absurd blocks
length_answers command blocks = grind arith

-- what a run and a gen may end with
pub stream_answers : (words : List (List ℕ)) (status : ℕ) → IsStream words → status ≤ 10 → status ≢ 1 →
    (IsGen words → (status ≢ 4) × (status ≢ 7)) → IsAnswer (command_of words) status
stream_answers words status (inl (named, banked, is)) few other never =
    subst (λ command. IsAnswer command status) (sym is) (few, other)
stream_answers words status (inr gen) few other never =
    subst (λ command. IsAnswer command status) (sym gen.2) (few, other, (never gen).0, (never gen).1)
