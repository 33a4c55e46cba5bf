-- What is so of the bytes that a source tells, from what was taken of it.
use Rattle.std.proofs.Common.{◌≡◌, ◌⊎◌, ℕ, ◌<◌, ◌≤◌, List, ◌++◌, length, refl, sym, ap, ◌∙◌, subst, arith, append-nil}
use Rattle.std.proofs.Common.{length-append, inl, inr, Option, None, Some, IsSome, IfSome, IsFalse, nat_lt, true}
use Rattle.std.proofs.lemmas.Bool.Decides.{nat_tests}
use Rattle.std.specs.Io.KnownBytes.{prepend_known, IsAtEnd}
use Rattle.dsp_ports.specs.Ports.{SourceState}
use Rattle.dsp_defs.specs.Grammar.{Reads}
use Rattle.dsp_defs.specs.Reading.{reading, first_fault}
use Rattle.dsp_defs.specs.declared.script.Script.{Script}
use Rattle.dsp_defs.specs.declared.script_fault.ScriptFault.{ScriptFault}
use Rattle.dsp_defs.specs.declared.limits.TheConstants.{MAX_SCRIPT}
use Rattle.dsp_defs.specs.declared.script_fault.ScriptKind.TheVariants.{TooLong}
use Rattle.dsp_defs.specs.Shape.{unit}
use Rattle.dsp_command.specs.Words.{command_of}
use Rattle.dsp_command.specs.declared.command.Command.{Command}
use Rattle.dsp_script.proofs.ScriptLaws.{one_script, reads_or_fails}
use Rattle.dsp_cli.specs.Call.{Call}
use Rattle.dsp_cli.specs.Script.{IsReadWhole, ReadsText, IfScript, chosen, chosen_block, is_legal_for, named_by}
use Rattle.dsp_cli.specs.Perform.{ReadsAs}
use Rattle.dsp_cli.proofs.StatusLaws.{block_of}

pub IfSome-map : {A : Type 0} (o : Option A) (P Q : A → Type 0) → ((x : A) → P x → Q x) → IfSome o P → IfSome o Q
IfSome-map None P Q f p = tt
IfSome-map (Some x) P Q f p = f x p

pub IfSome-always : {A : Type 0} (o : Option A) (P : A → Type 0) → ((x : A) → P x) → IfSome o P
IfSome-always None P always = tt
IfSome-always (Some x) P always = always x

pub IfSome-each : {A : Type 0} (o : Option A) (P : A → Type 0) → ((x : A) → o ≡ Some x → P x) → IfSome o P
IfSome-each None P each = tt
IfSome-each (Some x) P each = each x refl

-- what was given to its end is all that was told
pub told_whole : (left rest : Option (List ℕ)) (given : List ℕ) → left ≡ prepend_known given rest → IsAtEnd rest →
    IfSome left (λ all. all ≡ given)
told_whole None rest given front ended = tt
told_whole (Some all) None given front ended = absurd (cc)
told_whole (Some all) (Some rest) given front ended =
    let split : all ≡ given ++ rest = cc in
    split ∙ ap (λ bytes. given ++ bytes) ended ∙ append-nil given

-- what holds of all that was given and of whatever is left holds of all that was told
pub told_more : (left rest : Option (List ℕ)) (given : List ℕ) (P : List ℕ → Type 0) →
    left ≡ prepend_known given rest → ((more : List ℕ) → rest ≡ Some more → P (given ++ more)) → IfSome left P
told_more None rest given P front holds = tt
told_more (Some all) None given P front holds = absurd (cc)
told_more (Some all) (Some more) given P front holds =
    let split : all ≡ given ++ more = cc in
    subst P (sym split) (holds more refl)

-- what was told is what was given and what is left
pub told_split : (left rest : Option (List ℕ)) (given all : List ℕ) → left ≡ prepend_known given rest →
    left ≡ Some all → (more : List ℕ) × (rest ≡ Some more) × (all ≡ given ++ more)
told_split left None given all front is = absurd (cc)
told_split left (Some more) given all front is = (more, refl, cc)

-- no more was given than was told
told_length : (left rest : Option (List ℕ)) (given all : List ℕ) → left ≡ prepend_known given rest →
    left ≡ Some all → length given ≤ length all
told_length left None given all front is = absurd (cc)
told_length left (Some rest) given all front is =
    let split : all ≡ given ++ rest = cc in
    omega (arith, ap length split, length-append given rest)

told_longer : (left rest : Option (List ℕ)) (given : List ℕ) → left ≡ prepend_known given rest →
    IfSome left (λ all. length given ≤ length all)
told_longer None rest given front = tt
told_longer (Some all) rest given front = told_length (Some all) rest given all front refl

-- ---- the script

pub IfScript-always : (left : Option (List ℕ)) (P : Script → Type 0) → ((script : Script) → P script) → IfScript left P
IfScript-always left P always = IfSome-always left _ (λ _ script _. always script)

-- the bytes that were read are those that are told, or both are too long
abbrev pub Same : ℕ → List ℕ → List ℕ → Type 0
Same limit text all = (all ≡ text) ⊎ ((limit < length text) × (limit < length all))

pub told_text : (limit : ℕ) (source now : SourceState) (text : List ℕ) → IsReadWhole limit source now text →
    IfSome source.left (Same limit text)
told_text limit source now text read =
    elim read.end [
      | inl ended ↦ IfSome-map source.left (λ all. all ≡ text) (Same limit text) (λ all same. inl same)
          (told_whole source.left now.left text read.gave.front ended)
      | inr long ↦ IfSome-map source.left (λ all. length text ≤ length all) (Same limit text)
          (λ all more. inr (omega arith, omega arith)) (told_longer source.left now.left text read.gave.front)
    ]

-- a text that is too long has that fault
first_fault_long : (text : List ℕ) → MAX_SCRIPT < length text →
    first_fault text ≡ Some (record { offset = MAX_SCRIPT; kind = TooLong })
unfolding reading
first_fault_long text long =
    let test : nat_lt MAX_SCRIPT (length text) ≡ true = grind (arith, nat_tests) in
    rw test refl

no_fault : (text : List ℕ) (script : Script) → Reads text script → first_fault text ≡ None
no_fault text script reads = (reads_or_fails text).0 (script, reads)

-- what holds of the script that was read holds of each that is told
pub told_script : (source now : SourceState) (script : Script) (P : Script → Type 0) → ReadsAs source now script →
    P script → IfScript source.left P
told_script source now script P loaded holds =
    IfSome-map source.left (Same MAX_SCRIPT loaded.text) _
    (λ all same other reads. elim same [
      | inl is ↦ subst P (one_script loaded.text script other loaded.holds
          (subst (λ text. Reads text other) is reads)) holds
      | inr long ↦ absurd (omega (arith, long.0, loaded.holds.short))
    ])
    (told_text MAX_SCRIPT source now loaded.text loaded.read)

-- a script that was read has no fault
pub told_sound : (source now : SourceState) (script : Script) (P : Type 0) → ReadsAs source now script →
    IfSome source.left (λ text. IsSome (first_fault text) → P)
told_sound source now script P loaded =
    IfSome-map source.left (Same MAX_SCRIPT loaded.text) _
    (λ all same some. elim same [
      | inl is ↦ let none : first_fault all ≡ None = ap first_fault is ∙ no_fault loaded.text script loaded.holds in
          absurd (none_not_some none some)
      | inr long ↦ absurd (omega (arith, long.0, loaded.holds.short))
    ])
    (told_text MAX_SCRIPT source now loaded.text loaded.read)
  where
    none_not_some : {found : Option ScriptFault} → found ≡ None → IsSome found → ⊥
    none_not_some none some = absurd (let same = subst IsSome none some in cc)

-- what holds of the fault that was read holds of that which is told
pub told_first : (source now : SourceState) (fault : ScriptFault) →
    ReadsText source now (λ text. first_fault text ≡ Some fault) →
    IfSome source.left (λ all. first_fault all ≡ Some fault)
told_first source now fault has =
    IfSome-map source.left (Same MAX_SCRIPT has.text) _
    (λ all same. elim same [
      | inl is ↦ ap first_fault is ∙ has.holds
      | inr long ↦ first_fault_long all long.1 ∙ sym (first_fault_long has.text long.0) ∙ has.holds
    ])
    (told_text MAX_SCRIPT source now has.text has.read)

-- a text with a fault is no script
pub told_faulty : (source now : SourceState) (fault : ScriptFault) (P : Script → Type 0) →
    ReadsText source now (λ text. first_fault text ≡ Some fault) → IfScript source.left P
told_faulty source now fault P has =
    IfSome-map source.left _ _ (λ all first script reads. let none : first_fault all ≡ None =
    no_fault all script reads in absurd (cc)) (told_first source now fault has)

-- what holds of a script whose chosen block length is not legal holds of each that is told
pub told_illegal : (c : Call) {command : Option Command} → command_of c.words ≡ command → (block divisor : ℕ) →
    ReadsText c.source c.read (λ text. (script : Script) × Reads text script × IsFalse (is_legal_for script block) ×
    (block ≡ chosen_block c.words script) × (divisor ≡ unit script.input.channels script.blocks)) →
    (P : Script → Type 0) →
    ((script : Script) → IsFalse (is_legal_for script (chosen (named_by command) script)) → P script) →
    IfScript c.source.left P
told_illegal c is block divisor read P holds =
    let (script, reads, illegal, block_is, divisor_is) = read.holds in
    told_script c.source c.read script P (record { text = read.text; read = read.read; holds = reads })
    (holds script (subst (λ n. IsFalse (is_legal_for script n)) (block_is ∙ block_of c.words is script) illegal))
