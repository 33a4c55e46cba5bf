-- What is read of a script or a state, and what is said of the one that a source tells.
use Rattle.std.specs.Prelude.{◌≡◌, ◌⊎◌, ◌+◌, ℕ, ℤ, Bool, false, List, length, Option, Some, None, IfSome, unwrap_or}
use Rattle.std.specs.Io.KnownBytes.{IsAtEnd}
use Rattle.dsp_ports.specs.Ports.{SourceState, Gave}
use Rattle.dsp_defs.specs.Grammar.{Reads}
use Rattle.dsp_defs.specs.Shape.{is_legal, default_block}
use Rattle.dsp_defs.specs.StateBytes.{IsState}
use Rattle.dsp_command.specs.Words.{command_of}
use Rattle.dsp_command.specs.declared.command.Command.{Command}
use Rattle.dsp_command.specs.declared.command.Command.TheVariants.{Run, Go}
use Rattle.dsp_defs.specs.declared.limits.TheConstants.{MAX_SCRIPT, MAX_STATE}
use Rattle.dsp_defs.specs.declared.script.Script.{Script}

-- ---- its bytes

-- all the bytes were taken, or one more than there may be
pub record IsReadWhole (limit : ℕ) (source now : SourceState) (text : List ℕ) : Type 0 where
  pub gave : Gave source now text
  pub end : IsAtEnd now.left ⊎ (length text ≡ limit + 1)
  pub no_fault : now.faults ≡ source.faults

-- they were read, and P holds of them
pub record ReadsWhole (limit : ℕ) (source now : SourceState) (P : List ℕ → Type 0) : Type 0 where
  pub text : List ℕ
  pub read : IsReadWhole limit source now text
  pub holds : P text

-- the same of a script, and of a state
abbrev pub ReadsText : SourceState → SourceState → (List ℕ → Type 0) → Type 0
ReadsText source now P = ReadsWhole MAX_SCRIPT source now P

abbrev pub ReadsBytes : SourceState → SourceState → (List ℕ → Type 0) → Type 0
ReadsBytes source now P = ReadsWhole MAX_STATE source now P

-- the most bytes that a script may have, or, of a run that goes on, a state
abbrev pub most_of_script : Option Command → ℕ
most_of_script (Some Go) = MAX_STATE
most_of_script command = MAX_SCRIPT

-- where the source tells its bytes and they read as a script, P holds of it
abbrev pub IfScript : Option (List ℕ) → (Script → Type 0) → Type 0
IfScript left P = IfSome left (λ text. (script : Script) → Reads text script → P script)

-- where the source tells its bytes and they are a state, P holds of its script, frames and numbers
abbrev pub IfState : Option (List ℕ) → (Script → ℕ → List ℤ → Type 0) → Type 0
IfState left P = IfSome left (λ bytes. (script : Script) (at : ℕ) (numbers : List ℤ) →
    IsState bytes script at numbers → P script at numbers)

-- ---- its block length, and whether it is banked

-- the block length that a command names
abbrev pub named_by : Option Command → Option ℕ
named_by (Some (Run block banked)) = block
named_by command = None

-- whether the biquads of a command's script are banks
abbrev pub banked_by : Option Command → Bool
banked_by (Some (Run block banked)) = banked
banked_by command = false

-- whether the biquads of these words' script are banks
abbrev pub is_banked : List (List ℕ) → Bool
is_banked words = banked_by (command_of words)

-- the block length that is named, else that of the script, else the default
abbrev pub chosen : Option ℕ → Script → ℕ
chosen (Some named) script = named
chosen None script = unwrap_or script.block (default_block script.input.channels script.blocks)

-- that of the words, else that of the script, else the default
abbrev pub chosen_block : List (List ℕ) → Script → ℕ
chosen_block words script = chosen (named_by (command_of words)) script

-- the block length is legal for the script
abbrev pub is_legal_for : Script → ℕ → Bool
is_legal_for script block = is_legal script.input.channels script.blocks block
