-- The session that a text opens, and why it opens none.
use Rattle.std.specs.Prelude.{◌≡◌, ℕ, zero, suc, false, List, Some, IsTrue, IsFalse, unwrap_or}
use Rattle.dsp_defs.specs.Grammar.{Reads}
use Rattle.dsp_defs.specs.Reading.{first_fault}
use Rattle.dsp_defs.specs.Shape.{default_block, is_legal, unit}
use Rattle.dsp_defs.specs.declared.script.Script.{Script}
use Rattle.dsp_session.specs.Session.{IsNew}
use Rattle.dsp_session.specs.SessionState.{SessionState}
use Rattle.dsp_host.specs.declared.refusal.OpenFault.{OpenFault}
use Rattle.dsp_host.specs.declared.refusal.OpenFault.TheVariants as fault

-- the block length that is asked for: 0 is the script's own, or the default where it names none
abbrev pub asked : ℕ → Script → ℕ
asked zero script = unwrap_or script.block (default_block script.input.channels script.blocks)
asked (suc n) script = suc n

-- the text reads as a script, and the session is a new one of it, in blocks of the length that is asked for, which is
-- legal
pub record IsOpened (text : List ℕ) (block : ℕ) (s : SessionState) : Type 0 where
  pub script : Script
  pub reads : Reads text script
  pub legal : IsTrue (is_legal script.input.channels script.blocks (asked block script))
  pub new : IsNew false script (asked block script) s

-- the text reads as a script, which runs in no blocks of that length
pub record IsIllegal (text : List ℕ) (block told divisor : ℕ) : Type 0 where
  pub script : Script
  pub reads : Reads text script
  pub illegal : IsFalse (is_legal script.input.channels script.blocks (asked block script))
  pub told_is : told ≡ asked block script
  pub divisor_is : divisor ≡ unit script.input.channels script.blocks

-- why a text opens no session
abbrev pub FailsToOpen : OpenFault → List ℕ → ℕ → Type 0
FailsToOpen (fault.Script first) text block = first_fault text ≡ Some first
FailsToOpen (fault.BlockLength told divisor) text block = IsIllegal text block told divisor
FailsToOpen fault.Memory text block = Unit {0}
