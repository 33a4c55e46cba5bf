-- What a handle of C's holds.
use Rattle.std.specs.Prelude.{◌≡◌, ℕ, Option, Some, None}
use base.Fml.{Fml, ftrue}
use Rattle.dsp_session.specs.SessionState.{SessionState}
use Rattle.dsp_c.specs.declared.answer.Answer.{Answer}
use Rattle.dsp_c.specs.declared.held.Handle.{Handle}
use Rattle.dsp_c.specs.declared.held.Held.{Held}
use Rattle.dsp_c.specs.Answer.{numbers}

-- what is owned of a value, where there is one
abbrev pub if_some : {A : Type 0} → (A → Fml) → Option A → Fml
if_some owned (Some x) = owned x
if_some owned None = ftrue

-- it holds a session of which this is said
abbrev pub Holds : Handle → (SessionState → Type 0) → Type 0
Holds handle Says = (held : Held) × (handle.hidden.held ≡ Some held) × Says held.ongoing

-- it holds nothing, and that is told
abbrev pub IsEmpty : Handle → ℕ → Answer → Type 0
IsEmpty handle status answer = (handle.hidden.held ≡ None) × (status ≡ 32) × (answer ≡ numbers 0 0)
