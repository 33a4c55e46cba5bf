-- What a run that was stopped has saved.
use Rattle.std.proofs.Common.{◌≡◌, ◌∙◌, ap, refl, subst, ℕ, ℤ, Bool, false, List, ◌++◌, flat_map}
use Rattle.dsp_defs.specs.Block.{Frame}
use Rattle.dsp_defs.specs.KeptOfScript.{kept}
use Rattle.dsp_defs.specs.StateBytes.{number_bytes, state_head}
use Rattle.dsp_defs.specs.declared.script.Script.{Script}
use Rattle.dsp_session.specs.Session.{SameScript, StandsFor}
use Rattle.dsp_session.specs.SessionState.{SessionState}
use Rattle.dsp_resume.specs.ResumeState.{ResumeState, Saves}

pub saves : (now : ResumeState) (session after : SessionState) (frames : ℕ) (stops : Bool) (state given : List ℕ)
    (numbers : List ℤ)
    → (let inside : ResumeState = record { session = session; frames = frames; stops = stops; state = state } in
    inside ≡ now)
    → now.state ≡ state_head now.session.script now.frames → SameScript session after →
    ((x : List Frame) → StandsFor after x → numbers ≡ kept after.script x)
    → given ≡ state ++ flat_map number_bytes numbers
    → (let new : ResumeState = record { session = after; frames = frames; stops = false; state = given } in
    Saves now new)
saves now session after frames stops state given numbers view head same keeps is =
    let new : ResumeState = record { session = after; frames = frames; stops = false; state = given } in
    subst (λ (r : ResumeState). r.state ≡ state_head r.session.script r.frames → Saves r new) view
    (λ here. record {
      script = same;
      frames = refl;
      over = refl;
      state = λ x stands long. is ∙ (λ i. here i ++ flat_map number_bytes (of_script x stands i));
    })
    head
  where
    of_script : (x : List Frame) → StandsFor after x → numbers ≡ kept session.script x
    of_script x stands = keeps x stands ∙ ap (λ (script : Script). kept script x) same.script
