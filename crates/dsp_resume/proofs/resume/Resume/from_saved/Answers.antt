use Rattle.std.proofs.Common.{◌≡◌, ◌≤◌, ◌∙◌, ap, refl, sym, subst, rules}
use Rattle.dsp_defs.specs.KeptOfScript.{kept}
use Rattle.dsp_defs.specs.Shape.{gathered}
use Rattle.dsp_defs.specs.declared.limits.TheConstants.{MAX_GATHERED}
use Rattle.dsp_defs.specs.declared.script.Script.{Script}
use Rattle.dsp_state.specs.SavedState.{IsSaved}
use Rattle.dsp_resume.proofs.resume.Resume.from_saved.Goals as goal

pub returns : goal.returns
returns g c =
    let saved = c.args.saved in
    let parts = c.into_parts-script.ensures in
    let new = c.in_ok-session.ensures in
    let restored = c.restore.ensures in
    let script : c.in_ok-session.session.script ≡ saved.script = new.script_is ∙ parts.script in
    let frames : c.from.result ≡ saved.frames = c.from.ensures ∙ parts.frames in
    let holds : IsSaved saved = search rules in
    let full : gathered saved.script.blocks saved.frames ≤ MAX_GATHERED = holds.fits.gathers in
    record {
      script_is = restored.same.script ∙ script;
      block_is = restored.same.block ∙ new.block_is;
      runs = record {
        holds = restored.holds;
        running = restored.running;
        works = restored.works;
        live = restored.live;
        not_full =
            subst (λ n. gathered c.restore.new.self.script.blocks n ≤ MAX_GATHERED) (sym (restored.counted ∙ frames))
            (subst (λ (s : Script). gathered s.blocks saved.frames ≤ MAX_GATHERED)
            (sym (restored.same.script ∙ script)) full);
      };
      frames_is = parts.frames;
      plain = restored.same.banked ∙ new.banked_is;
      goes = refl;
      counted = restored.counted ∙ frames;
      stands = λ x long are. restored.stands x (long ∙ sym frames)
          (c.deref.ensures.value ∙ parts.numbers ∙ are ∙ ap (λ (s : Script). kept s x) (sym script));
    }
