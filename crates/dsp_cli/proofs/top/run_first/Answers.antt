use Rattle.std.proofs.Common.{subst, IsTrue, rules}
use Rattle.dsp_resume.specs.ResumeState.{IsNewResume}
use Rattle.dsp_cli.specs.Script.{is_legal_for}
use Rattle.dsp_cli.proofs.PerformLaws.{first_by}
use Rattle.dsp_cli.proofs.top.run_first.Goals as goal

pub returns-in-Ok-stop-clause-ok : goal.returns-in-Ok-stop-clause-ok
returns-in-Ok-stop-clause-ok g c =
    let passed : IsTrue c.legal.result = search in
    let legal : IsTrue (is_legal_for c.args.script c.chosen-block.result) = subst IsTrue c.legal.ensures passed in
    first_by c.args.script c.args.frames _ c.in-Ok.resume c.stop.new.self _ _ _ _ _ _
    (subst (λ n. IsNewResume c.args.script n c.args.frames c.in-Ok.resume) c.chosen-block.ensures c.in-Ok.ensures.ok)
    c.into_state.ensures (subst (λ n. IsTrue (is_legal_for c.args.script n)) c.chosen-block.ensures legal)
    c.in-Ok-stop.ensures.ok c.in-Ok-stop.ensures.saved

pub returns-in-Err-clause-err : goal.returns-in-Err-clause-err
returns-in-Err-clause-err g c = search rules
