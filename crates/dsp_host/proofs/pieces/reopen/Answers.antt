use Rattle.std.proofs.Common.{◌≡◌, ◌∙◌, [], ◌∷◌, sym, subst, inl, arith}
use Rattle.dsp_session.specs.Session.{StandsFor}
use Rattle.dsp_session.proofs.AdvanceLaws.{new_runs}
use Rattle.dsp_host.proofs.pieces.reopen.Goals as goal
use Rattle.std.proofs.lemmas.List.{nil_from_length}

pub returns-then-is_first-clause-ok : goal.returns-then-is_first-clause-ok
returns-then-is_first-clause-ok g c =
    let opened = c.in-Ok.ensures.ok in
    let first = c.is_first.ensures.0 c.if-is_first.true in
    record {
      script = opened.script;
      may = record { reads = opened.reads; legal = opened.legal; fits = inl first };
      behind = record {
        script_is = opened.new.script_is;
        block_is = opened.new.block_is;
        coding_is = opened.new.coding_is;
        counted = opened.new.stands.chain.counted ∙ sym first.0;
        few = omega (arith, first.0);
        runs = new_runs _ opened.new.stands;
        stands = λ x long left.
            subst (StandsFor c.in-Ok.session) (sym (nil_from_length x (long ∙ first.0))) opened.new.stands;
      };
    }
