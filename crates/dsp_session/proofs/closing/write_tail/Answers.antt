use Rattle.std.proofs.Common.{[], refl, arith}
use Rattle.std.proofs.lemmas.Result.{err_from_is_err_and}
use Rattle.dsp_ports.proofs.Moved.{Took-nil}
use Rattle.dsp_session.proofs.EndLaws as laws
use Rattle.dsp_session.proofs.closing.write_tail.Goals as goal

pub loop-init : goal.loop-init
loop-init g c =
    record {
      same = record { script = refl; banked = refl; block = refl; coding = refl };
      no_fault = refl;
      counted = refl;
      made = refl;
      turned = omega arith;
      written = [];
      put = (Took-nil (g.K.Sink.state c.args.output.now)).put;
      tailing = λ x stands. laws.tail_starts _ x c.args.frames _ _ refl stands (c.requires x stands);
    }

pub returns-then-end-eq0 : goal.returns-then-end-eq0
returns-then-end-eq0 g c =
    laws.tail_all _ _ _ _ _ _ _ _ _ c.loop.invariant _ _ c.end.ensures.ends c.end.ensures.same
    (λ x stands. c.if-end-eq0.true) c.end.ensures.given

pub returns-in_err-write_out : goal.returns-in_err-write_out
returns-in_err-write_out g c =
    let (error, is, same) = err_from_is_err_and c.from_residual.result c.from_residual.ensures.1 in
    let (count, less, took) = c.in_err-write_out.ensures.took in
    rw (is, c.write_out.ensures.same) (laws.tail_part _ _ _ _ _ _ _ _ _ c.loop.invariant _ _ c.end.ensures.ends
    c.end.ensures.same error count _ took.put c.in_err-write_out.ensures.faults)

pub loop-preserved : goal.loop-preserved
loop-preserved g c =
    rw c.write_out.ensures.same
    (laws.tail_next _ _ _ _ _ _ _ _ _ c.loop.invariant _ _ c.end.ensures.ends c.end.ensures.same c.if-end-eq0.false
    c.end.ensures.given _ c.in_ok-write_out.ensures.took.put c.in_ok-write_out.ensures.faults)

pub returns : goal.returns
returns g c =
    laws.tail_all _ _ _ _ _ _ _ _ _ c.loop.invariant _ _ c.end-spent.ensures.ends c.end-spent.ensures.same
    (λ x stands. laws.tail_spent _ x _ _ _ _ _ _ (c.loop.invariant.tailing x stands) _ _ _ c.end-spent.ensures.ends
    c.end-spent.ensures.same c.loop-test.false c.end-spent.ensures.given) c.end-spent.ensures.given
