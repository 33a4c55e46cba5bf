use Rattle.std.proofs.Common.{◌≡◌, ◌∙◌, take, subst}
use Rattle.std.proofs.lemmas.Result.{err_from_is_err_and}
use Rattle.dsp_ports.specs.Ports.{Took}
use Rattle.dsp_defs.specs.Output.{output_pad}
use Rattle.dsp_defs.specs.declared.script.Script.{Script}
use Rattle.dsp_session.proofs.EndLaws as laws
use Rattle.dsp_session.proofs.closing.write_end.Goals as goal

pub returns-in_err-write_tail-clause-written : goal.returns-in_err-write_tail-clause-written
returns-in_err-write_tail-clause-written g c =
    let (error, is, same) = err_from_is_err_and c.from_residual.result c.from_residual.ensures.1 in
    rw (is, same) (laws.tail_cut _ _ _ _ _ c.in_err-write_tail.ensures.written)

pub returns-in_err-write_pad-clause-written : goal.returns-in_err-write_pad-clause-written
returns-in_err-write_pad-clause-written g c =
    let error = err_from_is_err_and c.from_residual-in_err-write_pad.result c.from_residual-in_err-write_pad.ensures.1
    in
    let script : c.script.result.now ≡ c.args.worker.now.script = c.script.ensures.script ∙
    c.in_ok-write_tail.ensures.same.script in
    let (count, less, took) = c.in_err-write_pad.ensures.took in
    let pad = subst (λ (s : Script). Took (g.K.Sink.state c.write_tail.new.output)
    (g.K.Sink.state c.write_pad.new.output) (take count (output_pad s c.args.header))) script took in
    rw error.1 (laws.pad_fails _ _ _ _ _ c.in_ok-write_tail.ensures.written _ count pad)

pub returns-in_err-flush-clause-written : goal.returns-in_err-flush-clause-written
returns-in_err-flush-clause-written g c =
    let error = err_from_is_err_and c.from_residual-in_err-flush.result c.from_residual-in_err-flush.ensures.1 in
    let script : c.script.result.now ≡ c.args.worker.now.script = c.script.ensures.script ∙
    c.in_ok-write_tail.ensures.same.script in
    let pad = subst (λ (s : Script). Took (g.K.Sink.state c.write_tail.new.output)
    (g.K.Sink.state c.write_pad.new.output) (output_pad s c.args.header)) script c.in_ok-write_pad.ensures.took in
    rw error.1 (laws.flush_fails _ _ _ _ _ c.in_ok-write_tail.ensures.written _ _ pad
    c.in_err-flush.ensures.flushed.put)

pub returns-clause-written : goal.returns-clause-written
returns-clause-written g c =
    let script : c.script.result.now ≡ c.args.worker.now.script = c.script.ensures.script ∙
    c.in_ok-write_tail.ensures.same.script in
    let pad = subst (λ (s : Script). Took (g.K.Sink.state c.write_tail.new.output)
    (g.K.Sink.state c.write_pad.new.output) (output_pad s c.args.header)) script c.in_ok-write_pad.ensures.took in
    laws.all_written _ _ _ _ _ c.in_ok-write_tail.ensures.written _ pad c.in_ok-flush.ensures.flushed.put
