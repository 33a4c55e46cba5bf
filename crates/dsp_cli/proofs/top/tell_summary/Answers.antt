use Rattle.std.proofs.Common.{◌∙◌, rules}
use Rattle.dsp_cli.proofs.ReportLaws.{wrote-behind, tells-front, tells-all, tells-behind, head-begins}
use Rattle.dsp_cli.proofs.top.tell_summary.Goals as goal

pub returns-in_err-write_all-clause-tells : goal.returns-in_err-write_all-clause-tells
returns-in_err-write_all-clause-tells g c =
    let (count, less, took) = rw (c.deref.ensures.0, c.head_of.ensures) at c.in_err-write_all.ensures.took in
    tells-front _ _ _ _ (head-begins _ _ count) took.put c.in_err-write_all.ensures.faults

pub returns-in_err-tell_measures-clause-tells : goal.returns-in_err-tell_measures-clause-tells
returns-in_err-tell_measures-clause-tells g c =
    let took = rw (c.deref.ensures.0, c.head_of.ensures) at c.in_ok-write_all.ensures.took in
    tells-behind _ (g.R.Sink.state c.write_all.new.sink) _ _ _ took.put c.in_ok-write_all.ensures.faults
    (rw c.deref-2.ensures.value at c.in_err-tell_measures.ensures.tells)

pub returns-in_err-flush-clause-tells : goal.returns-in_err-flush-clause-tells
returns-in_err-flush-clause-tells g c =
    let took = rw (c.deref.ensures.0, c.head_of.ensures) at c.in_ok-write_all.ensures.took in
    let more = rw c.deref-2.ensures.value at c.in_ok-tell_measures.ensures.wrote in
    tells-all _ _ _ (c.in_err-flush.ensures.flushed.put ∙ wrote-behind (g.R.Sink.state c.args.report.now)
    (g.R.Sink.state c.write_all.new.sink) (g.R.Sink.state c.tell_measures.new.report) _ _ took.put more)

pub returns-clause-wrote : goal.returns-clause-wrote
returns-clause-wrote g c =
    let took = rw (c.deref.ensures.0, c.head_of.ensures) at c.in_ok-write_all.ensures.took in
    let more = rw c.deref-2.ensures.value at c.in_ok-tell_measures.ensures.wrote in
    c.in_ok-flush.ensures.flushed.put ∙ wrote-behind (g.R.Sink.state c.args.report.now)
    (g.R.Sink.state c.write_all.new.sink) (g.R.Sink.state c.tell_measures.new.report) _ _ took.put more

pub returns-clause-settled : goal.returns-clause-settled
returns-clause-settled g c = search rules

pub returns-clause-tells : goal.returns-clause-tells
returns-clause-tells g c = tells-all _ _ _ (returns-clause-wrote g c)
