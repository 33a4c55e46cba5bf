use Rattle.dsp_cli.proofs.top.settle.Goals as goal

pub returns-in-Ok-Ran : goal.returns-in-Ok-Ran
returns-in-Ok-Ran g c = rw (c.in-Ok-Ran.is, c.in-Ok-Ran.field-0-is) c.finish_run.ensures

pub returns-in-Ok-Printed : goal.returns-in-Ok-Printed
returns-in-Ok-Printed g c = rw (c.in-Ok-Printed.is, c.in-Ok-Printed.field-0-is)
    (rw c.deref.ensures.value at c.finish.ensures)

pub returns-in-Err : goal.returns-in-Err
returns-in-Err g c = rw c.in-Err.is (
  c.status_of.ensures,
  rw (c.deref-in-Err.ensures.0, c.line_of.ensures) at c.tell.ensures.tells,
)
