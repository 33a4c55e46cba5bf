use Rattle.std.proofs.Common.{◌++◌, append_assoc, ap, ◌∙◌, codes, decimal}
use Rattle.dsp_command.specs.Report.{field}
use Rattle.dsp_cli.proofs.fault_line.au_fields.Goals as goal

pub returns-in-Short-clause-items : goal.returns-in-Short-clause-items
returns-in-Short-clause-items c =
    let got = field (codes "got") (decimal c.in-Short.got) in
    rw c.in-Short.is
    (c.natural_field-in-Short.ensures.items ∙ ap (λ items. items ++ got) c.natural_field.ensures.items
    ∙ append_assoc c.args.line.now.items (field (codes "declared") (decimal c.from.result)) got
    ∙ ap (λ n. c.args.line.now.items ++ (field (codes "declared") (decimal n) ++ got)) c.from.ensures)
