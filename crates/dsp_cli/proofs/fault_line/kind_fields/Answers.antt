use Rattle.std.proofs.Common.{◌++◌, append_assoc, ap, ◌∙◌, codes}
use Rattle.dsp_cli.proofs.fault_line.kind_fields.Goals as goal

pub returns-in-NoSuchForm-clause-items : goal.returns-in-NoSuchForm-clause-items
returns-in-NoSuchForm-clause-items c =
    let name = c.format_name.result.now in
    rw c.in-NoSuchForm.is
    (c.text.ensures.items ∙ ap (λ items. items ++ name) c.field_name.ensures.items
    ∙ append_assoc c.args.line.now.items (codes ", format ") name
    ∙ ap (λ n. c.args.line.now.items ++ (codes ", format " ++ n)) c.format_name.ensures.name)
