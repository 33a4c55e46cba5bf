use Rattle.std.proofs.Common.{◌≡◌, ◌≤◌, ◌∙◌, ◌+◌, ◌-◌, ap, length, take, drop, Ok, arith}
use Rattle.dsp_defs.specs.StateFields.{text_size}
use Rattle.dsp_state.proofs.fields.read_script.Goals as goal

pub returns-in-Some-clause-ok : goal.returns-in-Some-clause-ok
returns-in-Some-clause-ok c =
    let bytes = c.args.bytes.now in
    let (runs, text) = c.in_ok-script.ensures.some c.in-Some.script (ap Ok c.in-Some.is) in
    let size : 16 + c.args.size - 16 ≡ text_size bytes = omega (arith, c.requires.size) in
    let within : 16 + c.args.size ≤ length bytes = omega (arith, c.requires.fields.long, c.if-bytes-size.false) in
    record {
      before = c.requires.fields;
      long = omega (arith, within, c.requires.size);
      runs = runs;
      text = text ∙ ap (λ n. take n (drop 16 bytes)) size;
    }
