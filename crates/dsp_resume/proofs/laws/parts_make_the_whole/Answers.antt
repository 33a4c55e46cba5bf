use Rattle.std.proofs.Common.{◌∙◌, ap, take, ◌++◌, append_assoc, sym}
use Rattle.std.proofs.lemmas.List.{take-append-drop}
use Rattle.dsp_defs.specs.Output.{input_header, input_signal, live_bytes, output_header, output_pad, whole_bytes}
use Rattle.dsp_resume.proofs.laws.parts_make_the_whole.Goals as goal

pub returns : goal.returns
returns c script start from frames input now sink after before counts found done stands =
    let signal = input_signal script done.given in
    let header = input_header script done.given in
    append_assoc (output_header script header) (live_bytes script (take from signal)) done.written
    ∙ ap (λ l. output_header script header ++ l)
    (done.output (take from signal) stands ∙ ap (λ x. whole_bytes script x ++ output_pad script header)
    (take-append-drop from signal))
    ∙ sym (append_assoc (output_header script header) (whole_bytes script signal) (output_pad script header))
