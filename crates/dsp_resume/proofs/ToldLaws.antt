-- What a part of a run took of its input is what the input told, where it tells its bytes.
use Rattle.std.proofs.Common.{◌≡◌, ℕ, ◌+◌, ◌*◌, ◌≤◌, List, ◌++◌, length, ap, sym, ◌∙◌, arith}
use Rattle.std.proofs.lemmas.List.{take_all}
use Rattle.dsp_defs.specs.Output.{HasHeader, input_header, input_signal, live_bytes, output_header}
use Rattle.dsp_defs.specs.declared.script.Script.{Script}
use Rattle.dsp_session.specs.Session.{frame_bytes}
use Rattle.dsp_session.specs.Stream.{frames_in_bytes}
use Rattle.dsp_session.specs.Resuming.{first_output}
use Rattle.dsp_defs.proofs.OutputLaws.{input_header-append}
pub use Rattle.dsp_input.proofs.InputLaws.{first_stays, told, whole_stays}

module _ (script : Script) (given more : List ℕ) (has : HasHeader script given) (channels : 1 ≤ script.input.channels)
  where
    pub first_output_stays : (frames : ℕ) → length given ≡ (input_header script given).start + frames * frame_bytes
        script (input_header script given).coding → frames ≡ frames_in_bytes script given →
        first_output script frames (given ++ more) ≡ first_output script frames given
    first_output_stays frames all count =
        (λ i. output_header script (input_header-append script given more has i) ++ live_bytes script
        (first_stays script given more has channels frames all count i))
        ∙ ap (λ x. output_header script (input_header script given) ++ live_bytes script x)
        (sym (take_all frames (input_signal script given) (omega (arith, count))))
