use Rattle.std.proofs.Common.{◌≡◌, ◌+◌, ◌*◌, ◌≤◌, take, reverse, length}
use Rattle.std.specs.Prelude.{All, FitsSigned, map}
use Rattle.dsp_defs.specs.Formats.{word}
use Rattle.dsp_defs.specs.Adaptive.{errors_of, lms, outputs_of, weights_before}
use Rattle.dsp_channelwise.specs.Adapting.{pairs_of}
use Rattle.dsp_channelwise.proofs.adapting.lms.Given as goal

-- what is given of the samples so far, and the newest weights
abbrev pub invariant-loop-n : goal.invariant-loop-n
invariant-loop-n g l =
    let given = lms l.format l.post_shift l.mu l.taps (take l.n (pairs_of l.x l.reference)) in
    record {
      outputs : l.outputs.items ≡ map outputs_of given;
      errors : l.errors.items ≡ map errors_of given;
      weights : l.w.items ≡ weights_before (reverse l.taps) (reverse given);
      long : length l.w.items ≡ length l.taps;
      output_fits : All (FitsSigned (word l.format)) l.outputs.items;
      error_fits : All (FitsSigned (word l.format)) l.errors.items;
      products : l.steps.multiplies ≤ l.initial.steps.multiplies + l.n * (2 * length l.taps + 1);
    }
