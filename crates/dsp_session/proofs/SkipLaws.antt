-- Samples are passed over, piece by piece.
use Rattle.std.proofs.Common.{◌≡◌, ℕ, ◌+◌, ◌<◌, ◌≤◌, List, [], ◌++◌, length, take, refl, sym, subst, arith}
use Rattle.std.proofs.Common.{◌⊎◌}
use Rattle.dsp_ports.specs.Ports.{SourceState}
use Rattle.dsp_defs.specs.declared.limits.TheConstants.{MAX_INPUT}
use Rattle.dsp_defs.specs.declared.script.Script.{Script}
use Rattle.dsp_defs.specs.declared.wave.Header.{Header}
use Rattle.dsp_input.specs.declared.fault.InputFault.{InputFault}
use Rattle.dsp_input.specs.Taking.{AreAll, InDeclared, PartLost, PartRead, PartUnread, TakenSoFar, declared_bytes}
use Rattle.dsp_input.proofs.PieceLaws.{part_ends, part_fails, part_goes_on, part_going, part_longer}
use Rattle.dsp_input.proofs.PieceLaws.{part_starts}
use Rattle.dsp_session.specs.Resuming.{Skipped}

-- so many bytes were passed over
pub record Skipping (script : Script) (header : Header) (end taken : ℕ) (input now : SourceState) : Type 0 where
  pub bytes : List ℕ
  pub long : length bytes ≡ taken
  pub so_far : TakenSoFar script header end bytes input now
  pub going : now.ended ≡ input.ended

pub skip_starts : (script : Script) (header : Header) (end : ℕ) (input : SourceState) → header.start ≤ MAX_INPUT →
    Skipping script header end 0 input input
skip_starts script header end input limit = record {
  bytes = [];
  long = refl;
  so_far =
      part_starts script header end input limit;
  going = refl;
}

module _ (script : Script) (header : Header) (end taken : ℕ) (input now : SourceState)
    (skipping : Skipping script header end taken input now) where
  module _ (piece : List ℕ) (count : ℕ) (later : SourceState)
      (read : PartRead script header end taken piece count now later) where
    here : PartRead script header end (length skipping.bytes) piece count now later
    here = subst (λ n. PartRead script header end n piece count now later) (sym skipping.long) read

    longer : length (skipping.bytes ++ take count piece) ≡ taken + count
    longer = omega (
      arith,
      skipping.long,
      part_longer script header end skipping.bytes input now skipping.so_far
          skipping.going piece count later here,
    )

    pub skip_more : (count < length piece → taken + count ≡ end) →
        Skipping script header end (taken + count) input later
    skip_more full = record {
      bytes = skipping.bytes ++ take count piece;
      long = longer;
      so_far = part_goes_on script header end skipping.bytes input now skipping.so_far skipping.going piece count
          later here;
      going = part_going script header end skipping.bytes input now skipping.so_far skipping.going piece count later
          here
          (λ short. omega (arith, full short, skipping.long));
    }

    pub skip_ends : count < length piece → Skipped script header end (taken + count) input later
    skip_ends short =
        let part = part_ends script header end skipping.bytes input now skipping.so_far skipping.going piece count
        later here short in
        record {
          bytes = skipping.bytes ++ take count piece;
          gave = part.gave;
          long = longer;
          in_part = omega (arith, part.in_part, longer);
          declared = subst (InDeclared (declared_bytes script header)) longer part.declared;
          in_limit = omega (arith, part.in_limit, longer);
          ended = subst (λ n. (n ≡ end) ⊎ AreAll (declared_bytes script header) n later) longer part.ended;
          room_left = λ none before. omega (arith, longer, part.room_left none (omega (arith, longer, before)));
          no_fault = part.no_fault;
          going = λ all. part.going (omega (arith, all, longer));
        }

  pub skip_fails : (size : ℕ) (error : InputFault) (later : SourceState) →
      PartUnread script header end taken size error now later → PartLost script header end error input later
  skip_fails size error later unread =
      part_fails script header end skipping.bytes input now skipping.so_far skipping.going size error later
      (subst (λ n. PartUnread script header end n size error now later) (sym skipping.long) unread)
