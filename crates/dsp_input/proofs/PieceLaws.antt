-- A part of the samples is taken, piece by piece.
use Rattle.std.proofs.Common.{◌≡◌, ◌⊎◌, ℕ, ◌+◌, ◌<◌, ◌≤◌, List, [], ◌++◌, length, take, Option, Some, None, refl}
use Rattle.std.proofs.Common.{sym, ◌∙◌, subst, arith, length-append}
use Rattle.std.proofs.lemmas.List.{length-take-le}
use Rattle.dsp_ports.specs.Ports.{SourceState, Gave}
use Rattle.dsp_ports.proofs.Moved.{Gave-nil, Gave-append}
use Rattle.dsp_defs.specs.declared.limits.TheConstants.{MAX_INPUT}
use Rattle.dsp_defs.specs.declared.script.Script.{Script}
use Rattle.dsp_defs.specs.declared.wave.Header.{Header}
use Rattle.dsp_input.specs.declared.fault.InputFault.{InputFault}
use Rattle.dsp_input.specs.Taking.{AreAll, InDeclared, IsUnread, PartLost, PartRead, PartTaken, PartUnread}
use Rattle.dsp_input.specs.Taking.{TakenSoFar, declared_bytes, in_whole_frames}

pub part_starts : (script : Script) (header : Header) (end : ℕ) (input : SourceState) → header.start ≤ MAX_INPUT →
    TakenSoFar script header end [] input input
part_starts script header end input limit = record {
  gave = Gave-nil input;
  in_part = omega arith;
  declared = none_declared header.size;
  in_limit = omega (arith, limit);
  no_fault = refl;
}
  where
    none_declared : (size : Option ℕ) → InDeclared (elim size
        [ Some s ↦ Some (in_whole_frames script header.coding s) | None ↦ None ]) 0
    none_declared None = tt
    none_declared (Some size) = omega arith

module _ (script : Script) (header : Header) (end : ℕ) (bytes : List ℕ) (input now : SourceState)
    (so_far : TakenSoFar script header end bytes input now) (going : now.ended ≡ input.ended) where
  module _ (piece : List ℕ) (count : ℕ) (later : SourceState)
      (read : PartRead script header end (length bytes) piece count now later) where
    pub part_longer : length (bytes ++ take count piece) ≡ length bytes + count
    part_longer = omega (arith, length-take-le count piece read.within, length-append bytes (take count piece))

    part_gave : Gave input later (bytes ++ take count piece)
    part_gave = Gave-append input now later bytes (take count piece) going so_far.gave read.gave

    pub part_goes_on : TakenSoFar script header end (bytes ++ take count piece) input later
    part_goes_on = record {
      gave = part_gave;
      in_part = omega (arith, part_longer, read.in_part);
      declared = subst (InDeclared (declared_bytes script header)) (sym part_longer) read.declared;
      in_limit = omega (arith, part_longer, read.in_limit);
      no_fault = read.no_fault ∙ so_far.no_fault;
    }

    -- the source goes on where the piece came whole, or the part has ended
    pub part_going : (count < length piece → length bytes + count ≡ end) → later.ended ≡ input.ended
    part_going full = read.going full ∙ going

    pub part_ends : count < length piece → PartTaken script header end (bytes ++ take count piece) input later
    part_ends short = record {
      gave = part_gave;
      in_part = omega (arith, part_longer, read.in_part);
      declared = subst (InDeclared (declared_bytes script header)) (sym part_longer) read.declared;
      in_limit = omega (arith, part_longer, read.in_limit);
      ended = subst (λ n. (n ≡ end) ⊎ AreAll (declared_bytes script header) n later) (sym part_longer)
          (read.ended short);
      room_left = λ none before. omega (
        arith,
        part_longer,
        read.room_left short none (omega (arith, part_longer, before)),
      );
      no_fault = read.no_fault ∙ so_far.no_fault;
      going = λ all. part_going (λ _. omega (arith, all, part_longer));
    }

  pub part_fails : (size : ℕ) (error : InputFault) (later : SourceState) →
      PartUnread script header end (length bytes) size error now later → PartLost script header end error input later
  part_fails size error later unread =
      let rest = unread.unread.bytes in
      let all : length bytes + length rest ≡ length (bytes ++ rest) = sym (length-append bytes rest) in
      record {
        bytes = bytes ++ rest;
        gave = Gave-append input now later bytes rest going so_far.gave unread.unread.gave;
        in_part = omega (arith, unread.in_part, all);
        declared = subst (InDeclared (declared_bytes script header)) all unread.unread.declared;
        in_limit = omega (arith, unread.unread.in_limit, all);
        between = now;
        no_fault = so_far.no_fault;
        cause = subst (λ n. IsUnread error script header n now later) all unread.unread.cause;
      }
