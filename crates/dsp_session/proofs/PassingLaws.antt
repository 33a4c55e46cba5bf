-- A stream goes on block by block.
use Rattle.std.proofs.Common.{◌≡◌, ℕ, suc, ◌+◌, ◌-◌, ◌*◌, ◌<◌, ◌≤◌, List, [], ◌++◌, length, take, sym, ap, ◌∙◌, subst}
use Rattle.std.proofs.Common.{arith, append_assoc, append-nil, length-append, inl}
use Rattle.std.proofs.lemmas.List.{take_all}
use Rattle.dsp_ports.specs.Ports.{SourceState, SinkState, Gave, Took, one_more as fault_more}
use Rattle.dsp_ports.proofs.Moved.{Gave-append, Took-append}
use Rattle.dsp_defs.specs.Counts.{Counts}
use Rattle.dsp_defs.specs.Output.{output_header, live_bytes, part}
use Rattle.dsp_defs.specs.Shape.{gathered, held}
use Rattle.dsp_defs.specs.declared.limits.TheConstants.{MAX_GATHERED, MAX_INPUT}
use Rattle.dsp_defs.specs.declared.script.Script.{Script}
use Rattle.dsp_defs.specs.declared.wave.Header.{Header}
use Rattle.dsp_unit.proofs.CostLaws.{live_cost_within}
use Rattle.dsp_input.specs.declared.fault.InputFault.{InputFault}
use Rattle.dsp_input.specs.declared.fault.InputFault.TheVariants as input_fault
use Rattle.dsp_input.specs.Taking.{BlockRead, Fits, InDeclared, IsUnread, Opens, Unread, declared_bytes, frame_bytes}
use Rattle.dsp_input.specs.Taking.{frames_in_bytes}
use Rattle.dsp_session.specs.SessionState.{SessionState}
use Rattle.dsp_session.specs.Session.{IsReady, StandsFor, signal, block_bytes, cost_of, live_cost_of, turns_of}
use Rattle.dsp_session.specs.Session.{calls_turns}
use Rattle.dsp_session.specs.Opening.{Begun, of_input}
use Rattle.dsp_session.specs.Stream.{IsCause, HasWritten, WrotePart, CountsFault, Stopped, Part, in_whole_blocks}
use Rattle.dsp_session.specs.Passing.{PassCosts, FailsToPass, Passed}
use Rattle.dsp_session.specs.declared.fault.LengthFault.TheVariants as length_fault
use Rattle.dsp_session.specs.declared.fault.StreamFault.{StreamFault}
use Rattle.dsp_session.specs.declared.fault.StreamFault.TheVariants as fault
use Rattle.dsp_session.proofs.OpeningLaws.{some_frame, frames_of_blocks, signal-append, frames-whole, frames_are}
use Rattle.dsp_session.proofs.OpeningLaws.{part_blocks}
use Rattle.dsp_session.proofs.BlockLaws.{Standing, block_some, blocks_keep, in_blocks, in_declared, stops_between}
use Rattle.dsp_session.proofs.BlockLaws.{stops_within, whole_blocks_are}
use Rattle.dsp_session.proofs.OpenLaws.{some_block, input_cause}
use Rattle.dsp_input.proofs.CauseLaws.{unread_by}
use Rattle.dsp_session.proofs.FeedLaws.{quiet_script}
use Rattle.dsp_session.proofs.TurnLaws.{turns_behind}

-- all the blocks so far have passed
pub record Going (script : Script) (block : ℕ) (header : Header) (taken : ℕ) (session : SessionState)
    (input now : SourceState) (sink after : SinkState) (before counts : Counts) : Type 0 where
  pub heard : List ℕ
  pub blocks : ℕ
  pub script_is : session.script ≡ script
  pub block_is : session.block ≡ block
  pub coding_is : session.coding ≡ header.coding
  pub stands : StandsFor session (signal script header.coding heard)
  pub blocks_heard : length heard ≡ blocks * block_bytes script header.coding block
  pub taken_is : taken ≡ length heard
  pub declared : InDeclared (declared_bytes script header) taken
  pub in_limit : header.start + taken ≤ MAX_INPUT
  pub gave : Gave input now heard
  pub took : Took sink after (live_bytes script (signal script header.coding heard))
  pub not_full : gathered script.blocks (blocks * block) ≤ MAX_GATHERED
  pub going : now.ended ≡ input.ended
  pub no_input_fault : now.faults ≡ input.faults
  pub no_output_fault : after.faults ≡ sink.faults
  pub cost : counts.multiplies ≡ before.multiplies + live_cost_of script (length (signal script header.coding heard))
  pub turned : counts.turns ≤ before.turns + calls_turns session.banked script block (blocks * block) blocks

module _ (script : Script) (block : ℕ) (ready : IsReady script block) (header : Header) (taken : ℕ)
    (session : SessionState) (input now : SourceState) (sink then : SinkState) (before counts : Counts)
    (going : Going script block header taken session input now sink then before counts) where
  abbrev heard : List ℕ
  heard = going.heard

  abbrev size : ℕ
  size = block_bytes script header.coding block

  abbrev live_heard : List ℕ
  live_heard = live_bytes script (signal script header.coding heard)

  frame : 0 < frame_bytes script header.coding
  frame = some_frame script header.coding block ready

  whole : length heard ≡ going.blocks * block * frame_bytes script header.coding
  whole = frames_of_blocks script header.coding block going.blocks (length heard) going.blocks_heard

  frames_taken : length (signal script header.coding heard) ≡ going.blocks * block
  frames_taken = frames-whole script header.coding frame heard (going.blocks * block) whole

  together : (bytes : List ℕ) → InDeclared (declared_bytes script header) (taken + length bytes) →
      InDeclared (declared_bytes script header) (length (heard ++ bytes))
  together bytes declared = in_declared (declared_bytes script header) (taken + length bytes)
      (length (heard ++ bytes)) (omega (arith, going.taken_is, length-append heard bytes)) declared

  -- a block came
  module _ (later : SourceState) (count : ℕ) (piece : List ℕ) (long : length piece ≡ size)
      (full : length piece ≤ count) (read : BlockRead script header taken piece count now later) where
    gave_piece : Gave now later piece
    gave_piece = subst (Gave now later) (take_all count piece full) read.gave

    more_heard : length (heard ++ piece) ≡ (going.blocks + 1) * size
    more_heard = omega (arith, length-append heard piece, going.blocks_heard, long)

    more_signal : signal script header.coding (heard ++ piece) ≡ signal script header.coding heard ++ signal script
        header.coding piece
    more_signal = signal-append script header.coding frame heard piece (going.blocks * block) whole

    piece_declared : InDeclared (declared_bytes script header) (taken + length piece)
    piece_declared = in_declared (declared_bytes script header) (taken + count) (taken + length piece)
        (omega (arith, read.within, full)) read.declared

    more_frames : length (signal script header.coding heard ++ signal script header.coding piece) ≡ suc going.blocks *
        block
    more_frames = length-append (signal script header.coding heard) (signal script header.coding piece) ∙
        omega (arith, frames_taken, frames-whole script header.coding frame piece block long)

    passed_turns : (passed : Counts) → PassCosts session.banked script header.coding
        (signal script header.coding heard) piece counts passed →
        passed.turns ≤ counts.turns + turns_of session.banked script (going.blocks * block) (suc going.blocks * block)
    passed_turns passed costs = subst (λ n. passed.turns ≤ counts.turns + n)
        (λ i. turns_of session.banked script (frames_taken i) (more_frames i)) costs.turned

  -- from the begin of the input on
  module _ (origin : SourceState) (empty : SinkState) (begun : Begun script header origin input empty sink) where
    abbrev first : List ℕ
    first = begun.opened.first

    abbrev opens : Opens script header first
    opens = begun.opened.opens

    abbrev wrote : List ℕ
    wrote = output_header script header ++ live_heard

    all_given : (later : SourceState) (bytes : List ℕ) → Gave now later bytes →
        Gave origin later (first ++ (heard ++ bytes))
    all_given later bytes gave = Gave-append origin input later first (heard ++ bytes) begun.opened.going
        begun.opened.gave (Gave-append input now later heard bytes going.going going.gave gave)

    all_took : Took empty then wrote
    all_took = Took-append empty sink then (output_header script header) live_heard begun.took going.took

    clean : (later : SourceState) → later.faults ≡ now.faults → later.faults ≡ origin.faults
    clean later same = same ∙ going.no_input_fault ∙ begun.opened.no_fault

    no_fault_written : then.faults ≡ empty.faults
    no_fault_written = going.no_output_fault ∙ begun.no_fault

    standing : (later : SourceState) (bytes : List ℕ) → Gave now later bytes →
        InDeclared (declared_bytes script header) (taken + length bytes)
        → header.start + taken + length bytes ≤ MAX_INPUT → length bytes ≤ size
        → Standing session.banked script block header first going.blocks heard bytes origin later empty then
        before counts
    standing later bytes gave declared limit short = record {
      whole = going.blocks_heard;
      short = short;
      declared = together bytes declared;
      in_limit = omega (arith, limit, going.taken_is, length-append heard bytes);
      gave = all_given later bytes gave;
      took = all_took;
      cost = going.cost;
      turned = going.turned;
    }

    -- less than a block came
    module _ (later : SourceState) (error : InputFault) (unread : Unread script header taken size error now later) where
      abbrev bytes : List ℕ
      bytes = unread.bytes

      abbrev given : List ℕ
      given = first ++ (heard ++ bytes)

      declared : InDeclared (declared_bytes script header) (length (heard ++ bytes))
      declared = together bytes unread.declared

      whole_blocks : in_whole_blocks block (frames_in_bytes script given) ≡ going.blocks * block
      whole_blocks = whole_blocks_are script block ready header first opens going.blocks heard bytes declared
          going.blocks_heard unread.short

      cause_of : (f : InputFault) → IsUnread f script header (taken + length bytes) now later →
          IsCause (of_input f) script block given later
      cause_of f unread =
          input_cause f script block given later
          (unread_by script header first opens (heard ++ bytes) (taken + length bytes)
          (omega (arith, going.taken_is, length-append heard bytes)) now later f unread)

      part_written : WrotePart script block (in_whole_blocks block (frames_in_bytes script given)) given wrote empty
          then before counts
      part_written =
          Part (opens.has (heard ++ bytes))
          (sym (part_blocks script header frame first opens block going.blocks heard bytes going.blocks_heard
          unread.short declared))
          (blocks_keep script block header given (opens.said (heard ++ bytes)) begun.fits whole_blocks going.not_full)
          (going.cost ∙ ap (λ n. before.multiplies + live_cost_of script n) (frames_taken ∙ sym whole_blocks))

      written : (f : InputFault) → HasWritten (of_input f) script block given wrote later empty then before counts
      written input_fault.Failed = part_written
      written (input_fault.Limit told most) = part_written
      written (input_fault.Header f offset) = part_written

      faults : (f : InputFault) → IsUnread f script header (taken + length bytes) now later →
          CountsFault (of_input f) origin later empty then
      faults input_fault.Failed unread = (
        unread.0 ∙ ap fault_more (going.no_input_fault ∙ begun.opened.no_fault),
        no_fault_written,
      )
      faults (input_fault.Limit told most) unread = (clean later unread.3, no_fault_written)
      faults (input_fault.Header f offset) (_, _, _, _, _, same, _) =
          (clean later same, no_fault_written)

      pub stops_unread : Stopped session.banked script block (of_input error) origin later empty then before counts
      stops_unread =
          stops_between script block ready header first opens session.banked going.blocks heard bytes origin later
          empty then before counts
          (standing later bytes unread.gave unread.declared unread.in_limit (omega (arith, unread.short)))
          (of_input error) (cause_of error unread.cause) (written error) (faults error unread.cause)

    -- a part of a block came, since the samples have ended
    pub passes : (later : SourceState) (count : ℕ) (piece : List ℕ) → length piece ≡ size → count < length piece →
        BlockRead script header taken piece count now later
        → Passed script block session header piece (record { before = taken; count = count }) origin later empty then
        before counts
    passes later count piece long short read =
        record {
          first = first;
          heard = heard;
          blocks = going.blocks;
          script_is = going.script_is;
          block_is = going.block_is;
          coding_is = going.coding_is;
          opens = opens;
          stands = going.stands;
          heard_count = going.taken_is;
          blocks_heard = going.blocks_heard;
          size = long;
          short = short;
          in_limit = omega (arith, read.in_limit);
          room_left = λ none. omega (arith, read.room_left short none);
          declared = read.declared;
          ended = read.end short;
          gave = all_given later (take count piece) read.gave;
          took = all_took;
          no_input_fault = clean later read.no_fault;
          no_output_fault = no_fault_written;
          fits = begun.fits;
          not_full = going.not_full;
          cost = going.cost;
          turned = going.turned;
        }

    -- a block came, and the output failed within its values, or a correlation was full
    module _ (later : SourceState) (count : ℕ) (piece : List ℕ) (long : length piece ≡ size)
        (full : length piece ≤ count) (read : BlockRead script header taken piece count now later) where
      abbrev taken_bytes : List ℕ
      taken_bytes = first ++ (heard ++ piece)

      abbrev frames : ℕ
      frames = frames_in_bytes script taken_bytes

      all_declared : InDeclared (declared_bytes script header) (length ((heard ++ piece) ++ []))
      all_declared = subst (λ ys. InDeclared (declared_bytes script header) (length ys))
          (sym (append-nil (heard ++ piece))) (together piece (piece_declared later count piece long full read))

      -- what the blocks with this one give
      part_is : part script block taken_bytes ≡ output_header script header ++ live_bytes script
          (signal script header.coding (heard ++ piece))
      part_is = ap (λ xs. part script block (first ++ xs)) (sym (append-nil (heard ++ piece))) ∙
          part_blocks script header frame first opens block (going.blocks + 1) (heard ++ piece) []
          (more_heard later count piece long full read) (some_block script header.coding block ready) all_declared

      written_whole : (added : List ℕ) → live_bytes script
          (signal script header.coding heard ++ signal script header.coding piece) ≡ live_heard ++ added
          → part script block taken_bytes ≡ wrote ++ added
      written_whole added is =
          part_is ∙ ap (λ x. output_header script header ++ live_bytes script x)
          (more_signal later count piece long full read)
          ∙ ap (λ xs. output_header script header ++ xs) is
          ∙ sym (append_assoc (output_header script header) live_heard added)

      all_frames : length (signal script header.coding heard ++ signal script header.coding piece) ≡ frames
      all_frames = ap length (sym (more_signal later count piece long full read)) ∙
          sym (frames_are script header frame first opens (heard ++ piece)
          (together piece (piece_declared later count piece long full read)))

      frames_all : frames ≡ suc going.blocks * block
      frames_all = sym all_frames ∙ more_frames later count piece long full read

      with_piece : Standing session.banked script block header first going.blocks heard piece origin later empty then
          before counts
      with_piece = standing later piece (gave_piece later count piece long full read)
          (piece_declared later count piece long full read) (omega (arith, read.in_limit, full)) (omega (arith, long))

      -- a correlation would gather too many
      overfull : (told more : ℕ) → MAX_GATHERED < gathered script.blocks
          (length (signal script header.coding heard ++ signal script header.coding piece))
          → told ≡ held script.blocks (length (signal script header.coding heard)) →
          more + told ≡ gathered script.blocks
          (length (signal script header.coding heard ++ signal script header.coding piece))
          → Stopped session.banked script block (fault.Lengths (length_fault.Gather told more)) origin later empty then
          before counts
      overfull told more over held_is more_is =
          let before_it : in_whole_blocks block (frames - 1) ≡ going.blocks * block =
          in_blocks going.blocks block (frames - 1) (block_some script block ready)
          (omega (arith, frames_all, block_some script block ready))
          (omega (arith, frames_all, block_some script block ready)) in
          let worked : length (signal script header.coding heard) ≡ in_whole_blocks block (frames - 1) =
          frames_taken ∙ sym before_it in
          let quiet = quiet_script script block ready (length
          (signal script header.coding heard ++ signal script header.coding piece)) (omega (arith, over)) in
          let parted : part script block taken_bytes ≡ wrote =
          part_is ∙ ap (λ xs. output_header script header ++ xs)
          (quiet (signal script header.coding (heard ++ piece)) ∙ sym (quiet (signal script header.coding heard))) in
          stops_between script block ready header first opens session.banked going.blocks heard piece origin later empty
          then before counts with_piece (fault.Lengths (length_fault.Gather told more)) (
            opens.has (heard ++ piece),
            record {
              over = subst (λ n. MAX_GATHERED < gathered script.blocks n) all_frames over;
              has_is = held_is ∙ ap (held script.blocks) worked;
              more_is = more_is ∙ ap (gathered script.blocks) all_frames;
              no_window = λ fewer. absurd (omega (arith, fewer, before_it, frames_all));
            },
          )
          (Part (opens.has (heard ++ piece)) (sym parted)
          (record {
            fits = subst (Fits script) (sym (opens.said (heard ++ piece))) begun.fits;
            not_full = subst (λ n. gathered script.blocks n ≤ MAX_GATHERED) (sym before_it) going.not_full;
          })
          (going.cost ∙ ap (λ n. before.multiplies + live_cost_of script n) worked))
          (clean later read.no_fault, no_fault_written)

      pub stops_unpassed : (last : SinkState) (passed : Counts) (stop : StreamFault) → FailsToPass stop session.banked
          script header.coding (signal script header.coding heard) piece then last counts passed →
          Stopped session.banked script block stop origin later empty last before passed
      stops_unpassed last passed fault.Output
          (added, written, is, (rest, split), less, put, risen, costs, kept) =
          let all = written_whole added is in
          let fits = blocks_keep script block header taken_bytes (opens.said (heard ++ piece)) begun.fits
          (in_blocks (suc going.blocks) block frames (block_some script block ready) (omega (arith, frames_all))
          (omega (arith, frames_all, block_some script block ready)))
          (subst (λ n. gathered script.blocks n ≤ MAX_GATHERED) (all_frames ∙ frames_all) kept) in
          stops_within script block ready header first opens session.banked going.blocks heard piece origin later empty
          then before counts with_piece written last passed put (
            fits,
            inl (
              (rest, all ∙ ap (λ xs. wrote ++ xs) split ∙ sym (append_assoc wrote written rest)),
              omega (arith, ap length all, length-append wrote added, length-append wrote written, less),
            ),
          )
          (clean later read.no_fault, risen ∙ ap fault_more no_fault_written)
          (subst (λ n. passed.multiplies ≤ before.multiplies + n) (ap (cost_of script) all_frames)
          (omega (
            arith,
            costs.rise,
            going.cost,
            live_cost_within script.input.format script.input.channels script.blocks
                (length (signal script header.coding heard ++ signal script header.coding piece))
                (length (signal script header.coding heard ++ signal script header.coding piece)) (omega arith),
          )))
          (turns_behind session.banked script block going.blocks frames before.turns counts.turns passed.turns
          (block_some script block ready) (omega (arith, frames_all)) (omega (arith, frames_all)) going.turned
          (subst (λ n. passed.turns ≤ counts.turns + turns_of session.banked script (going.blocks * block) n)
          (sym (more_frames later count piece long full read) ∙ all_frames)
          (passed_turns later count piece long full read passed costs)))
      stops_unpassed last passed (fault.Lengths (length_fault.Gather told more)) (over, held_is, more_is, same, still) =
          let stop = fault.Lengths (length_fault.Gather told more) in
          subst (λ made. Stopped session.banked script block stop origin later empty last before made) (sym still)
          (subst (λ after. Stopped session.banked script block stop origin later empty after before counts) (sym same)
          (overfull told more over held_is more_is))
      stops_unpassed last passed _ none = absurd none
