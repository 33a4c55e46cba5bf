-- A session that goes on behind the pieces before it, and what is said of its calls is said of its script.
use Rattle.std.proofs.Common.{◌≡◌, ◌∙◌, ap, sym, subst, ℕ, ◌+◌, ◌*◌, ◌<◌, ◌≤◌, ℤ, List, ◌++◌, length, take, drop}
use Rattle.std.proofs.Math.Seq.{take-append_seam}
use Rattle.dsp_defs.specs.Block.{Frame}
use Rattle.dsp_defs.specs.Bytes.{width}
use Rattle.dsp_defs.specs.Counts.{Counts}
use Rattle.dsp_defs.specs.Output.{live_bytes, output_coding}
use Rattle.dsp_defs.specs.Shape.{gathered}
use Rattle.dsp_defs.specs.declared.limits.TheConstants.{MAX_GATHERED}
use Rattle.dsp_defs.specs.declared.script.Script.{Script}
use Rattle.dsp_unit.specs.Line.{place_behind, place_room}
use Rattle.dsp_defs.specs.KeptOfScript.{kept, kept_count}
use Rattle.dsp_session.specs.Session.{Holds, StandsFor, call_room, input_coding, signal}
use Rattle.dsp_session.specs.SessionState.{SessionState}
use Rattle.dsp_session.proofs.FeedLaws.{feed_out}
use Rattle.dsp_host.specs.Ongoing.{IsKeptOf, Pushed}
use Rattle.dsp_host.specs.Opening.{asked}
use Rattle.dsp_host.specs.Pieces.{Accepts, FailsToGoOn, Fed, GoesOn, GoesOnBehind, IsReopened, Refuses, frames_of}
use Rattle.dsp_host.specs.Pieces.{piece_room}
use Rattle.dsp_host.specs.declared.refusal.Refusal.{Refusal}
use Rattle.dsp_host.specs.declared.refusal.Refusal.TheVariants as refusal

-- the room of a call is that of a place
pub room_is : (s : SessionState) → Holds s → call_room s ≡ piece_room s.script s.block
room_is s holds = (λ i. place_room (place_behind (holds.input i) (holds.blocks i)) * width (output_coding s.script))

module _ (text : List ℕ) (block frames : ℕ) (numbers : List ℤ) (s : SessionState)
    (opened : IsReopened text block frames numbers s) where
  abbrev script : Script
  script = opened.script

  abbrev behind : GoesOnBehind opened.script (asked block opened.script) frames numbers s
  behind = opened.behind

  -- ---- what was said of the session is said of its script

  refuses_as : (why : Refusal) (bytes : List ℕ) (room : ℕ) →
      Refuses why s.script s.coding s.block s.chain.frames bytes room →
      Refuses why script (input_coding script) (asked block script) frames bytes room
  refuses_as why bytes room =
      subst (λ n. Refuses why s.script s.coding s.block s.chain.frames bytes room →
      Refuses why script (input_coding script) (asked block script) n bytes room) behind.counted
      (λ r. subst (λ n. Refuses why script (input_coding script) n s.chain.frames bytes room) behind.block_is
      (subst (λ coding. Refuses why script coding s.block s.chain.frames bytes room) behind.coding_is
      (subst (λ (t : Script). Refuses why t s.coding s.block s.chain.frames bytes room) behind.script_is r)))

  accepts_as : (bytes : List ℕ) (room : ℕ) → Accepts s.script s.coding s.block s.chain.frames bytes room →
      Accepts script (input_coding script) (asked block script) frames bytes room
  accepts_as bytes room a =
      subst (λ n. Accepts script (input_coding script) (asked block script) n bytes room) behind.counted
      (subst (λ n. Accepts script (input_coding script) n s.chain.frames bytes room) behind.block_is
      (subst (λ coding. Accepts script coding s.block s.chain.frames bytes room) behind.coding_is
      (subst (λ (t : Script). Accepts t s.coding s.block s.chain.frames bytes room) behind.script_is a)))

  frames_as : (bytes : List ℕ) → frames_of s.script s.coding bytes ≡ frames_of script (input_coding script) bytes
  frames_as bytes = ap (λ (t : Script). frames_of t s.coding bytes) behind.script_is ∙
      ap (λ coding. frames_of script coding bytes) behind.coding_is

  -- the frames of all pieces with these
  all_as : (bytes : List ℕ) → s.chain.frames + frames_of s.script s.coding bytes ≡ frames + frames_of script
      (input_coding script) bytes
  all_as bytes = (λ i. behind.counted i + frames_as bytes i)

  -- ---- a refusal

  pub goes_not : (why : Refusal) (bytes : List ℕ) (room kept_room : ℕ) →
      Refuses why s.script s.coding s.block s.chain.frames bytes room →
      FailsToGoOn why text block frames numbers bytes room kept_room
  goes_not (refusal.Open fault) bytes room kept_room r = absurd r
  goes_not refusal.State bytes room kept_room r = absurd r
  goes_not (refusal.KeptRoom wanted) bytes room kept_room r = absurd r
  goes_not (refusal.Window end full) bytes room kept_room r = absurd r
  goes_not (refusal.Full samples) bytes room kept_room r = absurd r
  goes_not (refusal.Frames frame) bytes room kept_room r =
      record { script = script; may = opened.may; cause = refuses_as (refusal.Frames frame) bytes room r }
  goes_not (refusal.Length most) bytes room kept_room r =
      record { script = script; may = opened.may; cause = refuses_as (refusal.Length most) bytes room r }
  goes_not (refusal.Input limit) bytes room kept_room r =
      record { script = script; may = opened.may; cause = refuses_as (refusal.Input limit) bytes room r }
  goes_not (refusal.Room wanted) bytes room kept_room r =
      record { script = script; may = opened.may; cause = refuses_as (refusal.Room wanted) bytes room r }
  goes_not (refusal.Gather told more) bytes room kept_room r =
      record { script = script; may = opened.may; cause = refuses_as (refusal.Gather told more) bytes room r }

  -- ---- a piece

  module _ (new : SessionState) (count : ℕ) (bytes out after : List ℕ) (before counts : Counts)
      (fed : Fed s new count bytes out after before counts) where
    script_new : new.script ≡ script
    script_new = fed.same.script ∙ behind.script_is

    frames_new : new.chain.frames ≡ frames + frames_of script (input_coding script) bytes
    frames_new = fed.fed.counted ∙ all_as bytes

    kept_new : kept_count new.script new.chain.frames ≡ kept_count script
        (frames + frames_of script (input_coding script) bytes)
    kept_new = (λ i. kept_count (script_new i) (frames_new i))

    -- as many numbers as were wanted
    pub kept_wanted : (wanted n : ℕ) → wanted ≡ kept_count s.script (frames + n) →
        n ≡ frames_of s.script s.coding bytes → kept_count new.script new.chain.frames ≡ wanted
    kept_wanted wanted n is n_is = (λ i. kept_count (fed.same.script i)
        ((fed.fed.counted ∙ (λ j. behind.counted j + sym n_is j)) i)) ∙ sym is

    -- the bytes at the front of the output
    pub front_is : take count after ≡ new.out
    front_is = (λ i. take (fed.count i) (fed.front i)) ∙ take-append_seam new.out (drop count out)

    -- what it gives, and what it leaves
    pub goes : (given : List ℕ) (left : List ℤ) (kept_room : ℕ) → given ≡ new.out →
        length left ≡ kept_count new.script new.chain.frames → length left ≤ kept_room
        → ((x : List Frame) → StandsFor new x → left ≡ kept new.script x) →
        GoesOn text block frames numbers bytes (length out) kept_room given left
    goes given left kept_room given_is count_is few leaves = record {
      script = script;
      may = opened.may;
      accepts = accepts_as bytes (length out) fed.accepts;
      not_full = subst (λ n. n ≤ MAX_GATHERED) (λ i. gathered (script_new i).blocks (frames_new i)) fed.runs.not_full;
      counted = count_is ∙ kept_new;
      kept_few = few;
      gives = λ x long behind_x.
          let stands = behind.stands x long behind_x in
          (λ i. live_bytes (sym behind.script_is i) (x ++ signal (sym behind.script_is i) (sym behind.coding_is i)
          bytes))
          ∙ feed_out s new bytes before counts fed.same fed.fed x stands
          ∙ (λ i. live_bytes (behind.script_is i) x ++ sym given_is i);
      leaves = λ x long behind_x.
          leaves (x ++ signal s.script s.coding bytes) (fed.fed.stands x (behind.stands x long behind_x))
          ∙ (λ i. kept (script_new i) (x ++ signal (behind.script_is i) (behind.coding_is i) bytes));
    }

  -- ---- a signal that is held

  pub held_goes : (new : SessionState) (bytes : List ℕ) (space kept_room : ℕ) (given : List ℕ) (after : List ℤ) →
      Pushed s new bytes space given → IsKeptOf new after
      → length after ≤ kept_room → GoesOn text block frames numbers bytes space kept_room given after
  held_goes new bytes space kept_room given after pushed left few =
      let script_new : new.script ≡ script = pushed.same.script ∙ behind.script_is in
      let frames_new : new.chain.frames ≡ frames + frames_of script (input_coding script) bytes = pushed.counted ∙
      all_as bytes in
      record {
        script = script;
        may = opened.may;
        accepts = accepts_as bytes space pushed.accepts;
        not_full = subst (λ n. n ≤ MAX_GATHERED) (λ i. gathered (behind.script_is i).blocks (all_as bytes i))
            pushed.not_full;
        counted = left.count ∙ (λ i. kept_count (script_new i) (frames_new i));
        kept_few = few;
        gives = λ x long behind_x.
            (λ i. live_bytes (sym behind.script_is i) (x ++ signal (sym behind.script_is i) (sym behind.coding_is i)
            bytes))
            ∙ pushed.gives x (behind.stands x long behind_x)
            ∙ (λ i. live_bytes (behind.script_is i) x ++ given);
        leaves = λ x long behind_x.
            left.leaves (x ++ signal s.script s.coding bytes) (pushed.stands x (behind.stands x long behind_x))
            ∙ (λ i. kept (script_new i) (x ++ signal (behind.script_is i) (behind.coding_is i) bytes));
      }
