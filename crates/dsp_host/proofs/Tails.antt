-- The tail of a session, piece by piece, at the front of an output.
use Rattle.std.proofs.Common.{◌≡◌, ◌∙◌, sym, ap, subst, ℕ, ◌+◌, ◌-◌, ◌*◌, ◌≤◌, List, ◌++◌, length, take, drop}
use Rattle.std.proofs.Common.{append-nil, None, arith}
use Rattle.std.proofs.Math.Nat.{mul-le-mul_right, mul-sub, mul_comm}
use Rattle.std.proofs.lemmas.List.{take-append-drop, drop-drop}
use Rattle.std.proofs.lemmas.Slice.{take-put_mid, drop-put_mid}
use borrow.Rule.Slice.PartMut.{put_mid}
use Rattle.dsp_defs.specs.Block.{Frame}
use Rattle.dsp_defs.specs.Counts.{Counts}
use Rattle.dsp_defs.specs.Output.{live_bytes, whole_bytes}
use Rattle.dsp_defs.specs.Shape.{frames_behind, live_frames, whole_frames}
use Rattle.dsp_defs.specs.declared.script.Script.{Script}
use Rattle.dsp_chain.specs.Chain.{given_of}
use Rattle.dsp_session.specs.Advancing.{Runs}
use Rattle.dsp_session.specs.Session.{StandsFor, SameSession, Ends, given_bytes, measured, measures_of, tail_bytes}
use Rattle.dsp_session.specs.Session.{whole_values}
use Rattle.dsp_session.specs.SessionState.{SessionState}
use Rattle.dsp_session.proofs.EndLaws.{Tailing, tail_goes_on, tail_ends, tail_measured}

-- so many bytes of the tail were given, to the front of an output that was `first`
pub record TailSoFar (old now : SessionState) (given : ℕ) (first out : List ℕ) (before counts : Counts) : Type 0 where
  pub same : SameSession old now
  pub counted : now.chain.frames ≡ old.chain.frames
  pub works : now.chain.failed ≡ None
  pub size : given + given_of old.chain * given_bytes old.script ≡ given_of now.chain * given_bytes old.script
  pub rest : drop given out ≡ drop given first
  pub tailing : (x : List Frame) → StandsFor old x → Tailing old.script x (length (whole_values old.script x)) 0 now
      (take given out) before counts

-- bytes of frames more
sum : (given answer before frames more after f : ℕ) → given + before * f ≡ frames * f → answer ≡ more * f →
    after ≡ frames + more → given + answer + before * f ≡ after * f
sum given answer before frames more after f so_far is all =
    let apart : (frames + more) * f ≡ frames * f + more * f = grind arith in
    let one : after * f ≡ (frames + more) * f = ap (λ n. n * f) all in
    omega (arith, so_far, is, apart, one)

difference : (whole live f : ℕ) → (whole - live) * f ≡ whole * f - live * f
difference whole live f = mul_comm (whole - live) f ∙ mul-sub f whole live ∙
    (λ i. mul_comm f whole i - mul_comm f live i)

module _ (old now next : SessionState) (runs : Runs old) (given : ℕ) (first out : List ℕ) (before counts : Counts)
    (so_far : TailSoFar old now given first out before counts)
    (answer : ℕ) (counted : Counts) (ends : Ends now next answer counts counted) (same : SameSession now next)
    (answer_is : answer ≡ length next.out) where
  abbrev script : Script
  script = old.script

  abbrev f : ℕ
  f = given_bytes old.script

  abbrev n : ℕ
  n = old.chain.frames

  script_next : next.script ≡ old.script
  script_next = same.script ∙ so_far.same.script

  frames_next : next.chain.frames ≡ n
  frames_next = ends.counted ∙ so_far.counted

  pub same_next : SameSession old next
  same_next = record {
    script = script_next;
    banked = same.banked ∙ so_far.same.banked;
    block = same.block ∙
        so_far.same.block;
    coding = same.coding ∙ so_far.same.coding;
  }

  size_next : given + answer + given_of old.chain * f ≡ given_of next.chain * f
  size_next = sum given answer (given_of old.chain) (given_of now.chain) (length ends.given) (given_of next.chain) f
      so_far.size (answer_is ∙ ends.frames.long ∙ ap (λ (s : Script). length ends.given * given_bytes s)
      so_far.same.script) ends.frames.gives

  live : given_of old.chain ≡ frames_behind live_frames script.blocks n
  live = runs.live.given ∙ ap (λ blocks. frames_behind live_frames blocks n) runs.holds.blocks

  whole : frames_behind whole_frames next.script.blocks next.chain.frames ≡ frames_behind whole_frames script.blocks n
  whole = (λ i. frames_behind whole_frames (script_next i).blocks (frames_next i))

  -- what was given is no more than the tail has
  pub within : given + answer ≤ tail_bytes script n
  within =
      let few : given_of next.chain ≤ frames_behind whole_frames script.blocks n =
      subst (λ m. given_of next.chain ≤ m) whole ends.few in
      let most = mul-le-mul_right f few in
      let tail = difference (frames_behind whole_frames script.blocks n) (frames_behind live_frames script.blocks n) f
      in
      let start : given_of old.chain * f ≡ frames_behind live_frames script.blocks n * f = ap (λ m. m * f) live in
      omega (arith, most, tail, start, size_next)

  -- nothing came: all of it was given
  pub whole_tail : answer ≡ 0 → given ≡ tail_bytes script n
  whole_tail zero =
      let spent : given_of next.chain ≡ frames_behind whole_frames script.blocks n =
      (ends.spent zero so_far.works).given ∙ ap (λ blocks. frames_behind whole_frames blocks next.chain.frames)
      ends.holds.blocks ∙ whole in
      let most : given_of next.chain * f ≡ frames_behind whole_frames script.blocks n * f = ap (λ m. m * f) spent in
      let tail = difference (frames_behind whole_frames script.blocks n) (frames_behind live_frames script.blocks n) f
      in
      let start : given_of old.chain * f ≡ frames_behind live_frames script.blocks n * f = ap (λ m. m * f) live in
      omega (arith, most, tail, start, size_next, zero)

  pub front : out ≡ take given out ++ drop given first
  front = sym (take-append-drop given out) ∙ ap (λ bytes. take given out ++ bytes) so_far.rest

  pub tail : answer ≡ 0 → (x : List Frame) → StandsFor old x →
      whole_bytes script x ≡ live_bytes script x ++ take given out
  tail zero x stands =
      sym (append-nil (whole_bytes script x)) ∙ sym (tail_ends script x _ 0 now (take given out) before counts
      (so_far.tailing x stands) next answer counted ends same zero answer_is)

  pub measures : answer ≡ 0 → (x : List Frame) → StandsFor old x → measured next ≡ measures_of script x
  measures zero x stands = tail_measured script x _ 0 now (take given out) before counts (so_far.tailing x stands)
      next answer counted ends same zero

  -- another piece
  module _ (some : answer ≡ 0 → ⊥) (room : given + answer ≤ length out) (piece : List ℕ) (piece_is : piece ≡ next.out)
    where
      abbrev later : List ℕ
      later = put_mid given (given + answer - given) out piece

      piece_long : length piece ≡ answer
      piece_long = ap length piece_is ∙ sym answer_is

      written : take (given + answer) later ≡ take given out ++ next.out
      written =
          take-put_mid given (given + answer - given) out piece (given + answer) (omega (arith, piece_long))
          (omega (arith, room))
          ∙ ap (λ bytes. take given out ++ bytes) piece_is

      rest : drop (given + answer) later ≡ drop (given + answer) first
      rest =
          drop-put_mid given (given + answer - given) out piece (given + answer) (omega arith) (omega (arith, room))
          (omega (arith, piece_long))
          ∙ sym (drop-drop answer given out) ∙ ap (drop answer) so_far.rest ∙ drop-drop answer given first

      pub goes_on : TailSoFar old next (given + answer) first later before counted
      goes_on = record {
        same = same_next;
        counted = frames_next;
        works = ends.failed ∙ so_far.works;
        size = size_next;
        rest = rest;
        tailing = λ x stands.
            let tailing = tail_goes_on script x (length (whole_values script x)) 0 now (take given out) before counts
            (so_far.tailing x stands) next answer counted ends same some answer_is in
            record {
              script_is = tailing.script_is;
              ys = tailing.ys;
              gave = tailing.gave;
              many = omega arith;
              few = tailing.few;
              so_far = tailing.so_far ∙ ap (λ bytes. live_bytes script x ++ bytes) (sym written);
              made = tailing.made;
            };
      }
