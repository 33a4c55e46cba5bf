use Rattle.std.proofs.Common.{◌≡◌, ◌∙◌, ap, sym, subst, refl, ℕ, ◌*◌, ◌<◌, List, length, arith}
use Rattle.std.specs.Prelude.{IsTrue, IsFalse}
use Rattle.dsp_session.proofs.OpeningLaws.{frames-whole}
use Rattle.dsp_session.specs.Session.{frame_bytes}
use Rattle.dsp_session.specs.SessionState.{SessionState}
use Rattle.dsp_host.specs.Pieces.{frames_of}
use Rattle.dsp_host.proofs.Behind.{room_is}
use Rattle.dsp_host.proofs.pieces.judge.Goals as goal

-- the frames of bytes that are whole
frames_are : (s : SessionState) (bytes : List ℕ) (frame n : ℕ) → frame ≡ frame_bytes s.script s.coding → 0 < frame →
    length bytes ≡ n * frame → frames_of s.script s.coding bytes ≡ n
frames_are s bytes frame n is some whole = frames-whole s.script s.coding (subst (λ (f : ℕ). 0 < f) is some) bytes n
    (whole ∙ ap (λ (f : ℕ). n * f) is)

pub returns-then-not-is_within-2-clause-err : goal.returns-then-not-is_within-2-clause-err
returns-then-not-is_within-2-clause-err g c =
    let frames = frames_are c.args.session.now c.args.bytes.now _ _ c.frame_bytes-frame.ensures.value
    c.frame_bytes-frame.ensures.some c.in-Some.ensures.some in
    let refused : IsFalse c.is_within-2.result = search in
    (c.block-block.ensures, omega (arith, frames, c.is_within-2.ensures.over refused, c.block-block.ensures))

pub returns-then-not-may_come-clause-err : goal.returns-then-not-may_come-clause-err
returns-then-not-may_come-clause-err g c =
    let frames = frames_are c.args.session.now c.args.bytes.now _ _ c.frame_bytes-frame.ensures.value
    c.frame_bytes-frame.ensures.some c.in-Some.ensures.some in
    let refused : IsFalse c.may_come.result = search in
    (refl, omega (arith, frames, c.may_come.ensures.many refused, c.frames.ensures))

pub returns-clause-ok : goal.returns-clause-ok
returns-clause-ok g c =
    let s = c.args.session.now in
    let frames = frames_are s c.args.bytes.now _ _ c.frame_bytes-frame.ensures.value c.frame_bytes-frame.ensures.some
    c.in-Some.ensures.some in
    let room : IsTrue c.is_within.result = search in
    let few : IsTrue c.is_within-2.result = search in
    let come : IsTrue c.may_come.result = search in
    record {
      whole = c.in-Some.ensures.some ∙ (λ i. sym frames i * c.frame_bytes-frame.ensures.value i);
      few = omega (arith, frames, c.is_within-2.ensures.within few, c.block-block.ensures);
      in_limit = omega (arith, frames, c.may_come.ensures.few come, c.frames.ensures);
      room = (let wanted = room_is s c.requires.runs.holds in
          omega (arith, wanted, c.is_within.ensures.within room, c.room-wanted.ensures));
    }

pub returns-clause-count : goal.returns-clause-count
returns-clause-count g c = sym (frames_are c.args.session.now c.args.bytes.now _ _ c.frame_bytes-frame.ensures.value
    c.frame_bytes-frame.ensures.some c.in-Some.ensures.some)
