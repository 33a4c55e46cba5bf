use Rattle.std.proofs.Common.{◌≡◌, ◌∙◌, ℕ, ◌*◌, ◌<◌, List, [], length, ap, subst, arith}
use Rattle.dsp_defs.specs.declared.format.Coding.{Coding}
use Rattle.dsp_defs.specs.declared.script.Script.{Script}
use Rattle.dsp_defs.proofs.SampleLaws.{length-samples, count-whole}
use Rattle.dsp_session.specs.Session.{frame_bytes, signal}
use Rattle.dsp_program_tests.proofs.host.feed_frames.Goals as goal

frames_are : (script : Script) (coding : Coding) (bytes : List ℕ) (frame n : ℕ) → frame ≡ frame_bytes script coding →
    0 < frame → length bytes ≡ n * frame → length (signal script coding bytes) ≡ n
frames_are script coding bytes frame n is some whole =
    length-samples coding script.input.channels bytes
    ∙ count-whole coding script.input.channels n bytes [] (subst (λ (f : ℕ). 0 < f) is some)
    (whole ∙ ap (λ (f : ℕ). n * f) is)

pub feed-requires-clause-whole : goal.feed-requires-clause-whole
feed-requires-clause-whole g c =
    let s = c.args.session.now in
    let frames = frames_are s.script s.coding c.args.bytes.now c.args.frame c.frames_of.result c.requires.frame
    c.frames_of.ensures.some c.frames_of.ensures.whole in
    rw (frames, ← c.requires.frame) c.frames_of.ensures.whole

pub feed-requires-clause-block : goal.feed-requires-clause-block
feed-requires-clause-block g c =
    let s = c.args.session.now in
    let frames = frames_are s.script s.coding c.args.bytes.now c.args.frame c.frames_of.result c.requires.frame
    c.frames_of.ensures.some c.frames_of.ensures.whole in
    omega (arith, frames)

pub feed-requires-clause-count : goal.feed-requires-clause-count
feed-requires-clause-count g c =
    let s = c.args.session.now in
    let frames = frames_are s.script s.coding c.args.bytes.now c.args.frame c.frames_of.result c.requires.frame
    c.frames_of.ensures.some c.frames_of.ensures.whole in
    omega (arith, frames)

pub returns-clause-frames : goal.returns-clause-frames
returns-clause-frames g c =
    let s = c.args.session.now in
    let frames = frames_are s.script s.coding c.args.bytes.now c.args.frame c.frames_of.result c.requires.frame
    c.frames_of.ensures.some c.frames_of.ensures.whole in
    omega (arith, frames, c.in-Ok.ensures.fed.counted)
