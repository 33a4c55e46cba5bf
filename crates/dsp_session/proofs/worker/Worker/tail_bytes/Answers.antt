use Rattle.std.proofs.Common.{◌≡◌, ◌∙◌, ◌*◌, ◌+◌, ◌-◌, ℕ, arith}
use Rattle.dsp_defs.specs.Shape.{frames_behind, live_frames, whole_frames}
use Rattle.dsp_session.proofs.worker.Worker.tail_bytes.Goals as goal

difference : (live tail whole : ℕ) → live + tail ≡ whole → tail ≡ whole - live
difference live tail whole e = omega (arith, e)

pub returns : goal.returns
returns g c =
    let n = c.self.inside.chain.frames in
    let blocks = c.self.invariant.holds.blocks in
    let frames = difference (frames_behind live_frames c.self.inside.script.blocks n) c.tail_frames.result
    (frames_behind whole_frames c.self.inside.script.blocks n) (rw blocks at c.tail_frames.ensures) in
    let size = rw (← c.self.view_is) at c.given_bytes.ensures in
    rw (← c.self.view_is) (λ i. (c.from.ensures ∙ frames) i * size i)
