use Rattle.std.proofs.Common.{◌≡◌, ◌∙◌, ◌*◌, ℕ, Option, Some, sym, subst, arith}
use Rattle.dsp_defs.specs.Au.{AuFits, open_declared_frames}
use Rattle.dsp_defs.specs.Bytes.{width}
use Rattle.dsp_au.proofs.target.riff_fault.Goals as goal

pub returns-in-WaveToAu-clause-none : goal.returns-in-WaveToAu-clause-none
returns-in-WaveToAu-clause-none c none =
    let header = c.args.header in
    let known : open_declared_frames header ≡ Some c.in_ok-frames.frames = sym c.declared_frames.ensures.value ∙
    c.in_ok-frames.was in
    let product : c.in_ok-frames.frames * header.channels * width header.coding ≡ c.in_ok-frames.frames *
    (header.channels * width header.coding) = omega arith in
    rw c.in-WaveToAu.is (subst (λ (frames : Option ℕ). AuFits header.coding header.channels frames) (sym known)
    (omega (arith, product, c.in_ok-frames.ensures.few)))
