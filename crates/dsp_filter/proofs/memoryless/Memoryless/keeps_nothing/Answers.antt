use Rattle.std.proofs.Common.{refl, []}
use Rattle.dsp_defs.specs.Block.{given_frame}
use Rattle.dsp_unit.proofs.MemorylessLaws.{memoryless-fits, memoryless-fits-after, memoryless-fit-none}
use Rattle.dsp_unit.proofs.MemorylessLaws.{memoryless-restores}
use Rattle.dsp_filter.specs.Memoryless.{price}
use Rattle.dsp_filter.proofs.memoryless.Memoryless.keeps_nothing.Goals as goal

pub returns-clause-fits : goal.returns-clause-fits
returns-clause-fits g c =
    let u = c.self.inside in
    let block = g.W.FrameWork.block u.work in
    let nothing = g.met.W.FrameWork.memoryless u.work u.format u.channels in
    rw (← c.self.view_is)
    (λ numbers. (
      memoryless-fit-none u.format u.channels block (price block u.channels) (given_frame u.format block)
          nothing numbers,
      memoryless-fits u.format u.channels block (price block u.channels) (given_frame u.format block)
          nothing numbers,
    ))

pub returns-clause-after : goal.returns-clause-after
returns-clause-after g c =
    let u = c.self.inside in
    let block = g.W.FrameWork.block u.work in
    rw (← c.self.view_is) (memoryless-fits-after u.format u.channels block (price block u.channels)
    (given_frame u.format block) (g.met.W.FrameWork.memoryless u.work u.format u.channels))

pub returns-clause-place : goal.returns-clause-place
returns-clause-place g c =
    let u = c.self.inside in
    rw (← c.self.view_is) (λ n. (g.met.W.FrameWork.memoryless u.work u.format u.channels).place_is n)

pub returns-clause-restores : goal.returns-clause-restores
returns-clause-restores g c =
    let u = c.self.inside in
    let block = g.W.FrameWork.block u.work in
    rw (← c.self.view_is)
    (λ numbers running. memoryless-restores _ (price block u.channels) (given_frame u.format block)
    (record { running = running; kept = refl; tail = refl; plain = refl })
    (g.met.W.FrameWork.memoryless u.work u.format u.channels) numbers)

pub returns-clause-measures : goal.returns-clause-measures
returns-clause-measures g c =
    let u = c.self.inside in
    rw (← c.self.view_is) (λ number. (g.met.W.FrameWork.memoryless u.work u.format u.channels).no_measures number [])
