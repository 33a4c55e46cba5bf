use Rattle.std.proofs.Common.{◌≡◌, ◌*◌, ◌∙◌, ap, sym, length, take, subst, All, arith}
use Rattle.std.proofs.lemmas.List.{length-take-le}
use Rattle.dsp_defs.specs.Bytes.{IsValue, width}
use Rattle.dsp_defs.proofs.CodingLemmas.{width-some}
use Rattle.dsp_chain.proofs.Room.{written-line}
use Rattle.dsp_session.proofs.WorkerLaws as laws
use Rattle.dsp_session.proofs.worker.Worker.end.Goals as goal

pub invariant_of-self : goal.invariant_of-self
invariant_of-self g c =
    let holds = c.self.invariant.holds in
    let finished = c.finish-self-inside.ensures.finished in
    let same = written-line c.self.inside.values.len c.finish-self-inside.new.out c.self.inside.values.items
    (c.finish-self-inside.auto.out ∙ c.as_mut_slice.ensures.len) in
    laws.still_works _ _ _ _ _ _ _ _ _ _ _ c.self.invariant finished.same
    (omega (arith, c.finish-self-inside.ensures.within, c.as_mut_slice.ensures.len))
    (ap (λ zs. length (take c.finish-self-inside.result zs)) same
    ∙ length-take-le c.finish-self-inside.result c.finish-self-inside.new.out
    (omega (arith, c.finish-self-inside.ensures.within, c.finish-self-inside.auto.out)))
    (subst (λ zs. All (IsValue c.self.inside.output) (take c.finish-self-inside.result zs)) (sym same)
    (laws.gives_values c.self.inside.script c.self.inside.block holds.ready c.self.inside.output _
    c.self.invariant.output (rw (← laws.gives_format c.self.inside.script c.self.inside.block holds.ready
    c.self.inside.chain c.finish-self-inside.new.self holds.input holds.blocks)
    finished.passes.signal.in_format)))

pub returns-clause-given : goal.returns-clause-given
returns-clause-given g c =
    let same = written-line c.self.inside.values.len c.finish-self-inside.new.out c.self.inside.values.items
    (c.finish-self-inside.auto.out ∙ c.as_mut_slice.ensures.len) in
    laws.given_size c.self.inside.output c.finish-self-inside.result c.width.result _
    (ap (λ zs. length (take c.finish-self-inside.result zs)) same
    ∙ length-take-le c.finish-self-inside.result c.finish-self-inside.new.out
    (omega (arith, c.finish-self-inside.ensures.within, c.finish-self-inside.auto.out))) c.width.ensures

pub returns-clause-ends : goal.returns-clause-ends
returns-clause-ends g c =
    let script = c.self.inside.script in
    let holds = c.self.invariant.holds in
    let new = c.finish-self-inside.new.out in
    let ys = take c.finish-self-inside.result new in
    let same = written-line c.self.inside.values.len new c.self.inside.values.items
    (c.finish-self-inside.auto.out ∙ c.as_mut_slice.ensures.len) in
    let out = laws.given_bytes_are script c.self.inside.block holds.ready c.self.inside.output _ ys
    c.self.invariant.output (ap (take c.finish-self-inside.result) same) in
    let size : length ys ≡ c.finish-self-inside.result = length-take-le c.finish-self-inside.result new
    (omega (arith, c.finish-self-inside.ensures.within, c.finish-self-inside.auto.out)) in
    let answer : c.finish-self-inside.result * c.width.result ≡ length ys * width c.self.inside.output =
    (λ i. sym size i * c.width.ensures i) in
    rw (← c.self.view_is)
    (laws.ends script c.self.inside.block holds.ready c.self.inside.chain c.finish-self-inside.new.self holds.input
    holds.blocks c.self.inside.banked holds.turns _ _ _ ys out (c.finish-self-inside.result * c.width.result)
    (width c.self.inside.output) (width-some c.self.inside.output) answer _ _ c.finish-self-inside.ensures.finished)
