use Rattle.std.proofs.Common.{◌≡◌, sym, subst, ◌+◌, ◌-◌, ◌≤◌, [], ℕ, ℤ, List, length, map, take}
use Rattle.std.proofs.Common.{arith}
use Rattle.dsp_filter.specs.Waves.{Flows, Passes, four_of, wave_of}
use Rattle.dsp_filter.proofs.Waves.{three-read, three-written}
use Rattle.dsp_filter.proofs.wave.run_four.Goals as goal

pub returns-clause-passes : goal.returns-clause-passes
returns-clause-passes g c =
    let M = g.M.Machine in
    let number = g.T.Sample.number in
    let samples = c.args.samples.now in
    let written = c.run_waves.new.samples in
    let last = length written - 3 in
    let from = four_of M.acts M.kept c.args.machines.now in
    let to = four_of M.acts M.kept c.drain-first.new.machines in
    let same : length written ≡ length samples = c.run_waves.ensures.rest in
    let some : 3 ≤ length samples = c.requires in
    let first = three-read number samples c.index-samples-0.result c.index-samples-1.result c.index-samples-2.result
    some
    c.index-samples-0.is c.index-samples-1.is c.index-samples-2.is in
    let filled = subst (λ (l : List ℤ). Flows from (wave_of M.acts M.kept number c.fill.new.machines) l []) first
    c.fill.ensures.flows in
    let turned = c.run_waves.ensures.flows from filled in
    let turned' = subst (λ (n : ℕ). Flows from (wave_of M.acts M.kept number c.run_waves.new.machines)
    (map number samples) (map number (take (n - 3) written))) (sym same) turned in
    let passes = c.drain-first.ensures.passes from (map number samples) (map number (take last written)) turned' in
    let whole : last + 3 ≡ length written = omega (arith, same, some) in
    subst (λ (l : List ℤ). Passes from to (map number samples) l)
    (sym (three-written number written last c.drain-first.result.0 c.drain-first.result.1 c.drain-first.result.2
    whole)) passes
