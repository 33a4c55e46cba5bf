use Rattle.std.proofs.Common.{◌≡◌, ◌∙◌, ◌-◌, ◌<◌, ◌≤◌, ap, sym, refl, length, map, take, get_or, pos, length-take-le, ⊎_elim, arith}
use Rattle.std.proofs.lemmas.Bool.{cases_lt}
use Rattle.std.proofs.lemmas.List.{length-map}
use Rattle.std.proofs.lemmas.List.FromFn.{fill_by_all}
use Rattle.dsp_defs.specs.Numbers.{wrap, w32}
use Rattle.dsp_defs.specs.Signal.{values}
use Rattle.dsp_fir.specs.Delays.{delayed_sum}
use Rattle.dsp_fir.proofs.DelayLemmas.{sums-close}
use Rattle.dsp_fir.proofs.delayed_rows.delayed_rows.Goals as goal

pub returns-clause-out : goal.returns-clause-out
returns-clause-out g c =
    let T = g.T.Sample in
    let taps = map T.number c.args.taps.now in
    let window = map T.number c.args.window.now in
    let n = length c.args.out.now in
    let count = length c.args.taps.now in
    let all : count ≡ length taps = sym (length-map c.args.taps.now T.number) in
    let cut : length (take n c.args.sums.now) ≡ n = length-take-le n c.args.sums.now c.requires.sums in
    let size : length c.fill.new.self ≡ n = omega (arith, c.fill.ensures.len, cut) in
    sums-close T.format taps c.args.delays.now c.args.past window c.add_taps.new.sums
    (map T.number c.close_sums.new.out) n count all
    (c.add_taps.ensures.sums ∙ ap (λ m. values m (λ i. wrap w32
    (delayed_sum T.format taps c.args.delays.now c.args.past window count i))) size)
    c.close_sums.ensures

pub add_taps-requires-clause-empty : goal.add_taps-requires-clause-empty
add_taps-requires-clause-empty g c =
    let new = c.fill.new.self in
    let last = length (take (length c.args.out.now) c.args.sums.now) - 1 in
    let is = c.fill.ensures in
    fill_by_all (λ _. pos 0) new (length new) (pos 0) refl (λ k inside. ⊎_elim
    (λ (early : k < last). is.clones_before_last k (pos 0) (omega arith) early)
    (λ (late : last ≤ k). ap (λ j. get_or new j (pos 0)) (omega (arith, late, inside, is.len)) ∙
    is.last (omega arith) (pos 0))
    (cases_lt k last))
