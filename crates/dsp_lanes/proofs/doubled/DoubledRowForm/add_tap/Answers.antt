use Rattle.std.proofs.Common.{ℤ, ◌≡◌, ◌+◌, ◌++◌, ◌∙◌, ap, sym, arith, length, map, ◌+ℤ◌, ◌*ℤ◌}
use Rattle.std.proofs.lemmas.List.{length-map}
use Rattle.std.proofs.lemmas.Simd.{length-chunk, length-zip2}
use Rattle.std.specs.Int.{int_wrap}
use lib.Lanes.{zip2, chunk}
use Rattle.dsp_defs.specs.Signal.{sample}
use Rattle.dsp_lanes.proofs.Groups.{zip2-append, chunk-append}
use Rattle.dsp_lanes.proofs.doubled.DoubledRowForm.add_tap.Goals as goal

pub returns-clause-sums : goal.returns-clause-sums
returns-clause-sums g c =
    let F = g.F.RowForm in
    let number = g.T.Sample.number in
    let at = c.args.at in
    let window = map number c.args.window.now in
    let long_w = length-map c.args.window.now number in
    let room = c.requires.window in
    let long : length (chunk at F.size window) ≡ F.size = length-chunk at F.size window (omega (arith, long_w, room)) in
    let add : ℤ → ℤ → ℤ = λ s x. int_wrap F.width (s +ℤ (sample (map number c.args.taps.now) c.args.j *ℤ x)) in
    let first = F.lanes c.args.sums.first in
    let second = F.lanes c.args.sums.second in
    (λ i. c.add_tap.ensures.sums i ++ (c.add_tap-2.ensures.sums ∙
    ap (λ p. zip2 add second (chunk p F.size window)) c.behind.ensures) i)
    ∙ sym (zip2-append add first second (chunk at F.size window) (chunk (at + F.size) F.size window)
    (c.requires.fit.2 ∙ sym long))
    ∙ ap (zip2 add (first ++ second)) (sym (chunk-append at F.size F.size window))

pub returns-clause-fit : goal.returns-clause-fit
returns-clause-fit g c =
    let F = g.F.RowForm in
    let number = g.T.Sample.number in
    let at = c.args.at in
    let window = map number c.args.window.now in
    let long_w = length-map c.args.window.now number in
    let room = c.requires.window in
    let behind = c.behind.ensures in
    let add : ℤ → ℤ → ℤ = λ s x. int_wrap F.width (s +ℤ (sample (map number c.args.taps.now) c.args.j *ℤ x)) in
    let first = c.requires.fit.2 in
    let second = c.requires.fit.3 in
    let part : length (chunk at F.size window) ≡ F.size = length-chunk at F.size window (omega (arith, long_w, room)) in
    let next : length (chunk c.behind.result F.size window) ≡ F.size =
    length-chunk c.behind.result F.size window (omega (arith, long_w, room, behind)) in (
      c.add_tap.ensures.fit,
      c.add_tap-2.ensures.fit,
      ap length c.add_tap.ensures.sums ∙ length-zip2 add (F.lanes c.args.sums.first) (chunk at F.size window)
          (omega (arith, first, part)) ∙ first,
      ap length c.add_tap-2.ensures.sums ∙ length-zip2 add (F.lanes c.args.sums.second)
          (chunk c.behind.result F.size window) (omega (arith, second, next)) ∙ second,
    )
