use Rattle.std.proofs.Common.{◌≡◌, ◌∙◌, ◌≤◌, ◌++◌, length, map, take, ap, arith, length-drop, length-take-le, drop}
use Rattle.std.proofs.Common.{◌-◌, refl}
use Rattle.std.proofs.lemmas.List.{map-append}
use Rattle.dsp_matrix.proofs.RowWrites.{behind-front, behind-rest}
use Rattle.dsp_matrix.proofs.group_filter.feed_behind.Goals as goal

pub returns-clause-out : goal.returns-clause-out
returns-clause-out g c =
    let number = g.T.Sample.number in
    let out = c.args.output.now in
    let behind = c.feed_whole.new.output in
    let r = c.feed_whole.result in
    let long : length behind ≡ length out - c.args.place =
    (c.feed_whole.auto.output ∙ length-take-le (length out - c.args.place) (drop c.args.place out)
    (omega (arith, length-drop c.args.place out))) in
    let few : r ≤ length behind = omega (arith, long, c.feed_whole.ensures.given, c.requires.room) in
    ap (map number) (behind-front c.args.place r _ out behind (omega arith) few)
    ∙ map-append number (take c.args.place out) (take r behind)
    ∙ ap (λ l. map number (take c.args.place out) ++ l) c.feed_whole.ensures.out

pub returns-clause-rest : goal.returns-clause-rest
returns-clause-rest g c =
    let out = c.args.output.now in
    let behind = c.feed_whole.new.output in
    let r = c.feed_whole.result in
    let long : length behind ≡ length out - c.args.place =
    (c.feed_whole.auto.output ∙ length-take-le (length out - c.args.place) (drop c.args.place out)
    (omega (arith, length-drop c.args.place out))) in
    let few : r ≤ length behind = omega (arith, long, c.feed_whole.ensures.given, c.requires.room) in
    behind-rest c.args.place r _ out behind (omega arith) few refl c.feed_whole.ensures.rest
