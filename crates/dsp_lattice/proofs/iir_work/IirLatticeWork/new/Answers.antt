use Rattle.std.proofs.Common.{◌≡◌, ◌∙◌, ap, sym, ◌+◌, length, map, drop, reverse, rules, vec_len}
use Rattle.std.proofs.lemmas.List.{length-map}
use Rattle.dsp_lattice.proofs.Ladders.{fresh}
use Rattle.dsp_lattice.proofs.iir_work.IirLatticeWork.new.Goals as goal

pub returns : goal.returns
returns g c =
    let number = g.T.Sample.number in
    let k = map number c.args.reflections.items in
    let v = map number c.args.ladder.items in
    let long : vec_len c.args.ladder ≡ length c.args.ladder.items = search rules in
    let count = c.len.ensures ∙ long ∙ c.requires.ladder ∙
    ap (λ n. n + 1) (sym (length-map c.args.reflections.items number)) in
    let kept = ap (λ l. reverse (drop 1 l)) c.in_ok-backward.ensures ∙ fresh g.T.Sample.format k c.len.result count in
    (λ i. record { k = k; v = v; kept = kept i })
