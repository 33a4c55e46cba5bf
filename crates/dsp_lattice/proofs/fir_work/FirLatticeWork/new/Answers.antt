use Rattle.std.proofs.Common.{◌≡◌, ◌∙◌, ap, sym, pos, length, map, replicate, rules, vec_len}
use Rattle.std.proofs.lemmas.List.{length-map, length-replicate}
use Rattle.dsp_lattice.proofs.Sections.{fresh}
use Rattle.dsp_lattice.proofs.fir_work.FirLatticeWork.new.Goals as goal

pub returns : goal.returns
returns g c =
    let number = g.T.Sample.number in
    let given = c.args.coefficients in
    let k = map number given.items in
    let long : vec_len given ≡ length given.items = search rules in
    let kept = c.in_ok-states.ensures ∙ ap (λ n. replicate n (pos 0))
    (c.len.ensures ∙ long ∙ sym (length-map given.items number)) ∙ sym (fresh k) in
    (λ i. record { k = k; kept = kept i })

pub invariant_of-result : goal.invariant_of-result
invariant_of-result g c =
    let number = g.T.Sample.number in
    let given = c.args.coefficients in
    let long : vec_len given ≡ length given.items = search rules in (
      sym (length-map c.in_ok-states.states.items number) ∙ ap length c.in_ok-states.ensures ∙
          length-replicate c.len.result (pos 0) ∙ c.len.ensures ∙ long,
      sym (length-map c.in_ok-backward.backward.items number) ∙ ap length c.in_ok-backward.ensures ∙
          length-replicate 256 (pos 0),
      c.requires,
    )
