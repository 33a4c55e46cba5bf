use Rattle.std.proofs.Common.{◌≡◌, ◌∙◌, map, take, ap, lit<, arith}
use Rattle.std.proofs.lemmas.Iterator.Consumers.{map_from_collect}
use Rattle.std.proofs.lemmas.Iterator.Splits.{YieldsList-from_str_split}
use Rattle.std.proofs.lemmas.List.{take_all}
use Rattle.dsp_c.proofs.program.split_words.Goals as goal

pub returns : goal.returns
returns c =
    let parts = map_from_collect _ c.collect.ensures.ran
    (YieldsList-from_str_split 32 c.args.text.now (lit< tt) c.split.ensures.text c.split.ensures.has_more
    c.split.ensures.pattern) in
    let items = c.as_slice-part-items.result.now in
    let all : take c.loop-part.part-index items ≡ items =
    take_all c.loop-part.part-index items (omega (arith, c.loop-part-test.false)) in
    c.loop-part.invariant ∙ ap (map (λ x. x.now)) (all ∙ c.as_slice-part-items.ensures.value) ∙
    (rw c.in_ok-parts.was at parts)
