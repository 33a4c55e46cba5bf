use Rattle.std.proofs.Common.{◌≡◌, ◌∙◌, ◌+◌, ◌-◌, ◌*◌, ◌<◌, ◌≤◌, ap, sym, subst, arith, length, map, ◌*ℤ◌, ◌+ℤ◌}
use Rattle.std.proofs.lemmas.List.{length-map}
use Rattle.std.proofs.lemmas.Simd.{length-put_chunk}
use lib.Lanes.{chunk, put_chunk, zip2}
use Rattle.dsp_defs.specs.Formats.{word_bits}
use Rattle.dsp_defs.specs.Lattice.{reflected}
use Rattle.dsp_defs.specs.Numbers.{wrap, Width}
use Rattle.dsp_defs.specs.Signal.{sample, sum_below}
use Rattle.dsp_sections.specs.Ladders.{lowered_values, raised_values}
use Rattle.dsp_sections.proofs.LadderSections.{next-done, same-behind}
use Rattle.dsp_sections.proofs.ladders.section_groups.Goals as goal

pub pairs-preserved : goal.pairs-preserved
pairs-preserved g c =
    let S = g.T.Sample in
    let T = g.T.LadderLanes in
    let D = g.D.DotForm in
    let laws = g.met.T.LadderLanes in
    let n = c.size-size.result in
    let is = c.size-size.ensures in
    let at = c.pairs.at in
    let so_far = c.pairs.invariant in
    let x = S.number c.args.x in
    let ks = map S.number c.args.reflections.now in
    let vs = map S.number c.args.ladder.now in
    let olds = map S.number c.args.backward.now in
    let news = map S.number c.pairs.backward in
    let k = c.load-k.ensures.value in
    let before = c.load_next-before.ensures.value in
    let values = c.passed_on-values in
    let front = c.passed_on-front in
    let one = c.raise_group-sum in
    let two = c.raise_group-sums in
    let mid = map S.number one.new.backward in
    let new = map S.number two.new.backward in
    let long_k = length-map c.args.reflections.now S.number in
    let room : at + 2 * T.size ≤ length ks = omega (arith, is, long_k) in
    let longer : length ks < length olds = omega (
      arith,
      long_k,
      length-map c.args.backward.now S.number,
      c.requires.backward,
    ) in
    let same : length news ≡ length olds = length-map c.pairs.backward S.number ∙ c.pairs.auto.backward ∙
    sym (length-map c.args.backward.now S.number) in
    let same_mid : length mid ≡ length olds = ap length one.ensures.backward ∙ length-put_chunk at news _ ∙ same in
    let first = next-done S.format x (sample (T.lanes c.pairs.front) (T.size - 1)) ks vs olds news mid
    (T.lanes values.result) at T.size (at + n) (D.value c.pairs.sums) (D.value one.result) (ap (λ m. at + m) is)
    (omega (arith, room)) longer same laws.some so_far.done
    (values.ensures.value ∙ ap (lowered_values (word_bits S.format) (sample (T.lanes c.pairs.front) (T.size - 1)))
    (c.reflected-products.ensures.value ∙ (λ i. zip2 (reflected S.format) (k i) (before i))))
    (one.ensures.backward ∙
    (λ i. put_chunk at news (raised_values S.format (k i) (T.lanes values.result) (before i))))
    (subst (λ (w : Width). wrap w (D.value one.result) ≡ wrap w (D.value c.pairs.sums +ℤ sum_below T.size
    (λ j. sample vs (at + j) *ℤ sample mid (at + j)))) c.requires.width one.ensures.sums) in
    let next = c.load-next.ensures.value in
    let behind = c.load_next-behind.ensures.value ∙ same-behind S.format x _ _ _ _ ks vs olds news mid at n T.size
    so_far.done first in
    let second = next-done S.format x (sample (T.lanes values.result) (T.size - 1)) ks vs olds mid new
    (T.lanes front.result) (at + n) T.size (at + 2 * n) (D.value one.result) (D.value two.result)
    (omega (arith, is)) (omega (arith, room, is)) longer same_mid laws.some first
    (front.ensures.value ∙ ap (lowered_values (word_bits S.format) (sample (T.lanes values.result) (T.size - 1)))
    (c.reflected-further.ensures.value ∙ (λ i. zip2 (reflected S.format) (next i) (behind i))))
    (two.ensures.backward ∙
    (λ i. put_chunk (at + n) mid (raised_values S.format (next i) (T.lanes front.result) (behind i))))
    (subst (λ (w : Width). wrap w (D.value two.result) ≡ wrap w (D.value one.result +ℤ sum_below T.size
    (λ j. sample vs (at + n + j) *ℤ sample new (at + n + j)))) c.requires.width two.ensures.sums) in
    let first_products = c.reflected-products.ensures.steps in
    let further_products = c.reflected-further.ensures.steps in
    let count = one.ensures.steps in
    let next_count = two.ensures.steps in
    record {
      within = omega arith;
      fit_front = front.ensures.fit;
      fit_sums = two.ensures.fit_sums;
      done = second;
      counted = record {
        multiplies_rise = omega (arith, so_far.counted, first_products, further_products, count, next_count, is);
        turns_rise = omega (arith, so_far.counted, first_products, further_products, count, next_count, is);
      };
    }

pub groups-preserved : goal.groups-preserved
groups-preserved g c =
    let S = g.T.Sample in
    let T = g.T.LadderLanes in
    let D = g.D.DotForm in
    let laws = g.met.T.LadderLanes in
    let n = c.size-size.result in
    let is = c.size-size.ensures in
    let at = c.groups.at in
    let so_far = c.groups.invariant in
    let f = sample (T.lanes c.groups.front) (T.size - 1) in
    let ks = map S.number c.args.reflections.now in
    let vs = map S.number c.args.ladder.now in
    let olds = map S.number c.args.backward.now in
    let news = map S.number c.groups.backward in
    let k = c.load-k-in-groups.ensures.value in
    let before = c.load_next-before-in-groups.ensures.value in
    let products = c.reflected-products-in-groups in
    let front = c.passed_on-front-in-groups in
    let one = c.raise_group-sums-in-groups in
    let new = map S.number one.new.backward in
    let long_k = length-map c.args.reflections.now S.number in
    let room : at + T.size ≤ length ks = omega (arith, is, long_k) in
    let longer : length ks < length olds = omega (
      arith,
      long_k,
      length-map c.args.backward.now S.number,
      c.requires.backward,
    ) in
    let same : length news ≡ length olds = length-map c.groups.backward S.number ∙ c.groups.auto.backward
    ∙ c.pairs.auto.backward ∙ sym (length-map c.args.backward.now S.number) in
    record {
      within = omega arith;
      fit_front = front.ensures.fit;
      fit_sums = one.ensures.fit_sums;
      done = next-done S.format (S.number c.args.x) f ks vs olds news new (T.lanes front.result) at T.size (at + n)
          (D.value c.groups.sums) (D.value one.result) (ap (λ m. at + m) is) room longer same laws.some so_far.done
          (front.ensures.value ∙ ap (lowered_values (word_bits S.format) f)
          (products.ensures.value ∙ (λ i. zip2 (reflected S.format) (k i) (before i))))
          (one.ensures.backward ∙
          (λ i. put_chunk at news (raised_values S.format (k i) (T.lanes front.result) (before i))))
          (subst (λ (w : Width). wrap w (D.value one.result) ≡ wrap w (D.value c.groups.sums +ℤ sum_below T.size
          (λ j. sample vs (at + j) *ℤ sample new (at + j)))) c.requires.width one.ensures.sums);
      counted = record {
        multiplies_rise = omega (arith, so_far.counted, products.ensures.steps, one.ensures.steps, is);
        turns_rise = omega (arith, so_far.counted, products.ensures.steps, one.ensures.steps, is);
      };
    }
