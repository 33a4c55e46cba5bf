use Rattle.std.proofs.Common.{◌≡◌, ◌∙◌, ap, sym, subst, refl, ◌*ℤ◌, ℤ, pos, List, [], ◌∷◌, length, map, SFits, to_z}
use Rattle.std.proofs.Common.{of_z, w64}
use Rattle.dsp_defs.specs.Biquad.{section_close}
use Rattle.dsp_defs.specs.Formats.{word}
use Rattle.dsp_defs.specs.Signal.{sample}
use Rattle.dsp_sections.specs.SectionWaves.{low}
use Rattle.dsp_sections.proofs.FourSections.{total, back, back_fits, back_four, product_known, sum_known, moved_words}
use Rattle.dsp_sections.proofs.FourSections.{last_known, word_read, words_back, are_sums, outputs_at}
use Rattle.dsp_sections.proofs.section_waves.turn_sections.Goals as goal

pub moved_up-x0-requires-clause-fit : goal.moved_up-x0-requires-clause-fit
moved_up-x0-requires-clause-fit g c = back_fits c.args.lanes.now.y1 c.requires.y1.wide

pub low_products-requires-clause-fit_a : goal.low_products-requires-clause-fit_a
low_products-requires-clause-fit_a g c = back_fits c.args.lanes.now.b0 c.requires.b0.wide

pub low_products-requires-2-clause-fit_a : goal.low_products-requires-2-clause-fit_a
low_products-requires-2-clause-fit_a g c = back_fits c.args.lanes.now.b1 c.requires.b1.wide

pub low_products-requires-2-clause-fit_b : goal.low_products-requires-2-clause-fit_b
low_products-requires-2-clause-fit_b g c = back_fits c.args.lanes.now.x1 c.requires.x1.wide

pub low_products-requires-3-clause-fit_a : goal.low_products-requires-3-clause-fit_a
low_products-requires-3-clause-fit_a g c = back_fits c.args.lanes.now.b2 c.requires.b2.wide

pub low_products-requires-3-clause-fit_b : goal.low_products-requires-3-clause-fit_b
low_products-requires-3-clause-fit_b g c = back_fits c.args.lanes.now.x2 c.requires.x2.wide

pub low_products-requires-4-clause-fit_a : goal.low_products-requires-4-clause-fit_a
low_products-requires-4-clause-fit_a g c = back_fits c.args.lanes.now.a1 c.requires.a1.wide

pub low_products-requires-4-clause-fit_b : goal.low_products-requires-4-clause-fit_b
low_products-requires-4-clause-fit_b g c = back_fits c.args.lanes.now.y1 c.requires.y1.wide

pub low_products-requires-5-clause-fit_a : goal.low_products-requires-5-clause-fit_a
low_products-requires-5-clause-fit_a g c = back_fits c.args.lanes.now.a2 c.requires.a2.wide

pub low_products-requires-5-clause-fit_b : goal.low_products-requires-5-clause-fit_b
low_products-requires-5-clause-fit_b g c = back_fits c.args.lanes.now.y2 c.requires.y2.wide

pub sums_of_five-sums-requires-clause-fit_1 : goal.sums_of_five-sums-requires-clause-fit_1
sums_of_five-sums-requires-clause-fit_1 g c = back_fits c.low_products.result c.low_products.ensures.fit

pub sums_of_five-sums-requires-clause-fit_2 : goal.sums_of_five-sums-requires-clause-fit_2
sums_of_five-sums-requires-clause-fit_2 g c = back_fits c.low_products-2.result c.low_products-2.ensures.fit

pub sums_of_five-sums-requires-clause-fit_3 : goal.sums_of_five-sums-requires-clause-fit_3
sums_of_five-sums-requires-clause-fit_3 g c = back_fits c.low_products-3.result c.low_products-3.ensures.fit

pub sums_of_five-sums-requires-clause-fit_4 : goal.sums_of_five-sums-requires-clause-fit_4
sums_of_five-sums-requires-clause-fit_4 g c = back_fits c.low_products-4.result c.low_products-4.ensures.fit

pub sums_of_five-sums-requires-clause-fit_5 : goal.sums_of_five-sums-requires-clause-fit_5
sums_of_five-sums-requires-clause-fit_5 g c = back_fits c.low_products-5.result c.low_products-5.ensures.fit

pub close_four-y-requires-clause-fit : goal.close_four-y-requires-clause-fit
close_four-y-requires-clause-fit g c = back_fits c.sums_of_five-sums.result c.sums_of_five-sums.ensures.fit

pub close_four-y-requires-clause-sums : goal.close_four-y-requires-clause-sums
close_four-y-requires-clause-sums g c =
    let format = g.T.Sample.format in
    let l = c.args.lanes.now in
    let r = c.requires in
    let x = g.T.Sample.number c.args.x in
    let x_fits = subst (SFits (word format)) c.number.ensures.value c.number.ensures.fits in
    let x_is = word_read format c.from.result c.number.result x c.number.ensures.fits c.number.ensures.value
    (c.from.ensures ∙ ap pos c.cast_unsigned.ensures) in
    let first = to_z w64 (of_z w64 c.from.result) in
    let x0 = c.moved_up-x0.result in
    let x0_is : x0 ≡ first ∷ sample l.y1 0 ∷ sample l.y1 1 ∷ sample l.y1 2 ∷ [] =
    c.moved_up-x0.ensures.value ∙ (λ t. first ∷ sample (back l.y1 r.y1.wide t) 0 ∷ sample
    (back l.y1 r.y1.wide t) 1 ∷ sample (back l.y1 r.y1.wide t) 2 ∷ []) in
    let x0_words = moved_words format first l.y1 x0 (subst (SFits (word format)) (sym x_is) x_fits) r.y1 x0_is
    c.moved_up-x0.ensures.fit in
    let q0 = product_known l.b0 x0 _ _ c.low_products.result (back l.b0 r.b0.wide) (back x0 c.moved_up-x0.ensures.fit)
    c.low_products.ensures.value c.low_products.ensures.fit in
    let q1 = product_known l.b1 l.x1 _ _ c.low_products-2.result (back l.b1 r.b1.wide) (back l.x1 r.x1.wide)
    c.low_products-2.ensures.value c.low_products-2.ensures.fit in
    let q2 = product_known l.b2 l.x2 _ _ c.low_products-3.result (back l.b2 r.b2.wide) (back l.x2 r.x2.wide)
    c.low_products-3.ensures.value c.low_products-3.ensures.fit in
    let q3 = product_known l.a1 l.y1 _ _ c.low_products-4.result (back l.a1 r.a1.wide) (back l.y1 r.y1.wide)
    c.low_products-4.ensures.value c.low_products-4.ensures.fit in
    let q4 = product_known l.a2 l.y2 _ _ c.low_products-5.result (back l.a2 r.a2.wide) (back l.y2 r.y2.wide)
    c.low_products-5.ensures.value c.low_products-5.ensures.fit in
    let sums = sum_known c.sums_of_five-sums.result _ _ _ _ _ (λ i. low l.b0 i *ℤ low x0 i)
    (λ i. low l.b1 i *ℤ low l.x1 i) (λ i. low l.b2 i *ℤ low l.x2 i) (λ i. low l.a1 i *ℤ low l.y1 i)
    (λ i. low l.a2 i *ℤ low l.y2 i)
    q0 q1 q2 q3 q4 c.sums_of_five-sums.ensures.value c.sums_of_five-sums.ensures.fit in
    are_sums format l l.post_shift r x0 x0_words (map (to_z w64) (map (of_z w64) c.sums_of_five-sums.result)) sums

pub of_number-requires : goal.of_number-requires
of_number-requires g c =
    let y = c.close_four-y in
    let word_is = last_known y.result c.index.result.now c.low_word.result y.ensures.fit.four y.ensures.fit.wide
    c.index.ensures (record { sfits = c.low_word.type_inv }) c.low_word.ensures in
    subst (SFits (word g.T.Sample.format)) (sym word_is) (y.ensures.fit.words 3)

pub returns-clause-whole : goal.returns-clause-whole
returns-clause-whole g c =
    let format = g.T.Sample.format in
    let l = c.args.lanes.now in
    let r = c.requires in
    let x = g.T.Sample.number c.args.x in
    let x_fits = subst (SFits (word format)) c.number.ensures.value c.number.ensures.fits in
    let x_is = word_read format c.from.result c.number.result x c.number.ensures.fits c.number.ensures.value
    (c.from.ensures ∙ ap pos c.cast_unsigned.ensures) in
    let first = to_z w64 (of_z w64 c.from.result) in
    let x0 = c.moved_up-x0.result in
    let x0_is : x0 ≡ first ∷ sample l.y1 0 ∷ sample l.y1 1 ∷ sample l.y1 2 ∷ [] =
    c.moved_up-x0.ensures.value ∙ (λ t. first ∷ sample (back l.y1 r.y1.wide t) 0 ∷ sample
    (back l.y1 r.y1.wide t) 1 ∷ sample (back l.y1 r.y1.wide t) 2 ∷ []) in
    let x0_words = moved_words format first l.y1 x0 (subst (SFits (word format)) (sym x_is) x_fits) r.y1 x0_is
    c.moved_up-x0.ensures.fit in
    let y = words_back format c.close_four-y.result c.close_four-y.ensures.fit in
    record {
      shift = r.shift;
      b0 = r.b0;
      b1 = r.b1;
      b2 = r.b2;
      a1 = r.a1;
      a2 = r.a2;
      x1 =
          words_back format x0 x0_words;
      x2 = words_back format l.x1 r.x1;
      y1 = y;
      y2 =
          words_back format l.y1 r.y1;
    }

pub returns-clause-turn : goal.returns-clause-turn
returns-clause-turn g c =
    let format = g.T.Sample.format in
    let l = c.args.lanes.now in
    let r = c.requires in
    let x = g.T.Sample.number c.args.x in
    let x_fits = subst (SFits (word format)) c.number.ensures.value c.number.ensures.fits in
    let x_is = word_read format c.from.result c.number.result x c.number.ensures.fits c.number.ensures.value
    (c.from.ensures ∙ ap pos c.cast_unsigned.ensures) in
    let first = to_z w64 (of_z w64 c.from.result) in
    let x0 = c.moved_up-x0.result in
    let x0_is : x0 ≡ first ∷ sample l.y1 0 ∷ sample l.y1 1 ∷ sample l.y1 2 ∷ [] =
    c.moved_up-x0.ensures.value ∙ (λ t. first ∷ sample (back l.y1 r.y1.wide t) 0 ∷ sample
    (back l.y1 r.y1.wide t) 1 ∷ sample (back l.y1 r.y1.wide t) 2 ∷ []) in
    let x0_words = moved_words format first l.y1 x0 (subst (SFits (word format)) (sym x_is) x_fits) r.y1 x0_is
    c.moved_up-x0.ensures.fit in
    let q0 = product_known l.b0 x0 _ _ c.low_products.result (back l.b0 r.b0.wide) (back x0 c.moved_up-x0.ensures.fit)
    c.low_products.ensures.value c.low_products.ensures.fit in
    let q1 = product_known l.b1 l.x1 _ _ c.low_products-2.result (back l.b1 r.b1.wide) (back l.x1 r.x1.wide)
    c.low_products-2.ensures.value c.low_products-2.ensures.fit in
    let q2 = product_known l.b2 l.x2 _ _ c.low_products-3.result (back l.b2 r.b2.wide) (back l.x2 r.x2.wide)
    c.low_products-3.ensures.value c.low_products-3.ensures.fit in
    let q3 = product_known l.a1 l.y1 _ _ c.low_products-4.result (back l.a1 r.a1.wide) (back l.y1 r.y1.wide)
    c.low_products-4.ensures.value c.low_products-4.ensures.fit in
    let q4 = product_known l.a2 l.y2 _ _ c.low_products-5.result (back l.a2 r.a2.wide) (back l.y2 r.y2.wide)
    c.low_products-5.ensures.value c.low_products-5.ensures.fit in
    let sums = sum_known c.sums_of_five-sums.result _ _ _ _ _ (λ i. low l.b0 i *ℤ low x0 i)
    (λ i. low l.b1 i *ℤ low l.x1 i) (λ i. low l.b2 i *ℤ low l.x2 i) (λ i. low l.a1 i *ℤ low l.y1 i)
    (λ i. low l.a2 i *ℤ low l.y2 i)
    q0 q1 q2 q3 q4 c.sums_of_five-sums.ensures.value c.sums_of_five-sums.ensures.fit in
    let y = c.close_four-y in
    let x0_back = back x0 c.moved_up-x0.ensures.fit in
    let y_back = back y.result y.ensures.fit.wide in
    let moved = x0_back ∙ x0_is in
    record {
      post_shift = refl;
      sections = λ i. refl;
      first = ap (λ (k : List ℤ). low k 0) moved ∙ x_is;
      second = ap (λ (k : List ℤ). low k 1) moved;
      third = ap (λ (k : List ℤ). low k 2) moved;
      fourth = ap (λ (k : List ℤ). low k 3) moved;
      before = back l.x1 r.x1.wide;
      outputs = λ i inside.
          ap (λ (k : List ℤ). low k i) y_back
          ∙ outputs_at format l l.post_shift r x0 x0_words
          (map (to_z w64) (map (of_z w64) c.sums_of_five-sums.result)) y.result sums y.ensures.value i inside
          ∙ (λ t. section_close format l.post_shift (total (low l.b0 i) (low l.b1 i) (low l.b2 i) (low l.a1 i)
          (low l.a2 i) (low (sym x0_back t) i) (low l.x1 i) (low l.x2 i) (low l.y1 i) (low l.y2 i)));
      past = back l.y1 r.y1.wide;
      last = c.of_number.ensures
          ∙ last_known y.result c.index.result.now c.low_word.result y.ensures.fit.four y.ensures.fit.wide
          c.index.ensures (record { sfits = c.low_word.type_inv }) c.low_word.ensures
          ∙ sym (ap (λ (k : List ℤ). low k 3) y_back);
    }

pub moved_up-x0-requires-clause-four : goal.moved_up-x0-requires-clause-four
moved_up-x0-requires-clause-four g c = back_four c.args.lanes.now.y1 c.requires.y1.wide c.requires.y1.four

pub low_products-requires-clause-four_a : goal.low_products-requires-clause-four_a
low_products-requires-clause-four_a g c = back_four c.args.lanes.now.b0 c.requires.b0.wide c.requires.b0.four

pub low_products-requires-clause-four_b : goal.low_products-requires-clause-four_b
low_products-requires-clause-four_b g c =
    back_four c.moved_up-x0.result c.moved_up-x0.ensures.fit
    (ap length c.moved_up-x0.ensures.value)

pub low_products-requires-clause-fit_b : goal.low_products-requires-clause-fit_b
low_products-requires-clause-fit_b g c = back_fits c.moved_up-x0.result c.moved_up-x0.ensures.fit

pub low_products-requires-2-clause-four_a : goal.low_products-requires-2-clause-four_a
low_products-requires-2-clause-four_a g c = back_four c.args.lanes.now.b1 c.requires.b1.wide c.requires.b1.four

pub low_products-requires-2-clause-four_b : goal.low_products-requires-2-clause-four_b
low_products-requires-2-clause-four_b g c = back_four c.args.lanes.now.x1 c.requires.x1.wide c.requires.x1.four

pub low_products-requires-3-clause-four_a : goal.low_products-requires-3-clause-four_a
low_products-requires-3-clause-four_a g c = back_four c.args.lanes.now.b2 c.requires.b2.wide c.requires.b2.four

pub low_products-requires-3-clause-four_b : goal.low_products-requires-3-clause-four_b
low_products-requires-3-clause-four_b g c = back_four c.args.lanes.now.x2 c.requires.x2.wide c.requires.x2.four

pub low_products-requires-4-clause-four_a : goal.low_products-requires-4-clause-four_a
low_products-requires-4-clause-four_a g c = back_four c.args.lanes.now.a1 c.requires.a1.wide c.requires.a1.four

pub low_products-requires-4-clause-four_b : goal.low_products-requires-4-clause-four_b
low_products-requires-4-clause-four_b g c = back_four c.args.lanes.now.y1 c.requires.y1.wide c.requires.y1.four

pub low_products-requires-5-clause-four_a : goal.low_products-requires-5-clause-four_a
low_products-requires-5-clause-four_a g c = back_four c.args.lanes.now.a2 c.requires.a2.wide c.requires.a2.four

pub low_products-requires-5-clause-four_b : goal.low_products-requires-5-clause-four_b
low_products-requires-5-clause-four_b g c = back_four c.args.lanes.now.y2 c.requires.y2.wide c.requires.y2.four

pub sums_of_five-sums-requires-clause-four_1 : goal.sums_of_five-sums-requires-clause-four_1
sums_of_five-sums-requires-clause-four_1 g c =
    back_four c.low_products.result c.low_products.ensures.fit
    (ap length c.low_products.ensures.value)

pub sums_of_five-sums-requires-clause-four_2 : goal.sums_of_five-sums-requires-clause-four_2
sums_of_five-sums-requires-clause-four_2 g c =
    back_four c.low_products-2.result c.low_products-2.ensures.fit
    (ap length c.low_products-2.ensures.value)

pub sums_of_five-sums-requires-clause-four_3 : goal.sums_of_five-sums-requires-clause-four_3
sums_of_five-sums-requires-clause-four_3 g c =
    back_four c.low_products-3.result c.low_products-3.ensures.fit
    (ap length c.low_products-3.ensures.value)

pub sums_of_five-sums-requires-clause-four_4 : goal.sums_of_five-sums-requires-clause-four_4
sums_of_five-sums-requires-clause-four_4 g c =
    back_four c.low_products-4.result c.low_products-4.ensures.fit
    (ap length c.low_products-4.ensures.value)

pub sums_of_five-sums-requires-clause-four_5 : goal.sums_of_five-sums-requires-clause-four_5
sums_of_five-sums-requires-clause-four_5 g c =
    back_four c.low_products-5.result c.low_products-5.ensures.fit
    (ap length c.low_products-5.ensures.value)

pub close_four-y-requires-clause-shift : goal.close_four-y-requires-clause-shift
close_four-y-requires-clause-shift g c = c.requires.shift

pub close_four-y-requires-clause-four : goal.close_four-y-requires-clause-four
close_four-y-requires-clause-four g c = back_four c.sums_of_five-sums.result c.sums_of_five-sums.ensures.fit
    (ap length c.sums_of_five-sums.ensures.value)
