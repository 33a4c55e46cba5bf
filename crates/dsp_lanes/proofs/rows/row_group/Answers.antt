use Rattle.std.proofs.Common.{ℕ, subst, ℤ, ◌≡◌, ◌+◌, ◌*◌, ◌∙◌, ap, refl, arith, length, map, ◌+ℤ◌, ◌*ℤ◌}
use Rattle.std.proofs.lemmas.List.{length-map}
use Rattle.std.proofs.lemmas.Simd.{map-map}
use Rattle.std.specs.Int.{int_wrap}
use Rattle.std.specs.List.{range_with_len}
use lib.Lanes.{zip2, chunk, put_chunk}
use Rattle.dsp_defs.specs.Formats.{close}
use Rattle.dsp_defs.specs.Signal.{sample, values}
use Rattle.dsp_defs.proofs.Signal.{values_cong}
use Rattle.dsp_lanes.specs.Rows.{row}
use Rattle.dsp_lanes.proofs.LaneRows.{row_lanes-more, values-zero, wrap-zero}
use Rattle.dsp_lanes.proofs.rows.row_group.Goals.{then-j-taps, else-j-taps}
use Rattle.dsp_lanes.proofs.rows.row_group.Goals as goal

pub pairs-init : goal.pairs-init
pairs-init g c = record {
  within = omega arith;
  fit = c.no_sums-sums.ensures.fit;
  summed = c.no_sums-sums.ensures.sums ∙ values-zero g.F.RowForm.size ∙
      ap (λ z. values g.F.RowForm.size (λ i. z)) (wrap-zero g.F.RowForm.width);
  counted = (0, omega arith, record { multiplies_rise = omega arith; turns_rise = omega arith });
}

pub pairs-preserved : goal.pairs-preserved
pairs-preserved g c =
    let T = g.T.Sample in
    let F = g.F.RowForm in
    let j = c.pairs.j in
    let at = c.args.at in
    let w = F.width in
    let long = length-map c.args.window.now T.number in
    let taps = map T.number c.args.taps.now in
    let window = map T.number c.args.window.now in
    let h = c.pairs.invariant in
    let before = h.counted.2 in
    let more = c.count.ensures in
    let within = c.requires.window in
    let one : at + j + 1 ≡ at + (j + 1) = omega arith in
    let add : ℤ → ℤ → ℤ → ℤ = λ t s x. int_wrap w (s +ℤ (t *ℤ x)) in
    record {
      within = omega arith;
      fit = c.add_pair-sums.ensures.fit;
      summed =
          c.add_pair-sums.ensures.sums
          ∙ ap (λ l. zip2 (add (sample taps (j + 1))) (zip2 (add (sample taps j)) l (chunk (at + j) F.size window))
          (chunk (at + j + 1) F.size window)) h.summed
          ∙ ap (λ l. zip2 (add (sample taps (j + 1))) l (chunk (at + j + 1) F.size window))
          (row_lanes-more w at F.size j (j + 1) taps window (sample taps j) refl refl (omega (arith, long, within)))
          ∙ ap (λ p. zip2 (add (sample taps (j + 1))) (values F.size
          (λ i. int_wrap w (row taps window (j + 1) (at + i)))) (chunk p F.size window)) one
          ∙ row_lanes-more w at F.size (j + 1) (j + 2) taps window (sample taps (j + 1)) (omega arith) refl
          (omega (arith, long, within));
      counted = (
        h.counted.0 + 1,
        omega (arith, h.counted.1),
        record { multiplies_rise = omega (arith, before, more); turns_rise = omega (arith, before, more) },
      );
    }

pub close-requires-clause-fit : goal.close-requires-clause-fit
close-requires-clause-fit g c =
    let F = g.F.RowForm in
    let n = length c.args.taps.now in
    let j = c.pairs.j in
    let h = c.pairs.invariant in
    let fit : F.AreSums c.if-j-taps.sums n = (elim c.if-j-taps.branch [
      | then-j-taps b ↦
          let last : j + 1 ≡ n = omega (arith, b.if-j-taps, c.pairs-test.false) in
          subst (λ (m : ℕ). F.AreSums c.if-j-taps.sums m) last (rw b.sums-is b.add_tap-sums.ensures.fit)
      | else-j-taps b ↦
          let all : j ≡ n = omega (arith, b.if-j-taps, h.within) in
          subst (λ (m : ℕ). F.AreSums c.if-j-taps.sums m) all (rw b.sums-is h.fit)
    ]) in
    (n, fit)

pub returns-clause-out : goal.returns-clause-out
returns-clause-out g c =
    let T = g.T.Sample in
    let F = g.F.RowForm in
    let taps = map T.number c.args.taps.now in
    let window = map T.number c.args.window.now in
    let at = c.args.at in
    let w = F.width in
    let n = length c.args.taps.now in
    let j = c.pairs.j in
    let long = length-map c.args.window.now T.number in
    let within = c.requires.window in
    let h = c.pairs.invariant in
    let whole : F.lanes c.if-j-taps.sums ≡ values F.size (λ i. int_wrap w (row taps window n (at + i))) =
    (elim c.if-j-taps.branch [
      | then-j-taps b ↦
          let last : n ≡ j + 1 = omega (arith, b.if-j-taps, c.pairs-test.false) in
          ap F.lanes b.sums-is
          ∙ b.add_tap-sums.ensures.sums
          ∙ ap (λ l. zip2 (λ s x. int_wrap w (s +ℤ (sample taps j *ℤ x))) l (chunk (at + j) F.size window)) h.summed
          ∙ row_lanes-more w at F.size j n taps window (sample taps j) last refl (omega (arith, long, within, last))
      | else-j-taps b ↦
          let all : j ≡ n = omega (arith, b.if-j-taps, h.within) in
          ap F.lanes b.sums-is ∙ h.summed ∙ ap (λ k. values F.size (λ i. int_wrap w (row taps window k (at + i)))) all
    ]) in
    c.close.ensures
    ∙ ap (put_chunk at (map T.number c.args.out.now))
    (ap (map F.shut) whole
    ∙ map-map F.shut (λ i. int_wrap w (row taps window n (at + i))) (range_with_len 0 F.size)
    ∙ values_cong F.size (λ i. F.shut (int_wrap w (row taps window n (at + i))))
    (λ i. close T.format (row taps window n (at + i))) (λ i lt. c.closes.ensures (at + i)))

pub returns-clause-steps : goal.returns-clause-steps
returns-clause-steps g c =
    let F = g.F.RowForm in
    let n = length c.args.taps.now in
    let j = c.pairs.j in
    let h = c.pairs.invariant in
    let before = h.counted.2 in
    elim c.if-j-taps.branch [
      | then-j-taps b ↦
          let last : n ≡ j + 1 = omega (arith, b.if-j-taps, c.pairs-test.false) in
          let products = ap (λ m. m * F.size) last in
          rw b.steps-is (record {
            multiplies_rise = omega (arith, before, products, b.count-then-j-taps.ensures);
            turns_within = omega (arith, before, last, h.counted.1, b.count-then-j-taps.ensures);
          })
      | else-j-taps b ↦
          let all : n ≡ j = omega (arith, b.if-j-taps, h.within) in
          let products = ap (λ m. m * F.size) all in
          rw b.steps-is (record {
            multiplies_rise = omega (arith, before, products);
            turns_within =
                omega (arith, before, all, h.counted.1);
          })
    ]
