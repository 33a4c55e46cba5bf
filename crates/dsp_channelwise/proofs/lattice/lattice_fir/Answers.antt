use Rattle.std.proofs.Common.{◌≡◌, ◌∙◌, ap, sym, rules, get_or, length, map, to_z, of_z, ℤ, pos, arith, take_all}
use Rattle.std.specs.Prelude.{fold}
use Rattle.std.specs.Int.{w32}
use Rattle.std.proofs.lemmas.Int.{to_z-of_z}
use Rattle.std.proofs.lemmas.List.Sums.{fold_more}
use Rattle.std.proofs.lemmas.Result.{IfOk-weaker}
use Rattle.dsp_defs.specs.Lattice.{lattice_section}
use Rattle.dsp_exact.proofs.Pushed.{cost-more}
use Rattle.dsp_channelwise.proofs.lattice.lattice_fir.Goals as goal

pub loop-section-preserved : goal.loop-section-preserved
loop-section-preserved g c =
    let so_far = c.loop-section.invariant in
    let m = c.loop-section.section-index in
    let given = c.in_ok-pairs-2.ensures in
    let before = c.as_slice.ensures.value in
    let k : to_z w32 (of_z w32 (get_or c.args.k.now m (pos 0))) ≡ get_or c.args.k.now m (pos 0) =
    search (rules, to_z-of_z) in
    let start = map (λ (a : ℤ). (a, a)) c.args.x.now in
    record {
      values = given.values ∙ (λ i. lattice_section ((before ∙ so_far.values) i) (k i))
          ∙ sym (fold_more lattice_section start c.args.k.now m (pos 0) c.loop-section-test.true);
      long = given.length ∙ ap length before ∙ so_far.long;
      fits = given.fits;
      products = cost-more _ _ _ m _ so_far.products (omega (arith, given.products, ap length before, so_far.long));
    }

pub returns-clause-values : goal.returns-clause-values
returns-clause-values g c =
    let start = map (λ (a : ℤ). (a, a)) c.args.x.now in
    let all = c.as_slice-2.ensures.value ∙ c.loop-section.invariant.values
    ∙ ap (fold lattice_section start) (take_all c.loop-section.section-index c.args.k.now c.loop-section-test.false) in
    IfOk-weaker c.firsts.result _ _ (λ y given. given ∙ ap (map (λ (w : ℤ × ℤ). w.0)) all) c.firsts.ensures.values

pub returns-in_err-pairs-clause-values : goal.returns-in_err-pairs-clause-values
returns-in_err-pairs-clause-values g c = search rules

pub returns-in_err-pairs-clause-fits : goal.returns-in_err-pairs-clause-fits
returns-in_err-pairs-clause-fits g c = search rules

pub returns-in_err-pairs-clause-products : goal.returns-in_err-pairs-clause-products
returns-in_err-pairs-clause-products g c = search rules

pub loop-section-init : goal.loop-section-init
loop-section-init g c = search rules

pub offset_bounds-k-section-index : goal.offset_bounds-k-section-index
offset_bounds-k-section-index g c = search rules

pub returns-in_err-pairs-2-clause-values : goal.returns-in_err-pairs-2-clause-values
returns-in_err-pairs-2-clause-values g c = search rules

pub returns-in_err-pairs-2-clause-fits : goal.returns-in_err-pairs-2-clause-fits
returns-in_err-pairs-2-clause-fits g c = search rules

pub returns-in_err-pairs-2-clause-products : goal.returns-in_err-pairs-2-clause-products
returns-in_err-pairs-2-clause-products g c = search rules

pub returns-clause-fits : goal.returns-clause-fits
returns-clause-fits g c = search rules

pub returns-clause-products : goal.returns-clause-products
returns-clause-products g c = search rules
