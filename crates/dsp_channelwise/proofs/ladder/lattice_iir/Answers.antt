use Rattle.std.proofs.Common.{◌≡◌, ◌∙◌, ap, sym, ◌+◌, ◌*◌, ℤ, List, [], to_z, of_z, arith, rules}
use Rattle.std.proofs.Common.{get_or, length, map, reverse, take, take_all}
use Rattle.std.specs.Prelude.{FitsSigned}
use Rattle.std.specs.Int.{w32}
use Rattle.std.proofs.lemmas.Int.{to_z-of_z}
use Rattle.dsp_defs.specs.Formats.{word}
use Rattle.dsp_defs.specs.Lattice.{ladder_close, ladder_output, ladder_sum}
use Rattle.dsp_defs.specs.Signal.{outputs, sample}
use Rattle.dsp_exact.proofs.Pushed.{all-more, cost-more}
use Rattle.dsp_channelwise.proofs.KeptStates.{cost-within, lattice-more, map-more, newest-pushed}
use Rattle.dsp_channelwise.proofs.ladder.lattice_iir.Goals as goal

pub loop-n-preserved : goal.loop-n-preserved
loop-n-preserved g c =
    let so_far = c.loop-n.invariant in
    let f = c.args.format in
    let value : to_z w32 (of_z w32 c.ladder_value.result) ≡ c.ladder_value.result =
    to_z-of_z w32 c.ladder_value.result (record { sfits = c.ladder_value.type_inv }) in
    let x : to_z w32 (of_z w32 (sample c.args.x.now c.loop-n.n)) ≡ sample c.args.x.now c.loop-n.n =
    search (rules, to_z-of_z) in
    let more = lattice-more f c.args.k.now c.args.x.now _ c.in_ok-g.g.items c.loop-n.n _ c.loop-n-test.true x
    (c.as_slice.ensures.value ∙ so_far.newest) c.in_ok-g.ensures.values in
    let close = λ (w : List ℤ). ladder_close f (ladder_sum c.args.v.now w) in
    let sum = value ∙ c.ladder_value.ensures.value ∙ ap close c.as_slice-in-loop-n.ensures.value in
    let lists = outputs (ladder_output f c.args.k.now) (take c.loop-n.n c.args.x.now) in
    record {
      values = map-more close _ _ _ lists _ c.in_ok-g.g.items c.in_ok-push.ensures.items sum so_far.values more;
      newest = sym (newest-pushed lists c.in_ok-g.g.items []) ∙ ap (λ l. get_or (reverse l) 0 []) (sym more);
      fits = all-more (FitsSigned (word f)) _ _ _ _ c.in_ok-push.ensures.items value so_far.fits
          c.ladder_value.ensures.fits;
      products = cost-more _ _ _ c.loop-n.n _ so_far.products
          (omega (arith, c.backward_values.ensures.products, c.ladder_value.ensures.products));
    }

pub returns-in_err-g-clause-products : goal.returns-in_err-g-clause-products
returns-in_err-g-clause-products g c =
    cost-within _ _ _ c.loop-n.n _ (length c.args.k.now * 2 + length c.args.v.now) c.loop-n.invariant.products
    (omega (arith, c.backward_values.ensures.products)) c.loop-n-test.true

pub returns-in_err-push-clause-products : goal.returns-in_err-push-clause-products
returns-in_err-push-clause-products g c =
    cost-within _ _ _ c.loop-n.n _ (length c.args.k.now * 2 + length c.args.v.now) c.loop-n.invariant.products
    (omega (arith, c.backward_values.ensures.products, c.ladder_value.ensures.products)) c.loop-n-test.true

pub returns-clause-values : goal.returns-clause-values
returns-clause-values g c =
    let f = c.args.format in
    let close = λ (w : List ℤ). ladder_close f (ladder_sum c.args.v.now w) in
    c.loop-n.invariant.values
    ∙ ap (λ x. map close (outputs (ladder_output f c.args.k.now) x))
    (take_all c.loop-n.n c.args.x.now c.loop-n-test.false)

pub returns-in_err-y-clause-values : goal.returns-in_err-y-clause-values
returns-in_err-y-clause-values g c = search rules

pub returns-in_err-y-clause-fits : goal.returns-in_err-y-clause-fits
returns-in_err-y-clause-fits g c = search rules

pub returns-in_err-y-clause-products : goal.returns-in_err-y-clause-products
returns-in_err-y-clause-products g c = search rules

pub loop-n-init : goal.loop-n-init
loop-n-init g c = search rules

pub offset_bounds-x-n : goal.offset_bounds-x-n
offset_bounds-x-n g c = search rules

pub bounds-x-n : goal.bounds-x-n
bounds-x-n g c = search rules

pub returns-in_err-g-clause-values : goal.returns-in_err-g-clause-values
returns-in_err-g-clause-values g c = search rules

pub returns-in_err-g-clause-fits : goal.returns-in_err-g-clause-fits
returns-in_err-g-clause-fits g c = search rules

pub returns-in_err-push-clause-values : goal.returns-in_err-push-clause-values
returns-in_err-push-clause-values g c = search rules

pub returns-in_err-push-clause-fits : goal.returns-in_err-push-clause-fits
returns-in_err-push-clause-fits g c = search rules

pub returns-clause-fits : goal.returns-clause-fits
returns-clause-fits g c = search rules

pub returns-clause-products : goal.returns-clause-products
returns-clause-products g c = search rules
