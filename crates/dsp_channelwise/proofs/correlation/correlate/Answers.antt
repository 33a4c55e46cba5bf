use Rattle.std.proofs.Common.{◌≡◌, ◌-◌, ◌*◌, ◌<◌, ◌∙◌, ◌+ℤ◌, ◌*ℤ◌, ◌+◌, ℕ, ap, sym, length, map, take_all, arith, rules}
use Rattle.std.proofs.Common.{to_z, of_z}
use Rattle.std.specs.Prelude.{nat_abs}
use Rattle.std.specs.Int.{w32}
use Rattle.std.proofs.lemmas.Int.{to_z-of_z}
use Rattle.std.proofs.lemmas.List.{take-append-le}
use Rattle.std.proofs.lemmas.Result.{IfOk-weaker}
use Rattle.dsp_defs.specs.Formats.{close}
use Rattle.dsp_defs.specs.Signal.{delayed, sample, sum_below}
use Rattle.dsp_exact.proofs.Pushed.{cost-more}
use Rattle.dsp_exact.proofs.Steps.{sum-push}
use Rattle.dsp_channelwise.proofs.Correlations.{correlation-is}
use Rattle.dsp_channelwise.proofs.correlation.correlate.Goals as goal

pub loop-k-preserved : goal.loop-k-preserved
loop-k-preserved g c =
    let so_far = c.loop-k.invariant in
    let k = c.loop-k.k in
    let m = c.max-m.result in
    let new = c.scatter.new.sums in
    let old = c.as_mut_slice.ensures.value in
    let size = c.scatter.ensures.length ∙ c.as_mut_slice.ensures.len in
    let kept = take-append-le c.loop-k.sums.len new _ (omega (arith, size))
    ∙ take_all c.loop-k.sums.len new (omega (arith, size)) in
    let long = ap length old ∙ so_far.long in
    let x : to_z w32 (of_z w32 (sample c.args.x.now k)) ≡ sample c.args.x.now k = search (rules, to_z-of_z) in
    record {
      long = ap length kept ∙ c.scatter.ensures.length ∙ long;
      value = λ n inside. ap (λ l. sample l n) kept ∙ c.scatter.ensures.values n (omega (arith, inside, long))
          ∙ (λ i. (ap (λ l. sample l n) old ∙ so_far.value n inside) i +ℤ x i *ℤ delayed c.args.taps.now (k + m - 1) n)
          ∙ sym (sum-push (λ j. sample c.args.x.now j *ℤ delayed c.args.taps.now (j + m - 1) n) k);
      small = λ n inside. omega (
        arith,
        ap (λ l. nat_abs (sample l n)) kept,
        ap (λ l. nat_abs (sample l n)) old,
        c.scatter.ensures.small n (omega (arith, inside, long)),
        so_far.small n inside,
      );
      products = cost-more _ _ _ k _ so_far.products c.scatter.ensures.products;
    }

pub returns-clause-values : goal.returns-clause-values
returns-clause-values g c =
    let all = c.loop-k.invariant in
    let end : c.loop-k.k ≡ length c.args.x.now = omega arith in
    let value : (n : ℕ) → n < 2 * c.max-m.result - 1 → sample c.loop-k.sums.items n
    ≡ sum_below (length c.args.x.now) (λ k. sample c.args.x.now k *ℤ delayed c.args.taps.now (k + c.max-m.result - 1)
    n) =
    λ n inside. all.value n inside ∙ ap (λ count. sum_below count
    (λ k. sample c.args.x.now k *ℤ delayed c.args.taps.now (k + c.max-m.result - 1) n)) end in
    let is = correlation-is c.args.format c.args.taps.now c.args.x.now c.loop-k.sums.items c.max-m.result
    (sym c.is_empty.ensures ∙ c.if-is_empty.false)
    c.max-m.ensures all.long value in
    IfOk-weaker c.all_closed.result _ _
    (λ y given. given ∙ ap (map (close c.args.format)) c.as_slice.ensures.value ∙ is) c.all_closed.ensures.values

pub returns-then-is_empty-clause-values : goal.returns-then-is_empty-clause-values
returns-then-is_empty-clause-values g c = search rules

pub returns-then-is_empty-clause-fits : goal.returns-then-is_empty-clause-fits
returns-then-is_empty-clause-fits g c = search rules

pub returns-then-is_empty-clause-products : goal.returns-then-is_empty-clause-products
returns-then-is_empty-clause-products g c = search rules

pub overflow_mul-m : goal.overflow_mul-m
overflow_mul-m g c = search rules

pub overflow_sub-m : goal.overflow_sub-m
overflow_sub-m g c = search rules

pub returns-in_err-sums-clause-values : goal.returns-in_err-sums-clause-values
returns-in_err-sums-clause-values g c = search rules

pub returns-in_err-sums-clause-fits : goal.returns-in_err-sums-clause-fits
returns-in_err-sums-clause-fits g c = search rules

pub returns-in_err-sums-clause-products : goal.returns-in_err-sums-clause-products
returns-in_err-sums-clause-products g c = search rules

pub overflow_add-k : goal.overflow_add-k
overflow_add-k g c = search rules

pub overflow_sub-k : goal.overflow_sub-k
overflow_sub-k g c = search rules

pub offset_bounds-x-k : goal.offset_bounds-x-k
offset_bounds-x-k g c = search rules

pub bounds-x-k : goal.bounds-x-k
bounds-x-k g c = search rules

pub scatter-requires-clause-inside : goal.scatter-requires-clause-inside
scatter-requires-clause-inside g c = search rules

pub scatter-requires-clause-room : goal.scatter-requires-clause-room
scatter-requires-clause-room g c = search rules

pub scatter-requires-clause-small : goal.scatter-requires-clause-small
scatter-requires-clause-small g c = search rules

pub returns-clause-fits : goal.returns-clause-fits
returns-clause-fits g c = search rules

pub returns-clause-products : goal.returns-clause-products
returns-clause-products g c = search rules
