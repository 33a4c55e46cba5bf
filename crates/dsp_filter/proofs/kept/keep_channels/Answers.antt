use Rattle.std.proofs.Common.{◌≡◌, ◌∙◌, ◌≤◌, ◌+◌, ap, ap₂, sym, List, ◌++◌, length, arith, length-append}
use Rattle.std.proofs.lemmas.Slice.{take-put_mid}
use Rattle.dsp_filter.proofs.KeptLists.{kept-room, kept-more}
use Rattle.dsp_filter.proofs.kept.keep_channels.Goals as goal

pub slice_bounds-keep-end : goal.slice_bounds-keep-end
slice_bounds-keep-end g c =
    let room = kept-room g.F.Filter.filter c.args.filters.now c.loop-filter.filter-index c.filter-item.result
    c.loop-filter-test.true c.filter-item.is in
    let inside : c.loop-filter.place + c.kept_count-count.result ≤ length c.loop-filter.out =
    omega (
      arith,
      room,
      c.loop-filter.invariant.counted,
      c.kept_count-count.ensures.count,
      c.requires.count,
      c.loop-filter.auto.out,
    ) in
    omega (arith, inside)

pub loop-filter-preserved : goal.loop-filter-preserved
loop-filter-preserved g c =
    let filter = g.F.Filter.filter in
    let room = kept-room filter c.args.filters.now c.loop-filter.filter-index c.filter-item.result
    c.loop-filter-test.true c.filter-item.is in
    let more = kept-more filter c.args.filters.now c.loop-filter.filter-index c.filter-item.result
    c.loop-filter-test.true c.filter-item.is in
    let count : length c.keep.new.out ≡ c.kept_count-count.result = ap length c.keep.ensures ∙
    sym c.kept_count-count.ensures.count in
    let start : c.loop-filter.place ≤ length c.loop-filter.out =
    omega (arith, room, c.loop-filter.invariant.counted, c.requires.count, c.loop-filter.auto.out) in
    record {
      counted = rw (more, length-append) (omega (
        arith,
        c.loop-filter.invariant.counted,
        c.kept_count-count.ensures.count,
      ));
      written =
          take-put_mid c.loop-filter.place _ c.loop-filter.out c.keep.new.out
          (c.loop-filter.place + c.kept_count-count.result) (omega (arith, count)) start
          ∙ ap₂ {C = List _} (λ a b. a ++ b) c.loop-filter.invariant.written c.keep.ensures
          ∙ sym more;
    }
