use Rattle.std.proofs.Common.{◌≡◌, ◌∙◌, ap, sym, ◌+◌, ◌-◌, ◌++◌, length, length-take-le, reverse, map, arith}
use Rattle.dsp_adapt.specs.LmsState.{LmsState, kept}
use Rattle.dsp_adapt.proofs.LmsMaking.{kept-long, rest-long, both-written}
use Rattle.dsp_adapt.proofs.lms.Lms.keep.Goals as goal

pub keep-requires : goal.keep-requires
keep-requires g c =
    let f = c.self.inside in
    let size : length c.args.out.now ≡ f.window.past + length f.weights.items = c.requires.length ∙
    ap (λ (s : LmsState). length (kept s)) (sym c.self.view_is) ∙
    kept-long g.T.Sample.number f.window f.weights.items (omega arith) in
    let past : c.len-past.result - 1 ≡ f.window.past = omega arith in
    length-take-le (c.len-past.result - 1) c.args.out.now (omega (arith, size, past)) ∙ past

pub keep_reversed-requires : goal.keep_reversed-requires
keep_reversed-requires g c =
    let f = c.self.inside in
    let size : length c.args.out.now ≡ f.window.past + length f.weights.items = c.requires.length ∙
    ap (λ (s : LmsState). length (kept s)) (sym c.self.view_is) ∙
    kept-long g.T.Sample.number f.window f.weights.items (omega arith) in
    let past : c.len-past.result - 1 ≡ f.window.past = omega arith in
    rest-long c.keep.new.out c.args.out.now (c.len-past.result - 1) (length f.weights.items)
    (c.keep.auto.out ∙ length-take-le (c.len-past.result - 1) c.args.out.now (omega (arith, size, past)))
    (omega (arith, size, past))
    ∙ ap length (sym c.deref.ensures.value)

pub returns : goal.returns
returns g c =
    let f = c.self.inside in
    let size : length c.args.out.now ≡ f.window.past + length f.weights.items = c.requires.length ∙
    ap (λ (s : LmsState). length (kept s)) (sym c.self.view_is) ∙
    kept-long g.T.Sample.number f.window f.weights.items (omega arith) in
    let past : c.len-past.result - 1 ≡ f.window.past = omega arith in
    let first = c.keep.auto.out ∙ length-take-le (c.len-past.result - 1) c.args.out.now (omega (arith, size, past)) in
    let whole : length c.args.out.now ≡ c.len-past.result - 1 + length f.weights.items = omega (arith, size, past) in
    both-written c.keep.new.out c.args.out.now (c.len-past.result - 1) (length f.weights.items) first whole
    c.keep_reversed.new.out
    (c.keep_reversed.auto.out ∙ rest-long c.keep.new.out c.args.out.now (c.len-past.result - 1)
    (length f.weights.items) first whole)
    ∙ (λ i. c.keep.ensures i ++ (c.keep_reversed.ensures ∙
    ap (λ l. reverse (map g.T.Sample.number l)) c.deref.ensures.value) i)
    ∙ ap kept c.self.view_is

pub overflow_sub-past : goal.overflow_sub-past
overflow_sub-past g c = omega (arith, c.self.invariant.0)

pub slice_bounds-keep-end : goal.slice_bounds-keep-end
slice_bounds-keep-end g c =
    let f = c.self.inside in
    let size : length c.args.out.now ≡ f.window.past + length f.weights.items = c.requires.length ∙
    ap (λ (s : LmsState). length (kept s)) (sym c.self.view_is) ∙
    kept-long g.T.Sample.number f.window f.weights.items (omega arith) in
    let past : c.len-past.result - 1 ≡ f.window.past = omega arith in
    omega (arith, size, past)

pub slice_bounds-keep-end-2 : goal.slice_bounds-keep-end-2
slice_bounds-keep-end-2 g c =
    let f = c.self.inside in
    let size : length c.args.out.now ≡ f.window.past + length f.weights.items = c.requires.length ∙
    ap (λ (s : LmsState). length (kept s)) (sym c.self.view_is) ∙
    kept-long g.T.Sample.number f.window f.weights.items (omega arith) in
    let past : c.len-past.result - 1 ≡ f.window.past = omega arith in
    sym (length-take-le (c.len-past.result - 1) c.args.out.now (omega (arith, size, past)))
