use Rattle.std.proofs.Common.{◌≡◌, ◌∙◌, ◌-◌, ap, sym, None, Some, map, pos, length, vec_len, arith, rules}
use Rattle.std.proofs.lemmas.List.{length-map}
use Rattle.dsp_defs.specs.Kept.{greatest}
use Rattle.dsp_fir.specs.Delays.{sparse_rows}
use Rattle.dsp_fir.proofs.BlockLemmas.{block-values}
use Rattle.dsp_fir.proofs.DelayLemmas.{within-past, named-values}
use Rattle.dsp_fir.proofs.window_rows.window_rows.Goals as goal

pub delayed_rows-requires-clause-within : goal.delayed_rows-requires-clause-within
delayed_rows-requires-clause-within g c = λ k d h.
    let ds = c.in-Some.field-0.delays.items in
    let same : c.args.delays.now ≡ Some (record { delays = ds; room = vec_len c.in-Some.field-0.sums }) =
    search rules in
    let long = rw same at c.requires.window in
    rw c.deref.ensures.value (within-past (length c.args.window.now - length c.args.out.now) ds k d
    (omega (arith, long)) (omega (arith, h, ap length c.deref.ensures.value)))

pub returns-in-None-clause-values : goal.returns-in-None-clause-values
returns-in-None-clause-values g c = λ x taken size shows.
    let T = g.T.Sample in
    let same : c.args.delays.now ≡ None = search rules in
    rw same
    (block-values T.format (map T.number c.args.taps.now) x taken (map T.number c.args.window.now)
    (map T.number c.rows.new.out) (length c.args.out.now) (rw same at c.requires.block) (rw same at shows) size
    c.rows.ensures.out)

pub returns-in-Some-clause-values : goal.returns-in-Some-clause-values
returns-in-Some-clause-values g c = λ x taken size shows.
    let T = g.T.Sample in
    let ds = c.in-Some.field-0.delays.items in
    let past = length c.args.window.now - length c.args.out.now in
    let window = map T.number c.args.window.now in
    let taps = map T.number c.args.taps.now in
    let count = length c.args.out.now in
    let same : c.args.delays.now ≡ Some (record { delays = ds; room = vec_len c.in-Some.field-0.sums }) =
    search rules in
    let long = rw same at c.requires.window in
    let depth : past ≡ greatest (map pos ds) = omega (arith, long) in
    rw same
    (named-values T.format taps ds past x taken window (map T.number c.delayed_rows.new.out) count
    (rw same at c.requires.block) depth (rw same at shows) size
    (c.delayed_rows.ensures.out ∙ ap (λ d. sparse_rows T.format taps d past window count) c.deref.ensures.value))

pub rows-requires-clause-taps : goal.rows-requires-clause-taps
rows-requires-clause-taps g c =
    let same : c.args.delays.now ≡ None = search rules in
    let is = rw same at c.requires.block in
    omega (arith, is.0, length-map c.args.taps.now g.T.Sample.number)

pub rows-requires-clause-window : goal.rows-requires-clause-window
rows-requires-clause-window g c =
    let same : c.args.delays.now ≡ None = search rules in
    let is = rw same at c.requires.block in
    let long = rw same at c.requires.window in
    omega (arith, is.0, long, length-map c.args.taps.now g.T.Sample.number)

pub delayed_rows-requires-clause-same : goal.delayed_rows-requires-clause-same
delayed_rows-requires-clause-same g c =
    let ds = c.in-Some.field-0.delays.items in
    let same : c.args.delays.now ≡ Some (record { delays = ds; room = vec_len c.in-Some.field-0.sums }) =
    search rules in
    let is = rw same at c.requires.block in
    ap length c.deref.ensures.value ∙ sym (length-map ds pos) ∙ is.1 ∙ length-map c.args.taps.now g.T.Sample.number
