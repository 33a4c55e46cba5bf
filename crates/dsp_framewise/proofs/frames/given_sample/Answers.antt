use Rattle.std.proofs.Common.{◌≡◌, ◌∙◌, ap, sym, pos, to_z, of_z, arith, rules}
use Rattle.std.specs.Int.{w32}
use Rattle.std.specs.Prelude.{nat_abs}
use Rattle.std.proofs.lemmas.List.{get_or-map}
use Rattle.std.proofs.lemmas.Int.{to_z-of_z}
use Rattle.dsp_defs.specs.Elementwise.{abs, add, clip, convert, negate, scale, shift}
use Rattle.dsp_defs.specs.Signal.{sample}
use Rattle.dsp_framewise.proofs.Given.{block-held, clamped-fits, mapped, sample-fits}
use Rattle.dsp_framewise.proofs.frames.given_sample.Goals as goal

pub returns-in-Offset-clause-value : goal.returns-in-Offset-clause-value
returns-in-Offset-clause-value g c =
    let x = c.sample-x in
    let r = c.add in
    let held = rw c.in-Offset.is at (block-held _ c.args.block.now c.requires.suits) in
    let one = to_z w32 (of_z w32 x.result) in
    let inside = rw c.in-Offset.is at c.requires.channel in
    rw c.in-Offset.is (mapped (λ a. add c.args.format a c.in-Offset.value) c.args.frame.now
    c.args.j x.result r.result inside
    (record { sfits = x.type_inv }) (record { sfits = r.type_inv }) x.ensures
    (r.ensures.value ∙ ap (add c.args.format one) (to_z-of_z w32 _ held)))

pub returns-in-Negate-clause-value : goal.returns-in-Negate-clause-value
returns-in-Negate-clause-value g c =
    let x = c.sample-x in
    let r = c.negate in
    let inside = rw c.in-Negate.is at c.requires.channel in
    rw c.in-Negate.is (mapped (negate c.args.format) c.args.frame.now c.args.j x.result r.result inside
    (record { sfits = x.type_inv }) (record { sfits = r.type_inv }) x.ensures
    r.ensures.value)

pub returns-in-Abs-clause-value : goal.returns-in-Abs-clause-value
returns-in-Abs-clause-value g c =
    let x = c.sample-x in
    let r = c.abs in
    let inside = rw c.in-Abs.is at c.requires.channel in
    rw c.in-Abs.is (mapped (abs c.args.format) c.args.frame.now c.args.j x.result r.result inside
    (record { sfits = x.type_inv }) (record { sfits = r.type_inv }) x.ensures
    r.ensures.value)

pub returns-in-Scale-clause-value : goal.returns-in-Scale-clause-value
returns-in-Scale-clause-value g c =
    let x = c.sample-x in
    let r = c.scale in
    let held = rw c.in-Scale.is at (block-held _ c.args.block.now c.requires.suits) in
    let one = to_z w32 (of_z w32 x.result) in
    let inside = rw c.in-Scale.is at c.requires.channel in
    rw c.in-Scale.is (mapped (scale c.args.format c.in-Scale.fract c.in-Scale.shift) c.args.frame.now
    c.args.j x.result r.result inside
    (record { sfits = x.type_inv }) (record { sfits = r.type_inv }) x.ensures
    (r.ensures.value ∙ (λ i. scale c.args.format (to_z-of_z w32 _ held.0 i) (to_z-of_z w32 _ held.1 i) one)))

pub returns-in-Shift-clause-value : goal.returns-in-Shift-clause-value
returns-in-Shift-clause-value g c =
    let x = c.sample-x in
    let r = c.shift_in in
    let held = rw c.in-Shift.is at (block-held _ c.args.block.now c.requires.suits) in
    let one = to_z w32 (of_z w32 x.result) in
    let inside = rw c.in-Shift.is at c.requires.channel in
    rw c.in-Shift.is (mapped (shift c.args.format c.in-Shift.shift) c.args.frame.now c.args.j x.result r.result inside
    (record { sfits = x.type_inv }) (record { sfits = r.type_inv }) x.ensures
    (r.ensures.value ∙ ap (λ s. shift c.args.format s one) (to_z-of_z w32 _ held)))

pub returns-in-Clip-clause-value : goal.returns-in-Clip-clause-value
returns-in-Clip-clause-value g c =
    let x = c.sample-x in
    let r = c.clip in
    let held = rw c.in-Clip.is at (block-held _ c.args.block.now c.requires.suits) in
    let one = to_z w32 (of_z w32 x.result) in
    let inside = rw c.in-Clip.is at c.requires.channel in
    rw c.in-Clip.is (mapped (clip c.in-Clip.low c.in-Clip.high) c.args.frame.now c.args.j x.result r.result inside
    (record { sfits = x.type_inv }) (record { sfits = r.type_inv }) x.ensures
    (r.ensures.value ∙ (λ i. clip (to_z-of_z w32 _ held.0 i) (to_z-of_z w32 _ held.1 i) one)))

pub returns-in-To-clause-value : goal.returns-in-To-clause-value
returns-in-To-clause-value g c =
    let x = c.sample-x in
    let r = c.convert in
    let inside = rw c.in-To.is at c.requires.channel in
    rw c.in-To.is (mapped (convert c.args.format c.in-To.to) c.args.frame.now c.args.j x.result r.result inside
    (record { sfits = x.type_inv }) (record { sfits = r.type_inv }) x.ensures
    r.ensures.value)

pub returns-in-Route-clause-value : goal.returns-in-Route-clause-value
returns-in-Route-clause-value g c =
    let frame = c.args.frame.now in
    let j = c.args.j in
    let r = c.sample-in-Route in
    let numbers = c.as_slice.result.now in
    let inside = rw c.in-Route.is at c.requires.channel in
    let number : to_z w32 (of_z w32 (sample numbers j)) ≡ sample numbers j = search (rules, to_z-of_z) in
    rw c.in-Route.is (to_z-of_z w32 r.result (record { sfits = r.type_inv }) ∙ r.ensures ∙ ap (sample frame)
    (c.unsigned_abs.ensures.value ∙ ap nat_abs (number ∙ ap (λ l. sample l j) c.as_slice.ensures))
    ∙ sym (get_or-map (λ a. sample frame (nat_abs a)) c.in-Route.channels j (pos 0) (pos 0) inside))

pub returns-in-Route-clause-fits : goal.returns-in-Route-clause-fits
returns-in-Route-clause-fits g c =
    let r = c.sample-in-Route in
    rw (c.in-Route.is, to_z-of_z w32 r.result (record { sfits = r.type_inv }), r.ensures)
    (sample-fits c.args.format c.args.frame.now _ c.requires.format)

pub returns-in-Clip-clause-fits : goal.returns-in-Clip-clause-fits
returns-in-Clip-clause-fits g c =
    let held = rw c.in-Clip.is at (block-held _ c.args.block.now c.requires.suits) in
    let limits = rw c.in-Clip.is at c.requires.suits.parameters in
    let clamp = clamped-fits c.args.format c.in-Clip.low c.in-Clip.high c.clip.result limits.0 limits.1.0 in
    grind (arith, to_z-of_z, clamp)

pub unreachable-requires : goal.unreachable-requires
unreachable-requires g c = search (rules, c.in_default)

pub returns-in-Add : goal.returns-in-Add
returns-in-Add g c = search rules

pub returns-in-Sub : goal.returns-in-Sub
returns-in-Sub g c = search rules

pub returns-in-Mult : goal.returns-in-Mult
returns-in-Mult g c = search rules

pub returns-in-Conj : goal.returns-in-Conj
returns-in-Conj g c = search rules

pub returns-in-Conj-2 : goal.returns-in-Conj-2
returns-in-Conj-2 g c = search rules

pub returns-in-CmplxMult : goal.returns-in-CmplxMult
returns-in-CmplxMult g c = search rules

pub returns-in-CmplxMult-2 : goal.returns-in-CmplxMult-2
returns-in-CmplxMult-2 g c = search rules

pub returns-in-CmplxMultReal : goal.returns-in-CmplxMultReal
returns-in-CmplxMultReal g c = search rules

pub returns-in-MagSquared : goal.returns-in-MagSquared
returns-in-MagSquared g c = search rules

pub returns-in-Power : goal.returns-in-Power
returns-in-Power g c = search rules

pub returns-in-Power-2 : goal.returns-in-Power-2
returns-in-Power-2 g c = search rules

pub returns-in-Power-3 : goal.returns-in-Power-3
returns-in-Power-3 g c = search rules

pub returns-in-Power-4 : goal.returns-in-Power-4
returns-in-Power-4 g c = search rules

pub returns-in-Power-5 : goal.returns-in-Power-5
returns-in-Power-5 g c = search rules

pub shift_in-requires-clause-low : goal.shift_in-requires-clause-low
shift_in-requires-clause-low g c = search rules

pub shift_in-requires-clause-high : goal.shift_in-requires-clause-high
shift_in-requires-clause-high g c = search rules

pub shift_in-requires-clause-fits : goal.shift_in-requires-clause-fits
shift_in-requires-clause-fits g c = search rules

pub offset_bounds-as_slice-j : goal.offset_bounds-as_slice-j
offset_bounds-as_slice-j g c = search rules

pub bounds-as_slice-j : goal.bounds-as_slice-j
bounds-as_slice-j g c = search rules

pub overflow_cast-unsigned_abs : goal.overflow_cast-unsigned_abs
overflow_cast-unsigned_abs g c = search rules

pub unreachable-unreachable : goal.unreachable-unreachable
unreachable-unreachable g c = search rules

pub returns-in-Offset-clause-fits : goal.returns-in-Offset-clause-fits
returns-in-Offset-clause-fits g c = search rules

pub returns-in-Offset-clause-products : goal.returns-in-Offset-clause-products
returns-in-Offset-clause-products g c = search rules

pub returns-in-Negate-clause-fits : goal.returns-in-Negate-clause-fits
returns-in-Negate-clause-fits g c = search rules

pub returns-in-Negate-clause-products : goal.returns-in-Negate-clause-products
returns-in-Negate-clause-products g c = search rules

pub returns-in-Abs-clause-fits : goal.returns-in-Abs-clause-fits
returns-in-Abs-clause-fits g c = search rules

pub returns-in-Abs-clause-products : goal.returns-in-Abs-clause-products
returns-in-Abs-clause-products g c = search rules

pub returns-in-Scale-clause-fits : goal.returns-in-Scale-clause-fits
returns-in-Scale-clause-fits g c = search rules

pub returns-in-Scale-clause-products : goal.returns-in-Scale-clause-products
returns-in-Scale-clause-products g c = search rules

pub returns-in-Shift-clause-fits : goal.returns-in-Shift-clause-fits
returns-in-Shift-clause-fits g c = search rules

pub returns-in-Shift-clause-products : goal.returns-in-Shift-clause-products
returns-in-Shift-clause-products g c = search rules

pub returns-in-Clip-clause-products : goal.returns-in-Clip-clause-products
returns-in-Clip-clause-products g c = search rules

pub returns-in-To-clause-fits : goal.returns-in-To-clause-fits
returns-in-To-clause-fits g c = search rules

pub returns-in-To-clause-products : goal.returns-in-To-clause-products
returns-in-To-clause-products g c = search rules

pub returns-in-Route-clause-products : goal.returns-in-Route-clause-products
returns-in-Route-clause-products g c = search rules
