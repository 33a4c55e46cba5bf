use Rattle.std.proofs.Common.{◌∙◌, ap, sym, subst, length, map, arith}
use Rattle.dsp_window.specs.Rolling.{Rolling}
use Rattle.dsp_window.proofs.Rolls.{length-last_samples}
use Rattle.dsp_window.proofs.Pushed.{restored-past}
use Rattle.dsp_rate.specs.InterpolateState.{InterpolateState, IsPhased, unsorted}
use Rattle.dsp_rate.proofs.interpolate.Interpolate.restore.Goals as goal

pub restore-requires-clause-length : goal.restore-requires-clause-length
restore-requires-clause-length g c =
    let w = c.self.inside.window in
    c.requires.length ∙ ap (λ (s : InterpolateState). length s.past) (sym c.self.view_is) ∙
    length-last_samples w.past w.samples c.self.invariant.1.shown

pub invariant_of-self : goal.invariant_of-self
invariant_of-self g c =
    let f = c.self.inside in
    let is = c.self.invariant.1 in
    let long = c.requires.length ∙ ap (λ (s : InterpolateState). length s.past) (sym c.self.view_is) ∙
    length-last_samples f.window.past f.window.samples is.shown in (
      c.self.invariant.0 ∙ sym (ap (λ (w : Rolling). w.room) c.restore.ensures),
      subst (λ (w : Rolling). IsPhased f.factor (map g.T.Sample.number f.phases.items) w) (sym c.restore.ensures)
          (record {
            some = is.some;
            few = is.few;
            taps = is.taps;
            limit = is.limit;
            whole = is.whole;
            past = is.past;
            shown = omega (arith, long);
            room = is.room;
          }),
    )

pub returns : goal.returns
returns g c =
    let f = c.self.inside in
    let numbers = c.args.numbers.now in
    let long = c.requires.length ∙ ap (λ (s : InterpolateState). length s.past) (sym c.self.view_is) ∙
    length-last_samples f.window.past f.window.samples c.self.invariant.1.shown in
    let past = restored-past f.window c.restore.new.self numbers c.restore.ensures long in
    let room = ap (λ (w : Rolling). w.room) c.restore.ensures in
    (λ i. record {
      factor = f.factor;
      taps = unsorted f.factor (map g.T.Sample.number f.phases.items);
      past = past i;
      block = room i;
      ended = f.ended;
    })
    ∙ ap (λ (s : InterpolateState). record s { past = numbers }) c.self.view_is
