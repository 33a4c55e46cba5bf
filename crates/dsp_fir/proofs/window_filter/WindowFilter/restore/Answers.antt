use Rattle.std.proofs.Common.{◌≡◌, ◌∙◌, ap, sym, subst, ℕ, length, arith}
use Rattle.std.specs.Prelude.{IfSome}
use Rattle.dsp_window.specs.Rolling.{Rolling}
use Rattle.dsp_window.proofs.Rolls.{length-last_samples}
use Rattle.dsp_fir.specs.WindowState.{DelayState, WindowState}
use Rattle.dsp_fir.proofs.window_filter.WindowFilter.restore.Goals as goal

pub invariant_of-self : goal.invariant_of-self
invariant_of-self g c =
    let old = c.self.inside.window in
    let new = c.restore.new.self in
    let inv = c.self.invariant in
    let past : new.past ≡ old.past = ap (λ (w : Rolling). w.past) c.restore.ensures in
    let samples : length new.samples ≡ length c.args.numbers.now =
    ap (λ (w : Rolling). length w.samples) c.restore.ensures in
    let long : length c.args.numbers.now ≡ old.past = c.requires.length ∙
    ap (λ (s : WindowState). length s.past) (sym c.self.view_is) ∙
    length-last_samples old.past old.samples inv.3 in
    let room = subst (λ (n : ℕ). IfSome c.self.inside.delays (λ (d : DelayState). d.room ≡ n))
    (sym (ap (λ (w : Rolling). w.room) c.restore.ensures)) inv.4 in
    (inv.0, inv.1, past ∙ inv.2, omega (arith, past, samples, long), room)

pub restore-requires-clause-length : goal.restore-requires-clause-length
restore-requires-clause-length g c =
    let old = c.self.inside.window in
    c.requires.length ∙ ap (λ (s : WindowState). length s.past) (sym c.self.view_is) ∙
    length-last_samples old.past old.samples c.self.invariant.3
