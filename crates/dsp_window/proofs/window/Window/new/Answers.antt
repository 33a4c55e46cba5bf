use Rattle.std.proofs.Common.{◌≡◌, ◌+◌, ◌-◌, ◌∙◌, length, sym, arith, vec_len}
use Rattle.std.proofs.lemmas.List.{append-nil}
use Rattle.dsp_window.proofs.Rolls.{zeros_are, zeros_long}
use Rattle.dsp_window.proofs.window.Window.new.Goals as goal

pub returns-clause-made : goal.returns-clause-made
returns-clause-made g c =
    let number = g.T.Sample.number in
    let p = c.args.past in
    let b = c.args.block in
    let v = c.in_ok-samples.samples in
    let zero = c.in_ok-samples.ensures in
    let long : length v.items ≡ p + b = zeros_long number (p + b) v.items zero in
    let stored = v.ok.0 in
    let room : vec_len v - p ≡ b = omega arith in
    let front = zeros_are number p b v.items zero in
    λ i. record { past = p; room = room i; samples = front i }

pub returns-clause-shows : goal.returns-clause-shows
returns-clause-shows g c =
    zeros_are g.T.Sample.number c.args.past c.args.block c.in_ok-samples.samples.items c.in_ok-samples.ensures ∙
    sym (append-nil _) ∙ sym (append-nil _)
