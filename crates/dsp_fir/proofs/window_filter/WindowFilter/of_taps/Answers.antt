use Rattle.std.proofs.Common.{◌≡◌, ◌∙◌, ap, sym, subst, false, ℕ, length, map, pos, arith}
use Rattle.std.specs.Prelude.{IfSome}
use Rattle.std.proofs.lemmas.List.{length-replicate}
use Rattle.dsp_window.specs.Rolling.{Rolling}
use Rattle.dsp_window.proofs.Pushed.{new-past}
use Rattle.dsp_fir.specs.Laws.{windowed}
use Rattle.dsp_fir.specs.WindowState.{DelayState, block_of, past_count}
use Rattle.dsp_fir.proofs.ChannelLemmas.{new-channel}
use Rattle.dsp_fir.proofs.window_filter.WindowFilter.of_taps.Goals as goal

pub new-requires-clause-past : goal.new-requires-clause-past
new-requires-clause-past g c =
    let T = g.T.Sample in
    let block = block_of (map T.number c.args.taps.items) c.args.delays in
    let depth : c.past_of-past.result ≡ past_count block = c.past_of-past.ensures ∙
    ap (λ l. past_count (block_of (map T.number l) c.args.delays)) c.deref.ensures.value in
    omega (arith, depth, (windowed T.format block c.requires.block).few)

pub returns-clause-fresh : goal.returns-clause-fresh
returns-clause-fresh g c =
    let T = g.T.Sample in
    let block = block_of (map T.number c.args.taps.items) c.args.delays in
    let depth : c.past_of-past.result ≡ past_count block = c.past_of-past.ensures ∙
    ap (λ l. past_count (block_of (map T.number l) c.args.delays)) c.deref.ensures.value in
    new-channel T.format block c.args.capacity c.past_of-past.result c.in_ok-window.window
    (windowed T.format block c.requires.block) depth c.in_ok-window.ensures.made

pub returns-clause-stands : goal.returns-clause-stands
returns-clause-stands g c =
    let T = g.T.Sample in
    let block = block_of (map T.number c.args.taps.items) c.args.delays in
    let depth : c.past_of-past.result ≡ past_count block = c.past_of-past.ensures ∙
    ap (λ l. past_count (block_of (map T.number l) c.args.delays)) c.deref.ensures.value in
    (new-channel T.format block c.args.capacity c.past_of-past.result c.in_ok-window.window
    (windowed T.format block c.requires.block) depth c.in_ok-window.ensures.made).stands.keeps

pub invariant_of-result : goal.invariant_of-result
invariant_of-result g c =
    let T = g.T.Sample in
    let depth : c.past_of-past.result ≡ past_count (block_of (map T.number c.args.taps.items) c.args.delays) =
    c.past_of-past.ensures ∙ ap (λ l. past_count (block_of (map T.number l) c.args.delays)) c.deref.ensures.value in
    let window = c.in_ok-window.window in
    let made = c.in_ok-window.ensures.made in
    let past : window.past ≡ c.past_of-past.result = ap (λ (w : Rolling). w.past) made in
    let long : length window.samples ≡ c.past_of-past.result = ap (λ (w : Rolling). length w.samples) made ∙
    length-replicate c.past_of-past.result (pos 0) in
    let room = subst (λ (n : ℕ). IfSome c.args.delays (λ (d : DelayState). d.room ≡ n))
    (sym (ap (λ (w : Rolling). w.room) made)) c.requires.room in
    (c.requires.block, depth, past, omega (arith, past, long), room)

pub returns-clause-made : goal.returns-clause-made
returns-clause-made g c =
    let block = block_of (map g.T.Sample.number c.args.taps.items) c.args.delays in
    let depth : c.past_of-past.result ≡ past_count block = c.past_of-past.ensures ∙
    ap (λ l. past_count (block_of (map g.T.Sample.number l) c.args.delays)) c.deref.ensures.value in
    let past = new-past c.in_ok-window.window c.past_of-past.result (past_count block) _ c.in_ok-window.ensures.made
    depth in
    let room = ap (λ (w : Rolling). w.room) c.in_ok-window.ensures.made in
    (λ i. record { block = block; past = past i; capacity = room i; ended = false })
