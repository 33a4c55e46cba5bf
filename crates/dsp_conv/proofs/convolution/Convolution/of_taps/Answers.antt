use Rattle.std.proofs.Common.{◌≡◌, ◌∙◌, ◌-◌, ◌<◌, ap, sym, subst, length, map, replicate, pos, reverse, [], false}
use Rattle.std.proofs.Common.{vec_len, rules, arith, lit<}
use Rattle.std.proofs.lemmas.List.{reverse-reverse, length-map, length-reverse, length-replicate}
use Rattle.dsp_window.specs.Rolling.{Rolling}
use Rattle.dsp_window.proofs.Pushed.{new-past}
use Rattle.dsp_conv.specs.ConvState.{ConvState, StandsFor}
use Rattle.dsp_conv.proofs.CallLemmas.{new-stands}
use Rattle.dsp_conv.proofs.convolution.Convolution.of_taps.Goals as goal
use Rattle.dsp_defs.proofs.Causal.{map-reverse}

pub invariant_of-result : goal.invariant_of-result
invariant_of-result g c =
    let taps = c.args.taps.now in
    let window = c.in_ok-window.window in
    let made = c.in_ok-window.ensures.made in
    let view_len : vec_len c.in_ok-reversed.reversed ≡ length c.in_ok-reversed.reversed.items = search rules in
    let long : length c.in_ok-reversed.reversed.items ≡ length taps = ap length c.in_ok-reversed.ensures ∙
    length-reverse taps in
    let past : window.past ≡ length taps - 1 = ap (λ (w : Rolling). w.past) made in
    let room : window.room ≡ c.max.result = ap (λ (w : Rolling). w.room) made in
    let samples : length window.samples ≡ length taps - 1 = ap (λ (w : Rolling). length w.samples) made ∙
    length-replicate (length taps - 1) (pos 0) in
    record {
      past = omega (arith, view_len, long, past, c.requires.some);
      few = omega (arith, view_len, long, c.requires.few);
      some = c.requires.block;
      room = omega (arith, room, c.max.ensures);
      room_behind = omega (arith, room, c.max.ensures, view_len, long);
      filled = omega (arith, past, samples);
      zeros_are = c.in_ok-zeros.ensures ∙ ap (λ n. replicate n (pos 0)) (sym past);
      left_within = omega arith;
      place_within = omega arith;
      place_fits = lit< tt;
    }

pub returns-clause-made : goal.returns-clause-made
returns-clause-made g c =
    let number = g.T.Sample.number in
    let taps = c.args.taps.now in
    let order : reverse (map number c.in_ok-reversed.reversed.items) ≡ map number taps =
    ap (λ l. reverse (map number l)) c.in_ok-reversed.ensures ∙ ap reverse (map-reverse number taps) ∙
    reverse-reverse (map number taps) in
    let past = new-past c.in_ok-window.window (length taps - 1) (length (map number taps) - 1) _
    c.in_ok-window.ensures.made (ap (λ n. n - 1) (sym (length-map taps number))) in
    λ i. record {
      extent = c.args.extent;
      taps = order i;
      past = past i;
      place = 0;
      tail = [];
      block =
          c.args.block;
      ended = false;
    }

pub returns-clause-stands : goal.returns-clause-stands
returns-clause-stands g c =
    let T = g.T.Sample in
    let taps = map T.number c.args.taps.now in
    let some : 0 < length taps = omega (arith, c.requires.some, length-map c.args.taps.now T.number) in
    subst (λ (d : ConvState). StandsFor T.format d []) (sym (returns-clause-made g c))
    (new-stands T.format c.args.extent taps c.args.block some)
