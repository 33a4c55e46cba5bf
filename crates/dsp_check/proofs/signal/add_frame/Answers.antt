use Rattle.std.proofs.Common.{◌≡◌, ◌∙◌, ◌<◌, ap, sym, subst, [], ◌∷◌, ◌++◌, length, get_or, set, arith}
use Rattle.std.proofs.lemmas.List.{ext_get_or, get_or_default, set-get_or}
use Rattle.std.proofs.lemmas.List.FromFn.{fill_by_all}
use Rattle.dsp_defs.specs.Signal.{sample}
use Rattle.dsp_check.specs.Channels.{AreChannels, frame_count, with_frame}
use Rattle.dsp_check.proofs.Signals.{are-with, cut-back}
use Rattle.dsp_check.proofs.signal.add_frame.Goals as goal

pub returns-in-Err : goal.returns-in-Err
returns-in-Err c =
    let old = c.args.channels.now in
    let now = c.loop-c.channels in
    let count : length c.as_slice-frames.result.now ≡ frame_count old = ap length
    (c.as_slice-frames.ensures ∙ get_or_default old 0 _ [] c.requires.are.some) in
    let same : set now c.loop-c.c c.push.new.self ≡ now = ap (set now c.loop-c.c) c.in-Err.ensures.err ∙
    set-get_or now c.loop-c.c _ in
    let cut = rw same at c.cut_back.ensures in
    let size : length c.cut_back.new.channels ≡ length old = c.cut_back.auto.channels ∙ ap length same ∙
    c.loop-c.invariant.size in
    let back : c.cut_back.new.channels ≡ old =
    ext_get_or [] c.cut_back.new.channels old size
    (λ k inside.
    let here : k < length old = omega (arith, size, inside) in
    cut k (omega (arith, here, c.loop-c.invariant.size))
    ∙ cut-back old now c.args.frame.now _ c.loop-c.c k c.requires.are count here c.loop-c.invariant.before
    c.loop-c.invariant.behind) in
    record { ok = tt; err = back; are = subst AreChannels (sym back) c.requires.are }

pub returns : goal.returns
returns c =
    let old = c.args.channels.now in
    let all : c.loop-c.channels ≡ with_frame old c.args.frame.now =
    fill_by_all (λ k. get_or old k [] ++ sample c.args.frame.now k ∷ []) c.loop-c.channels (length old) []
    c.loop-c.invariant.size (λ k inside. c.loop-c.invariant.before k (omega arith)) in
    record {
      ok = all;
      err = tt;
      are = subst AreChannels (sym all) (are-with old c.args.frame.now c.requires.are);
    }
