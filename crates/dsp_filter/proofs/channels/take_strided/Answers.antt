use Rattle.std.proofs.Common.{◌≡◌, ◌∙◌, ap, sym, ℕ, ◌+◌, ◌*◌, ◌<◌, ◌++◌, ◌∷◌, [], length, map, take, arith, rules}
use Rattle.std.proofs.Common.{SFits, to_z-of_z}
use mir.Syntax.{w32}
use Rattle.std.proofs.lemmas.List.{take_more_set, map-append}
use Rattle.std.proofs.lemmas.List.FromFn.{map-range_with_len_more}
use Rattle.dsp_defs.specs.Signal.{sample, values}
use Rattle.dsp_filter.proofs.channels.take_strided.Goals as goal

pub loop-n-preserved : goal.loop-n-preserved
loop-n-preserved g c =
    let i = c.loop-n.n in
    let number = g.T.Sample.number in
    let v = c.of_number.result in
    let f = λ (n : ℕ). sample c.args.frames.now (n * c.args.channels + c.args.channel) in
    let room : i < length c.loop-n.input = omega arith in
    let fits : SFits w32 (f i) = search rules in
    let made : number v ≡ f i = c.of_number.ensures ∙ to_z-of_z fits in
    ap (map number) (take_more_set c.loop-n.input i v room)
    ∙ map-append number (take i c.loop-n.input) (v ∷ [])
    ∙ ap (λ front. front ++ number v ∷ []) c.loop-n.invariant
    ∙ ap (λ last. values i f ++ last ∷ []) made
    ∙ sym (map-range_with_len_more f 0 i i (omega arith))
