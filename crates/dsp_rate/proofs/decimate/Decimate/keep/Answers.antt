use Rattle.std.proofs.Common.{◌≡◌, ◌∙◌, ◌+◌, ◌-◌, ◌++◌, ap, ap₂, pos, [], ◌∷◌, length, w64, arith}
use Rattle.std.proofs.lemmas.Int.{to_z_pos}
use Rattle.std.proofs.lemmas.List.{length_push}
use Rattle.dsp_rate.specs.DecimateState.{DecimateState, kept}
use Rattle.dsp_filter.proofs.Slices.{last-written}
use Rattle.dsp_rate.proofs.decimate.Decimate.keep.Goals as goal

pub returns : goal.returns
returns g c =
    let d = c.args.self.now in
    let n = length c.args.out.now - 1 in
    let phase = c.self.inside.phase in
    let long : length (kept d) ≡ length d.past + 1 = length_push d.past (pos d.phase) in
    let kept_long : length c.keep.new.out ≡ length d.past = ap length c.keep.ensures ∙
    ap (λ (s : DecimateState). length s.past) c.self.view_is in
    let whole : length c.args.out.now ≡ length d.past + 1 = c.requires.length ∙ long in
    let first : length c.keep.new.out ≡ n = omega (arith, kept_long, whole) in
    last-written n c.keep.new.out c.args.out.now _ first (omega (arith, whole))
    ∙ ap₂ (λ past z. past ++ z ∷ []) c.keep.ensures (to_z_pos w64 phase (omega arith))
    ∙ ap kept c.self.view_is
