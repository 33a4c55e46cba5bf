use Rattle.std.proofs.Common.{◌≡◌, ◌∙◌, ap, refl, sym, rules, ℤ, List, [], ◌∷◌, map, SFits}
use Rattle.std.specs.Int.{w32}
use Rattle.std.proofs.lemmas.Int.{to_z-of_z}
use Rattle.dsp_defs.specs.Signal.{sample}
use Rattle.dsp_biquad.specs.Sections.{wide_acts, section_of}
use Rattle.dsp_biquad.proofs.section64.Section64CascadeSectionI32.new.Goals as goal

map-same : (l : List ℤ) → map (λ (x : ℤ). x) l ≡ l
map-same [] = refl
map-same (x ∷ l) = ap (λ r. x ∷ r) (map-same l)

pub returns-clause-acts : goal.returns-clause-acts
returns-clause-acts c =
    let numbers = c.args.numbers.now in
    let b0 : SFits w32 (sample numbers 0) = search rules in
    let b1 : SFits w32 (sample numbers 1) = search rules in
    let b2 : SFits w32 (sample numbers 2) = search rules in
    let a1 : SFits w32 (sample numbers 3) = search rules in
    let a2 : SFits w32 (sample numbers 4) = search rules in
    (λ i. wide_acts c.args.post_shift (record {
      b0 = to_z-of_z w32 (sample numbers 0) b0 i;
      b1 =
          to_z-of_z w32 (sample numbers 1) b1 i;
      b2 = to_z-of_z w32 (sample numbers 2) b2 i;
      a1 =
          to_z-of_z w32 (sample numbers 3) a1 i;
      a2 = to_z-of_z w32 (sample numbers 4) a2 i;
    }))
    ∙ ap (λ l. wide_acts c.args.post_shift (section_of 5 l)) (sym (map-same numbers))
