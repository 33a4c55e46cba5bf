-- Four sections in lanes work as four machines.
use Rattle.std.proofs.Common.{◌≡◌, ap, refl, sym, subst, ℕ, ◌<◌, ℤ, List, [], ◌∷◌, lit<}
use Rattle.dsp_defs.specs.Streaming.{GoesOn}
use Rattle.dsp_defs.specs.declared.format.Fmt.{Fmt}
use Rattle.dsp_sections.specs.SectionWaves.{low, lane_section, LanesTurn}
use Rattle.dsp_sections.specs.declared.wave_lanes.WaveLanes.{WaveLanes}
use Rattle.dsp_filter.specs.Waves.{Works, Turns}
use Rattle.dsp_biquad.specs.Sections.{section_acts}
use Rattle.dsp_biquad.specs.Waves.{lane_part, wave_in}
use Rattle.dsp_biquad.proofs.SectionSteps.{section-step}

module _ (format : Fmt) (old new : WaveLanes) (x z : ℤ) (e : LanesTurn format old new x z) where
  works : (i : ℕ) → i < 4 → (taken given : ℤ) → low new.x1 i ≡ taken → low new.y1 i ≡ given
      → Works (lane_part format old i) (lane_part format new i) (taken ∷ []) (given ∷ [])
  works i inside taken given is_taken is_given =
      let acts = section_acts format old.post_shift (lane_section old i) in
      let kept = low old.x1 i ∷ low old.x2 i ∷ low old.y1 i ∷ low old.y2 i ∷ [] in
      let before = ap (λ (l : List ℤ). low l i) e.before in
      let past = ap (λ (l : List ℤ). low l i) e.past in
      let step = section-step format old.post_shift (lane_section old i) (low old.x1 i) (low old.x2 i) (low old.y1 i)
      (low old.y2 i) (low new.x1 i) (low new.y1 i) (e.outputs i inside) in
      record {
        acts = λ k. section_acts format (e.post_shift k) (e.sections i k);
        goes = subst (λ (l : List ℤ). GoesOn acts.gives acts.keeps kept l (taken ∷ []) (given ∷ []))
            (λ k. low new.x1 i ∷ sym before k ∷ low new.y1 i ∷ sym past k ∷ [])
            (subst (λ (v : ℤ). GoesOn acts.gives acts.keeps kept
            (low new.x1 i ∷ low old.x1 i ∷ low new.y1 i ∷ low old.y1 i ∷ []) (v ∷ []) (given ∷ [])) is_taken
            (subst (λ (v : ℤ). GoesOn acts.gives acts.keeps kept
            (low new.x1 i ∷ low old.x1 i ∷ low new.y1 i ∷ low old.y1 i ∷ []) (low new.x1 i ∷ []) (v ∷ [])) is_given
            step));
      }

  pub turns : Turns (wave_in format old) (wave_in format new) x z
  turns = record {
    first = works 0 (lit< tt) x (low new.y1 0) e.first refl;
    second = works 1 (lit< tt) (low old.y1 0) (low new.y1 1) e.second refl;
    third = works 2 (lit< tt) (low old.y1 1) (low new.y1 2) e.third refl;
    fourth = works 3 (lit< tt) (low old.y1 2) z e.fourth (sym e.last);
  }
