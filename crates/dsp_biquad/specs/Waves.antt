-- Four sections in lanes, as machines.
use Rattle.std.specs.Prelude.{ℕ, [], ◌∷◌}
use Rattle.dsp_defs.specs.declared.format.Fmt.{Fmt}
use Rattle.dsp_sections.specs.SectionWaves.{low, lane_section}
use Rattle.dsp_sections.specs.declared.wave_lanes.WaveLanes.{WaveLanes}
use Rattle.dsp_filter.specs.Waves.{Part, Wave}
use Rattle.dsp_biquad.specs.Sections.{section_acts}

-- the section of a lane
abbrev pub lane_part : Fmt → WaveLanes → ℕ → Part
lane_part format l i = record {
  acts = section_acts format l.post_shift (lane_section l i);
  kept =
      low l.x1 i ∷ low l.x2 i ∷ low l.y1 i ∷ low l.y2 i ∷ [];
}

abbrev pub wave_in : Fmt → WaveLanes → Wave
wave_in format l = record {
  parts = record {
    first = lane_part format l 0;
    second = lane_part format l 1;
    third = lane_part format l 2;
    fourth =
        lane_part format l 3;
  };
  to_second = low l.y1 0;
  to_third = low l.y1 1;
  to_fourth = low l.y1 2;
}
