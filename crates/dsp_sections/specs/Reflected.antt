-- A section of a lattice without feedback.
use Rattle.std.specs.Prelude.{ℤ, ◌+ℤ◌, ◌*ℤ◌}
use Rattle.dsp_defs.specs.Numbers.{◌>>◌, saturate}

-- sat_16((k*other >> 15) + own)
abbrev pub reflected : ℤ → ℤ → ℤ → ℤ
reflected k other own = saturate 16 ((k *ℤ other >> 15) +ℤ own)
