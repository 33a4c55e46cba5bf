-- A saved state as bytes: a script, how many frames it has taken, and the numbers that its blocks keep of them. All
-- numbers are little-endian.
use Rattle.std.specs.Prelude.{◌≡◌, ◌≤◌, ◌<◌, ◌^◌, ℕ, ℤ, List, ◌++◌, length, codes, flat_map, All, FitsSigned, IsTrue}
use Rattle.std.specs.Int.{to_le_bytes, from_le_bytes, cast_unsigned, cast_signed}
use Rattle.dsp_defs.specs.Canon.{canon}
use Rattle.dsp_defs.specs.Grammar.{IsSound}
use Rattle.dsp_defs.specs.KeptOfScript.{Fits}
use Rattle.dsp_defs.specs.Numbers.{w32, w64}
use Rattle.dsp_defs.specs.Shape.{is_legal}
use Rattle.dsp_defs.specs.declared.limits.TheConstants.{MAX_SCRIPT, MAX_STATE}
use Rattle.dsp_defs.specs.declared.script.Script.{Script}

-- the 8 bytes of a kept number, two's complement
abbrev pub number_bytes : ℤ → List ℕ
number_bytes z = to_le_bytes w64 (cast_unsigned w64 z)

-- and the number of 8 bytes
abbrev pub number_of : List ℕ → ℤ
number_of bytes = cast_signed w64 (from_le_bytes w64 bytes)

-- all that stands before the numbers: the mark, the version 1, the length of the canonical text, that text, and the
-- frames
abbrev pub state_head : Script → ℕ → List ℕ
state_head script frames =
    codes "DSPSTATE" ++ (to_le_bytes w32 1 ++ (to_le_bytes w32 (length (canon script)) ++
    (canon script ++ to_le_bytes w32 frames)))

-- a state
abbrev pub state_of : Script → ℕ → List ℤ → List ℕ
state_of script frames numbers = state_head script frames ++ flat_map number_bytes numbers

-- a sound script for which some block length is legal
pub record CanRun (script : Script) : Type 0 where
  pub sound : IsSound script
  pub block : ℕ
  pub legal : IsTrue (is_legal script.input.channels script.blocks block)

-- the bytes are the state of a script that can run, whose blocks can keep these numbers, each of 64 bits, of so many
-- frames
pub record IsState (bytes : List ℕ) (script : Script) (frames : ℕ) (numbers : List ℤ) : Type 0 where
  pub bytes_are : bytes ≡ state_of script frames numbers
  pub runs : CanRun script
  pub short_text : length (canon script) ≤ MAX_SCRIPT
  pub few : frames < 2 ^ 32
  pub words : All (FitsSigned w64) numbers
  pub fits : Fits script frames numbers
  pub short : length bytes ≤ MAX_STATE
