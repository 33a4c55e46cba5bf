-- What the samples behind a header are, and their frames.
use Rattle.std.proofs.Common.{◌≡◌, ℕ, ◌*◌, ◌/◌, ◌<◌, ◌≤◌, List, ◌++◌, length, take, drop, Option, Some, None, refl}
use Rattle.std.proofs.Common.{sym, ap, ◌∙◌, arith}
use Rattle.std.proofs.lemmas.List.{drop_at, take_all}
use Rattle.dsp_defs.specs.Bytes.{samples, width}
use Rattle.dsp_defs.specs.Grammar.{IsSound}
use Rattle.dsp_defs.specs.Output.{input_signal, sample_bytes, output_header, output_pad, whole_bytes, output}
use Rattle.dsp_defs.specs.declared.format.Coding.{Coding}
use Rattle.dsp_defs.specs.declared.script.Script.{Script}
use Rattle.dsp_defs.specs.declared.wave.Header.{Header}
use Rattle.dsp_defs.proofs.CodingLemmas.{width-some}
use Rattle.dsp_input.specs.Taking.{InDeclared, Opens, declared_bytes, frame_bytes, frames_in_bytes, in_whole_frames}
use Rattle.dsp_unit.proofs.ChainPlaces.{product_some}
use Rattle.std.proofs.Math.Nat.{div-mul-le_self}

-- a frame has some bytes
pub frame_some : (script : Script) (coding : Coding) → IsSound script → 0 < frame_bytes script coding
frame_some script coding sound = product_some script.input.channels (width coding) sound.1.fit.channels.0
    (width-some coding)

module _ (script : Script) (header : Header) (some : 0 < frame_bytes script header.coding) (first : List ℕ)
    (opens : Opens script header first) where
  dropped : (bytes : List ℕ) → drop header.start (first ++ bytes) ≡ bytes
  dropped bytes = drop_at first bytes header.start (sym opens.start)

  by_size : (bytes : List ℕ) (size : Option ℕ) → InDeclared
      (elim size [ Some s ↦ Some (in_whole_frames script header.coding s) | None ↦ None ]) (length bytes)
      → elim size [ Some s ↦ take s (drop header.start (first ++ bytes)) | None ↦ drop header.start (first ++ bytes) ]
      ≡ bytes
  by_size bytes None declared = dropped bytes
  by_size bytes (Some size) declared = ap (take size) (dropped bytes) ∙
      take_all size bytes (omega (arith, declared, div-mul-le_self size (frame_bytes script header.coding)))

  samples_are : (bytes : List ℕ) → InDeclared (declared_bytes script header) (length bytes) →
      sample_bytes header (first ++ bytes) ≡ bytes
  samples_are bytes declared = by_size bytes header.size declared

  pub signal_is : (bytes : List ℕ) → InDeclared (declared_bytes script header) (length bytes) →
      input_signal script (first ++ bytes) ≡ samples header.coding script.input.channels bytes
  signal_is bytes declared = rw (opens.said bytes) (ap (samples header.coding script.input.channels)
      (samples_are bytes declared))

  pub frames_are : (bytes : List ℕ) → InDeclared (declared_bytes script header) (length bytes) →
      frames_in_bytes script (first ++ bytes) ≡ length (samples header.coding script.input.channels bytes)
  frames_are bytes declared = ap length (signal_is bytes declared)

  pub output_is : (bytes : List ℕ) → InDeclared (declared_bytes script header) (length bytes) →
      output script (first ++ bytes) ≡ output_header script header ++ whole_bytes script
      (samples header.coding script.input.channels bytes) ++ output_pad script header
  output_is bytes declared = rw (signal_is bytes declared, opens.said bytes) refl
