-- The generated input as it is given, from a state on.
use Rattle.std.specs.Prelude.{ℕ, zero, suc, ◌+◌, ◌*◌, ◌%◌, ◌^◌, List, [], ◌∷◌, ◌++◌, drop, if◌then◌else◌, Some, Bool}
use Rattle.dsp_ports.specs.Ports.{SourceState}
use Rattle.dsp_defs.specs.Bytes.{bytes_of, coding_of}
use Rattle.dsp_defs.specs.Generator.{state_sample}
use Rattle.dsp_defs.specs.declared.format.Fmt.{Fmt}
use Rattle.dsp_defs.specs.declared.format.Container.{Container}
use Rattle.dsp_wave.specs.declared.generator.Pieces.{Pieces}

-- (1664525*s + 1013904223) mod 2^32
abbrev pub next_state : ℕ → ℕ
next_state s = (1664525 * s + 1013904223) % 2 ^ 32

-- the bytes of the next n samples behind a state
abbrev pub made : Container → Fmt → ℕ → ℕ → List ℕ
made container format s zero = []
made container format s (suc n) = bytes_of (coding_of container format) (state_sample format (next_state s)) ++ made
    container format (next_state s) n

-- the bytes of a generated input that are still to come, and how many were given
pub record Generation : Type 0 where
  pub rest : List ℕ
  pub taken : ℕ
  -- whether a read has given nothing, and whether one has asked for nothing or came after such a read
  pub ended : Bool
  pub strayed : Bool

-- what is seen of it as a source: it tells all, and never fails
abbrev pub generation_state : Generation → SourceState
generation_state generation =
    record {
      left = Some generation.rest;
      taken = generation.taken;
      faults = 0;
      ended = generation.ended;
      strayed = generation.strayed;
    }

-- the bytes that are still to come: the rest of those that are ready, the samples, and the pad byte
abbrev pub to_come : Pieces → List ℕ
to_come pieces =
    drop pieces.given pieces.ready.items
    ++ (made pieces.container pieces.format pieces.state pieces.samples ++ (if pieces.has_pad then (0 ∷ []) else []))
