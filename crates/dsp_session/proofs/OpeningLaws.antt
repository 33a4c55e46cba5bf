-- Behind the header of the input stand its samples, block after block.
use Rattle.std.proofs.Common.{◌≡◌, ℕ, ◌+◌, ◌*◌, ◌/◌, ◌<◌, ◌≤◌, List, [], ◌++◌, length, take}
use Rattle.std.proofs.Common.{refl, sym, ap, ◌∙◌, arith, length-append}
use Rattle.std.proofs.lemmas.List.{length-take-le, take_at, take-take}
use Rattle.std.proofs.lemmas.Nat.{div-mul-add}
use Rattle.std.proofs.Math.Nat.{mul_assoc, div-mul-le_self}
use Rattle.dsp_defs.specs.Block.{Frame}
use Rattle.dsp_defs.specs.Output.{output_header, live_bytes}
use Rattle.dsp_defs.specs.Output.{whole_blocks, part}
use Rattle.dsp_defs.specs.declared.format.Coding.{Coding}
use Rattle.dsp_defs.specs.declared.script.Script.{Script}
use Rattle.dsp_defs.specs.declared.wave.Header.{Header}
use Rattle.dsp_defs.proofs.SampleLaws.{length-samples, samples-nil, samples-append, samples-whole, count-whole}
use Rattle.dsp_input.specs.Taking.{InDeclared, Opens, declared_bytes, frame_bytes}
use Rattle.dsp_input.proofs.SampleBytes.{frame_some}
pub use Rattle.dsp_input.proofs.SampleBytes.{signal_is, frames_are, output_is}
use Rattle.dsp_session.specs.Session.{IsReady, block_bytes, signal}

-- less bytes than those of whole blocks
pub less : (n b f : ℕ) → 0 < f → n < b * f → n / f < b
less n b f some h = grind arith

-- ---- frames and blocks

pub some_frame : (script : Script) (coding : Coding) (block : ℕ) → IsReady script block → 0 < frame_bytes script coding
some_frame script coding block ready = frame_some script coding ready.sound

-- a number of frames that are whole blocks
pub frames_of_blocks : (script : Script) (coding : Coding) (block blocks count : ℕ) →
    count ≡ blocks * block_bytes script coding block → count ≡ blocks * block * frame_bytes script coding
frames_of_blocks script coding block blocks count is = is ∙ sym (mul_assoc blocks block (frame_bytes script coding))

-- whole blocks of frames, and less than one more
pub whole_blocks-append : (block blocks : ℕ) (x y : List Frame) → length x ≡ blocks * block → length y < block →
    whole_blocks block (x ++ y) ≡ x
whole_blocks-append block blocks x y long short =
    let all : length (x ++ y) ≡ blocks * block + length y = omega (arith, long, length-append x y) in
    let count : length (x ++ y) / block ≡ blocks = ap (λ n. n / block) all ∙
    div-mul-add blocks block (length y) short in
    ap (λ n. take (n * block) (x ++ y)) count ∙ take_at x y (blocks * block) long

module _ (script : Script) (coding : Coding) (some : 0 < frame_bytes script coding) where
  pub signal-nil : signal script coding [] ≡ []
  signal-nil = samples-nil coding script.input.channels

  pub length-signal : (bytes : List ℕ) → length (signal script coding bytes) ≡ length bytes / frame_bytes script coding
  length-signal bytes = length-samples coding script.input.channels bytes

  pub signal-append : (heard more : List ℕ) (n : ℕ) → length heard ≡ n * frame_bytes script coding →
      signal script coding (heard ++ more) ≡ signal script coding heard ++ signal script coding more
  signal-append heard more n whole = samples-append coding script.input.channels n heard more some whole

  pub frames-whole : (bytes : List ℕ) (n : ℕ) → length bytes ≡ n * frame_bytes script coding →
      length (signal script coding bytes) ≡ n
  frames-whole bytes n whole = length-signal bytes ∙ count-whole coding script.input.channels n bytes [] some whole

  -- the whole frames of a front are its signal
  pub front_signal : (count : ℕ) (block : List ℕ) → count ≤ length block →
      signal script coding (take (count / frame_bytes script coding * frame_bytes script coding) block) ≡ signal script
      coding (take count block)
  front_signal count block within =
      let front : take (count / frame_bytes script coding * frame_bytes script coding) (take count block) ≡ take
      (count / frame_bytes script coding * frame_bytes script coding) block =
      take-take (count / frame_bytes script coding * frame_bytes script coding) count block
      (div-mul-le_self count (frame_bytes script coding)) in
      ap (signal script coding) (sym front)
      ∙ samples-whole coding script.input.channels (count / frame_bytes script coding) (take count block) some
      (ap (λ n. n / frame_bytes script coding) (sym (length-take-le count block within)))

-- ---- behind the header

module _ (script : Script) (header : Header) (some : 0 < frame_bytes script header.coding) (first : List ℕ)
    (opens : Opens script header first) where
  part_is : (block : ℕ) (bytes : List ℕ) → InDeclared (declared_bytes script header) (length bytes) →
      part script block (first ++ bytes) ≡ output_header script header ++ live_bytes script
      (whole_blocks block (signal script header.coding bytes))
  part_is block bytes declared = rw (signal_is script header some first opens bytes declared, opens.said bytes) refl

  -- the part of whole blocks, and of less than one more
  pub part_blocks : (block blocks : ℕ) (heard bytes : List ℕ) →
      length heard ≡ blocks * block_bytes script header.coding block →
      length bytes < block_bytes script header.coding block →
      InDeclared (declared_bytes script header) (length (heard ++ bytes))
      → part script block (first ++ (heard ++ bytes)) ≡ output_header script header ++ live_bytes script
      (signal script header.coding heard)
  part_blocks block blocks heard bytes long short declared =
      let whole = frames_of_blocks script header.coding block blocks (length heard) long in
      let rest : length (signal script header.coding bytes) < block =
      rw (length-signal script header.coding some bytes)
      (less (length bytes) block (frame_bytes script header.coding) some short) in
      part_is block (heard ++ bytes) declared
      ∙ ap (λ x. output_header script header ++ live_bytes script (whole_blocks block x))
      (signal-append script header.coding some heard bytes (blocks * block) whole)
      ∙ ap (λ x. output_header script header ++ live_bytes script x)
      (whole_blocks-append block blocks (signal script header.coding heard) (signal script header.coding bytes)
      (frames-whole script header.coding some heard (blocks * block) whole) rest)
