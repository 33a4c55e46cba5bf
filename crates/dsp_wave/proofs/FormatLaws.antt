-- Laws of the tests of a `fmt ` chunk, in order.
use Rattle.std.proofs.Common.{◌≡◌, ℕ, ◌+◌, ◌-◌, ◌*◌, length, take, drop, List, [], ◌∷◌, ◌++◌, Bool, true, false}
use Rattle.std.proofs.Common.{Option, Some, None, if◌then◌else◌, arith, refl}
use Rattle.std.proofs.lemmas.Grind.{common_steps}
use Rattle.byteorder.specs.Endian.{little_number}
use Rattle.dsp_defs.specs.Bytes.{width}
use Rattle.dsp_defs.specs.Wave.{Test, first_failed, sample_tests, sampling, u16_at, u32_at}
use Rattle.dsp_defs.specs.declared.wave.HeaderFault.{HeaderFault}
use Rattle.dsp_defs.specs.declared.wave.HeaderFault.TheVariants.{Channels, Bits, Align}
use Rattle.dsp_defs.specs.declared.wave.Wanted.{Wanted}
use Rattle.dsp_wave.specs.Taking.{format_chunk}

-- the size behind the id of a chunk
pub size_behind : (head : List ℕ) (n : ℕ) → length head ≡ 8 →
    n ≡ little_number 4 (take (length head - 4) (drop 4 head)) → n ≡ u32_at head 4
size_behind head n long e = grind (arith, common_steps)

-- ---- one list of tests behind another

fails_still : (holds : Bool) (inner whole : Option (HeaderFault × ℕ)) (here fault : HeaderFault × ℕ) →
    (inner ≡ Some fault → whole ≡ Some fault)
    → (if holds then inner else Some here) ≡ Some fault → (if holds then whole else Some here) ≡ Some fault
fails_still true inner whole here fault more e = more e
fails_still false inner whole here fault more e = e

pub fails_in_front : (front back : List Test) (fault : HeaderFault × ℕ) → first_failed front ≡ Some fault →
    first_failed (front ++ back) ≡ Some fault
fails_in_front [] back fault e = absurd cc
fails_in_front (test ∷ tests) back fault e =
    fails_still test.holds (first_failed tests) (first_failed (tests ++ back)) (test.fault, test.offset) fault
    (fails_in_front tests back fault) e

passes_still : (holds : Bool) (inner whole rest : Option (HeaderFault × ℕ)) (here : HeaderFault × ℕ) →
    (inner ≡ None → whole ≡ rest)
    → (if holds then inner else Some here) ≡ None → (if holds then whole else Some here) ≡ rest
passes_still true inner whole rest here more e = more e
passes_still false inner whole rest here more e = absurd cc

pub passes_front : (front back : List Test) → first_failed front ≡ None →
    first_failed (front ++ back) ≡ first_failed back
passes_front [] back e = refl
passes_front (test ∷ tests) back e =
    passes_still test.holds (first_failed tests) (first_failed (tests ++ back)) (first_failed back)
    (test.fault, test.offset) (passes_front tests back) e

-- ---- the tests of the samples

pub channels_differ : (wanted : Wanted) (offset got channels : ℕ) (body : List ℕ) → got ≡ u16_at body 2 →
    channels ≡ wanted.channels → (got ≡ channels → ⊥)
    → Some (Channels got channels, offset + 10) ≡ first_failed (sample_tests wanted (format_chunk offset 0 body))
channels_differ wanted offset got channels body got_is channels_is differ = grind (arith, common_steps)

pub bits_differ : (wanted : Wanted) (offset channels got bytes : ℕ) (body : List ℕ) → channels ≡ u16_at body 2 →
    channels ≡ wanted.channels
    → got ≡ u16_at body 14 → bytes ≡ width (sampling wanted (format_chunk 0 0 body)).coding → (got ≡ 8 * bytes → ⊥)
    → Some (Bits got (8 * bytes), offset + 22) ≡ first_failed (sample_tests wanted (format_chunk offset 0 body))
bits_differ wanted offset channels got bytes body same channels_is got_is bytes_is differ = grind (arith, common_steps)

pub align_differs : (wanted : Wanted) (offset channels bits got bytes : ℕ) (body : List ℕ) →
    channels ≡ u16_at body 2 → channels ≡ wanted.channels
    → bits ≡ u16_at body 14 → bytes ≡ width (sampling wanted (format_chunk 0 0 body)).coding → bits ≡ 8 * bytes
    → got ≡ u16_at body 12 → (got ≡ channels * bytes → ⊥)
    → Some (Align got (channels * bytes), offset + 20) ≡ first_failed (sample_tests wanted (format_chunk offset 0 body))
align_differs wanted offset channels bits got bytes body same channels_is bits_are bytes_is whole got_is differ =
    grind (arith, common_steps)

pub samples_fit : (wanted : Wanted) (offset channels bits align bytes : ℕ) (body : List ℕ) →
    channels ≡ u16_at body 2 → channels ≡ wanted.channels
    → bits ≡ u16_at body 14 → bytes ≡ width (sampling wanted (format_chunk 0 0 body)).coding → bits ≡ 8 * bytes
    → align ≡ u16_at body 12 → align ≡ channels * bytes
    → None ≡ first_failed (sample_tests wanted (format_chunk offset 0 body))
samples_fit wanted offset channels bits align bytes body same channels_is bits_are bytes_is whole align_is aligned =
    grind (arith, common_steps)
