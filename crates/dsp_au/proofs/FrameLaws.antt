-- Signals of bytes in a form, and what a conversion writes of their whole frames.
use Rattle.std.proofs.Common.{◌≡◌, ℕ, ◌*◌, ◌/◌, ◌<◌, ◌≤◌, List, [], ◌++◌, length, take, drop, Option, Some, None, ℤ}
use Rattle.std.proofs.Common.{refl, sym, ap, ◌∙◌, arith}
use Rattle.std.specs.List.{flat_map}
use Rattle.std.specs.Option.{option_map}
use Rattle.std.proofs.lemmas.Grind.{flat_map-append}
use Rattle.std.proofs.lemmas.List.{drop_at, take_all, take-take, length-take-le}
use Rattle.std.proofs.Math.Nat.{mul-le-mul, div-mul-le_self}
use Rattle.dsp_defs.specs.Block.{Frame}
use Rattle.dsp_defs.specs.Bytes.{width}
use Rattle.dsp_defs.specs.Open.{IsOpenGood}
use Rattle.dsp_defs.specs.Output.{sample_bytes_at}
use Rattle.dsp_defs.specs.Au.{form_bytes_of, form_coded, form_sample_of, form_samples, open_frame_bytes, source_form}
use Rattle.dsp_defs.specs.Au.{source_signal, target_form}
use Rattle.dsp_defs.specs.declared.au.Direction.{Direction}
use Rattle.dsp_defs.specs.declared.wave.OpenHeader.{OpenHeader}
use Rattle.dsp_defs.proofs.CodingLemmas.{width-some}
use Rattle.dsp_defs.proofs.SampleLaws.{length-samples_by, samples_by-nil, samples_by-append, samples_by-whole}
use Rattle.dsp_defs.proofs.SampleLaws.{count-whole_by}
use Rattle.dsp_au.specs.Exchange.{exchanged}
use Rattle.dsp_au.specs.Convert.{InDeclared, declared_bytes, in_whole_frames}
use Rattle.dsp_au.proofs.ExchangeLaws.{Small, exchanged-signal, small-take}

some_product : (a b : ℕ) → 1 ≤ a → 1 ≤ b → 1 ≤ a * b
some_product a b h k = mul-le-mul h k

pub some_frame : (header : OpenHeader) → IsOpenGood header → 0 < open_frame_bytes header
some_frame header good = some_product header.channels (width header.coding) good.some (width-some header.coding)

module _ (direction : Direction) (header : OpenHeader) (good : IsOpenGood header) where
  abbrev frame : ℕ
  frame = open_frame_bytes header

  some : 0 < frame
  some = some_frame header good

  -- the signal of bytes behind the header, and its bytes in the other form
  abbrev pub signal : List ℕ → List Frame
  signal bytes = form_samples (source_form direction) header.coding header.channels bytes

  abbrev pub coded : List Frame → List ℕ
  coded x = form_coded (target_form direction) header.coding x

  abbrev read : List ℕ → ℤ
  read = form_sample_of (source_form direction) header.coding

  pub signal-nil : signal [] ≡ []
  signal-nil = samples_by-nil read (width header.coding) header.channels

  pub length-signal : (bytes : List ℕ) → length (signal bytes) ≡ length bytes / frame
  length-signal bytes = length-samples_by read (width header.coding) header.channels bytes

  pub signal-append : (heard more : List ℕ) (n : ℕ) → length heard ≡ n * frame →
      signal (heard ++ more) ≡ signal heard ++ signal more
  signal-append heard more n whole = samples_by-append read (width header.coding) header.channels n heard more some
      whole

  pub frames-whole : (bytes : List ℕ) (n : ℕ) → length bytes ≡ n * frame → length (signal bytes) ≡ n
  frames-whole bytes n whole = length-signal bytes ∙ count-whole_by read (width header.coding) header.channels n bytes
      [] some whole

  -- a rest that is no whole frame
  pub signal-whole : (bytes : List ℕ) → signal (take (length bytes / frame * frame) bytes) ≡ signal bytes
  signal-whole bytes = samples_by-whole read (width header.coding) header.channels (length bytes / frame) bytes some
      refl

  pub coded-append : (x y : List Frame) → coded (x ++ y) ≡ coded x ++ coded y
  coded-append x y = flat_map-append (λ (x : Frame). flat_map (form_bytes_of (target_form direction) header.coding) x)
      x y

  -- what is written of a block: its whole frames in the other form
  pub exchanged-is : (block : List ℕ) (count n : ℕ) → Small block → count ≤ length block → n ≡ count / frame
      → exchanged (width header.coding) (take (n * frame) block) ≡ coded (signal (take count block))
  exchanged-is block count n small within is =
      let long : length (take count block) ≡ count = length-take-le count block within in
      let bound : n * frame ≤ count = rw is (div-mul-le_self count frame) in
      let whole : length (take (n * frame) block) ≡ n * frame =
      length-take-le (n * frame) block (omega (arith, bound, within)) in
      let same : take (length (take count block) / frame * frame) (take count block) ≡ take (n * frame) block =
      ap (λ k. take (k / frame * frame) (take count block)) long ∙
      ap (λ k. take (k * frame) (take count block)) (sym is) ∙ take-take (n * frame) count block bound in
      sym (ap coded (sym (signal-whole (take count block)) ∙ ap signal same)
      ∙ exchanged-signal direction header.coding header.channels n (take (n * frame) block) good.wave
      (small-take (n * frame) block small) some (width-some header.coding) whole)

  -- ---- behind the header

  module _ (first : List ℕ) (start : header.start ≡ length first) where
    dropped : (bytes : List ℕ) → drop header.start (first ++ bytes) ≡ bytes
    dropped bytes = drop_at first bytes header.start (sym start)

    by_size : (bytes : List ℕ) (size : Option ℕ) → InDeclared (option_map (in_whole_frames header) size) (length bytes)
        → sample_bytes_at header.start size (first ++ bytes) ≡ bytes
    by_size bytes None declared = dropped bytes
    by_size bytes (Some size) declared = ap (take size) (dropped bytes) ∙
        take_all size bytes (omega (arith, declared, div-mul-le_self size frame))

    pub signal_is : (bytes : List ℕ) → InDeclared (declared_bytes header) (length bytes) →
        source_signal direction header (first ++ bytes) ≡ signal bytes
    signal_is bytes declared = ap signal (by_size bytes header.size declared)

-- ---- whole samples

whole_width : (n channels w : ℕ) → 0 < w → n * (channels * w) / w * w ≡ n * (channels * w)
whole_width n channels w some = grind (arith, product n channels w, count (n * channels) w some)
  where
    product : (n channels w : ℕ) → n * (channels * w) ≡ n * channels * w
    product n channels w = omega arith

    count : (k w : ℕ) → 0 < w → k * w / w ≡ k
    count k w some = grind arith

pub whole_samples : (n channels w frame width : ℕ) (bytes : List ℕ) → frame ≡ channels * w → width ≡ w → 0 < w →
    n * frame ≤ length bytes → length (take (n * frame) bytes) / width * width ≡ length (take (n * frame) bytes)
whole_samples n channels w frame width bytes is width_is some within =
    let long : length (take (n * frame) bytes) ≡ n * (channels * w) = length-take-le (n * frame) bytes within ∙
    ap (λ f. n * f) is in
    rw (long, width_is) (whole_width n channels w some)
