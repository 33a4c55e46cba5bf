-- The frame that a block gives of one frame: its length, its samples and its products.
use Rattle.std.proofs.Common.{◌≡◌, ◌∙◌, sym, ℕ, zero, suc, ◌*◌, ◌<◌, ◌≤◌, ℤ, pos, negsuc, ◌^◌, ◌≤ℤ◌}
use Rattle.std.proofs.Common.{ap, map, to_z, of_z, SFits, [], ◌∷◌, length, arith, rules, lit<}
use Rattle.std.specs.Prelude.{All, FitsSigned}
use Rattle.std.specs.Int.{Width, w8, w16, w32}
use mir.Val.{hbits}
use lib.Signed.{mag}
use Rattle.dsp_sat.proofs.WideProducts.{word-in-32}
use Rattle.std.proofs.lemmas.Int.{ints, to_z-of_z}
use Rattle.std.proofs.lemmas.List.{length-map, get_or-map}
use Rattle.dsp_defs.specs.Signal.{sample}
use Rattle.dsp_defs.specs.Block.{Frame, channels_after, given_frame}
use Rattle.dsp_defs.specs.Cost.{whole_block_cost}
use Rattle.dsp_defs.specs.Elementwise.{IsScaleShift, IsShift}
use Rattle.dsp_defs.specs.Formats.{word}
use Rattle.dsp_defs.specs.Grammar.{Suits}
use Rattle.dsp_defs.specs.Parameters.{IsBetween, least, greatest}
use Rattle.dsp_defs.specs.declared.flow.Flow.{Flow}
use Rattle.dsp_defs.specs.declared.format.Fmt.{Fmt}
use Rattle.dsp_defs.specs.declared.format.Fmt.TheVariants.{Q7, Q15, Q31}
use Rattle.dsp_defs.specs.declared.script.Block.{Block}
use Rattle.dsp_defs.specs.declared.script.Block.TheVariants.{Offset, Scale, Shift, Clip, Add}
use Rattle.dsp_defs.specs.declared.script.Block.TheVariants.{Conj}
use Rattle.dsp_framewise.specs.Framewise.{IsFramewise, sample_price}

-- as many samples as there are channels behind the block
pub length-given : (flow : Flow) (block : Block) (frame : Frame) → IsFramewise block → Suits flow block →
    flow.channels ≡ length frame → length (given_frame flow.format block frame) ≡ channels_after (length frame) block
length-given flow Conj frame h suits here = sym (sym here ∙ suits.channels)
length-given flow block frame h suits here = search (rules, length-map)

-- the products of all its samples are within those of one frame
pub prices-within : (format : Fmt) (block : Block) (c : ℕ) → IsFramewise block →
    channels_after c block * sample_price block ≤ whole_block_cost format c block 1
prices-within format Add c h = omega arith
prices-within format block c h = first_of (omega arith, search rules)

-- ---- values that fit

zero-fits : (format : Fmt) → FitsSigned (word format) (pos 0)
zero-fits Q7 = record { sfits = omega arith }
zero-fits Q15 = record { sfits = omega arith }
zero-fits Q31 = record { sfits = omega arith }

-- a sample of a frame, and 0 past its end
pub sample-fits : (format : Fmt) (frame : Frame) (k : ℕ) → All (FitsSigned (word format)) frame →
    FitsSigned (word format) (sample frame k)
sample-fits format [] k all = zero-fits format
sample-fits format (x ∷ frame) zero all = all 0 (pos 0) (omega arith)
sample-fits format (x ∷ frame) (suc k) all = sample-fits format frame k
    (λ j d inside. all (suc j) d (omega (arith, inside)))

-- a sample of a frame that is made sample by sample
pub mapped : (f : ℤ → ℤ) (frame : Frame) (j : ℕ) (x r : ℤ) → j < length frame → SFits w32 x → SFits w32 r →
    x ≡ sample frame j → r ≡ f (to_z w32 (of_z w32 x)) → to_z w32 (of_z w32 r) ≡ sample (map f frame) j
mapped f frame j x r inside fits_x fits_r is_x is_r =
    to_z-of_z w32 r fits_r
    ∙ is_r
    ∙ ap f (to_z-of_z w32 x fits_x ∙ is_x)
    ∙ sym (get_or-map f frame j (pos 0) (pos 0) inside)

-- numbers up to what the width holds
between : (w : Width) (low v : ℤ) (high : ℕ) → mag low < 2 ^ hbits w → high < 2 ^ hbits w → IsBetween low (pos high) v
    → SFits w v
between w low (pos n) high some few h = record { sfits = omega (arith, ints, h.1) }
between w low (negsuc n) high some few h = record { sfits = omega (arith, ints, h.0) }

-- a number of the format's word
within : (format : Fmt) (v : ℤ) → IsBetween (least format) (greatest format) v → FitsSigned (word format) v
within Q7 v h = between w8 _ v 127 (lit< tt) (lit< tt) h
within Q15 v h = between w16 _ v 32767 (lit< tt) (lit< tt) h
within Q31 v h = between w32 _ v 2147483647 (lit< tt) (lit< tt) h

-- a clamped one
pub clamped-fits : (format : Fmt) (low high v : ℤ) → IsBetween (least format) (greatest format) low →
    IsBetween low (greatest format) high → low ≤ℤ v → v ≤ℤ high → FitsSigned (word format) v
clamped-fits format low high v l h above below = within format v (omega (arith, ints, l.0), omega (arith, ints, h.1))

-- ---- numbers that are held in 32 bits

held-between : (format : Fmt) (v : ℤ) → IsBetween (least format) (greatest format) v → SFits w32 v
held-between format v h = word-in-32 format v (within format v h)

held-scale : (format : Fmt) (s : ℤ) → IsScaleShift format s → SFits w32 s
held-scale Q7 s h = between w32 _ s 7 (lit< tt) (lit< tt) h
held-scale Q15 s h = between w32 _ s 15 (lit< tt) (lit< tt) h
held-scale Q31 s h = between w32 _ s 30 (lit< tt) (lit< tt) h

held-shift : (format : Fmt) (s : ℤ) → IsShift format s → SFits w32 s
held-shift Q7 s h = between w32 _ s 7 (lit< tt) (lit< tt) h
held-shift Q15 s h = between w32 _ s 15 (lit< tt) (lit< tt) h
held-shift Q31 s h = between w32 _ s 31 (lit< tt) (lit< tt) h

-- the numbers of a block that has numbers
abbrev pub IsHeld : Block → Type 0
IsHeld (Offset value) = SFits w32 value
IsHeld (Scale fract shift) = SFits w32 fract × SFits w32 shift
IsHeld (Shift shift) = SFits w32 shift
IsHeld (Clip low high) = SFits w32 low × SFits w32 high
IsHeld block = Unit {0}

pub block-held : (flow : Flow) (block : Block) → Suits flow block → IsHeld block
block-held flow (Offset value) suits = held-between flow.format value suits.parameters.0
block-held flow (Scale fract shift) suits = (
  held-between flow.format fract suits.parameters.0,
  held-scale flow.format shift suits.parameters.1.0,
)
block-held flow (Shift shift) suits = held-shift flow.format shift suits.parameters.0
block-held flow (Clip low high) suits = (
  held-between flow.format low suits.parameters.0,
  (let (l, (h, _)) = suits.parameters in
      held-between flow.format high (omega (arith, ints, l.0, h.0), h.1)),
)
block-held flow block suits = tt
