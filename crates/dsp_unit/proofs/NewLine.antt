-- What is given of no frames, and a line of units that have taken nothing.
use Rattle.std.proofs.Common.{◌≡◌, ◌∙◌, ap, ap₂, refl, Bool, true, false, ℕ, zero, suc, ◌+◌, ◌-◌, ◌*◌, ◌/◌, ℤ, List}
use Rattle.std.proofs.Common.{[], ◌∷◌, ◌++◌, map, length, take, arith, nat_abs, Option, Some, None}
use Rattle.dsp_defs.specs.Signal.{values}
use Rattle.dsp_defs.specs.Block.{each_channel, live, live_conv, live_conv_partial, format_after, channels_after}
use Rattle.dsp_defs.specs.Sums.{fir, sparse, decimate, interpolate, conv_partial}
use Rattle.dsp_defs.specs.Lattice.{lattice_fir, lattice_iir}
use Rattle.dsp_defs.specs.Biquad.{biquad, biquad64}
use Rattle.dsp_defs.specs.Adaptive.{pid}
use Rattle.dsp_defs.specs.Matrix.{each_group, added, subtracted, scaled, transposed, multiplied, mat_add, mat_sub}
use Rattle.dsp_defs.specs.Matrix.{mat_scale, mat_trans, mat_mult}
use Rattle.dsp_defs.specs.Shape.{live_frames, groups_after}
use Rattle.dsp_defs.specs.Cost.{unit_turns, chain_turns}
use Rattle.dsp_unit.specs.Unit.{UnitState, IsNew, IsMade}
use Rattle.dsp_unit.specs.Line.{Place, place_after, place_behind, MadeFor, blocks_of, InLine, AllStand}
use Rattle.dsp_unit.specs.Line.{AllCount, AllNew, line_turns}
use Rattle.dsp_defs.proofs.BlockLaws.{length-values, length-lattice_fir, length-biquad, length-biquad64}
use Rattle.dsp_defs.specs.declared.format.Fmt.{Fmt}
use Rattle.dsp_defs.specs.declared.script.Block.{Block}
use Rattle.dsp_defs.specs.declared.script.Block.TheVariants.{Offset, Negate, Abs, Scale, Shift, Clip, To, Add, Sub}
use Rattle.dsp_defs.specs.declared.script.Block.TheVariants.{Mult, Conj, CmplxMult, CmplxMultReal, MagSquared, Fir}
use Rattle.dsp_defs.specs.declared.script.Block.TheVariants.{Sparse, Decimate, Interpolate, LatticeFir, LatticeIir}
use Rattle.dsp_defs.specs.declared.script.Block.TheVariants.{Biquad, Biquad64, Conv, ConvPartial, Correlate, Lms, Pid}
use Rattle.dsp_defs.specs.declared.script.Block.TheVariants.{MatAdd, MatSub, MatScale, MatTrans, MatMult, Power, Dot}
use Rattle.dsp_defs.specs.declared.script.Block.TheVariants.{CmplxDot, Max, Min, Route}
use Rattle.std.proofs.lemmas.List.{nil_from_length}
use Rattle.dsp_unit.proofs.CostLaws.{live_frames-zero}

no-values : {A : Type 0} (n : ℕ) (f : ℕ → A) → n ≡ 0 → values n f ≡ []
no-values n f e = ap (λ m. values m f) e

no-groups : (taken given : ℕ) (result : List ℤ → ℕ → ℤ) → each_group taken given result [] ≡ []
no-groups taken given result = nil_from_length (each_group taken given result [])
    (length-values (0 / taken * given) _ ∙ (let none : 0 / taken ≡ 0 = omega arith in ap (λ q. q * given) none ∙
    omega arith))

none-before : (first : ℕ) → 0 - first ≡ 0
none-before first = omega arith

each-nothing : (channels : ℕ) (f : List ℤ → List ℤ) → f [] ≡ [] → each_channel channels f [] ≡ []
each-nothing zero f none = refl
each-nothing (suc channels) f none = nil_from_length (each_channel (suc channels) f [])
    (length-values (length (f [])) _ ∙ ap length none)

-- a block has given nothing of no frames
pub live-nothing : (format : Fmt) (channels : ℕ) (block : Block) → live format channels block [] ≡ []
live-nothing format channels (Offset value) = refl
live-nothing format channels Negate = refl
live-nothing format channels Abs = refl
live-nothing format channels (Scale fract shift) = refl
live-nothing format channels (Shift shift) = refl
live-nothing format channels (Clip low high) = refl
live-nothing format channels (To target) = refl
live-nothing format channels Add = refl
live-nothing format channels Sub = refl
live-nothing format channels Mult = refl
live-nothing format channels Conj = refl
live-nothing format channels CmplxMult = refl
live-nothing format channels CmplxMultReal = refl
live-nothing format channels MagSquared = refl
live-nothing format channels (Fir taps) = each-nothing channels (fir format taps) refl
live-nothing format channels (Sparse taps delays) = each-nothing channels (sparse format taps (map nat_abs delays)) refl
live-nothing format channels (Decimate factor taps) =
    each-nothing channels (decimate format factor taps) (no-values (0 / factor) _ (omega arith))
live-nothing format channels (Interpolate factor taps) =
    each-nothing channels (interpolate format factor taps) (no-values (0 * factor) _ (omega arith))
live-nothing format channels (LatticeFir k) = each-nothing channels (lattice_fir k)
    (nil_from_length (lattice_fir k []) (length-lattice_fir k []))
live-nothing format channels (LatticeIir k v) = each-nothing channels (lattice_iir format k v) refl
live-nothing format channels (Biquad p coefficients) =
    each-nothing channels (biquad format p coefficients)
    (nil_from_length (biquad format p coefficients []) (length-biquad format p coefficients []))
live-nothing format channels (Biquad64 p coefficients) =
    each-nothing channels (biquad64 p coefficients) (nil_from_length (biquad64 p coefficients [])
    (length-biquad64 p coefficients []))
live-nothing format channels (Conv taps) = each-nothing channels (live_conv format taps) refl
live-nothing format channels (ConvPartial first count taps) =
    each-nothing channels (live_conv_partial format first count taps)
    (ap (λ n. take n (conv_partial format first count taps [])) (none-before first))
live-nothing format channels (Correlate taps) = each-nothing channels (λ x. []) refl
live-nothing format channels (Lms p mu taps) = refl
live-nothing format channels (Pid kp ki kd) = each-nothing channels (pid format kp ki kd) refl
live-nothing format channels (MatAdd rows columns matrix) =
    each-nothing channels (mat_add format rows columns matrix)
    (no-groups (rows * columns) (rows * columns) (added format matrix))
live-nothing format channels (MatSub rows columns matrix) =
    each-nothing channels (mat_sub format rows columns matrix)
    (no-groups (rows * columns) (rows * columns) (subtracted format matrix))
live-nothing format channels (MatScale rows columns fract shift) =
    each-nothing channels (mat_scale format rows columns fract shift)
    (no-groups (rows * columns) (rows * columns) (scaled format fract shift))
live-nothing format channels (MatTrans rows columns) =
    each-nothing channels (mat_trans rows columns) (no-groups (rows * columns) (rows * columns)
    (transposed rows columns))
live-nothing format channels (MatMult rows columns given matrix) =
    each-nothing channels (mat_mult rows columns given matrix)
    (no-groups (rows * columns) (rows * given) (multiplied columns given matrix))
live-nothing format channels Power = refl
live-nothing format channels Dot = refl
live-nothing format channels CmplxDot = refl
live-nothing format channels Max = refl
live-nothing format channels Min = refl
live-nothing format channels (Route list) = refl

pub groups-nothing : (group : Option (ℕ × ℕ)) → groups_after group 0 ≡ 0
groups-nothing None = refl
groups-nothing (Some g) = let none : 0 / g.0 ≡ 0 = omega arith in ap (λ q. q * g.1) none ∙ omega arith

-- ---- a line

pub new-stand : (banked : Bool) (format : Fmt) (channels : ℕ) (us : List UnitState) → AllNew banked us →
    AllStand format channels us []
new-stand banked format channels [] h = tt
new-stand banked format channels (u ∷ us) h = (
  h.0.0,
  rw (live-nothing format channels u.block)
      (new-stand banked (format_after format u.block) (channels_after channels u.block) us h.1),
)

pub new-count : (banked : Bool) (us : List UnitState) → AllNew banked us → AllCount us 0
new-count banked [] h = tt
new-count banked (u ∷ us) h = (h.0.1, rw (live_frames-zero u.block) (new-count banked us h.1))

-- the turn bound is that of the blocks
pub new-turns : (banked : Bool) (p : Place) (us : List UnitState) (m n : ℕ) → InLine p us → AllNew banked us
    → line_turns us m n ≡ chain_turns banked p.format p.channels (blocks_of us) m n
new-turns banked p [] m n line h = refl
new-turns banked p (u ∷ us) m n line h =
    ap₂ (λ (here later : ℕ). here + later)
    (h.0.2 m n ∙ ap₂ (λ f c. unit_turns banked f c u.block m n) line.0.format line.0.channels)
    (new-turns banked (place_after p u.block) us (live_frames u.block m) (live_frames u.block n) line.1 h.1)

-- ---- a unit that is no bank

-- banked or not, a block that is no biquad has one bound
abbrev pub IsPlain : Block → Type 0
IsPlain (Biquad p coefficients) = ⊥
IsPlain block = Unit {0}

plain-turns : (banked : Bool) (format : Fmt) (c : ℕ) (block : Block) (m n : ℕ) → IsPlain block
    → unit_turns false format c block m n ≡ unit_turns banked format c block m n
plain-turns true format c (Biquad p coefficients) m n plain = absurd plain
plain-turns banked format c block m n plain = refl

-- a unit that is no bank is what is to be made of such a block
made-of : (banked : Bool) (b : Block) (f : Fmt) (c n : ℕ) (u : UnitState)
    → ((m k : ℕ) → unit_turns false f c b m k ≡ unit_turns banked f c b m k) → IsNew b f c n u → IsMade banked b f c n u
made-of banked b f c n u same new = record {
  block = new.block;
  format = new.format;
  channels = new.channels;
  capacity = new.capacity;
  turns = λ m k. rw (new.plain, new.format, new.channels, new.block) (same m k);
  stands = new.stands;
  counts = new.counts;
}

pub plain-made : (banked : Bool) (b : Block) (f : Fmt) (c n : ℕ) (u : UnitState) → IsPlain b → IsNew b f c n u →
    IsMade banked b f c n u
plain-made banked b f c n u plain new = made-of banked b f c n u (λ m k. plain-turns banked f c b m k plain) new

-- and of each block where nothing is banked
pub unbanked-made : (b : Block) (f : Fmt) (c n : ℕ) (u : UnitState) → IsNew b f c n u → IsMade false b f c n u
unbanked-made b f c n u new = made-of false b f c n u (λ m k. refl) new

-- ---- one unit more

pub place-more : (p : Place) (blocks : List Block) (block : Block) →
    place_behind p (blocks ++ block ∷ []) ≡ place_after (place_behind p blocks) block
place-more p [] block = refl
place-more p (b ∷ blocks) block = place-more (place_after p b) blocks block

pub blocks-more : (us : List UnitState) (u : UnitState) → blocks_of (us ++ u ∷ []) ≡ blocks_of us ++ u.block ∷ []
blocks-more [] u = refl
blocks-more (v ∷ us) u = ap (λ bs. v.block ∷ bs) (blocks-more us u)

pub line-more : (p : Place) (us : List UnitState) (u : UnitState) → InLine p us →
    MadeFor (place_behind p (blocks_of us)) u → InLine p (us ++ u ∷ [])
line-more p [] u line made = (made, tt)
line-more p (v ∷ us) u line made = (line.0, line-more (place_after p v.block) us u line.1 made)

pub new-more : (banked : Bool) (us : List UnitState) (u : UnitState) → AllNew banked us → AllNew banked (u ∷ []) →
    AllNew banked (us ++ u ∷ [])
new-more banked [] u h one = one
new-more banked (v ∷ us) u h one = (h.0, new-more banked us u h.1 one)
