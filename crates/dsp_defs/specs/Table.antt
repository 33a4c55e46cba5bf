-- The table of blocks, a row for each: its word, the formats in which it has a form, the channels that it wants, and
-- its parameters.
use Rattle.std.specs.Prelude.{ℕ, pos, negsuc, ◌+◌, ◌*◌, Bool, true, false, List, [], ◌∷◌, length, Option, Some, None}
use Rattle.std.specs.Prelude.{codes, find}
use Rattle.std.specs.Str.{bytes_eq}
use Rattle.dsp_defs.specs.Numbers.{neg}
use Rattle.dsp_defs.specs.Block.{format_after, channels_after}
use Rattle.dsp_defs.specs.Elementwise.{greatest_scale, greatest_shift, least_matrix_shift, greatest_matrix_shift}
use Rattle.dsp_defs.specs.Parameters.{Form, Done, Integer, Natural, Numbers, Conversion, coefficient, side, factor}
use Rattle.dsp_defs.specs.Parameters.{greatest_biquad_shift, greatest_lms_shift, greatest, taps, sparse_taps, delays}
use Rattle.dsp_defs.specs.Parameters.{section_numbers, reflections, exactly, routes}
use Rattle.dsp_defs.specs.declared.format.Fmt.{Fmt}
use Rattle.dsp_defs.specs.declared.format.Fmt.TheVariants.{Q7, Q15, Q31}
use Rattle.dsp_defs.specs.declared.format.Container.{Container}
use Rattle.dsp_defs.specs.declared.format.Container.TheVariants.{Wave, Wavex, Raw}
use Rattle.dsp_defs.specs.declared.script.Block.{Block}
use Rattle.dsp_defs.specs.declared.script.Block.TheVariants as block
use Rattle.dsp_defs.specs.declared.flow.Flow.{Flow}
use Rattle.dsp_defs.specs.declared.word.Formats.{Formats}
use Rattle.dsp_defs.specs.declared.word.Formats.TheVariants.{All, NotQ7, OnlyQ15, OnlyQ31}
use Rattle.dsp_defs.specs.declared.word.Word.{Word}
use Rattle.dsp_defs.specs.declared.word.Word.TheVariants.{Offset, Negate, Abs, Scale, Shift, Clip, To, Add, Sub, Mult}
use Rattle.dsp_defs.specs.declared.word.Word.TheVariants.{Conj, CmplxMult, CmplxMultReal, MagSquared, Fir, Sparse}
use Rattle.dsp_defs.specs.declared.word.Word.TheVariants.{Decimate, Interpolate, LatticeFir, LatticeIir, Biquad}
use Rattle.dsp_defs.specs.declared.word.Word.TheVariants.{Biquad64, Conv, ConvPartial, Correlate, Lms, Pid, MatAdd}
use Rattle.dsp_defs.specs.declared.word.Word.TheVariants.{MatSub, MatScale, MatTrans, MatMult, Power, Dot, CmplxDot}
use Rattle.dsp_defs.specs.declared.word.Word.TheVariants.{Max, Min, Route}

-- a row of the table
pub record Row : Type 0 where
  pub name : List ℕ
  pub formats : Formats
  pub channels : Option ℕ
  pub parameters : Flow → Form

-- a row: a block that works on each channel, or takes any number of them, wants none
abbrev pub row : List ℕ → Formats → Option ℕ → (Flow → Form) → Row
row name formats channels parameters = record {
  name = name;
  formats = formats;
  channels = channels;
  parameters =
      parameters;
}

-- the row of each word
abbrev pub row_of : Word → Row
row_of Offset = row (codes "offset") All None (λ flow. coefficient flow (λ value. Done (block.Offset value)))
row_of Negate = row (codes "negate") All None (λ flow. Done block.Negate)
row_of Abs = row (codes "abs") All None (λ flow. Done block.Abs)
row_of Scale = row (codes "scale") All None (λ flow. coefficient flow
    (λ fract. Integer (negsuc (greatest_scale flow.format)) (pos (greatest_scale flow.format))
    (λ shift. Done (block.Scale fract shift))))
row_of Shift = row (codes "shift") All None (λ flow. Integer (neg (greatest_shift flow.format))
    (pos (greatest_shift flow.format)) (λ shift. Done (block.Shift shift)))
row_of Clip = row (codes "clip") All None (λ flow. coefficient flow
    (λ low. Integer low (greatest flow.format) (λ high. Done (block.Clip low high))))
row_of To = row (codes "to") All None (λ flow. Conversion flow.format (λ format. Done (block.To format)))
row_of Add = row (codes "add") All (Some 2) (λ flow. Done block.Add)
row_of Sub = row (codes "sub") All (Some 2) (λ flow. Done block.Sub)
row_of Mult = row (codes "mult") All (Some 2) (λ flow. Done block.Mult)
row_of Conj = row (codes "cmplx_conj") NotQ7 (Some 2) (λ flow. Done block.Conj)
row_of CmplxMult = row (codes "cmplx_mult") NotQ7 (Some 4) (λ flow. Done block.CmplxMult)
row_of CmplxMultReal = row (codes "cmplx_mult_real") OnlyQ15 (Some 3) (λ flow. Done block.CmplxMultReal)
row_of MagSquared = row (codes "cmplx_mag_squared") NotQ7 (Some 2) (λ flow. Done block.MagSquared)
row_of Fir = row (codes "fir") All None (λ flow. Numbers (taps flow 1) (λ taps. Done (block.Fir taps)))
row_of Sparse = row (codes "sparse") All None (λ flow. Numbers (sparse_taps flow)
    (λ taps. Numbers (delays (length taps)) (λ delays. Done (block.Sparse taps delays))))
row_of Decimate = row (codes "decimate") NotQ7 None (λ flow. factor
    (λ m. Numbers (taps flow 1) (λ taps. Done (block.Decimate m taps))))
row_of Interpolate = row (codes "interpolate") NotQ7 None
    (λ flow. factor (λ l. Numbers (taps flow l) (λ taps. Done (block.Interpolate l taps))))
row_of LatticeFir = row (codes "lattice_fir") OnlyQ15 None
    (λ flow. Numbers (reflections flow) (λ k. Done (block.LatticeFir k)))
row_of LatticeIir = row (codes "lattice_iir") NotQ7 None
    (λ flow. Numbers (reflections flow) (λ k. Numbers (exactly flow (length k + 1)) (λ v. Done (block.LatticeIir k v))))
row_of Biquad = row (codes "biquad") NotQ7 None (λ flow. Natural 0 (greatest_biquad_shift flow.format)
    (λ post_shift. Numbers (section_numbers flow) (λ coefficients. Done (block.Biquad post_shift coefficients))))
row_of Biquad64 = row (codes "biquad64") OnlyQ31 None
    (λ flow. Natural 0 30 (λ post_shift. Numbers (section_numbers flow)
    (λ coefficients. Done (block.Biquad64 post_shift coefficients))))
row_of Conv = row (codes "conv") All None (λ flow. Numbers (taps flow 1) (λ taps. Done (block.Conv taps)))
row_of ConvPartial = row (codes "conv_partial") All None
    (λ flow. Natural 0 4294967295 (λ first. Natural 1 4294967295
    (λ count. Numbers (taps flow 1) (λ taps. Done (block.ConvPartial first count taps)))))
row_of Correlate = row (codes "correlate") All None (λ flow. Numbers (taps flow 1)
    (λ taps. Done (block.Correlate taps)))
row_of Lms = row (codes "lms") NotQ7 (Some 2) (λ flow. Natural 0 (greatest_lms_shift flow.format)
    (λ post_shift. coefficient flow (λ mu. Numbers (taps flow 1) (λ taps. Done (block.Lms post_shift mu taps)))))
row_of Pid = row (codes "pid") NotQ7 None (λ flow. coefficient flow
    (λ kp. coefficient flow (λ ki. coefficient flow (λ kd. Done (block.Pid kp ki kd)))))
row_of MatAdd = row (codes "mat_add") NotQ7 None (λ flow. side
    (λ rows. side (λ columns. Numbers (exactly flow (rows * columns))
    (λ matrix. Done (block.MatAdd rows columns matrix)))))
row_of MatSub = row (codes "mat_sub") NotQ7 None (λ flow. side
    (λ rows. side (λ columns. Numbers (exactly flow (rows * columns))
    (λ matrix. Done (block.MatSub rows columns matrix)))))
row_of MatScale = row (codes "mat_scale") NotQ7 None (λ flow. side
    (λ rows. side (λ columns. coefficient flow (λ fract. Integer (least_matrix_shift flow.format)
    (greatest_matrix_shift flow.format) (λ shift. Done (block.MatScale rows columns fract shift))))))
row_of MatTrans = row (codes "mat_trans") NotQ7 None (λ flow. side
    (λ rows. side (λ columns. Done (block.MatTrans rows columns))))
row_of MatMult = row (codes "mat_mult") OnlyQ15 None (λ flow. side
    (λ rows. side (λ columns. side (λ given. Numbers (exactly flow (columns * given))
    (λ matrix. Done (block.MatMult rows columns given matrix))))))
row_of Power = row (codes "power") All None (λ flow. Done block.Power)
row_of Dot = row (codes "dot") All (Some 2) (λ flow. Done block.Dot)
row_of CmplxDot = row (codes "cmplx_dot") NotQ7 (Some 4) (λ flow. Done block.CmplxDot)
row_of Max = row (codes "max") All None (λ flow. Done block.Max)
row_of Min = row (codes "min") All None (λ flow. Done block.Min)
row_of Route = row (codes "route") All None (λ flow. Numbers (routes flow) (λ channels. Done (block.Route channels)))

-- ---- words

-- the first of these whose name a text is
unfoldable pub by_name : {A : Type 0} → (A → List ℕ) → List A → List ℕ → Option A
by_name name those run = find (λ x. bytes_eq run (name x)) those

-- all words, in the order of the table
abbrev pub every_word : List Word
every_word = Offset ∷ Negate ∷ Abs ∷ Scale ∷ Shift ∷ Clip ∷ To ∷ Add ∷ Sub ∷ Mult ∷ Conj ∷ CmplxMult ∷ CmplxMultReal ∷
    MagSquared ∷ Fir ∷ Sparse ∷ Decimate ∷ Interpolate ∷ LatticeFir ∷ LatticeIir ∷ Biquad ∷ Biquad64 ∷ Conv ∷
    ConvPartial ∷ Correlate ∷ Lms ∷ Pid ∷ MatAdd ∷ MatSub ∷ MatScale ∷ MatTrans ∷ MatMult ∷ Power ∷ Dot ∷ CmplxDot ∷ Max
    ∷ Min ∷ Route ∷ []

-- the text of a word
abbrev pub name_of : Word → List ℕ
name_of w = (row_of w).name

-- all formats
abbrev pub every_format : List Fmt
every_format = Q7 ∷ Q15 ∷ Q31 ∷ []

-- q7, q15, q31
abbrev pub format_name : Fmt → List ℕ
format_name Q7 = codes "q7"
format_name Q15 = codes "q15"
format_name Q31 = codes "q31"

-- the containers of an input
abbrev pub input_containers : List Container
input_containers = Wave ∷ Raw ∷ []

-- the containers of an output
abbrev pub output_containers : List Container
output_containers = Wave ∷ Wavex ∷ Raw ∷ []

-- wave, wavex, raw
abbrev pub container_name : Container → List ℕ
container_name Wave = codes "wave"
container_name Wavex = codes "wavex"
container_name Raw = codes "raw"

-- ---- where a block may stand

-- the format is one of these
abbrev pub admits : Formats → Fmt → Bool
admits All format = true
admits NotQ7 Q7 = false
admits NotQ7 format = true
admits OnlyQ15 Q15 = true
admits OnlyQ15 format = false
admits OnlyQ31 Q31 = true
admits OnlyQ31 format = false

-- the block has a form in the format
abbrev pub has_form : Word → Fmt → Bool
has_form w format = admits (row_of w).formats format

-- the word is correlate
abbrev pub is_correlate : Word → Bool
is_correlate Correlate = true
is_correlate w = false

-- what flows behind a block
abbrev pub flow_after : Block → Flow → Flow
flow_after b flow = record { format = format_after flow.format b; channels = channels_after flow.channels b }
