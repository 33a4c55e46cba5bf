-- The grammar: a text reads as a script where its tokens spell the script, and the script fits.
use Rattle.std.specs.Prelude.{◌≡◌, ℕ, ℤ, pos, ◌+◌, ◌≤◌, IsTrue, List, [], ◌∷◌, ◌++◌, length, map, Option, Some, None}
use Rattle.std.specs.Prelude.{IfSome, codes, if◌then◌else◌}
use Rattle.std.specs.List.{flat_map}
use Rattle.dsp_defs.specs.declared.format.Container.{Container}
use Rattle.dsp_defs.specs.declared.format.Container.TheVariants as container
use Rattle.dsp_defs.specs.declared.format.InputKind.{InputKind}
use Rattle.dsp_defs.specs.declared.format.InputKind.TheVariants as kind
use Rattle.dsp_defs.specs.declared.format.Input.{Input}
use Rattle.dsp_defs.specs.declared.script.Block.{Block}
use Rattle.dsp_defs.specs.declared.script.Block.TheVariants as block
use Rattle.dsp_defs.specs.declared.script.Script.{Script}
use Rattle.dsp_defs.specs.declared.flow.Flow.{Flow}
use Rattle.dsp_defs.specs.declared.word.Word.{Word}
use Rattle.dsp_defs.specs.declared.word.Word.TheVariants as words
use Rattle.dsp_defs.specs.declared.limits.TheConstants.{MAX_SCRIPT, MAX_BLOCKS, MAX_CORRELATES, MAX_BLOCK_LENGTH}
use Rattle.dsp_defs.specs.declared.limits.TheConstants.{MAX_CHANNELS, MAX_VERSION}
use Rattle.dsp_defs.specs.Token.{Token, Open, Close, Run, Item, items}
use Rattle.dsp_defs.specs.Numeral.{value_of}
use Rattle.dsp_defs.specs.Parameters.{Argument, Number, Listed, Format, Fits}
use Rattle.dsp_defs.specs.Tables.{Named, numbers_of, MayStand}
use Rattle.dsp_defs.specs.Table.{row_of, name_of, format_name, container_name, has_form, is_correlate, flow_after}

-- ---- what stands in a text

-- a word, a number, a brace, or a whole list
pub data Symbol : Type 0 where
  Name : List ℕ → Symbol
  Numeral : ℤ → Symbol
  OpenBrace : Symbol
  CloseBrace : Symbol
  Whole : List ℤ → Symbol

-- What token writes a symbol, or is the first to: a word is written in one way, a number by any of its numerals, and
-- a whole list in braces, or by the name of a table that has its numbers.
abbrev pub IsWritten : List Named → Token → Symbol → Type 0
IsWritten tables (Run run) (Name name) = run ≡ name
IsWritten tables (Run run) (Numeral n) = value_of run ≡ Some n
IsWritten tables (Run run) (Whole numbers) = numbers_of tables run ≡ Some numbers
IsWritten tables Open OpenBrace = Unit {0}
IsWritten tables Open (Whole numbers) = Unit {0}
IsWritten tables Close CloseBrace = Unit {0}
IsWritten tables token symbol = ⊥

-- what of a symbol comes behind its first token: the numbers of a list in braces, and its end
abbrev pub unwritten : Symbol → Token → List Symbol
unwritten (Whole numbers) Open = map Numeral numbers ++ CloseBrace ∷ []
unwritten symbol token = []

-- the items write the symbols, one after another, and there are as many
abbrev pub Spells : List Named → List Item → List Symbol → Type 0
Spells tables [] [] = Unit {0}
Spells tables (item ∷ items) (symbol ∷ symbols) = IsWritten tables item.token symbol ×
    Spells tables items (unwritten symbol item.token ++ symbols)
Spells tables items symbols = ⊥

-- ---- blocks

-- a number that is no less than 0
abbrev pub natural : ℕ → Argument
natural n = Number (pos n)

-- the word that begins a block, and what follows it
abbrev pub written : Block → Word × List Argument
written (block.Offset value) = (words.Offset, Number value ∷ [])
written block.Negate = (words.Negate, [])
written block.Abs = (words.Abs, [])
written (block.Scale fract shift) = (words.Scale, Number fract ∷ Number shift ∷ [])
written (block.Shift shift) = (words.Shift, Number shift ∷ [])
written (block.Clip low high) = (words.Clip, Number low ∷ Number high ∷ [])
written (block.To format) = (words.To, Format format ∷ [])
written block.Add = (words.Add, [])
written block.Sub = (words.Sub, [])
written block.Mult = (words.Mult, [])
written block.Conj = (words.Conj, [])
written block.CmplxMult = (words.CmplxMult, [])
written block.CmplxMultReal = (words.CmplxMultReal, [])
written block.MagSquared = (words.MagSquared, [])
written (block.Fir taps) = (words.Fir, Listed taps ∷ [])
written (block.Sparse taps delays) = (words.Sparse, Listed taps ∷ Listed delays ∷ [])
written (block.Decimate factor taps) = (words.Decimate, natural factor ∷ Listed taps ∷ [])
written (block.Interpolate factor taps) = (words.Interpolate, natural factor ∷ Listed taps ∷ [])
written (block.LatticeFir k) = (words.LatticeFir, Listed k ∷ [])
written (block.LatticeIir k v) = (words.LatticeIir, Listed k ∷ Listed v ∷ [])
written (block.Biquad post_shift coefficients) = (words.Biquad, natural post_shift ∷ Listed coefficients ∷ [])
written (block.Biquad64 post_shift coefficients) = (words.Biquad64, natural post_shift ∷ Listed coefficients ∷ [])
written (block.Conv taps) = (words.Conv, Listed taps ∷ [])
written (block.ConvPartial first count taps) = (words.ConvPartial, natural first ∷ natural count ∷ Listed taps ∷ [])
written (block.Correlate taps) = (words.Correlate, Listed taps ∷ [])
written (block.Lms post_shift mu taps) = (words.Lms, natural post_shift ∷ Number mu ∷ Listed taps ∷ [])
written (block.Pid kp ki kd) = (words.Pid, Number kp ∷ Number ki ∷ Number kd ∷ [])
written (block.MatAdd rows columns matrix) = (words.MatAdd, natural rows ∷ natural columns ∷ Listed matrix ∷ [])
written (block.MatSub rows columns matrix) = (words.MatSub, natural rows ∷ natural columns ∷ Listed matrix ∷ [])
written (block.MatScale rows columns fract shift) = (
  words.MatScale,
  natural rows ∷ natural columns ∷ Number fract ∷ Number shift ∷ [],
)
written (block.MatTrans rows columns) = (words.MatTrans, natural rows ∷ natural columns ∷ [])
written (block.MatMult rows columns given matrix) = (
  words.MatMult,
  natural rows ∷ natural columns ∷ natural given ∷ Listed matrix ∷ [],
)
written block.Power = (words.Power, [])
written block.Dot = (words.Dot, [])
written block.CmplxDot = (words.CmplxDot, [])
written block.Max = (words.Max, [])
written block.Min = (words.Min, [])
written (block.Route channels) = (words.Route, Listed channels ∷ [])

-- the word that begins a block
abbrev pub word_of : Block → Word
word_of b = (written b).0

-- what follows it
abbrev pub arguments : Block → List Argument
arguments b = (written b).1

-- a number, a list, or the name of a format
abbrev pub argument_symbol : Argument → Symbol
argument_symbol (Number n) = Numeral n
argument_symbol (Listed numbers) = Whole numbers
argument_symbol (Format format) = Name (format_name format)

-- the word, and what follows it
abbrev pub block_symbols : Block → List Symbol
block_symbols b = Name (name_of (word_of b)) ∷ map argument_symbol (arguments b)

-- the block may stand where this flows.
pub record Suits (flow : Flow) (b : Block) : Type 0 where
  pub form : IsTrue (has_form (word_of b) flow.format)
  pub channels : IfSome (row_of (word_of b)).channels (λ wanted. flow.channels ≡ wanted)
  pub parameters : Fits ((row_of (word_of b)).parameters flow) (arguments b) b

-- each block suits what flows to it
abbrev pub IsChain : Flow → List Block → Type 0
IsChain flow [] = Unit {0}
IsChain flow (b ∷ blocks) = Suits flow b × IsChain (flow_after b flow) blocks

-- how many blocks are a correlate
abbrev pub correlates : List Block → ℕ
correlates [] = 0
correlates (b ∷ blocks) = if is_correlate (word_of b) then correlates blocks + 1 else correlates blocks

-- ---- scripts

-- the container of an input
abbrev pub container_of : InputKind → Container
container_of kind.Wave = container.Wave
container_of (kind.Raw rate) = container.Raw

-- raw samples come with their rate
abbrev pub rate_symbols : InputKind → List Symbol
rate_symbols kind.Wave = []
rate_symbols (kind.Raw rate) = Numeral (pos rate) ∷ []

-- input CONTAINER FORMAT CHANNELS, and RATE where it is raw
abbrev pub input_symbols : Input → List Symbol
input_symbols input = Name (codes "input") ∷ Name (container_name (container_of input.kind)) ∷ Name
    (format_name input.format) ∷ Numeral (pos input.channels) ∷ rate_symbols input.kind

-- block FRAMES, if the script names a length
abbrev pub length_symbols : Option ℕ → List Symbol
length_symbols None = []
length_symbols (Some frames) = Name (codes "block") ∷ Numeral (pos frames) ∷ []

-- output CONTAINER
abbrev pub output_symbols : Container → List Symbol
output_symbols output = Name (codes "output") ∷ Name (container_name output) ∷ []

-- table NAME { the numbers }
abbrev pub table_symbols : Named → List Symbol
table_symbols t = Name (codes "table") ∷ Name t.name ∷ OpenBrace ∷ map Numeral t.numbers ++ CloseBrace ∷ []

-- dspfx VERSION
abbrev pub version_symbols : ℕ → List Symbol
version_symbols version = Name (codes "dspfx") ∷ Numeral (pos version) ∷ []

-- the version, the input, the block length, the tables, the blocks, the output
abbrev pub symbols : List Named → Script → List Symbol
symbols tables s =
    (version_symbols s.version ++ (input_symbols s.input ++ length_symbols s.block))
    ++ (flat_map table_symbols tables ++ (flat_map block_symbols s.blocks ++ output_symbols s.output))

-- what flows to the first block
abbrev pub input_flow : Input → Flow
input_flow input = record { format = input.format; channels = input.channels }

-- raw samples have a rate in 1..2^32 - 1
abbrev pub HasRate : InputKind → Type 0
HasRate kind.Wave = Unit {0}
HasRate (kind.Raw rate) = (1 ≤ rate) × (rate ≤ 4294967295)

-- all ranges, counts, formats and channels fit
pub record IsFit (s : Script) : Type 0 where
  pub version : (1 ≤ s.version) × (s.version ≤ MAX_VERSION)
  pub channels : (1 ≤ s.input.channels) × (s.input.channels ≤ MAX_CHANNELS)
  pub rate : HasRate s.input.kind
  pub block : IfSome s.block (λ frames. (1 ≤ frames) × (frames ≤ MAX_BLOCK_LENGTH))
  pub blocks : length s.blocks ≤ MAX_BLOCKS
  pub one_correlate : correlates s.blocks ≤ MAX_CORRELATES
  pub chain : IsChain (input_flow s.input) s.blocks

-- a text reads as a script, with the tables that it names
pub record Reads (text : List ℕ) (s : Script) : Type 0 where
  pub short : length text ≤ MAX_SCRIPT
  pub tables : List Named
  pub stand : MayStand s.version tables
  pub spelled : Spells tables (items text) (symbols tables s)
  pub fit : IsFit s

-- some text reads as the script
abbrev pub IsSound : Script → Type 0
IsSound s = (text : List ℕ) × Reads text s
