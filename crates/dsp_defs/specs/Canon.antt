-- The canonical text of a script.
use Rattle.std.specs.Prelude.{ℕ, List, [], ◌∷◌, ◌++◌, codes}
use Rattle.std.specs.Fmt.{signed_decimal}
use Rattle.std.specs.List.{flat_map, join_by}
use Rattle.dsp_defs.specs.declared.script.Script.{Script}
use Rattle.dsp_defs.specs.Grammar.{Symbol, Name, Numeral, OpenBrace, CloseBrace, Whole, version_symbols}
use Rattle.dsp_defs.specs.Grammar.{input_symbols, length_symbols, block_symbols, output_symbols}

-- text and a line feed
abbrev pub line : List ℕ → List ℕ
line text = text ++ 10 ∷ []

-- a list stands in braces, its numbers separated by one space, with none next to the braces
abbrev pub symbol_text : Symbol → List ℕ
symbol_text (Name name) = name
symbol_text (Numeral n) = signed_decimal n
symbol_text OpenBrace = codes "{"
symbol_text CloseBrace = codes "}"
symbol_text (Whole numbers) = codes "{" ++ join_by signed_decimal (codes " ") numbers ++ codes "}"

-- a line of symbols with one space between two, and no line where there are none
abbrev pub line_of : List Symbol → List ℕ
line_of [] = []
line_of symbols = line (join_by symbol_text (codes " ") symbols)

-- one line each for the version, the input, the block length if there is one, each block, and the output
abbrev pub canon : Script → List ℕ
canon s =
    line_of (version_symbols s.version) ++ line_of (input_symbols s.input) ++ line_of (length_symbols s.block)
    ++ flat_map (λ b. line_of (block_symbols b)) s.blocks ++ line_of (output_symbols s.output)
