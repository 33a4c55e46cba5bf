-- A text without its tables: their numbers stand where its blocks name them.
use Rattle.std.specs.Prelude.{ℤ, ◌+◌, List, [], ◌∷◌, ◌++◌, length, take, drop, map}
use Rattle.std.specs.Fmt.{signed_decimal}
use Rattle.std.specs.List.{flat_map}
use Rattle.dsp_defs.specs.declared.script.Script.{Script}
use Rattle.dsp_defs.specs.Token.{Token, Open, Close, Run, Item}
use Rattle.dsp_defs.specs.Tables.{Named}
use Rattle.dsp_defs.specs.Grammar.{Symbol, Whole, unwritten, version_symbols, input_symbols, length_symbols}
use Rattle.dsp_defs.specs.Grammar.{table_symbols, block_symbols, output_symbols}

-- what stands before the tables of a script: the version, the input, the block length
abbrev pub front_symbols : Script → List Symbol
front_symbols s = version_symbols s.version ++ (input_symbols s.input ++ length_symbols s.block)

-- what stands behind them: the blocks, the output
abbrev pub chain_symbols : Script → List Symbol
chain_symbols s = flat_map block_symbols s.blocks ++ output_symbols s.output

-- the tokens of items
abbrev pub tokens : List Item → List Token
tokens items = map (λ item. item.token) items

-- numbers in braces, each as its decimal numeral
abbrev pub braced_tokens : List ℤ → List Token
braced_tokens numbers = Open ∷ map (λ n. Run (signed_decimal n)) numbers ++ Close ∷ []

-- what stands for a token that writes a symbol: for the name of a list its numbers in braces, else the token
abbrev pub in_place : Symbol → Token → List Token
in_place (Whole numbers) (Run name) = braced_tokens numbers
in_place symbol token = token ∷ []

-- the tokens of items that write these symbols, with the numbers of each list in its place
abbrev pub in_full : List Item → List Symbol → List Token
in_full (item ∷ items) (symbol ∷ symbols) = in_place symbol item.token ++ in_full items
    (unwritten symbol item.token ++ symbols)
in_full items symbols = []

-- the tokens of a text that reads as a script with these tables, which are left out, and each name of one replaced by
-- its numbers
abbrev pub plain_tokens : List Named → List Item → Script → List Token
plain_tokens tables items s =
    let front = length (front_symbols s) in
    let named = length (flat_map table_symbols tables) in
    tokens (take front items) ++ in_full (drop (front + named) items) (chain_symbols s)
