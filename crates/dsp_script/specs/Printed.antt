-- Words of the contracts of the printer.
use Rattle.std.specs.Prelude.{ℕ, List, ◌++◌, codes}
use Rattle.std.specs.List.{flat_map}
use Rattle.dsp_defs.specs.Grammar.{Symbol}
use Rattle.dsp_defs.specs.Canon.{symbol_text}

-- each symbol behind a space
abbrev pub behind_spaces : List Symbol → List ℕ
behind_spaces symbols = flat_map (λ s. codes " " ++ symbol_text s) symbols
