use Rattle.std.proofs.Common.{◌≡◌, ◌++◌, take}
use Rattle.std.specs.String.{string_bytes}
use Rattle.std.specs.List.{flat_map}
use Rattle.dsp_defs.specs.Grammar.{block_symbols}
use Rattle.dsp_defs.specs.Canon.{line_of}
use Rattle.dsp_script.proofs.printer.blocks.Given as goal

abbrev pub invariant-loop-each : goal.invariant-loop-each
invariant-loop-each l = string_bytes l.out ≡ string_bytes l.initial.out ++ flat_map (λ b. line_of (block_symbols b))
    (take l.each-index l.blocks)
