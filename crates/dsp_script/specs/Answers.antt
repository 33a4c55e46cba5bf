-- What a function of the reader answers, against what the definitions read at its place.
use Rattle.std.specs.Prelude.{◌≡◌, Result, Ok, Err}
use Rattle.dsp_defs.specs.declared.flow.Flow.{Flow}
use Rattle.dsp_defs.specs.declared.word.Word.{Word}
use Rattle.dsp_defs.specs.Parameters.{Form}
use Rattle.dsp_defs.specs.Table.{row_of}
use Rattle.dsp_defs.specs.declared.script_fault.ScriptFault.{ScriptFault}
use Rattle.dsp_script.specs.declared.fault.ParseFault.{ParseFault}
use Rattle.dsp_script.specs.declared.fault.ParseFault.TheVariants as faults

-- the parameters of a block where this flows
abbrev pub parameters : Word → Flow → Form
parameters w flow = (row_of w).parameters flow

-- the answer, seen by view, is what reading gives
abbrev pub Gives : {X Y : Type 0} → (X → Y) → Result X ScriptFault → Result Y ScriptFault → Type 0
Gives view (Ok x) read = read ≡ Ok (view x)
Gives view (Err f) read = read ≡ Err f

-- the fault is what reading gives, unless it is want of memory
abbrev pub Fails : {Y : Type 0} → ParseFault → Result Y ScriptFault → Type 0
Fails faults.Memory read = Unit {0}
Fails (faults.Script f) read = read ≡ Err f

-- the answer, seen by view, is what reading gives, unless memory ran out
abbrev pub GivesUnlessMemory : {X Y : Type 0} → (X → Y) → Result X ParseFault → Result Y ScriptFault → Type 0
GivesUnlessMemory view (Ok x) read = read ≡ Ok (view x)
GivesUnlessMemory view (Err e) read = Fails e read
