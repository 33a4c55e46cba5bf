-- Reading a text from left to right: the script, or the first item, or the end, that can't stand after the items
-- before it.
use Rattle.std.specs.Prelude.{ℕ, zero, suc, ◌==◌, ◌&&◌, ◌||◌, ⊤, Bool, false, List, [], ◌∷◌, length, Option, Some}
use Rattle.std.specs.Prelude.{None, Result, Ok, nat_lt, if◌then◌else◌, codes}
use Rattle.std.specs.Str.{bytes_eq}
use Rattle.std.specs.Option.{option_map}
use Rattle.std.specs.Result.{result_err}
use Rattle.dsp_defs.specs.declared.script_fault.ScriptKind.TheVariants.{TooLong, BadByte, UnknownWord, NoSuchForm}
use Rattle.dsp_defs.specs.declared.script_fault.ScriptKind.TheVariants.{ChannelsHere, TooMany}
use Rattle.dsp_defs.specs.declared.script_fault.ScriptFault.{ScriptFault}
use Rattle.dsp_defs.specs.declared.format.Container.{Container}
use Rattle.dsp_defs.specs.declared.format.Container.TheVariants as container
use Rattle.dsp_defs.specs.declared.format.InputKind.{InputKind}
use Rattle.dsp_defs.specs.declared.format.InputKind.TheVariants as kind
use Rattle.dsp_defs.specs.declared.format.Input.{Input}
use Rattle.dsp_defs.specs.declared.script.Block.{Block}
use Rattle.dsp_defs.specs.declared.script.Script.{Script}
use Rattle.dsp_defs.specs.declared.flow.Flow.{Flow}
use Rattle.dsp_defs.specs.declared.word.Word.{Word}
use Rattle.dsp_defs.specs.declared.limits.TheConstants.{MAX_SCRIPT, MAX_BLOCKS, MAX_CORRELATES, MAX_BLOCK_LENGTH}
use Rattle.dsp_defs.specs.declared.limits.TheConstants.{MAX_CHANNELS, MAX_VERSION}
use Rattle.dsp_defs.specs.Token.{Bad, Item, Rest, rest_of}
use Rattle.dsp_defs.specs.Parameters.{Form, Done, Integer, Natural, Numbers, Conversion}
use Rattle.dsp_defs.specs.Table.{row_of, by_name, every_word, name_of, every_format, format_name, container_name}
use Rattle.dsp_defs.specs.Table.{has_form, is_correlate, flow_after, input_containers, output_containers}
use Rattle.dsp_defs.specs.Grammar.{input_flow}
use Rattle.dsp_defs.specs.Places.{◌>>=◌, fault, Judge, next_at, choice, named, begins_with, number, natural_at}
use Rattle.dsp_defs.specs.Places.{Environment, list_at, environment_at, conversion}

-- ---- blocks

-- the parameters of a form, and the block that they make
unfoldable pub block_at : Environment → Form → Rest → Result (Block × Rest) ScriptFault
block_at tables (Done made) rest = Ok (made, rest)
block_at tables (Integer low high next) rest = next_at (number low high) rest >>= λ n. block_at tables (next n.0) n.1
block_at tables (Natural low high next) rest = natural_at low high rest >>= λ n. block_at tables (next n.0) n.1
block_at tables (Numbers rule next) rest = list_at tables rule rest >>= λ numbers. block_at tables (next numbers.0)
    numbers.1
block_at tables (Conversion from next) rest = next_at (conversion from) rest >>= λ format. block_at tables
    (next format.0) format.1

-- the word of a block, or none where a text is the output's
unfoldable pub place_of : List ℕ → Option (Option Word)
place_of run = if bytes_eq run (codes "output") then Some None else option_map Some (by_name name_of every_word run)

-- the block is given the channels that it wants
abbrev pub fed : ℕ → ℕ → Option ℕ → Result ⊤ ScriptFault
fed offset got None = Ok tt
fed offset got (Some wanted) = if got == wanted then Ok tt else fault offset (ChannelsHere got wanted)

-- the output may come here, or the block of this word, where so many more blocks may come
abbrev pub may_come : ℕ → Bool → Flow → ℕ → Option Word → Result ⊤ ScriptFault
may_come left correlated flow offset None = Ok tt
may_come left correlated flow offset (Some w) =
    if left == 0 then fault offset (TooMany MAX_BLOCKS)
    else if is_correlate w && correlated then fault offset (TooMany MAX_CORRELATES)
    else if has_form w flow.format then fed offset flow.channels (row_of w).channels
    else fault offset (NoSuchForm flow.format)

-- the word of the next block, which may come here, or none where the output comes
abbrev pub next_block : ℕ → Bool → Flow → Judge (Option Word)
next_block left correlated flow offset token = do
  place ← choice place_of offset token
  _ ← may_come left correlated flow offset place
  Ok place

-- the blocks up to the output, of which so many may come
unfoldable pub blocks_at : Environment → ℕ → Bool → Flow → Rest → Result (List Block × Rest) ScriptFault
blocks_at tables zero correlated flow rest = do
  next ← next_at (next_block 0 correlated flow) rest
  Ok ([], next.1)
blocks_at tables (suc left) correlated flow rest = do
  next ← next_at (next_block (suc left) correlated flow) rest
  elim next.0 [
    | None ↦ Ok ([], next.1)
    | Some w ↦ (block_at tables ((row_of w).parameters flow) next.1 >>= λ b. blocks_at tables left
        (correlated || is_correlate w) (flow_after b.0 flow) b.1 >>= λ more. Ok (b.0 ∷ more.0, more.1))
  ]

-- ---- scripts

-- the block length, if there is one
unfoldable pub length_at : Rest → Result (Option ℕ × Rest) ScriptFault
length_at rest = if begins_with (codes "block") rest.items
    then (next_at (choice (named (codes "block"))) rest >>= λ name. natural_at 1 MAX_BLOCK_LENGTH name.1 >>= λ frames.
    Ok (Some frames.0, frames.1))
    else Ok (None, rest)

-- the end of the text
abbrev pub nothing_of : List Item → Result ⊤ ScriptFault
nothing_of [] = Ok tt
nothing_of (item ∷ items) = elim item.token [ Bad ↦ fault item.offset BadByte | _ ↦ fault item.offset UnknownWord ]

-- raw samples come with their rate
unfoldable pub kind_at : Container → Rest → Result (InputKind × Rest) ScriptFault
kind_at container.Raw rest = natural_at 1 4294967295 rest >>= λ rate. Ok (kind.Raw rate.0, rate.1)
kind_at _ rest = Ok (kind.Wave, rest)

-- the input next: its container, format, channels, and the rate of raw samples
unfoldable pub input_at : Rest → Result (Input × Rest) ScriptFault
input_at rest = do
  name ← next_at (choice (named (codes "input"))) rest
  container ← next_at (choice (by_name container_name input_containers)) name.1
  format ← next_at (choice (by_name format_name every_format)) container.1
  channels ← natural_at 1 MAX_CHANNELS format.1
  kind ← kind_at container.0 channels.1
  Ok (record { kind = kind.0; format = format.0; channels = channels.0 }, kind.1)

-- a script next, and nothing behind it
unfoldable pub script_at : Rest → Result Script ScriptFault
script_at rest = do
  name ← next_at (choice (named (codes "dspfx"))) rest
  version ← natural_at 1 MAX_VERSION name.1
  input ← input_at version.1
  frames ← length_at input.1
  tables ← environment_at version.0 frames.1
  blocks ← blocks_at tables.0 MAX_BLOCKS false (input_flow input.0) tables.1
  output ← next_at (choice (by_name container_name output_containers)) blocks.1
  _ ← nothing_of output.1.items
  Ok (record { version = version.0; input = input.0; block = frames.0; blocks = blocks.0; output = output.0 })

-- the script of a text, or its first fault
unfoldable pub reading : List ℕ → Result Script ScriptFault
reading text = if nat_lt MAX_SCRIPT (length text) then fault MAX_SCRIPT TooLong else script_at (rest_of 0 text)

-- the first fault of a text, if it has one
abbrev pub first_fault : List ℕ → Option ScriptFault
first_fault text = result_err (reading text)
