-- What the reader of a script does.
use Rattle.std.proofs.Common.{◌≡◌, ℕ, ◌+◌, false, List, Option, Some, None, Result, Ok, Err, refl, arith}
use Rattle.std.specs.Prelude.{⊤, codes}
use Rattle.dsp_defs.specs.declared.limits.TheConstants.{MAX_BLOCKS, MAX_BLOCK_LENGTH, MAX_CHANNELS, MAX_VERSION}
use Rattle.dsp_defs.specs.declared.script_fault.ScriptFault.{ScriptFault}
use Rattle.dsp_defs.specs.declared.script.Block.{Block}
use Rattle.dsp_defs.specs.declared.script.Script.{Script}
use Rattle.dsp_defs.specs.declared.format.Fmt.{Fmt}
use Rattle.dsp_defs.specs.declared.format.Fmt.TheVariants.{Q7}
use Rattle.dsp_defs.specs.declared.format.Container.{Container}
use Rattle.dsp_defs.specs.declared.format.Container.TheVariants as container
use Rattle.dsp_defs.specs.declared.format.InputKind.TheVariants as kind
use Rattle.dsp_defs.specs.declared.format.Input.{Input}
use Rattle.dsp_defs.specs.Token.{Item, Rest}
use Rattle.dsp_defs.specs.Table.{by_name, every_format, format_name, container_name, input_containers}
use Rattle.dsp_defs.specs.Table.{output_containers}
use Rattle.dsp_defs.specs.Grammar.{input_flow}
use Rattle.dsp_defs.specs.Places.{◌>>=◌, first_of, meaning_of, next_at, choice, named, natural_at, Environment}
use Rattle.dsp_defs.specs.Places.{environment_at}
use Rattle.dsp_defs.specs.Reading.{blocks_at, length_at, nothing_of, kind_at, input_at, script_at}
use Rattle.dsp_script.proofs.Names.{format_again, container_again, input_container_again}
use Rattle.dsp_script.proofs.Steps.{named_again}
use Rattle.dsp_first_fault.proofs.Readers.{Reader, Room, even, Goes}
use Rattle.dsp_first_fault.proofs.Sequences.{done_outcome, and_then, then, then_done, Rooms}
use Rattle.dsp_first_fault.proofs.Options.{word_wants, optional_outcome, optional_room, word_there}
use Rattle.dsp_first_fault.specs.Fault.{IsFull}
use Rattle.dsp_first_fault.proofs.Items.{rest_at}
use Rattle.dsp_first_fault.proofs.Judges.{choice_steady}
use Rattle.dsp_first_fault.proofs.Accepted.{IsWord, numeral_1}
use Rattle.dsp_first_fault.proofs.Numbers.{natural_outcome, full_behind, tables_room, environment_outcome, some_word}
use Rattle.dsp_first_fault.proofs.Blocks.{word_outcome, a_word, blocks_room, blocks_outcome}
use Rattle.dsp_first_fault.proofs.Forms.{block_most}

-- ---- the block length and the input

-- the number of a block length
abbrev frames_reader : ⊤ → Reader (Option ℕ)
frames_reader x rest = natural_at 1 MAX_BLOCK_LENGTH rest >>= λ n. Ok (Some n.0, n.1)

length_outcome : (items : List Item) (end : ℕ) →
    Goes IsFull length_at (optional_room (even 12)) (rest_at items end)
unfolding length_at natural_at next_at first_of
length_outcome items end =
    let word = next_at (choice (named (codes "block"))) in
    optional_outcome IsFull (codes "block") (and_then word frames_reader) None (even 12)
    items end (λ e. refl)
    (word_wants (choice (named (codes "block"))) tt frames_reader (codes "block")
    (choice_steady (named (codes "block"))) (λ token is. some_word (meaning_of (named (codes "block")) token) is)
    (λ e. refl)) (λ ys quiet. quiet.block)
    (λ next. then IsFull full_behind word frames_reader (even 0) (even 12) (even 12) items
    end (record { empty = omega arith; most = omega arith; later = omega arith })
    (word_there IsFull (codes "block") (choice (named (codes "block"))) tt (even 0) items end
    (choice_steady (named (codes "block"))) next (λ token is. some_word (meaning_of (named (codes "block")) token) is))
    (λ x ts r e takes. then_done IsFull (natural_at 1 MAX_BLOCK_LENGTH) (λ n. Some n) (even 12) r e
    (natural_outcome IsFull 1 MAX_BLOCK_LENGTH r e numeral_1 (omega arith))))

kind_outcome : (wanted : Container) (items : List Item) (end : ℕ) →
    Goes IsFull (kind_at wanted) (even 12) (rest_at items end)
unfolding kind_at
kind_outcome container.Raw items end =
    then_done IsFull (natural_at 1 4294967295) (λ rate. kind.Raw rate) (even 12) items end
    (natural_outcome IsFull 1 4294967295 items end numeral_1 (omega arith))
kind_outcome container.Wave items end = done_outcome _ kind.Wave items end
kind_outcome container.Wavex items end = done_outcome _ kind.Wave items end

-- this word
named_outcome : (bytes : ℕ) (name : List ℕ) (items : List Item) (end : ℕ) → IsWord bytes name →
    Goes IsFull (next_at (choice (named name))) (even (bytes + 1)) (rest_at items end)
named_outcome bytes name items end word = word_outcome IsFull (named name) bytes name tt items end word
    (named_again name)

format_outcome : (items : List Item) (end : ℕ) →
    Goes IsFull (next_at (choice (by_name format_name every_format))) (even 3) (rest_at items end)
format_outcome items end = word_outcome IsFull (by_name format_name every_format) 2 (codes "q7") Q7 items end
    (a_word 2 (codes "q7") (refl, omega arith) refl refl (omega arith)) (format_again Q7)

input_container_outcome : (items : List Item) (end : ℕ) →
    Goes IsFull (next_at (choice (by_name container_name input_containers))) (even 5) (rest_at items end)
input_container_outcome items end =
    word_outcome IsFull (by_name container_name input_containers) 4 (codes "wave") container.Wave items end
    (a_word 4 (codes "wave") (refl, omega arith) refl refl (omega arith)) (input_container_again kind.Wave)

output_container_outcome : (items : List Item) (end : ℕ) →
    Goes IsFull (next_at (choice (by_name container_name output_containers))) (even 4) (rest_at items end)
output_container_outcome items end =
    word_outcome IsFull (by_name container_name output_containers) 3 (codes "raw") container.Raw items end
    (a_word 3 (codes "raw") (refl, omega arith) refl refl (omega arith)) (container_again container.Raw)

-- an input, behind its first words
abbrev rate_reader : Container → Fmt → ℕ → Reader Input
rate_reader wanted format channels rest = kind_at wanted rest >>= λ kind. Ok
    (record { kind = kind.0; format = format; channels = channels }, kind.1)

abbrev channels_reader : Container → Fmt → Reader Input
channels_reader wanted format rest = natural_at 1 MAX_CHANNELS rest >>= λ n. rate_reader wanted format n.0 n.1

abbrev format_reader : Container → Reader Input
format_reader wanted rest = next_at (choice (by_name format_name every_format)) rest >>= λ f. channels_reader wanted
    f.0 f.1

abbrev container_reader : ⊤ → Reader Input
container_reader _ rest = next_at (choice (by_name container_name input_containers)) rest >>= λ c. format_reader c.0 c.1

-- the rooms of one reader and the next, each of some bytes
both_even : (a b : ℕ) → Rooms (even a) (even b) (even (a + b))
both_even a b = record { empty = omega arith; most = omega arith; later = omega arith }

input_outcome : (items : List Item) (end : ℕ) → Goes IsFull input_at (even 38) (rest_at items end)
unfolding input_at
input_outcome items end =
    then IsFull full_behind (next_at (choice (named (codes "input")))) container_reader (even 6) (even 32) (even 38)
    items end (both_even 6 32)
    (named_outcome 5 (codes "input") items end (a_word 5 (codes "input") (refl, omega arith) refl refl (omega arith)))
    (λ _ _ a e _. then IsFull full_behind (next_at (choice (by_name container_name input_containers))) format_reader
    (even 5) (even 27) (even 32) a e (both_even 5 27) (input_container_outcome a e)
    (λ wanted _ b e _. then IsFull full_behind (next_at (choice (by_name format_name every_format)))
    (channels_reader wanted) (even 3) (even 24) (even 27) b e (both_even 3 24) (format_outcome b e)
    (λ format _ c e _. then IsFull full_behind (natural_at 1 MAX_CHANNELS) (rate_reader wanted format) (even 12)
    (even 12) (even 24) c e (both_even 12 12) (natural_outcome IsFull 1 MAX_CHANNELS c e numeral_1 (omega arith))
    (λ channels _ d e _. then_done IsFull (kind_at wanted)
    (λ k. record { kind = k; format = format; channels = channels }) (even 12) d e (kind_outcome wanted d e)))))

-- ---- the script

-- a script and what is left behind it, by what was read so far
abbrev output_reader : ℕ → Input → Option ℕ → List Block → Reader Script
output_reader version input frames blocks rest = next_at (choice (by_name container_name output_containers)) rest >>=
    λ output. Ok (
      record {
        version = version;
        input = input;
        block = frames;
        blocks = blocks;
        output = output.0;
      },
      output.1,
    )

abbrev blocks_reader : ℕ → Input → Option ℕ → Environment → Reader Script
blocks_reader version input frames tables rest = blocks_at tables MAX_BLOCKS false (input_flow input) rest >>=
    λ blocks. output_reader version input frames blocks.0 blocks.1

abbrev tables_reader : ℕ → Input → Option ℕ → Reader Script
tables_reader version input frames rest = environment_at version rest >>= λ tables. blocks_reader version input frames
    tables.0 tables.1

abbrev length_reader : ℕ → Input → Reader Script
length_reader version input rest = length_at rest >>= λ frames. tables_reader version input frames.0 frames.1

abbrev input_reader : ℕ → Reader Script
input_reader version rest = input_at rest >>= λ input. length_reader version input.0 input.1

abbrev version_reader : ⊤ → Reader Script
version_reader _ rest = natural_at 1 MAX_VERSION rest >>= λ version. input_reader version.0 version.1

abbrev pub script_reader : Reader Script
script_reader rest = next_at (choice (named (codes "dspfx"))) rest >>= λ name. version_reader name.0 name.1

-- so many bytes where there are none yet; else the rest of a block, `output` and its container
abbrev pub room_from : ℕ → Room
room_from n = record { empty = n; most = block_most + 11 }

chain_outcome : (version : ℕ) (input : Input) (frames : Option ℕ) (items : List Item) (end : ℕ) →
    Goes IsFull (tables_reader version input frames) (room_from 11) (rest_at items end)
chain_outcome version input frames items end =
    then IsFull full_behind (environment_at version) (blocks_reader version input frames) tables_room (room_from 11)
    (room_from 11) items end (record { empty = omega arith; most = omega arith; later = omega arith })
    (environment_outcome version items end)
    (λ tables _ a e _. then IsFull full_behind (blocks_at tables MAX_BLOCKS false (input_flow input))
    (output_reader version input frames) blocks_room (even 4) (room_from 11) a e
    (record { empty = omega arith; most = omega arith; later = omega arith })
    (blocks_outcome tables MAX_BLOCKS false (input_flow input) a e)
    (λ blocks _ b e _. then_done IsFull (next_at (choice (by_name container_name output_containers)))
    (λ output. record {
      version = version;
      input = input;
      block = frames;
      blocks = blocks;
      output = output;
    }) (even 4) b e (output_container_outcome b e)))

pub script_outcome : (items : List Item) (end : ℕ) → Goes IsFull script_reader (room_from 67) (rest_at items end)
script_outcome items end =
    then IsFull full_behind (next_at (choice (named (codes "dspfx")))) version_reader (even 6) (room_from 61)
    (room_from 67) items end (record { empty = omega arith; most = omega arith; later = omega arith })
    (named_outcome 5 (codes "dspfx") items end (a_word 5 (codes "dspfx") (refl, omega arith) refl refl (omega arith)))
    (λ _ _ a e _. then IsFull full_behind (natural_at 1 MAX_VERSION) input_reader (even 12) (room_from 49)
    (room_from 61) a e (record { empty = omega arith; most = omega arith; later = omega arith })
    (natural_outcome IsFull 1 MAX_VERSION a e numeral_1 (omega arith))
    (λ version _ b e _. then IsFull full_behind input_at (length_reader version) (even 38) (room_from 11)
    (room_from 49) b e (record { empty = omega arith; most = omega arith; later = omega arith }) (input_outcome b e)
    (λ input _ c e _. then IsFull full_behind length_at (tables_reader version input) (optional_room (even 12))
    (room_from 11) (room_from 11) c e (record { empty = omega arith; most = omega arith; later = omega arith })
    (length_outcome c e) (λ frames _ d e _. chain_outcome version input frames d e))))

-- ---- the end of the text

-- the script, where nothing is left behind it
abbrev pub whole : Result (Script × Rest) ScriptFault → Result Script ScriptFault
whole read = read >>= λ s. (nothing_of s.1.items >>= λ _. Ok s.0)

through : {A B C : Type 0} (r : Result A ScriptFault) (f : A → Result B ScriptFault) (g : B → Result C ScriptFault)
    (h : A → Result C ScriptFault) → ((x : A) → (f x >>= g) ≡ h x) → ((r >>= f) >>= g) ≡ (r >>= h)
through (Ok x) f g h same = same x
through (Err e) f g h same = refl

pub script_is : (rest : Rest) → whole (script_reader rest) ≡ script_at rest
unfolding script_at
script_is rest =
    through (next_at (choice (named (codes "dspfx"))) rest) _ _ _
    (λ name. through (natural_at 1 MAX_VERSION name.1) _ _ _
    (λ version. through (input_at version.1) _ _ _
    (λ input. through (length_at input.1) _ _ _
    (λ frames. through (environment_at version.0 frames.1) _ _ _
    (λ tables. through (blocks_at tables.0 MAX_BLOCKS false (input_flow input.0) tables.1) _ _ _
    (λ blocks. through (next_at (choice (by_name container_name output_containers)) blocks.1) _ _ _
    (λ output. refl)))))))
