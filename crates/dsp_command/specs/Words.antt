-- Which words are a command, and where they name its script, its input, its output and another file that it reads.
use Rattle.std.specs.Prelude.{ℕ, ◌-◌, ◌^◌, Bool, true, false, not, ◌&&◌, nat_eq, nat_le, List, [], ◌∷◌, length}
use Rattle.std.specs.Prelude.{Option, Some, None, codes, if◌then◌else◌}
use Rattle.std.specs.Option.{option_map, option_and_then}
use Rattle.std.specs.Char.{is_ascii_digit}
use Rattle.std.specs.List.{list_all}
use Rattle.std.specs.Str.{bytes_eq}
use Rattle.std.specs.Str.Parse.{digits_value}
use Rattle.dsp_defs.specs.declared.au.Direction.{Direction}
use Rattle.dsp_defs.specs.declared.au.Direction.TheVariants.{WaveToAu, AuToWave}
use Rattle.dsp_command.specs.declared.command.Command.{Command}
use Rattle.dsp_command.specs.declared.command.Command.TheVariants.{Run, Gen, Print, Stop, Go, Convert, Check}
use Rattle.dsp_command.specs.declared.command.Places.{Places}
use Rattle.dsp_defs.specs.declared.limits.TheConstants.{MAX_GENERATED}

-- a count: one to ten digits, of at most 2^32 - 1
abbrev pub count_of : List ℕ → Option ℕ
count_of word =
    if nat_le 1 (length word) && nat_le (length word) 10 && list_all is_ascii_digit word && nat_le
    (digits_value 10 word) (2 ^ 32 - 1)
    then Some (digits_value 10 word) else None

-- a name is a text that isn't empty
abbrev pub is_name : List ℕ → Bool
is_name word = not (nat_eq (length word) 0)

-- three names, of which the last differs from the others
abbrev pub are_run_names : List ℕ → List ℕ → List ℕ → Bool
are_run_names script input output =
    is_name script && is_name input && is_name output && not (bytes_eq output script) && not (bytes_eq output input)

-- two names that differ
abbrev pub are_gen_names : List ℕ → List ℕ → Bool
are_gen_names script output = is_name script && is_name output && not (bytes_eq output script)

-- a seed, and a number of frames that may be generated
abbrev pub generating : Option ℕ → Option ℕ → Option Command
generating (Some seed) (Some frames) = if nat_le frames MAX_GENERATED then Some (Gen seed frames) else None
generating seed frames = None

-- the verb of a run, banked or not, in blocks of the length that is named, if one is
abbrev pub running : List ℕ → Option ℕ → Option Command
running verb named =
    if bytes_eq verb (codes "run") then Some (Run named false)
    else (if bytes_eq verb (codes "bank") then Some (Run named true) else None)

-- the way from one named form of file to the other
abbrev pub direction_of : List ℕ → List ℕ → Option Direction
direction_of from to =
    if bytes_eq from (codes "wave") && bytes_eq to (codes "au") then Some WaveToAu
    else (if bytes_eq from (codes "au") && bytes_eq to (codes "wave") then Some AuToWave else None)

-- four words: a check, whose names may be any, and a run
abbrev pub of_four : List ℕ → List ℕ → List ℕ → List ℕ → Option Command
of_four verb script input output =
    if bytes_eq verb (codes "check") && is_name script && is_name input && is_name output then Some Check
    else (if are_run_names script input output then running verb None else None)

-- five words: a gen, a run that goes on, and a conversion
abbrev pub of_five : List ℕ → List ℕ → List ℕ → List ℕ → List ℕ → Option Command
of_five verb second third fourth output =
    if bytes_eq verb (codes "gen") && are_gen_names fourth output then generating (count_of second) (count_of third)
    else (if bytes_eq verb (codes "resume") && bytes_eq second (codes "go") && are_run_names third fourth output then
    Some Go
    else (if bytes_eq verb (codes "convert") && are_gen_names fourth output then
    option_map (λ d. Convert d) (direction_of second third)
    else None))

-- six words: a run that is to be stopped, and a run with its block length
abbrev pub of_six : List ℕ → List ℕ → List ℕ → List ℕ → List ℕ → List ℕ → Option Command
of_six verb second third fourth fifth last =
    if bytes_eq verb (codes "resume") && bytes_eq second (codes "stop") && are_run_names fourth fifth last
    then option_map (λ n. Stop n) (count_of third)
    else (if are_run_names second third fourth && bytes_eq fifth (codes "block")
    then option_and_then (λ n. running verb (Some n)) (count_of last) else None)

-- `print SCRIPT`, `run SCRIPT IN OUT`, `run SCRIPT IN OUT block N`, `gen SEED FRAMES SCRIPT OUT`, `resume stop K
-- SCRIPT IN OUT`,
-- `resume go STATE IN OUT`, `convert FROM TO IN OUT` and `check SCRIPT IN OUT`; `bank` stands where `run` does
abbrev pub command_of : List (List ℕ) → Option Command
command_of (verb ∷ script ∷ []) = if bytes_eq verb (codes "print") && is_name script then Some Print else None
command_of (verb ∷ script ∷ input ∷ output ∷ []) = of_four verb script input output
command_of (verb ∷ seed ∷ frames ∷ script ∷ output ∷ []) =
    of_five verb seed frames script output
command_of (verb ∷ second ∷ third ∷ fourth ∷ fifth ∷ last ∷ []) = of_six verb second third fourth fifth last
command_of words = None

-- the verb is word 0, and the names follow it
abbrev pub places_of_command : Command → Places
places_of_command (Run block banked) = record { script = Some 1; input = Some 2; output = Some 3; other = None }
places_of_command (Gen seed frames) = record { script = Some 3; input = None; output = Some 4; other = None }
places_of_command Print = record { script = Some 1; input = None; output = None; other = None }
places_of_command (Stop frames) = record { script = Some 3; input = Some 4; output = Some 5; other = None }
places_of_command Go = record { script = Some 2; input = Some 3; output = Some 4; other = None }
places_of_command (Convert direction) = record { script = None; input = Some 3; output = Some 4; other = None }
places_of_command Check = record { script = Some 1; input = Some 2; output = None; other = Some 3 }

abbrev pub places_of : List (List ℕ) → Option Places
places_of words = option_map places_of_command (command_of words)
