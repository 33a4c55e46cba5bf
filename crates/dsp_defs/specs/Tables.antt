-- The tables of a script: lists of numbers with names, by which its blocks may speak of them.
use Rattle.std.specs.Prelude.{◌≡◌, ℕ, ℤ, ◌≤◌, ◌&&◌, nat_le, Bool, IsTrue, List, [], ◌∷◌, ◌++◌, length, slice_index}
use Rattle.std.specs.Prelude.{Option, None, find}
use Rattle.std.specs.Option.{option_map}
use Rattle.std.specs.Char.{is_ascii_lowercase}
use Rattle.std.specs.Str.{bytes_eq}
use Rattle.dsp_defs.specs.declared.limits.TheConstants.{MAX_NAME, MAX_TABLES, MAX_TAPS}
use Rattle.dsp_defs.specs.declared.format.Fmt.TheVariants.{Q31}
use Rattle.dsp_defs.specs.declared.list_rule.Count.TheVariants.{AtLeast}
use Rattle.dsp_defs.specs.declared.list_rule.ListRule.{ListRule}
use Rattle.dsp_defs.specs.Parameters.{least, greatest, IsWithin}

-- a table: numbers that have a name
pub record Named : Type 0 where
  pub name : List ℕ
  pub numbers : List ℤ

-- a run is a name: it begins with a letter, and has at most 32 bytes
abbrev pub is_table_name : List ℕ → Bool
is_table_name run = is_ascii_lowercase (slice_index run 0) && nat_le (length run) MAX_NAME

-- the numbers of the table of this name, if there is one
unfoldable pub numbers_of : List Named → List ℕ → Option (List ℤ)
numbers_of tables name = option_map (λ t. t.numbers) (find (λ t. bytes_eq name t.name) tables)

-- what a table may hold: any count of numbers of 32 bits, up to the limit of a list
abbrev pub table_rule : ListRule
table_rule = record { low = least Q31; high = greatest Q31; limit = MAX_TAPS; count = AtLeast 0 }

-- the table may stand behind these: its name is a name, and none of theirs
pub record IsTable (before : List Named) (t : Named) : Type 0 where
  pub name : IsTrue (is_table_name t.name)
  pub new : numbers_of before t.name ≡ None
  pub numbers : IsWithin table_rule t.numbers

-- each of the tables may stand behind these and those before it
abbrev pub AreTables : List Named → List Named → Type 0
AreTables before [] = Unit {0}
AreTables before (t ∷ tables) = IsTable before t × AreTables (before ++ t ∷ []) tables

-- the tables of a text of this version: up to 64, and none in version 1
pub record MayStand (version : ℕ) (tables : List Named) : Type 0 where
  pub few : length tables ≤ MAX_TABLES
  pub each : AreTables [] tables
  pub allowed : version ≡ 1 → tables ≡ []
