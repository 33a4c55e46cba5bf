-- The names of the table: each stands for its word alone, is a run, and is no other word of a script.
use Rattle.std.proofs.Common.{◌≡◌, ℕ, ◌<◌, Bool, true, false, ◌&&◌, List, length, Some, None, refl, arith}
use Rattle.std.specs.Prelude.{codes, nat_lt, if◌then◌else◌}
use Rattle.std.specs.Str.{bytes_eq}
use Rattle.std.specs.List.{list_all}
use Rattle.std.proofs.lemmas.Bool.Decides.{nat_tests}
use Rattle.dsp_defs.specs.declared.format.Fmt.{Fmt}
use Rattle.dsp_defs.specs.declared.format.Fmt.TheVariants.{Q7, Q15, Q31}
use Rattle.dsp_defs.specs.declared.format.Container.{Container}
use Rattle.dsp_defs.specs.declared.format.Container.TheVariants.{Wave, Wavex, Raw}
use Rattle.dsp_defs.specs.declared.format.InputKind.{InputKind}
use Rattle.dsp_defs.specs.declared.format.InputKind.TheVariants as kind
use Rattle.dsp_defs.specs.declared.word.Word.{Word}
use Rattle.dsp_defs.specs.declared.word.Word.TheVariants as words
use Rattle.dsp_defs.specs.Token.{is_run_byte}
use Rattle.dsp_defs.specs.Table.{by_name, every_word, name_of, every_format, format_name, container_name}
use Rattle.dsp_defs.specs.Table.{input_containers, output_containers}
use Rattle.dsp_defs.specs.Grammar.{container_of}
use Rattle.dsp_defs.specs.Places.{named}
use Rattle.dsp_defs.specs.Reading.{place_of}
use Rattle.dsp_shape.proofs.Paces.{both_true}

abbrev other_than : List ℕ → List ℕ → Bool
other_than name run = if bytes_eq run name then false else true

-- a run of bytes that is none of `output`, `block` and `table`
abbrev is_plain : List ℕ → Bool
is_plain run = list_all is_run_byte run && nat_lt 0 (length run) && other_than (codes "output") run && other_than
    (codes "block") run && other_than (codes "table") run

abbrev IsWellNamed : Word → Type 0
IsWellNamed w = (by_name name_of every_word (name_of w) ≡ Some w) × (is_plain (name_of w) ≡ true)

well_named : (w : Word) → IsWellNamed w
unfolding by_name
well_named words.Offset = (refl, refl)
well_named words.Negate = (refl, refl)
well_named words.Abs = (refl, refl)
well_named words.Scale = (refl, refl)
well_named words.Shift = (refl, refl)
well_named words.Clip = (refl, refl)
well_named words.To = (refl, refl)
well_named words.Add = (refl, refl)
well_named words.Sub = (refl, refl)
well_named words.Mult = (refl, refl)
well_named words.Conj = (refl, refl)
well_named words.CmplxMult = (refl, refl)
well_named words.CmplxMultReal = (refl, refl)
well_named words.MagSquared = (refl, refl)
well_named words.Fir = (refl, refl)
well_named words.Sparse = (refl, refl)
well_named words.Decimate = (refl, refl)
well_named words.Interpolate = (refl, refl)
well_named words.LatticeFir = (refl, refl)
well_named words.LatticeIir = (refl, refl)
well_named words.Biquad = (refl, refl)
well_named words.Biquad64 = (refl, refl)
well_named words.Conv = (refl, refl)
well_named words.ConvPartial = (refl, refl)
well_named words.Correlate = (refl, refl)
well_named words.Lms = (refl, refl)
well_named words.Pid = (refl, refl)
well_named words.MatAdd = (refl, refl)
well_named words.MatSub = (refl, refl)
well_named words.MatScale = (refl, refl)
well_named words.MatTrans = (refl, refl)
well_named words.MatMult = (refl, refl)
well_named words.Power = (refl, refl)
well_named words.Dot = (refl, refl)
well_named words.CmplxDot = (refl, refl)
well_named words.Max = (refl, refl)
well_named words.Min = (refl, refl)
well_named words.Route = (refl, refl)

other : (b : Bool) → (if b then false else true) ≡ true → b ≡ false
other true e = absurd cc
other false e = refl

-- what a plain run is
record IsPlain (run : List ℕ) : Type 0 where
  bytes : list_all is_run_byte run ≡ true
  some : 0 < length run
  no_output : bytes_eq run (codes "output") ≡ false
  no_length : bytes_eq run (codes "block") ≡ false
  no_table : bytes_eq run (codes "table") ≡ false

plain_parts : (run : List ℕ) → is_plain run ≡ true → IsPlain run
plain_parts run e =
    let d = both_true (list_all is_run_byte run && nat_lt 0 (length run) && other_than (codes "output") run &&
    other_than (codes "block") run) (other_than (codes "table") run) e in
    let c = both_true (list_all is_run_byte run && nat_lt 0 (length run) && other_than (codes "output") run)
    (other_than (codes "block") run) d.0 in
    let b = both_true (list_all is_run_byte run && nat_lt 0 (length run)) (other_than (codes "output") run) c.0 in
    let a = both_true (list_all is_run_byte run) (nat_lt 0 (length run)) b.0 in
    record {
      bytes = a.0;
      some = grind (arith, nat_tests, a.1);
      no_output =
          other (bytes_eq run (codes "output")) b.1;
      no_length = other (bytes_eq run (codes "block")) c.1;
      no_table =
          other (bytes_eq run (codes "table")) d.1;
    }

name_parts : (w : Word) → IsPlain (name_of w)
name_parts w = plain_parts (name_of w) (well_named w).1

-- a run of bytes that a run may have
abbrev pub IsRun : List ℕ → Type 0
IsRun run = (list_all is_run_byte run ≡ true) × (0 < length run)

pub word_run : (w : Word) → IsRun (name_of w)
word_run w = let p = name_parts w in (p.bytes, p.some)

-- no block's word is the word of the block length
pub no_length : (w : Word) → named (codes "block") (name_of w) ≡ None
no_length w = rw (name_parts w).no_length refl

-- nor the word of a table
pub no_table : (w : Word) → named (codes "table") (name_of w) ≡ None
no_table w = rw (name_parts w).no_table refl

pub place_again : (w : Word) → place_of (name_of w) ≡ Some (Some w)
unfolding place_of
place_again w = rw ((name_parts w).no_output, (well_named w).0) refl

pub place_again_output : place_of (codes "output") ≡ Some None
unfolding place_of
place_again_output = refl

pub format_again : (f : Fmt) → by_name format_name every_format (format_name f) ≡ Some f
unfolding by_name
format_again Q7 = refl
format_again Q15 = refl
format_again Q31 = refl

pub format_run : (f : Fmt) → IsRun (format_name f)
format_run Q7 = (refl, omega arith)
format_run Q15 = (refl, omega arith)
format_run Q31 = (refl, omega arith)

pub container_again : (c : Container) → by_name container_name output_containers (container_name c) ≡ Some c
unfolding by_name
container_again Wave = refl
container_again Wavex = refl
container_again Raw = refl

pub input_container_again : (k : InputKind) → by_name container_name input_containers
    (container_name (container_of k)) ≡ Some (container_of k)
unfolding by_name
input_container_again kind.Wave = refl
input_container_again (kind.Raw rate) = refl

pub container_run : (c : Container) → IsRun (container_name c)
container_run Wave = (refl, omega arith)
container_run Wavex = (refl, omega arith)
container_run Raw = (refl, omega arith)
