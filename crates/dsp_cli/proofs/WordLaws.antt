-- The words of a command, and what a command keeps to.
use Rattle.std.proofs.Common.{◌≡◌, ℕ, ◌≤◌, List, [], ◌∷◌, length, Option, Some, None, IfSome, Bool, true, false}
use Rattle.std.proofs.Common.{if◌then◌else◌, nat_le, slice_get, refl, subst, arith}
use Rattle.std.specs.Prelude.{codes}
use Rattle.std.specs.Option.{option_map, option_and_then}
use Rattle.std.specs.Str.{bytes_eq}
use Rattle.std.proofs.lemmas.Bool.Decides.{nat_tests}
use Rattle.dsp_command.specs.Words.{command_of, generating, running}
use Rattle.dsp_defs.specs.declared.au.Direction.{Direction}
use Rattle.dsp_command.specs.declared.command.Command.{Command}
use Rattle.dsp_command.specs.declared.command.Command.TheVariants.{Run, Gen, Stop, Convert}
use Rattle.dsp_defs.specs.declared.limits.TheConstants.{MAX_GENERATED}

-- six words are these
pub six_words : (words : List (List ℕ)) (a b c d e f : List ℕ) → length words ≡ 6 → slice_get words 0 ≡ Some a →
    slice_get words 1 ≡ Some b → slice_get words 2 ≡ Some c → slice_get words 3 ≡ Some d
    → slice_get words 4 ≡ Some e → slice_get words 5 ≡ Some f → words ≡ a ∷ b ∷ c ∷ d ∷ e ∷ f ∷ []
six_words (v ∷ w ∷ x ∷ y ∷ z ∷ last ∷ []) a b c d e f size p q r s t u = cc
six_words words a b c d e f size p q r s t u = absurd (omega (arith, size))

-- five words are these
pub five_words : (words : List (List ℕ)) (a b c d e : List ℕ) → length words ≡ 5 → slice_get words 0 ≡ Some a →
    slice_get words 1 ≡ Some b → slice_get words 2 ≡ Some c → slice_get words 3 ≡ Some d
    → slice_get words 4 ≡ Some e → words ≡ a ∷ b ∷ c ∷ d ∷ e ∷ []
five_words (v ∷ w ∷ x ∷ y ∷ z ∷ []) a b c d e size p q r s t = cc
five_words words a b c d e size p q r s t = absurd (omega (arith, size))

-- four words are these
pub four_words : (words : List (List ℕ)) (a b c d : List ℕ) → length words ≡ 4 → slice_get words 0 ≡ Some a →
    slice_get words 1 ≡ Some b → slice_get words 2 ≡ Some c → slice_get words 3 ≡ Some d → words ≡ a ∷ b ∷ c ∷ d ∷ []
four_words (v ∷ w ∷ x ∷ y ∷ []) a b c d size p q r s = cc
four_words words a b c d size p q r s = absurd (omega (arith, size))

-- ---- a gen makes no more frames than may be generated

abbrev MakesFew : Command → Type 0
MakesFew (Gen seed frames) = frames ≤ MAX_GENERATED
MakesFew command = Unit {0}

by_test : (test : Bool) (command : Option Command) → IfSome command MakesFew →
    IfSome (if test then command else None) MakesFew
by_test true command within = within
by_test false command within = tt

by_either : (test : Bool) (first second : Option Command) → IfSome first MakesFew → IfSome second MakesFew →
    IfSome (if test then first else second) MakesFew
by_either true first second within later = within
by_either false first second within later = later

made_within : (seed frames : ℕ) (test : Bool) → nat_le frames MAX_GENERATED ≡ test →
    IfSome (if test then Some (Gen seed frames) else None) MakesFew
made_within seed frames true is = grind (arith, nat_tests)
made_within seed frames false is = tt

generating_within : (seed frames : Option ℕ) → IfSome (generating seed frames) MakesFew
generating_within None frames = tt
generating_within (Some seed) None = tt
generating_within (Some seed) (Some frames) = made_within seed frames (nat_le frames MAX_GENERATED) refl

running_within : (verb : List ℕ) (named : Option ℕ) → IfSome (running verb named) MakesFew
running_within verb named =
    by_either (bytes_eq verb (codes "run")) (Some (Run named false))
    (if bytes_eq verb (codes "bank") then Some (Run named true) else None) tt
    (by_test (bytes_eq verb (codes "bank")) (Some (Run named true)) tt)

stopping_within : (count : Option ℕ) → IfSome (option_map (λ n. Stop n) count) MakesFew
stopping_within None = tt
stopping_within (Some n) = tt

named_within : (verb : List ℕ) (count : Option ℕ) → IfSome (option_and_then (λ n. running verb (Some n)) count) MakesFew
named_within verb None = tt
named_within verb (Some n) = running_within verb (Some n)

direction_within : (direction : Option Direction) → IfSome (option_map (λ d. Convert d) direction) MakesFew
direction_within None = tt
direction_within (Some direction) = tt

ruleset few_made = (
  by_test,
  by_either,
  generating_within,
  running_within,
  stopping_within,
  named_within,
  direction_within,
)

commands_within : (words : List (List ℕ)) → IfSome (command_of words) MakesFew
commands_within (a ∷ b ∷ []) = search few_made
commands_within (a ∷ b ∷ c ∷ d ∷ []) = search few_made
commands_within (a ∷ b ∷ c ∷ d ∷ e ∷ []) = search few_made
commands_within (a ∷ b ∷ c ∷ d ∷ e ∷ f ∷ []) = search few_made
commands_within words = tt

pub gen_makes_few : (words : List (List ℕ)) (seed frames : ℕ) → command_of words ≡ Some (Gen seed frames) →
    frames ≤ MAX_GENERATED
gen_makes_few words seed frames is = subst (λ command. IfSome command MakesFew) is (commands_within words)
