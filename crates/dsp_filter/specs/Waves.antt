-- Four machines one after another that work side by side, each a sample behind the one before it.
use Rattle.std.specs.Prelude.{◌≡◌, ◌++◌, ℤ, List, [], ◌∷◌}
use Rattle.dsp_defs.specs.Streaming.{Behaviour, GoesOn}
use Rattle.dsp_filter.specs.declared.in_flight.InFlight.{InFlight}

-- what a machine does and what it keeps
pub record Part : Type 0 where
  pub acts : Behaviour
  pub kept : List ℤ

pub record Four : Type 0 where
  pub first : Part
  pub second : Part
  pub third : Part
  pub fourth : Part

-- and the last value that each gave to the next, which has not taken it yet
pub record Wave : Type 0 where
  pub parts : Four
  pub to_second : ℤ
  pub to_third : ℤ
  pub to_fourth : ℤ

-- a machine took xs and gave ys
pub record Works (old new : Part) (xs ys : List ℤ) : Type 0 where
  pub acts : new.acts ≡ old.acts
  pub goes : GoesOn old.acts.gives old.acts.keeps old.kept new.kept xs ys

-- each machine took one value: the first x, and each other what was given to it
pub record Turns (old new : Wave) (x z : ℤ) : Type 0 where
  pub first : Works old.parts.first new.parts.first (x ∷ []) (new.to_second ∷ [])
  pub second : Works old.parts.second new.parts.second (old.to_second ∷ []) (new.to_third ∷ [])
  pub third : Works old.parts.third new.parts.third (old.to_third ∷ []) (new.to_fourth ∷ [])
  pub fourth : Works old.parts.fourth new.parts.fourth (old.to_fourth ∷ []) (z ∷ [])

-- the first took xs, the fourth gave zs, and each other took all that was given to it but the last value
pub record Flows (old : Four) (new : Wave) (xs zs : List ℤ) : Type 0 where
  pub one : List ℤ
  pub two : List ℤ
  pub three : List ℤ
  pub first : Works old.first new.parts.first xs (one ++ new.to_second ∷ [])
  pub second : Works old.second new.parts.second one (two ++ new.to_third ∷ [])
  pub third : Works old.third new.parts.third two (three ++ new.to_fourth ∷ [])
  pub fourth : Works old.fourth new.parts.fourth three zs

-- the first took xs, the fourth gave zs, and each other took all that was given to it
pub record Passes (old new : Four) (xs zs : List ℤ) : Type 0 where
  pub one : List ℤ
  pub two : List ℤ
  pub three : List ℤ
  pub first : Works old.first new.first xs one
  pub second : Works old.second new.second one two
  pub third : Works old.third new.third two three
  pub fourth : Works old.fourth new.fourth three zs

-- machines as they are seen here
abbrev pub part_of : {M : Type 0} → (M → Behaviour) → (M → List ℤ) → M → Part
part_of acts kept m = record { acts = acts m; kept = kept m }

abbrev pub four_of : {T M : Type 0} → (M → Behaviour) → (M → List ℤ) → InFlight T M → Four
four_of acts kept m = record {
  first = part_of acts kept m.first;
  second = part_of acts kept m.second;
  third =
      part_of acts kept m.third;
  fourth = part_of acts kept m.fourth;
}

abbrev pub wave_of : {T M : Type 0} → (M → Behaviour) → (M → List ℤ) → (T → ℤ) → InFlight T M → Wave
wave_of acts kept number m = record {
  parts = four_of acts kept m;
  to_second = number m.to_second;
  to_third =
      number m.to_third;
  to_fourth = number m.to_fourth;
}
