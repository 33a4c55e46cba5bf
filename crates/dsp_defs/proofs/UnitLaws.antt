-- The unit is the least number of input frames at which each group is whole, and the others are its multiples.
use Rattle.std.proofs.Common.{◌≡◌, ℕ, zero, suc, ◌+◌, ◌-◌, ◌*◌, ◌/◌, ◌%◌, ◌<◌, List, [], ◌∷◌, fold, Option, Some}
use Rattle.std.proofs.Common.{None, IfSome, sym, ap, ◌∙◌, arith, subst}
use Rattle.std.specs.Int.{IsGcd, ◌∣◌}
use Rattle.std.proofs.lemmas.Nat.Gcd.{dvd_refl, dvd_trans, dvd_of_mod-eq-zero, mod-eq-zero_of_dvd}
use Rattle.std.proofs.Math.Nat.{dvd-mul_left, dvd-mul_right, dvd-mul_left_of_dvd, dvd-sub, mul-div_assoc}
use Rattle.std.proofs.Math.Nat.{div-mul_cancel, dvd_of_mul-dvd-mul_right, dvd_of_mul-dvd-mul_left}
use Rattle.dsp_defs.specs.Shape.{group_of, groups_after, euclid, gcd, Pace, grouped_pace, pace_after, whole_unit}
use Rattle.dsp_defs.specs.Shape.{AreWholeGroups, GroupsAreWhole, HasGroups}
use Rattle.dsp_defs.specs.declared.script.Block.{Block}
use Rattle.dsp_defs.specs.declared.script.Block.TheVariants.{Interpolate}
use Rattle.dsp_defs.proofs.GcdLaws.{gcd-IsGcd}

-- ---- divisors of multiples

apart : (m q b r : ℕ) → m * r ≡ m * (q * b + r) - q * (m * b)
apart m q b r = omega arith

split : (m a b : ℕ) → m * (a % b) ≡ m * a - a / b * (m * b)
split m a b =
    let e : a / b * b + a % b ≡ a = grind arith in
    apart m (a / b) b (a % b) ∙ ap (λ n. m * n - a / b * (m * b)) e

dvd-times_mod : (d m a b : ℕ) → d ∣ m * a → d ∣ m * b → d ∣ m * (a % b)
dvd-times_mod d m a b h k = subst (λ n. d ∣ n) (sym (split m a b)) (dvd-sub d h (dvd-mul_left_of_dvd d k (a / b)))

-- what divides m*a and m*b divides m*gcd(a,b)
dvd-times_euclid : (d m steps a b : ℕ) → d ∣ m * a → d ∣ m * b → d ∣ m * euclid steps a b
dvd-times_euclid d m zero a b h k = h
dvd-times_euclid d m (suc steps) a zero h k = h
dvd-times_euclid d m (suc steps) a (suc b) h k = dvd-times_euclid d m steps (suc b) (a % suc b) k
    (dvd-times_mod d m a (suc b) h k)

pub gcd_positive : (f g : ℕ) → 0 < g → 0 < gcd f g
gcd_positive f g h = by_value (gcd f g) (gcd-IsGcd f g)
  where
    by_value : (d : ℕ) → IsGcd f g d → 0 < d
    by_value zero (a, b, c) = absurd (omega (arith, h, mod-eq-zero_of_dvd 0 b))
    by_value (suc d) e = omega arith

turned : (a b c : ℕ) → a * (b * c) ≡ a * c * b
turned a b c = omega arith

moved : (a b c : ℕ) → a * b * c ≡ a * (c * b)
moved a b c = omega arith

swapped : (a b : ℕ) → a * b ≡ b * a
swapped a b = omega arith

grouped : (a b c : ℕ) → a * b * c ≡ a * (b * c)
grouped a b c = omega arith

-- m*f is whole groups of g exactly where m is a multiple of g/gcd(f,g)
module _ (f g : ℕ) (some : 0 < g) where
  abbrev k : ℕ
  k = g / gcd f g

  k_times : k * gcd f g ≡ g
  k_times = div-mul_cancel (gcd f g) (gcd-IsGcd f g).1

  multiple_of_k : (m : ℕ) → m * f % g ≡ 0 → k ∣ m
  multiple_of_k m h =
      let d : g ∣ m * gcd f g = dvd-times_euclid g m (suc g) f g (dvd_of_mod-eq-zero g h) (dvd-mul_left g m) in
      dvd_of_mul-dvd-mul_right k (gcd_positive f g some) (subst (λ n. n ∣ m * gcd f g) (sym k_times) d)

  -- g divides k*f
  k_is_whole : g ∣ k * f
  k_is_whole =
      let f' : f / gcd f g * gcd f g ≡ f = div-mul_cancel (gcd f g) (gcd-IsGcd f g).0 in
      let e : k * f ≡ g * (f / gcd f g) = ap (λ n. k * n) (sym f') ∙ turned k (f / gcd f g) (gcd f g) ∙
      ap (λ n. n * (f / gcd f g)) k_times in
      subst (λ n. g ∣ n) (sym e) (dvd-mul_right g (f / gcd f g))

-- ---- the unit

unit_grows_by : (pace : Pace) (g : Option (ℕ × ℕ)) → pace.unit ∣ (grouped_pace pace g).unit
unit_grows_by pace None = dvd_refl pace.unit
unit_grows_by pace (Some g) = dvd-mul_right pace.unit (g.0 / gcd pace.frames g.0)

unit_grows_once : (block : Block) (pace : Pace) → pace.unit ∣ (pace_after pace block).unit
unit_grows_once (Interpolate factor taps) pace = dvd_refl pace.unit
unit_grows_once block pace = unit_grows_by pace (group_of block)

-- the unit so far divides the unit
unit_grows : (blocks : List Block) (pace : Pace) → pace.unit ∣ (fold pace_after pace blocks).unit
unit_grows [] pace = dvd_refl pace.unit
unit_grows (block ∷ blocks) pace = dvd_trans pace.unit (unit_grows_once block pace)
    (unit_grows blocks (pace_after pace block))

-- m units so far make whole groups behind exactly where they are a multiple of the unit
abbrev IsUnit : List Block → Type 0
IsUnit blocks = (pace : Pace) (m : ℕ) → 0 < pace.unit →
    (GroupsAreWhole blocks (m * pace.frames) → (fold pace_after pace blocks).unit ∣ m * pace.unit) ×
    ((fold pace_after pace blocks).unit ∣ m * pace.unit → GroupsAreWhole blocks (m * pace.frames))

no_later : IsUnit []
no_later pace m has_unit = (λ _. dvd-mul_left pace.unit m, λ _. tt)

-- one group: g taken and r given, at a place to which u input frames come as f
module _ (blocks : List Block) (later : IsUnit blocks) (pace : Pace) (g : ℕ × ℕ) (some : 0 < g.0) (m : ℕ)
    (has_unit : 0 < pace.unit) where
  abbrev times : ℕ
  times = g.0 / gcd pace.frames g.0

  abbrev next : Pace
  next = grouped_pace pace (Some g)

  some_times : 0 < times
  some_times = by_value times (k_times pace.frames g.0 some)
    where
      by_value : (n : ℕ) → n * gcd pace.frames g.0 ≡ g.0 → 0 < n
      by_value zero e = absurd (omega (arith, e, some))
      by_value (suc n) e = omega arith

  next_unit : 0 < next.unit
  next_unit = (let u : 0 < pace.unit = has_unit in let t : 0 < times = some_times in grind arith)

  -- the frames behind, and the input frames, by the next unit
  frames_behind_group : times ∣ m → m * pace.frames / g.0 * g.1 ≡ m / times * next.frames
  frames_behind_group d =
      let whole : m / times * times ≡ m = div-mul_cancel times d in
      let turn : m * pace.frames ≡ m / times * (pace.frames * times) = ap (λ n. n * pace.frames) (sym whole) ∙
      moved (m / times) times pace.frames in
      let divides : g.0 ∣ pace.frames * times = subst (λ n. g.0 ∣ n) (swapped times pace.frames)
      (k_is_whole pace.frames g.0 some) in
      ap (λ n. n / g.0 * g.1) turn ∙ ap (λ n. n * g.1) (mul-div_assoc g.0 (m / times) divides) ∙
      grouped (m / times) (pace.frames * times / g.0) g.1

  input_frames : times ∣ m → m / times * next.unit ≡ m * pace.unit
  input_frames d = turned (m / times) pace.unit times ∙ ap (λ n. n * pace.unit) (div-mul_cancel times d)

  group_forth : m * pace.frames % g.0 ≡ 0 → GroupsAreWhole blocks (m * pace.frames / g.0 * g.1) →
      (fold pace_after next blocks).unit ∣ m * pace.unit
  group_forth here behind =
      let d : times ∣ m = multiple_of_k pace.frames g.0 some m here in
      subst (λ n. (fold pace_after next blocks).unit ∣ n) (input_frames d)
      ((later next (m / times) next_unit).0 (subst (GroupsAreWhole blocks) (frames_behind_group d) behind))

  group_multiple : (fold pace_after next blocks).unit ∣ m * pace.unit → times ∣ m
  group_multiple h =
      dvd_of_mul-dvd-mul_left times has_unit (subst (λ n. next.unit ∣ n) (swapped m pace.unit)
      (dvd_trans next.unit (unit_grows blocks next) h))

  group_back : (fold pace_after next blocks).unit ∣ m * pace.unit → (m * pace.frames % g.0 ≡ 0) ×
      GroupsAreWhole blocks (m * pace.frames / g.0 * g.1)
  group_back h =
      let d : times ∣ m = group_multiple h in
      let turn : m / times * (times * pace.frames) ≡ m * pace.frames = sym (grouped (m / times) times pace.frames) ∙
      ap (λ n. n * pace.frames) (div-mul_cancel times d) in (
        mod-eq-zero_of_dvd g.0 (subst (λ n. g.0 ∣ n) turn
            (dvd-mul_left_of_dvd g.0 (k_is_whole pace.frames g.0 some) (m / times))),
        subst (GroupsAreWhole blocks) (sym (frames_behind_group d))
            ((later next (m / times) next_unit).1 (subst (λ n. (fold pace_after next blocks).unit ∣ n)
            (sym (input_frames d)) h)),
      )

unit_by_group : (blocks : List Block) → IsUnit blocks → (g : Option (ℕ × ℕ)) → IfSome g (λ g. 0 < g.0) →
    (pace : Pace) (m : ℕ) → 0 < pace.unit
    → (AreWholeGroups g (m * pace.frames) × GroupsAreWhole blocks (groups_after g (m * pace.frames)) →
    (fold pace_after (grouped_pace pace g) blocks).unit ∣ m * pace.unit)
    × ((fold pace_after (grouped_pace pace g) blocks).unit ∣ m * pace.unit → AreWholeGroups g (m * pace.frames) ×
    GroupsAreWhole blocks (groups_after g (m * pace.frames)))
unit_by_group blocks later None some pace m has_unit =
    (λ h. (later pace m has_unit).0 h.1, λ h. (tt, (later pace m has_unit).1 h))
unit_by_group blocks later (Some g) some pace m has_unit =
    (λ h. group_forth blocks later pace g some m has_unit h.0 h.1, group_back blocks later pace g some m has_unit)

unit_by_block : (block : Block) (blocks : List Block) → IsUnit blocks → IfSome (group_of block) (λ g. 0 < g.0) →
    IsUnit (block ∷ blocks)
unit_by_block (Interpolate factor taps) blocks later some pace m has_unit =
    let next : Pace = record { unit = pace.unit; frames = pace.frames * factor } in
    let e : m * pace.frames * factor ≡ m * (pace.frames * factor) = omega arith in (
      λ h. (later next m has_unit).0 (subst (GroupsAreWhole blocks) e h.1),
      λ h. (tt, subst (GroupsAreWhole blocks) (sym e) ((later next m has_unit).1 h)),
    )
unit_by_block block blocks later some pace m has_unit = unit_by_group blocks later (group_of block) some pace m has_unit

units : (blocks : List Block) → HasGroups blocks → IsUnit blocks
units [] h pace m has_unit = no_later pace m has_unit
units (block ∷ blocks) h pace m has_unit = unit_by_block block blocks (units blocks h.1) h.0 pace m has_unit

-- n input frames make whole groups everywhere exactly where n is a multiple of the unit
pub whole_groups-forth : (blocks : List Block) (n : ℕ) → HasGroups blocks → GroupsAreWhole blocks n →
    n % whole_unit blocks ≡ 0
whole_groups-forth blocks n h whole =
    let e : n ≡ n * 1 = omega arith in
    mod-eq-zero_of_dvd (whole_unit blocks) (subst (λ k. whole_unit blocks ∣ k) (sym e)
    ((units blocks h (record { unit = 1; frames = 1 }) n (omega arith)).0 (subst (GroupsAreWhole blocks) e whole)))

pub whole_groups-back : (blocks : List Block) (n : ℕ) → HasGroups blocks → n % whole_unit blocks ≡ 0 →
    GroupsAreWhole blocks n
whole_groups-back blocks n h multiple =
    let e : n ≡ n * 1 = omega arith in
    subst (GroupsAreWhole blocks) (sym e) ((units blocks h (record { unit = 1; frames = 1 }) n (omega arith)).1
    (subst (λ k. whole_unit blocks ∣ k) e (dvd_of_mod-eq-zero (whole_unit blocks) multiple)))

unit_is_some : (blocks : List Block) (pace : Pace) → HasGroups blocks → 0 < pace.unit →
    0 < (fold pace_after pace blocks).unit
unit_is_some [] pace h some = some
unit_is_some (block ∷ blocks) pace h some = unit_is_some blocks (pace_after pace block) h.1 (by_block block h.0)
  where
    by_group : (g : Option (ℕ × ℕ)) → IfSome g (λ g. 0 < g.0) → 0 < (grouped_pace pace g).unit
    by_group None _ = some
    by_group (Some g) positive = next_unit [] no_later pace g positive 0 some

    by_block : (block : Block) → IfSome (group_of block) (λ g. 0 < g.0) → 0 < (pace_after pace block).unit
    by_block (Interpolate factor taps) _ = some
    by_block block positive = by_group (group_of block) positive

pub whole_unit-positive : (blocks : List Block) → HasGroups blocks → 0 < whole_unit blocks
whole_unit-positive blocks h = unit_is_some blocks (record { unit = 1; frames = 1 }) h (omega arith)
