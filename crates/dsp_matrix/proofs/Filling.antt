-- An open group that becomes whole.
use Rattle.std.proofs.Common.{◌≡◌, ◌∙◌, ap, sym, ℕ, ◌+◌, ◌-◌, ◌*◌, ◌/◌, ◌<◌, ◌≤◌, ℤ, List, ◌++◌, length, map, take}
use Rattle.std.proofs.Common.{drop, arith, length-append, length-drop, length-take-le, take_all}
use Rattle.std.proofs.lemmas.List.{length-map, map-append, take-append-drop}
use Rattle.dsp_defs.specs.Counts.{Counts}
use Rattle.dsp_lanes.specs.Turns.{RisesWithin}
use Rattle.dsp_matrix.specs.Groups.{Group, OpenState, given_group, given_groups, left_open}
use Rattle.dsp_matrix.proofs.GroupLaws.{completed-gives, completed-open, completed-count}

-- the samples that it took make it whole
pub filled-full : {X : Type 0} (number : X → ℤ) (old new : OpenState) (input : List X) (start : ℕ) →
    start ≤ length input →
    new ≡ record { size = old.size; numbers = old.numbers ++ map number (take start input) } →
    length new.numbers ≡ new.size → length old.numbers + start ≡ old.size
filled-full number old new input start within filled whole =
    let long : length new.numbers ≡ length old.numbers + start =
    ap (λ (o : OpenState). length o.numbers) filled ∙ length-append old.numbers (map number (take start input))
    ∙ ap (λ n. length old.numbers + n) (length-map (take start input) number ∙ length-take-le start input within) in
    let size : new.size ≡ old.size = ap (λ (o : OpenState). o.size) filled in
    omega (arith, long, size, whole)

-- what the group and the samples behind it become, what stays open, and how many groups there are
pub record Completes {X : Type 0} (number : X → ℤ) (of : Group) (old : List ℤ) (input : List X) (start gap : ℕ) : Type
    0 where
  pub gives : given_groups of (old ++ map number input) ≡ given_group of (old ++ map number (take start input)) ++
      given_groups of (map number (take gap (drop start input)))
  pub opens : left_open of (old ++ map number input) ≡ left_open of (map number (take gap (drop start input)))
  pub count : (length old + length input) / of.taken ≡ 1 + length (take gap (drop start input)) / of.taken
  pub times : (k : ℕ) → (length old + length input) / of.taken * k ≡ k + length (take gap (drop start input)) /
      of.taken * k

pub completes : {X : Type 0} (number : X → ℤ) (of : Group) (old : List ℤ) (input : List X) (start gap : ℕ) →
    0 < of.taken → start ≤ length input → gap ≡ length input - start → length old + start ≡ of.taken →
    Completes number of old input start gap
completes number of old input start gap some within size full =
    let first = map number (take start input) in
    let rest = map number (take gap (drop start input)) in
    let all : take gap (drop start input) ≡ drop start input =
    take_all gap (drop start input) (omega (arith, length-drop start input, size)) in
    let parts : map number input ≡ first ++ rest =
    ap (map number) (sym (take-append-drop start input)) ∙ map-append number (take start input) (drop start input) ∙
    ap (λ l. first ++ map number l) (sym all) in
    let whole : length old + length first ≡ of.taken = (ap (λ n. length old + n)
    (length-map (take start input) number ∙ length-take-le start input within) ∙ full) in
    let groups : (length old + length input) / of.taken ≡ 1 + length (take gap (drop start input)) / of.taken =
    ap (λ n. (length old + n) / of.taken) (sym (length-map input number))
    ∙ completed-count of some old (map number input) first rest parts whole
    ∙ ap (λ n. 1 + n / of.taken) (length-map (take gap (drop start input)) number) in
    record {
      gives = completed-gives of some old (map number input) first rest parts whole;
      opens = completed-open of some old (map number input) first rest parts whole;
      count = groups;
      times = λ k. ap (λ n. n * k) groups ∙ (omega arith);
    }

-- the counter of the group and of those behind it
pub rises-then : (a b c : Counts) (p q n : ℕ) → RisesWithin a b p p → RisesWithin b c q q → n ≡ p + q →
    RisesWithin a c n n
rises-then a b c p q n first second both = record {
  multiplies_rise = omega (arith, both, first.multiplies_rise, second.multiplies_rise);
  turns_within = omega (arith, both, first.turns_within, second.turns_within);
}
