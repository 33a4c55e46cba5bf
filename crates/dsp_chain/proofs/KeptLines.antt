-- A line keeps the numbers of its units, one after another.
use Rattle.std.proofs.Common.{◌≡◌, ◌∙◌, ap, refl, sym, subst, ℕ, ◌+◌, ◌≤◌, ℤ, List, [], ◌∷◌, ◌++◌, length}
use Rattle.std.proofs.Common.{take, drop, Bool, true, false, ◌==◌, IsTrue, Option, Some, IfSome, arith, rules, tests}
use Rattle.std.proofs.Common.{length-append}
use Rattle.std.proofs.lemmas.List.{take-append-drop, length-take-le}
use Rattle.dsp_defs.specs.Shape.{live_frames}
use Rattle.dsp_defs.specs.Kept.{IsOfKind, FitsAfter, kept_count, kept_kinds, place_of}
use Rattle.dsp_unit.specs.Unit.{UnitState}
use Rattle.dsp_unit.proofs.ChannelKept.{append-apart, each-length}
use Rattle.dsp_chain.specs.Restored.{FitsUnits, kept_by}
use Rattle.dsp_shape.proofs.KeptRules.{found-fits}

-- ---- the first unit, and those behind it

line-is : (links us : List UnitState) (link u : UnitState) → links ≡ link ∷ us → u ≡ link → links ≡ u ∷ us
line-is links us link u links_are same = links_are ∙ ap (λ f. f ∷ us) (sym same)

-- ---- numbers for the first unit, and for those behind it

pub record Cut (u : UnitState) (us : List UnitState) (n count : ℕ) (numbers : List ℤ) : Type 0 where
  pub within : count ≤ length numbers
  pub here : FitsAfter u.format u.channels u.block n (take count numbers)
  pub behind : FitsUnits us (live_frames u.block n) (drop count numbers)

pub cut : (u : UnitState) (us : List UnitState) (n count : ℕ) (numbers : List ℤ) →
    count ≡ kept_count u.format u.channels u.block n → FitsUnits (u ∷ us) n numbers → Cut u us n count numbers
cut u us n count numbers is (here, later, split, fits, rest) =
    let size : length here ≡ count = each-length IsOfKind (kept_kinds u.format u.channels u.block n) here fits.1 ∙
    sym is in
    let within : count ≤ length numbers = rw split (omega (arith, size, length-append here later)) in
    let apart = append-apart here (take count numbers) later (drop count numbers)
    (size ∙ sym (length-take-le count numbers within)) (sym split ∙ sym (take-append-drop count numbers)) in
    record {
      within = within;
      here = subst (FitsAfter u.format u.channels u.block n) apart.0 fits;
      behind = subst (FitsUnits us (live_frames u.block n)) apart.1 rest;
    }

join : (u : UnitState) (us : List UnitState) (n count : ℕ) (numbers : List ℤ) →
    FitsAfter u.format u.channels u.block n (take count numbers) →
    FitsUnits us (live_frames u.block n) (drop count numbers) → FitsUnits (u ∷ us) n numbers
join u us n count numbers fits rest = (
  take count numbers,
  drop count numbers,
  sym (take-append-drop count numbers),
  fits,
  rest,
)

-- what the first unit says of its numbers, and what those behind it say of theirs, tell whether all fit
pub record Tells (link : UnitState) (us : List UnitState) (n : ℕ) (numbers later : List ℤ) (found : Option ℕ) : Type 0
  where
    pub finds : FitsUnits (link ∷ us) n numbers → found ≡ Some (place_of link.block n)
    pub behind : FitsUnits (link ∷ us) n numbers → FitsUnits us (live_frames link.block n) later
    pub both : found ≡ Some (place_of link.block n) → FitsUnits us (live_frames link.block n) later →
        FitsUnits (link ∷ us) n numbers

pub told : (u link : UnitState) (us : List UnitState) (n count : ℕ) (numbers here later : List ℤ) (found : Option ℕ) →
    u ≡ link → count ≡ kept_count link.format link.channels link.block n
    → here ≡ take count numbers → later ≡ drop count numbers →
    IfSome found (λ m. FitsAfter u.format u.channels u.block m here)
    → ((m : ℕ) → FitsAfter u.format u.channels u.block m here → found ≡ Some (place_of u.block m)) →
    Tells link us n numbers later found
told u link us n count numbers here later found same is here_is later_is fits least =
    let fits' : IfSome found (λ m. FitsAfter link.format link.channels link.block m (take count numbers)) =
    subst (λ ns. IfSome found (λ m. FitsAfter link.format link.channels link.block m ns)) here_is
    (subst (λ (w : UnitState). IfSome found (λ m. FitsAfter w.format w.channels w.block m here)) same fits) in
    let least' : FitsAfter link.format link.channels link.block n (take count numbers) →
    found ≡ Some (place_of link.block n) =
    subst (λ ns. FitsAfter link.format link.channels link.block n ns → found ≡ Some (place_of link.block n)) here_is
    (subst (λ (w : UnitState). FitsAfter w.format w.channels w.block n here → found ≡ Some (place_of w.block n))
    same (least n)) in
    record {
      finds = λ all. least' (cut link us n count numbers is all).here;
      behind = λ all. subst (FitsUnits us (live_frames link.block n)) (sym later_is)
          (cut link us n count numbers is all).behind;
      both = λ place rest. join link us n count numbers (found-fits link.format link.channels link.block n
          (take count numbers) found fits' place) (subst (FitsUnits us (live_frames link.block n)) later_is rest);
    }

-- the numbers of the first unit, and of the line behind it
pub kept-apart : (links : List UnitState) (link u : UnitState) (behind : List UnitState) → links ≡ link ∷ behind →
    u ≡ link → kept_by links ≡ u.kept ++ kept_by behind
kept-apart links link u behind links_are same = ap kept_by (line-is links behind link u links_are same)

module _ (links : List UnitState) (link u : UnitState) (behind : List UnitState) (count : ℕ)
    (links_are : links ≡ link ∷ behind) (same : u ≡ link) (here : count ≡ length u.kept) where
  pub kept-length : count + length (kept_by behind) ≡ length (kept_by links)
  kept-length = ap (λ n. n + length (kept_by behind)) here ∙ sym (length-append u.kept (kept_by behind)) ∙
      ap length (sym (kept-apart links link u behind links_are same))

-- no numbers are an empty list
pub no-numbers : (numbers : List ℤ) (empty : Bool) → empty ≡ (length numbers == 0) → (IsTrue empty → numbers ≡ []) ×
    (numbers ≡ [] → IsTrue empty)
no-numbers [] empty is = (λ _. refl, λ _. is)
no-numbers (n ∷ numbers) empty is =
    let some : (length (n ∷ numbers) == 0) ≡ false = search (rules, tests) in
    (λ yes. absurd (true-false (sym yes ∙ is ∙ some)), λ none. cc none)
  where
    true-false : true ≡ false → ⊥
    true-false e = cc
