-- Products of a number with those of a list that are added to sums, each where it belongs.
use Rattle.std.proofs.Common.{◌≡◌, ◌≢◌, ◌∙◌, ap, refl, sym, ℕ, ◌+◌, ◌-◌, ◌^◌, ◌<◌, ◌≤◌, ℤ, pos, ◌+ℤ◌, ◌*ℤ◌, List, []}
use Rattle.std.proofs.Common.{length}
use Rattle.std.proofs.Common.{set, take, arith, inl, inr}
use Rattle.std.specs.Prelude.{nat_abs}
use Rattle.std.proofs.lemmas.Bool.{cases_eq}
use Rattle.std.proofs.lemmas.Grind.{common_steps, get_or-set_at}
use Rattle.std.proofs.lemmas.List.{get_or_past, get_or-set_other, length-set, length-take}
use Rattle.dsp_defs.specs.Signal.{delayed, sample}
use Rattle.dsp_defs.proofs.Signal.{delayed_after}
use Rattle.dsp_exact.proofs.Exact.{abs-add}

-- a * b[i] was added at each place at - i
pub record Scattered (old new : List ℤ) (at : ℕ) (a : ℤ) (b : List ℤ) : Type 0 where
  long : length new ≡ length old
  pub values : (n : ℕ) → n < length old → sample new n ≡ sample old n +ℤ a *ℤ delayed b at n
  pub small : (n : ℕ) → n < length old → nat_abs (sample new n) ≤ nat_abs (sample old n) + 2 ^ 62

no-product : (s a d : ℤ) → d ≡ pos 0 → s +ℤ a *ℤ d ≡ s
no-product s a d none = ap (λ z. s +ℤ a *ℤ z) none ∙ grind arith

pub scatter-begins : (old : List ℤ) (at : ℕ) (a : ℤ) → Scattered old old at a []
scatter-begins old at a = record {
  long = refl;
  values = λ n inside. sym (no-product (sample old n) a (delayed [] at n) (grind (arith, common_steps)));
  small = λ n inside. omega arith;
}

module _ (old new b : List ℤ) (at j : ℕ) (a : ℤ) (so_far : Scattered old new at a (take j b)) (more : j < length b)
    (room : length b ≤ at + 1) (inside : at < length old) where
  -- the place of the next product has none yet
  none-yet : (n : ℕ) → n ≡ at - j → sample new n ≡ sample old n
  none-yet n here =
      let none = delayed_after (take j b) at n (omega arith)
      ∙ get_or_past (take j b) (at - n) (pos 0) (omega (arith, length-take j b)) in
      so_far.values n (omega arith) ∙ no-product (sample old n) a (delayed (take j b) at n) none

  pub held : ((n : ℕ) → n < length old → nat_abs (sample old n) ≤ 2 ^ 124) → nat_abs (sample new (at - j)) ≤ 2 ^ 124
  held small = omega (arith, ap nat_abs (none-yet (at - j) refl), small (at - j) (omega arith))

  pub scatter-more : (v : ℤ) → v ≡ sample new (at - j) +ℤ a *ℤ sample b j → nat_abs (a *ℤ sample b j) ≤ 2 ^ 62
      → Scattered old (set new (at - j) v) at a (take (j + 1) b)
  scatter-more v is small = record {
    long = length-set new (at - j) v ∙ so_far.long;
    values = λ n within. elim (cases_eq n (at - j)) [
      | inl here ↦ takes n within here ∙ ap (λ d. sample old n +ℤ a *ℤ d) (sym (taken n here))
      | inr other ↦ get_or-set_other new (at - j) n v (pos 0) other ∙ so_far.values n within
          ∙ ap (λ d. sample old n +ℤ a *ℤ d) (sym (others n other))
    ];
    small = λ n within. elim (cases_eq n (at - j)) [
      | inl here ↦ omega (arith, ap nat_abs (takes n within here), abs-add (sample old n) (a *ℤ sample b j), small)
      | inr other ↦ omega (arith, ap nat_abs (get_or-set_other new (at - j) n v (pos 0) other), so_far.small n within)
    ];
  }
    where
      takes : (n : ℕ) → n < length old → n ≡ at - j → sample (set new (at - j) v) n ≡ sample old n +ℤ a *ℤ sample b j
      takes n within here = get_or-set_at new (at - j) n v (pos 0) here (omega (arith, so_far.long)) ∙ is
          ∙ ap (λ s. s +ℤ a *ℤ sample b j) (ap (sample new) (sym here) ∙ none-yet n here)

      taken : (n : ℕ) → n ≡ at - j → delayed (take (j + 1) b) at n ≡ sample b j
      taken n here = grind (arith, common_steps)

      others : (n : ℕ) → n ≢ at - j → delayed (take (j + 1) b) at n ≡ delayed (take j b) at n
      others n other = grind (arith, common_steps)
