-- A window that has taken one more block.
use Rattle.std.proofs.Common.{◌≡◌, ◌∙◌, ap, sym, ℕ, ◌+◌, ◌-◌, ◌≤◌, ℤ, pos, List, ◌++◌, length, map, drop, replicate}
use Rattle.std.proofs.Common.{arith, length-append}
use Rattle.std.proofs.lemmas.List.{length-map, length-replicate}
use Rattle.dsp_defs.specs.Streaming.{last_of}
use Rattle.dsp_window.specs.Rolling.{Rolling, last_samples}
use Rattle.dsp_window.proofs.Rolls.{last_shows, length-last_samples}

-- a new window keeps zeros
pub new-past : (w : Rolling) (p q room : ℕ) → w ≡ record { past = p; room = room; samples = replicate p (pos 0) } →
    p ≡ q → last_samples w.past w.samples ≡ replicate q (pos 0)
new-past w p q room made same =
    let all : length (replicate p (pos 0)) - p ≡ 0 = omega (arith, length-replicate p (pos 0)) in
    ap (λ (v : Rolling). last_samples v.past v.samples) made ∙ ap (λ m. drop m (replicate p (pos 0))) all ∙
    ap (λ n. replicate n (pos 0)) same

module _ (old new : Rolling) (p : ℕ) (x block : List ℤ)
    (rolls : new ≡ record old { samples = last_samples old.past old.samples ++ block })
    (kept : last_samples old.past old.samples ≡ last_of p x) where
  -- it shows the last numbers of x and then the block
  pub shows-after : new.samples ≡ last_of p x ++ block
  shows-after = ap (λ (w : Rolling). w.samples) rolls ∙ ap (λ l. l ++ block) kept

  -- it keeps the last numbers of x and the block
  pub keeps-after : old.past ≡ p → last_samples new.past new.samples ≡ last_of p (x ++ block)
  keeps-after past =
      ap (λ n. last_samples n new.samples) (ap (λ (w : Rolling). w.past) rolls ∙ past) ∙
      last_shows p new.samples x block shows-after

-- the length of a window that was lent
pub window-long : {X : Type 0} → (number : X → ℤ) (old new : Rolling) (block : List ℤ) (lent : List X) →
    new ≡ record old { samples = last_samples old.past old.samples ++ block } → map number lent ≡ new.samples →
    old.past ≤ length old.samples → length lent ≡ old.past + length block
window-long number old new block lent rolls shown within =
    sym (length-map lent number) ∙ ap length shown ∙ ap (λ (w : Rolling). length w.samples) rolls
    ∙ length-append (last_samples old.past old.samples) block
    ∙ ap (λ n. n + length block) (length-last_samples old.past old.samples within)

-- the past behind a block that was pushed
pub past-after :
    (old new : Rolling) (block : List ℤ) → new ≡ record old { samples = last_samples old.past old.samples ++ block } →
    old.past ≤ length old.samples →
    last_samples new.past new.samples ≡ drop (length block) (last_samples old.past old.samples ++ block)
past-after old new block rolls within =
    let long : length (last_samples old.past old.samples ++ block) - old.past ≡ length block =
    omega (
      arith,
      length-append (last_samples old.past old.samples) block,
      length-last_samples old.past old.samples within,
    ) in
    ap (λ (w : Rolling). last_samples w.past w.samples) rolls ∙
    ap (λ n. drop n (last_samples old.past old.samples ++ block)) long

-- the length of a window that took a block
pub pushed-long : (old new : Rolling) (block : List ℤ) →
    new ≡ record old { samples = last_samples old.past old.samples ++ block } → old.past ≤ length old.samples →
    length new.samples ≡ old.past + length block
pushed-long old new block rolls within =
    ap (λ (w : Rolling). length w.samples) rolls ∙ length-append (last_samples old.past old.samples) block ∙
    ap (λ n. n + length block) (length-last_samples old.past old.samples within)

-- what a window keeps that was given its numbers
pub restored-past : (old new : Rolling) (numbers : List ℤ) → new ≡ record old { samples = numbers } →
    length numbers ≡ old.past → last_samples new.past new.samples ≡ numbers
restored-past old new numbers is long =
    let none : length numbers - old.past ≡ 0 = omega (arith, long) in
    ap (λ (w : Rolling). last_samples w.past w.samples) is ∙ ap (λ k. drop k numbers) none
