-- A channel of rows that a section has written goes on as the section does.
use Rattle.std.proofs.Common.{◌≡◌, ◌∙◌, ap, sym, subst, ℕ, zero, suc, ◌+◌, ◌*◌, ◌<◌, ◌≤◌, ℤ, ◌+ℤ◌, ◌*ℤ◌, List, []}
use Rattle.std.proofs.Common.{◌∷◌, ◌++◌, arith}
use Rattle.std.proofs.Math.Nat.{mul-le-mul_right}
use Rattle.dsp_defs.specs.Biquad.{Section, section_close}
use Rattle.dsp_defs.specs.Signal.{values}
use Rattle.dsp_defs.specs.Streaming.{GoesOn}
use Rattle.dsp_defs.proofs.Signal.{values-add, values_cong}
use Rattle.dsp_defs.specs.declared.format.Fmt.{Fmt}
use Rattle.dsp_unit.proofs.GoingOn.{goes-nothing, goes-twice}
use Rattle.dsp_sections.specs.Sections.{cell, Follows, Stays}
use Rattle.dsp_biquad.specs.Sections.{section_acts}
use Rattle.dsp_biquad.proofs.SectionSteps.{section-step}
use Rattle.dsp_bank.specs.Rows.{channel_after, past, four_at, Loaded, Saved, SectionGoes}

module _ (format : Fmt) (p : ℕ) (c : Section) (a b : ℕ → ℤ) where
  -- the kept numbers after n samples
  abbrev kept_after : ℕ → List ℤ
  kept_after n = a (n + 1) ∷ a n ∷ b (n + 1) ∷ b n ∷ []

  abbrev IsRecurrence : ℕ → Type 0
  IsRecurrence n = (k : ℕ) → k < n → b (k + 2) ≡ section_close format p (c.b0 *ℤ a (k + 2) +ℤ c.b1 *ℤ a (k + 1) +ℤ
      c.b2 *ℤ a k +ℤ (c.a1 *ℤ b (k + 1) +ℤ c.a2 *ℤ b k))

  values-one : (f : ℕ → ℤ) (n : ℕ) → values (n + 1) f ≡ values n f ++ f n ∷ []
  values-one f n = values-add n 1 f ∙ ap (λ m. values n f ++ f m ∷ []) (let none : n + 0 ≡ n = omega arith in none)

  rows-go : (n : ℕ) → IsRecurrence n → GoesOn (section_acts format p c).gives (section_acts format p c).keeps
      (kept_after 0) (kept_after n) (values n (λ k. a (k + 2))) (values n (λ k. b (k + 2)))
  rows-go zero follows = goes-nothing (section_acts format p c).gives (section_acts format p c).keeps (kept_after 0)
  rows-go (suc n) follows =
      let so_far = rows-go n (λ k h. follows k (omega (arith, h))) in
      let step = section-step format p c (a (n + 1)) (a n) (b (n + 1)) (b n) (a (n + 2)) (b (n + 2))
      (follows n (omega arith)) in
      let more : n + 1 ≡ suc n = omega arith in
      let gives = (section_acts format p c).gives in
      let keeps = (section_acts format p c).keeps in
      let both = goes-twice gives keeps (kept_after 0) (kept_after n) (a (n + 2) ∷ a (n + 1) ∷ b (n + 2) ∷ b
      (n + 1) ∷ []) (values n (λ k. a (k + 2))) (a (n + 2) ∷ []) (values n (λ k. b (k + 2))) (b (n + 2) ∷ [])
      so_far step in
      let one : n + 1 + 1 ≡ n + 2 = omega arith in
      subst (λ m. GoesOn gives keeps (kept_after 0) (a (m + 1) ∷ a m ∷ b (m + 1) ∷ b m ∷ [])
      (values m (λ k. a (k + 2))) (values m (λ k. b (k + 2)))) more
      (subst (λ m. GoesOn gives keeps (kept_after 0) (a m ∷ a (n + 1) ∷ b m ∷ b (n + 1) ∷ [])
      (values (n + 1) (λ k. a (k + 2))) (values (n + 1) (λ k. b (k + 2)))) (sym one)
      (subst (λ l. GoesOn gives keeps (kept_after 0) (a (n + 2) ∷ a (n + 1) ∷ b (n + 2) ∷ b (n + 1) ∷ []) l
      (values (n + 1) (λ k. b (k + 2)))) (sym (values-one (λ k. a (k + 2)) n))
      (subst (λ l. GoesOn gives keeps (kept_after 0) (a (n + 2) ∷ a (n + 1) ∷ b (n + 2) ∷ b (n + 1) ∷ [])
      (values n (λ k. a (k + 2)) ++ a (n + 2) ∷ []) l) (sym (values-one (λ k. b (k + 2)) n)) both)))

-- a section between what it loaded and what it saved
module _ (format : Fmt) (p : ℕ) (c : Section) (sections section row count : ℕ)
    (kept kept' frames inner first outputs : List ℤ)
    (loaded : Loaded sections section row kept frames inner first)
    (follows : (i : ℕ) → i < row → Follows format p c row inner outputs count i)
    (stays : (i : ℕ) → i < row → Stays row first outputs 2 i)
    (saved : Saved sections section row count inner outputs kept kept') where
  -- the first two frames of outputs are as they were loaded
  past-stays : (i : ℕ) → i < row → past row inner first 0 i ≡ past row inner outputs 0 i
  past-stays i h =
      let one : cell row outputs 1 i ≡ cell row first 1 i = stays i h 1 (omega arith) in
      let two : cell row outputs 0 i ≡ cell row first 0 i = stays i h 0 (omega arith) in
      (λ k. cell row inner 1 i ∷ cell row inner 0 i ∷ sym one k ∷ sym two k ∷ [])

  -- the frames after the first two are those that were given
  channel-same : (i : ℕ) → channel_after row count inner i ≡ channel_after row count frames i
  channel-same i = values_cong count (λ n. cell row inner (n + 2) i) (λ n. cell row frames (n + 2) i)
      (λ n h. let far : 2 * row ≤ (n + 2) * row = mul-le-mul_right row (let two : 2 ≤ n + 2 = omega arith in two) in
      loaded.later ((n + 2) * row + i) (omega (arith, far)))

  pub section-goes : SectionGoes (section_acts format p c) sections section row count kept kept' frames outputs
  section-goes = record {
    goes = λ i h.
        let gives = (section_acts format p c).gives in
        let keeps = (section_acts format p c).keeps in
        let goes = rows-go format p c (λ k. cell row inner k i) (λ k. cell row outputs k i) count (follows i h) in
        subst (λ l. GoesOn gives keeps l (four_at sections kept' i section) (channel_after row count frames i)
        (channel_after row count outputs i)) (sym (loaded.fours i h ∙ past-stays i h))
        (subst (λ l. GoesOn gives keeps (past row inner outputs 0 i) l (channel_after row count frames i)
        (channel_after row count outputs i)) (sym (saved.fours i h))
        (subst (λ l. GoesOn gives keeps (past row inner outputs 0 i) (past row inner outputs count i) l
        (channel_after row count outputs i)) (channel-same i) goes));
    others = saved.others;
  }
