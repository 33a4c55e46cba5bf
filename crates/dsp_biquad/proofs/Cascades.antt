-- Sections that are made of a list, one after another.
use Rattle.std.proofs.Common.{◌≡◌, ◌∙◌, ap, ap₂, sym, ℕ, ◌+◌, ◌-◌, ◌≤◌, ℤ, List, [], ◌∷◌, ◌++◌, length, map, flat_map}
use Rattle.std.proofs.Common.{take, drop, slice_range, arith, length-take-le, length-drop}
use Rattle.std.proofs.lemmas.List.{append-nil, map-append, take-append-drop, drop-drop, take-map, drop-map, drop_all}
use Rattle.std.proofs.lemmas.Grind.{flat_map-append}
use Rattle.dsp_defs.specs.Streaming.{Behaviour, then, chained}
use Rattle.dsp_unit.proofs.GoingOn.{then-assoc, then-none, chained-append, chained-one}

module _ {X : Type 0} (acts : X → Behaviour) (kept : X → List ℤ) where
  pub push-acts : (sections : List X) (s : X) → chained (map acts (sections ++ s ∷ [])) ≡ then
      (chained (map acts sections)) (acts s)
  push-acts sections s = ap chained (map-append acts sections (s ∷ [])) ∙
      chained-append (map acts sections) (acts s ∷ []) ∙ ap (then (chained (map acts sections))) (chained-one (acts s))

  -- one section more that has taken nothing
  pub push-kept : (sections : List X) (s : X) → kept s ≡ (acts s).keeps [] →
      (chained (map acts sections)).gives [] ≡ [] → flat_map kept sections ≡ (chained (map acts sections)).keeps [] →
      flat_map kept (sections ++ s ∷ []) ≡ (chained (map acts (sections ++ s ∷ []))).keeps []
  push-kept sections s fresh quiet so_far =
      let before = chained (map acts sections) in
      flat_map-append kept sections (s ∷ [])
      ∙ ap₂ (λ xs ys. xs ++ ys) so_far (append-nil (kept s) ∙ fresh ∙ ap (acts s).keeps (sym quiet))
      ∙ ap (λ (b : Behaviour). b.keeps []) (sym (push-acts sections s))

  pub push-quiet : (sections : List X) (s : X) → (acts s).gives [] ≡ [] →
      (chained (map acts sections)).gives [] ≡ [] → (chained (map acts (sections ++ s ∷ []))).gives [] ≡ []
  push-quiet sections s quiet so_far = ap (λ (b : Behaviour). b.gives []) (push-acts sections s) ∙
      ap (acts s).gives so_far ∙ quiet

module _ (whole : List ℤ → Behaviour) (section : List ℤ → Behaviour) (size : ℕ)
    (is : (front rest : List ℤ) → length front ≡ size → whole (front ++ rest) ≡ then (section front) (whole rest)) where
  -- the next section of a list
  pub next-section : (numbers : List ℤ) (at : ℕ) (before b : Behaviour) → at + size ≤ length numbers →
      b ≡ section (take size (drop at numbers)) → then before (whole (drop at numbers)) ≡ whole numbers →
      then (then before b) (whole (drop (at + size) numbers)) ≡ whole numbers
  next-section numbers at before b inside made so_far =
      let left = drop at numbers in
      let front = take size left in
      let long : length front ≡ size = length-take-le size left (omega (arith, length-drop at numbers)) in
      let rest : drop (at + size) numbers ≡ drop size left = sym (drop-drop size at numbers) in
      then-assoc before b (whole (drop (at + size) numbers))
      ∙ ap (then before) (ap₂ (λ c r. then c (whole r)) made rest ∙ sym (is front (drop size left) long) ∙
      ap whole (take-append-drop size left))
      ∙ so_far

  pub all-sections : (numbers : List ℤ) (at : ℕ) (before : Behaviour) → whole [] ≡ chained [] → length numbers ≤ at →
      then before (whole (drop at numbers)) ≡ whole numbers → before ≡ whole numbers
  all-sections numbers at before none done so_far =
      sym (then-none before) ∙ ap (then before) (sym none ∙ ap whole (sym (drop_all at numbers done))) ∙ so_far

-- the numbers of a piece of a slice
pub piece-numbers : {X : Type 0} (number : X → ℤ) (xs : List X) (at size : ℕ) →
    map number (slice_range xs at (at + size)) ≡ take size (drop at (map number xs))
piece-numbers number xs at size =
    let long : at + size - at ≡ size = omega arith in
    ap (λ k. map number (take k (drop at xs))) long ∙ sym (take-map number size (drop at xs)) ∙
    ap (take size) (sym (drop-map number at xs))
