-- A step of a section.
use Rattle.std.proofs.Common.{◌≡◌, ◌∙◌, ap, refl, sym, ℕ, ◌-◌, ◌+◌, ◌*◌, ◌^◌, ℤ, pos, ◌+ℤ◌, ◌*ℤ◌, List, [], ◌∷◌, ◌++◌}
use Rattle.std.proofs.Common.{map, reverse, get_or, rules, arith}
use Rattle.std.proofs.lemmas.List.{map-append, reverse-append}
use Rattle.std.proofs.lemmas.Int.{int_wrap_fits}
use Rattle.std.proofs.Math.ListN.{get_or-map}
use Rattle.dsp_defs.specs.Biquad.{Section, section_close, section_output, biquad_section, fed_back, wide_output}
use Rattle.dsp_defs.specs.Kept.{latest}
use Rattle.dsp_defs.specs.Numbers.{◌>>◌, wrap, w32, w64}
use Rattle.dsp_defs.specs.Signal.{sample, outputs}
use Rattle.dsp_defs.specs.Streaming.{GoesOn, Continues}
use Rattle.dsp_unit.proofs.GoingOn.{outputs-next, latest-new, latest-old}
use Rattle.dsp_defs.specs.declared.format.Fmt.{Fmt}
use Rattle.dsp_biquad.specs.Sections.{section_acts, wide_acts}

reverse-map : (f : ℤ → ℤ) (xs : List ℤ) → reverse (map f xs) ≡ map f (reverse xs)
reverse-map f [] = refl
reverse-map f (x ∷ xs) =
    reverse-append (f x ∷ []) (map f xs) ∙ ap (λ r. r ++ f x ∷ []) (reverse-map f xs) ∙
    sym (map-append f (reverse xs) (x ∷ [])) ∙ ap (map f) (sym (reverse-append (x ∷ []) xs))

-- what is kept of a signal that went on by a, where y follows its outputs
kept-next : (x y y' : List ℤ) (x1 y1 a b : ℤ) → x1 ≡ latest x 0 → y1 ≡ latest y 0 → y' ≡ y ++ b ∷ [] →
    a ∷ x1 ∷ b ∷ y1 ∷ [] ≡ latest (x ++ a ∷ []) 0 ∷ latest (x ++ a ∷ []) 1 ∷ latest y' 0 ∷ latest y' 1 ∷ []
kept-next x y y' x1 y1 a b first output next =
    let second : x1 ≡ latest (x ++ a ∷ []) 1 = first ∙ sym (latest-old x a 0) in
    let newest : b ≡ latest y' 0 = sym (latest-new y b) ∙ ap (λ s. latest s 0) (sym next) in
    let before : y1 ≡ latest y' 1 = output ∙ sym (latest-old y b 0) ∙ ap (λ s. latest s 1) (sym next) in
    (λ i. sym (latest-new x a) i ∷ second i ∷ newest i ∷ before i ∷ [])

-- ---- a section

module _ (format : Fmt) (p : ℕ) (c : Section) where
  abbrev given : List ℤ → List ℤ
  given x = biquad_section format p x c

  pub section-step : (x1 x2 y1 y2 a y : ℤ) → y ≡ section_close format p
      (c.b0 *ℤ a +ℤ c.b1 *ℤ x1 +ℤ c.b2 *ℤ x2 +ℤ (c.a1 *ℤ y1 +ℤ c.a2 *ℤ y2)) →
      GoesOn (section_acts format p c).gives (section_acts format p c).keeps (x1 ∷ x2 ∷ y1 ∷ y2 ∷ [])
      (a ∷ x1 ∷ y ∷ y1 ∷ []) (a ∷ []) (y ∷ [])
  section-step x1 x2 y1 y2 a y is = record {
    values = continues;
    stands = λ x e. kept-next x (given x) (given (x ++ a ∷ [])) x1 y1 a y (cc e) (cc e) (continues x e);
  }
    where
      continues : (x : List ℤ) → x1 ∷ x2 ∷ y1 ∷ y2 ∷ [] ≡ latest x 0 ∷ latest x 1 ∷ latest (given x) 0 ∷ latest
          (given x) 1 ∷ [] → Continues given x (a ∷ []) (y ∷ [])
      continues x e =
          let first : x1 ≡ latest x 0 = cc e in
          let second : x2 ≡ latest x 1 = cc e in
          let third : y1 ≡ latest (given x) 0 = cc e in
          let fourth : y2 ≡ latest (given x) 1 = cc e in
          outputs-next (section_output format p c) x a y
          (is ∙ (λ i. section_close format p (c.b0 *ℤ a +ℤ c.b1 *ℤ first i +ℤ c.b2 *ℤ second i +ℤ
          (c.a1 *ℤ third i +ℤ c.a2 *ℤ fourth i))))

-- ---- a section with the wide feedback

module _ (p : ℕ) (c : Section) where
  abbrev sums : List ℤ → List ℤ
  sums x = outputs (wide_output p c) x

  fed-none : fed_back p (pos 0) ≡ pos 0
  fed-none = ap (λ (n : ℕ). wrap w64 (pos n)) nothing ∙ int_wrap_fits w64 (pos 0) (search rules)
    where
      nothing : 0 * 2 ^ (p + 1) ≡ 0
      nothing = omega arith

  -- what is fed back of the newest sums
  fed-latest : (x : List ℤ) (k : ℕ) → latest (map (fed_back p) (sums x)) k ≡ fed_back p (latest (sums x) k)
  fed-latest x k =
      ap (λ h. sample h k) (reverse-map (fed_back p) (sums x))
      ∙ ap (λ d. get_or (map (fed_back p) (reverse (sums x))) k d) (sym fed-none)
      ∙ get_or-map (fed_back p) (reverse (sums x)) k (pos 0)

  pub wide-step : (x1 x2 y1 y2 a acc : ℤ) → acc ≡ wrap w64
      (c.b0 *ℤ a +ℤ c.b1 *ℤ x1 +ℤ c.b2 *ℤ x2 +ℤ (c.a1 *ℤ y1 >> 32) +ℤ (c.a2 *ℤ y2 >> 32)) →
      GoesOn (wide_acts p c).gives (wide_acts p c).keeps (x1 ∷ x2 ∷ y1 ∷ y2 ∷ []) (a ∷ x1 ∷ fed_back p acc ∷ y1 ∷ [])
      (a ∷ []) (wrap w32 (acc >> (31 - p)) ∷ [])
  wide-step x1 x2 y1 y2 a acc is = record {
    values = λ x e. ap (map (λ s. wrap w32 (s >> (31 - p)))) (continues x e) ∙
        map-append (λ s. wrap w32 (s >> (31 - p))) (sums x) (acc ∷ []);
    stands = λ x e. kept-next x (map (fed_back p) (sums x)) (map (fed_back p) (sums (x ++ a ∷ []))) x1 y1 a
        (fed_back p acc) (cc e) (cc e) (ap (map (fed_back p)) (continues x e) ∙
        map-append (fed_back p) (sums x) (acc ∷ []));
  }
    where
      continues : (x : List ℤ) → x1 ∷ x2 ∷ y1 ∷ y2 ∷ [] ≡ latest x 0 ∷ latest x 1 ∷ latest (map (fed_back p) (sums x))
          0 ∷ latest (map (fed_back p) (sums x)) 1 ∷ [] → Continues sums x (a ∷ []) (acc ∷ [])
      continues x e =
          let first : x1 ≡ latest x 0 = cc e in
          let second : x2 ≡ latest x 1 = cc e in
          let third : y1 ≡ fed_back p (latest (sums x) 0) = (cc e) ∙ fed-latest x 0 in
          let fourth : y2 ≡ fed_back p (latest (sums x) 1) = (cc e) ∙ fed-latest x 1 in
          outputs-next (wide_output p c) x a acc
          (is ∙ (λ i. wrap w64 (c.b0 *ℤ a +ℤ c.b1 *ℤ first i +ℤ c.b2 *ℤ second i +ℤ (c.a1 *ℤ third i >> 32) +ℤ
          (c.a2 *ℤ fourth i >> 32))))
