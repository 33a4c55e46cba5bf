-- Sections one after another, on one channel of a bank.
use Rattle.std.proofs.Common.{◌≡◌, ◌∙◌, ap, ap₂, refl, sym, subst, ℕ, zero, suc, ◌+◌, ◌*◌, ◌<◌, ◌≤◌, ℤ, List, [], ◌∷◌}
use Rattle.std.proofs.Common.{◌++◌, map, flat_map, length, drop, arith}
use Rattle.std.specs.List.{range_with_len}
use Rattle.std.proofs.lemmas.List.{append-nil, append_assoc}
use Rattle.std.proofs.lemmas.List.FromFn.{map-range_with_len_more}
use Rattle.dsp_defs.specs.Streaming.{Behaviour, GoesOn, then, chained}
use Rattle.dsp_defs.specs.declared.format.Fmt.{Fmt}
use Rattle.dsp_defs.specs.declared.script.Block.TheVariants.{Biquad}
use Rattle.dsp_unit.proofs.GoingOn.{chained-append, chained-one, goes-chain, then-size}
use Rattle.dsp_biquad.specs.Sections.{block_acts, section_acts, section_of, size_in}
use Rattle.dsp_biquad.specs.Laws.{cascade-at, empty-at}
use Rattle.dsp_biquad.proofs.Cascades.{next-section, all-sections}
use Rattle.dsp_bank.specs.Rows.{acts_at, four_at}

-- a piece more
flat-more : {B : Type 0} (f : ℕ → List B) (a n m : ℕ) → a + n ≡ m → flat_map f (range_with_len a (suc n))
    ≡ flat_map f (range_with_len a n) ++ f m
flat-more f a zero m e = append-nil (f a) ∙ ap f (let same : a ≡ m = omega (arith, e) in same)
flat-more f a (suc n) m e = ap (λ l. f a ++ l) (flat-more f (a + 1) n m (omega (arith, e)))
    ∙ sym (append_assoc (f a) (flat_map f (range_with_len (a + 1) n)) (f m))

module _ (format : Fmt) (p size : ℕ) (numbers : List ℤ) where
  abbrev pub front_acts : ℕ → Behaviour
  front_acts s = chained (map (acts_at format p size numbers) (range_with_len 0 s))

  front-more : (s : ℕ) → front_acts (s + 1) ≡ then (front_acts s) (acts_at format p size numbers s)
  front-more s =
      let one = acts_at format p size numbers s in
      ap chained (map-range_with_len_more (acts_at format p size numbers) 0 s s (omega arith))
      ∙ chained-append (map (acts_at format p size numbers) (range_with_len 0 s)) (one ∷ [])
      ∙ ap (then (front_acts s)) (chained-one one)

  module _ (is : size ≡ size_in format) where
    whole : List ℤ → Behaviour
    whole l = block_acts format (Biquad p l)

    section : List ℤ → Behaviour
    section l = section_acts format p (section_of size l)

    -- the sections so far, and then the block of the rest, are the whole block
    front-left : (s count : ℕ) → s ≤ count → length numbers ≡ count * size → then (front_acts s)
        (block_acts format (Biquad p (drop (s * size) numbers))) ≡ block_acts format (Biquad p numbers)
    front-left zero count h long = let none : 0 * size ≡ 0 = omega arith in ap
        (λ n. block_acts format (Biquad p (drop n numbers))) none
    front-left (suc s) count h long =
        let inside : s * size + size ≤ length numbers = grind (arith, h, long) in
        let next = next-section (λ l. block_acts format (Biquad p l)) (λ l. section_acts format p (section_of size l))
        size (cascade-at format size is p) numbers (s * size) (front_acts s) (acts_at format p size numbers s)
        inside refl (front-left s count (omega (arith, h)) long) in
        let one : s + 1 ≡ suc s = omega arith in
        let behind : suc s * size ≡ s * size + size = omega arith in
        ap₂ (λ b n. then b (block_acts format (Biquad p (drop n numbers)))) (ap front_acts (sym one) ∙ front-more s)
        behind ∙ next

    pub front-whole : (count : ℕ) → length numbers ≡ count * size → front_acts count ≡ block_acts format
        (Biquad p numbers)
    front-whole count long = all-sections (λ l. block_acts format (Biquad p l)) (λ l. section_acts format p
        (section_of size l)) size (cascade-at format size is p) numbers (count * size) (front_acts count)
        (empty-at format p) (omega (arith, long)) (front-left count count (omega arith) long)

  module _ (sections i : ℕ) where
    -- the numbers of the first sections of a channel
    abbrev pub fours : List ℤ → ℕ → List ℤ
    fours kept s = flat_map (four_at sections kept i) (range_with_len 0 s)

    fours-more : (kept : List ℤ) (s : ℕ) → fours kept (s + 1) ≡ fours kept s ++ four_at sections kept i s
    fours-more kept s =
        ap (fours kept) (let one : s + 1 ≡ suc s = omega arith in one) ∙ flat-more (four_at sections kept i) 0 s s
        (omega arith)

    fours-size : (kept : List ℤ) (s : ℕ) → ((t : ℕ) → t < s → length (four_at sections kept i t) ≡ 4) → (x : List ℤ)
        → length (fours kept s) ≡ length ((front_acts s).keeps x)
    fours-size kept zero four x = refl
    fours-size kept (suc s) four x =
        let one : s + 1 ≡ suc s = omega arith in
        let act = acts_at format p size numbers s in
        ap (λ n. length (fours kept n)) (sym one) ∙ ap length (fours-more kept s)
        ∙ then-size (front_acts s) act (fours kept s) (four_at sections kept i s)
        (fours-size kept s (λ t h. four t (omega (arith, h)))) (λ y. four s (omega arith)) x
        ∙ ap (λ (b : Behaviour). length (b.keeps x)) (sym (front-more s)) ∙ ap (λ n. length ((front_acts n).keeps x))
        one

    -- a section more
    pub goes-section :
        (old mid new xs ys zs : List ℤ) (s : ℕ) → ((t : ℕ) → t < s → length (four_at sections old i t) ≡ 4) →
        GoesOn (front_acts s).gives (front_acts s).keeps (fours old s) (fours mid s) xs ys →
        GoesOn (acts_at format p size numbers s).gives (acts_at format p size numbers s).keeps
        (four_at sections mid i s) (four_at sections new i s) ys zs →
        four_at sections mid i s ≡ four_at sections old i s → fours new s ≡ fours mid s →
        GoesOn (front_acts (s + 1)).gives (front_acts (s + 1)).keeps (fours old (s + 1)) (fours new (s + 1)) xs zs
    goes-section old mid new xs ys zs s four so_far step same stays =
        let act = acts_at format p size numbers s in
        let step' = subst (λ k. GoesOn act.gives act.keeps k (four_at sections new i s) ys zs) same step in
        let so_far' = subst (λ k. GoesOn (front_acts s).gives (front_acts s).keeps (fours old s) k xs ys) (sym stays)
        so_far in
        let both = goes-chain (front_acts s).gives act.gives (front_acts s).keeps act.keeps (fours old s)
        (fours new s) (four_at sections old i s) (four_at sections new i s) xs ys zs (fours-size old s four)
        so_far' step' in
        subst (λ (b : Behaviour). GoesOn b.gives b.keeps (fours old (s + 1)) (fours new (s + 1)) xs zs)
        (sym (front-more s))
        (subst (λ l. GoesOn (then (front_acts s) act).gives (then (front_acts s) act).keeps l (fours new (s + 1)) xs
        zs) (sym (fours-more old s))
        (subst (λ l. GoesOn (then (front_acts s) act).gives (then (front_acts s) act).keeps
        (fours old s ++ four_at sections old i s) l xs zs) (sym (fours-more new s)) both))
