-- Sections of a lattice without feedback, on pairs (f, g).
use Rattle.std.proofs.Common.{◌≡◌, ◌∙◌, ap, refl, sym, subst, ℕ, ◌+◌, ◌<◌, ℤ, pos, ◌+ℤ◌, ◌*ℤ◌, List, [], ◌∷◌}
use Rattle.std.proofs.Common.{◌++◌, map, reverse, length, take, drop, set, get_or, replicate, ◌≤◌, arith}
use Rattle.std.proofs.Common.{length-append, length-drop}
use Rattle.std.specs.List.{zip}
use Rattle.std.proofs.lemmas.List.{map-append, map_more, take_more_set, reverse-append, get_or-drop, length-take-le}
use Rattle.std.proofs.lemmas.List.{drop-drop}
use Rattle.std.proofs.lemmas.Slice.{take-put_mid, drop-put_mid}
use Rattle.std.proofs.Math.Seq.{take-add}
use lib.Lanes.{zip2}
use borrow.Rule.Slice.PartMut.{put_mid}
use Rattle.std.proofs.lemmas.List.Sums.{fold-append}
use Rattle.std.proofs.lemmas.Slice.Zip.{firsts-zip}
use Rattle.std.proofs.lemmas.List.{map-id}
use Rattle.std.proofs.Math.ListN.{get_or-map}
use Rattle.dsp_defs.specs.Numbers.{◌>>◌, saturate}
use Rattle.dsp_defs.specs.Signal.{sample}
use Rattle.dsp_defs.specs.Lattice.{lattice_output, lattice_section, lattice_fir}
use Rattle.dsp_defs.specs.Kept.{latest, lattice_kept}
use Rattle.dsp_defs.specs.Streaming.{GoesOn}
use Rattle.dsp_unit.proofs.GoingOn.{goes-nothing, goes-twice, goes-chain, outputs-next, latest-new}
use Rattle.dsp_sections.specs.Reflected.{reflected}
use Rattle.dsp_lattice.specs.LatticeState.{section_kept, sections_give, pairs_of, filter_kept}
use Rattle.dsp_defs.proofs.KeptLaws.{length-lattice_kept}

pub reverse-map : {A B : Type 0} (f : A → B) (xs : List A) → reverse (map f xs) ≡ map f (reverse xs)
reverse-map f [] = refl
reverse-map f (x ∷ xs) =
    reverse-append (f x ∷ []) (map f xs) ∙ ap (λ r. r ++ f x ∷ []) (reverse-map f xs) ∙
    sym (map-append f (reverse xs) (x ∷ [])) ∙ ap (map f) (sym (reverse-append (x ∷ []) xs))

-- ---- one section

-- the last g of some pairs, as the recurrence reads it
last-second : (x : List (ℤ × ℤ)) → latest (map (λ (w : ℤ × ℤ). w.1) x) 0 ≡ (get_or (reverse x) 0 (pos 0, pos 0)).1
last-second x =
    ap (λ l. sample l 0) (reverse-map (λ (w : ℤ × ℤ). w.1) x)
    ∙ get_or-map (λ (w : ℤ × ℤ). w.1) (reverse x) 0 (pos 0, pos 0)

section-step : (k b f g f' g' : ℤ) → f' ≡ saturate 16 ((k *ℤ b >> 15) +ℤ f) →
    g' ≡ saturate 16 ((k *ℤ f >> 15) +ℤ b) →
    GoesOn (λ x. lattice_section x k) section_kept (b ∷ []) (g ∷ []) ((f, g) ∷ []) ((f', g') ∷ [])
section-step k b f g f' g' forward backward = record {
  values = λ x e.
      let before : b ≡ (get_or (reverse x) 0 (pos 0, pos 0)).1 = (cc e) ∙ last-second x in
      outputs-next (lattice_output k) x (f, g) (f', g')
      (λ i. (
        (forward ∙ ap (λ c. saturate 16 ((k *ℤ c >> 15) +ℤ f)) before) i,
        (backward ∙ ap (λ c. saturate 16 ((k *ℤ f >> 15) +ℤ c)) before) i,
      ));
  stands = λ x e.
      let last : latest (map (λ (w : ℤ × ℤ). w.1) (x ++ (f, g) ∷ [])) 0 ≡ g =
      ap (λ l. latest l 0) (map-append (λ (w : ℤ × ℤ). w.1) x ((f, g) ∷ [])) ∙
      latest-new (map (λ (w : ℤ × ℤ). w.1) x) g in
      (λ i. sym last i ∷ []);
}

-- ---- a section over all samples

section-over :
    (k b : ℤ) (fs gs : List ℤ) → length gs ≡ length fs →
    GoesOn (λ x. lattice_section x k) section_kept (b ∷ []) (sample (b ∷ gs) (length fs) ∷ []) (zip fs gs)
    (zip (zip2 (λ f g. reflected k g f) fs (b ∷ gs)) (zip2 (λ f g. reflected k f g) fs (b ∷ gs)))
section-over k b [] [] same = goes-nothing (λ x. lattice_section x k) section_kept (b ∷ [])
section-over k b [] (g ∷ gs) same = absurd (omega (arith, same))
section-over k b (f ∷ fs) [] same = absurd (omega (arith, same))
section-over k b (f ∷ fs) (g ∷ gs) same =
    goes-twice (λ x. lattice_section x k) section_kept (b ∷ []) (g ∷ []) (sample (g ∷ gs) (length fs) ∷ [])
    ((f, g) ∷ []) (zip fs gs) ((reflected k b f, reflected k f b) ∷ [])
    (zip (zip2 (λ f g. reflected k g f) fs (g ∷ gs)) (zip2 (λ f g. reflected k f g) fs (g ∷ gs)))
    (section-step k b f g (reflected k b f) (reflected k f b) refl refl)
    (section-over k g fs gs (omega (arith, same)))

-- the same of the samples before and after
pub section-runs :
    (k b last : ℤ) (fs gs fs' gs' : List ℤ) → length gs ≡ length fs →
    fs' ≡ zip2 (λ f g. reflected k g f) fs (b ∷ gs) → gs' ≡ zip2 (λ f g. reflected k f g) fs (b ∷ gs) →
    last ≡ sample (b ∷ gs) (length fs) →
    GoesOn (λ x. lattice_section x k) section_kept (b ∷ []) (last ∷ []) (zip (map (λ x. x) fs) (map (λ x. x) gs))
    (zip (map (λ x. x) fs') (map (λ x. x) gs'))
section-runs k b last fs gs fs' gs' same forward backward is_last =
    rw (map-id fs, map-id gs, map-id fs', map-id gs', forward, backward, is_last)
    (section-over k b fs gs same)

-- ---- loops over sections

-- what was not written yet is what it was
there : {X : Type 0} (old new : List X) (i : ℕ) (d : X) → drop i new ≡ drop i old → get_or new i d ≡ get_or old i d
there old new i d rest =
    let here : i + 0 ≡ i = omega arith in
    sym (ap (λ k. get_or new k d) here) ∙ sym (get_or-drop i new 0 d) ∙ ap (λ l. get_or l 0 d) rest ∙
    get_or-drop i old 0 d ∙ ap (λ k. get_or old k d) here

module _ {X : Type 0} (number : X → ℤ) (i : ℕ) where
  -- one more number of a list that was read at i, and of one that was written there
  pub read-more : (old new : List X) (x : X) → i < length old → drop i new ≡ drop i old → x ≡ get_or new i x →
      map number (take (i + 1) old) ≡ map number (take i old) ++ number x ∷ []
  read-more old new x inside rest is = map_more number old i x inside ∙
      ap (λ v. map number (take i old) ++ number v ∷ []) (sym (is ∙ there old new i x rest))

  pub written-more : (new : List X) (y : X) → i < length new →
      map number (take (i + 1) (set new i y)) ≡ map number (take i new) ++ number y ∷ []
  written-more new y inside = ap (map number) (take_more_set new i y inside) ∙ map-append number (take i new) (y ∷ [])

-- ---- sections one after another

kept-more : (ks : List ℤ) (k : ℤ) (x : List (ℤ × ℤ)) →
    lattice_kept (ks ++ k ∷ []) x ≡ lattice_kept ks x ++ section_kept (sections_give ks x)
kept-more [] k x = refl
kept-more (a ∷ ks) k x = ap (λ l. latest (map (λ (w : ℤ × ℤ). w.1) x) 0 ∷ l) (kept-more ks k (lattice_section x a))

pub one-section-more :
    (ks : List ℤ) (k : ℤ) (old new : List ℤ) (b b' : ℤ) (xs ys zs : List (ℤ × ℤ)) → length old ≡ length ks →
    GoesOn (sections_give ks) (lattice_kept ks) old new xs ys →
    GoesOn (λ x. lattice_section x k) section_kept (b ∷ []) (b' ∷ []) ys zs →
    GoesOn (sections_give (ks ++ k ∷ [])) (lattice_kept (ks ++ k ∷ [])) (old ++ b ∷ []) (new ++ b' ∷ []) xs zs
one-section-more ks k old new b b' xs ys zs size first second =
    subst (λ (give : List (ℤ × ℤ) → List (ℤ × ℤ)). GoesOn give (lattice_kept (ks ++ k ∷ [])) (old ++ b ∷ [])
    (new ++ b' ∷ []) xs zs) (λ i x. sym (fold-append lattice_section x ks (k ∷ [])) i)
    (subst (λ (kept : List (ℤ × ℤ) → List ℤ). GoesOn (λ x. lattice_section (sections_give ks x) k) kept (old ++ b ∷ [])
    (new ++ b' ∷ []) xs zs) (λ i x. sym (kept-more ks k x) i)
    (goes-chain (sections_give ks) (λ x. lattice_section x k) (lattice_kept ks) section_kept old new (b ∷ []) (b' ∷ [])
    xs ys zs (λ x. size ∙ sym (length-lattice_kept ks x)) first second))

-- ---- the whole lattice

zip-same : (x : List ℤ) → zip x x ≡ pairs_of x
zip-same [] = refl
zip-same (a ∷ x) = ap (λ l. (a, a) ∷ l) (zip-same x)

pub lattice-whole : (ks old new xs fs gs : List ℤ) → length gs ≡ length fs →
    GoesOn (sections_give ks) (lattice_kept ks) old new (zip xs xs) (zip fs gs) →
    GoesOn (lattice_fir ks) (filter_kept ks) old new xs fs
lattice-whole ks old new xs fs gs same goes = record {
  values = λ x e.
      ap (λ l. map (λ (w : ℤ × ℤ). w.0) (sections_give ks l)) (pairs x)
      ∙ ap (map (λ (w : ℤ × ℤ). w.0)) (goes.values (pairs_of x) e)
      ∙ map-append (λ (w : ℤ × ℤ). w.0) (sections_give ks (pairs_of x)) (zip fs gs)
      ∙ ap (λ l. lattice_fir ks x ++ l) (firsts-zip fs gs same);
  stands = λ x e. goes.stands (pairs_of x) e ∙ ap (lattice_kept ks) (sym (pairs x));
}
  where
    pairs : (x : List ℤ) → pairs_of (x ++ xs) ≡ pairs_of x ++ zip xs xs
    pairs x = map-append (λ a. (a, a)) x xs ∙ ap (λ l. pairs_of x ++ l) (sym (zip-same xs))

-- ---- piece after piece

pub fresh : (ks : List ℤ) → filter_kept ks [] ≡ replicate (length ks) (pos 0)
fresh [] = refl
fresh (k ∷ ks) = ap (λ l. pos 0 ∷ l) (fresh ks)

module _ {X : Type 0} (number : X → ℤ) (inputs outputs piece : List X) (start size : ℕ)
    (inside : start + size ≤ length inputs) (same : length outputs ≡ length inputs) (long : length piece ≡ size)
    (rest : drop start outputs ≡ drop start inputs) where
  pub piece-more :
      {S : Type 0} (f : List ℤ → List ℤ) (kept : List ℤ → S) (old between new : S) →
      GoesOn f kept old between (map number (take start inputs)) (map number (take start outputs)) →
      GoesOn f kept between new (map number (take size (drop start outputs))) (map number piece) →
      GoesOn f kept old new (map number (take (start + size) inputs))
      (map number (take (start + size) (put_mid start size outputs piece)))
  piece-more f kept old between new before step =
      let taken : map number (take (start + size) inputs) ≡ map number (take start inputs) ++ map number
      (take size (drop start outputs)) =
      ap (map number) (take-add start size inputs) ∙ map-append number (take start inputs)
      (take size (drop start inputs)) ∙ ap (λ l. map number (take start inputs) ++ map number (take size l))
      (sym rest) in
      let given : map number (take (start + size) (put_mid start size outputs piece)) ≡ map number
      (take start outputs) ++ map number piece =
      ap (map number) (take-put_mid start size outputs piece (start + size) (omega (arith, long))
      (omega (arith, inside, same))) ∙ map-append number (take start outputs) piece in
      rw (taken, given) (goes-twice f kept old between new (map number (take start inputs))
      (map number (take size (drop start outputs))) (map number (take start outputs)) (map number piece) before
      step)

  pub piece-rest : drop (start + size) (put_mid start size outputs piece) ≡ drop (start + size) inputs
  piece-rest =
      let end : start + size ≤ start + size = omega arith in
      drop-put_mid start size outputs piece (start + size) end (omega (arith, inside, same)) long ∙
      sym (drop-drop size start outputs) ∙ ap (drop size) rest ∙ drop-drop size start inputs

  pub piece-long : length (put_mid start size outputs piece) ≡ length inputs
  piece-long =
      omega (
        arith,
        inside,
        same,
        long,
        length-append (take start outputs) (piece ++ drop size (drop start outputs)),
        length-append piece (drop size (drop start outputs)),
        length-take-le start outputs (omega (arith, inside, same)),
        length-drop size (drop start outputs),
        length-drop start outputs,
      )
