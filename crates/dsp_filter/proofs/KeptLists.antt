-- The numbers of filters in a list, and whether they fit.
use Rattle.std.proofs.Common.{◌≡◌, ◌∙◌, ap, sym, subst, ℕ, ◌+◌, ◌*◌, ◌/◌, ◌%◌, ◌<◌, ◌≤◌, ℤ, List, [], ◌∷◌, ◌++◌}
use Rattle.std.proofs.Common.{length, map, take, get_or, flat_map, Some, arith}
use Rattle.std.specs.Prelude.{Option}
use Rattle.std.proofs.lemmas.List.{append-nil, take_more, length-map, get_or-map}
use Rattle.std.proofs.lemmas.Grind.{flat_map-append}
use Rattle.std.proofs.lemmas.Nat.{mul-le}
use Rattle.std.proofs.lemmas.List.Folds.{flat_map-map, length-flat_map-take}
use Rattle.dsp_defs.specs.Kept.{Fits, FitsAfter, FitsChannel, place_of}
use Rattle.dsp_unit.specs.Filter.{FilterState, AreFilters, filter_at, no_filter, kept_of_all}
use Rattle.dsp_unit.specs.Channels.{numbers_in}
use Rattle.dsp_unit.proofs.ChannelRestores.{fits-channels, channels-fit}
use Rattle.dsp_defs.specs.declared.format.Fmt.{Fmt}

-- the numbers of a channel lie within those of all channels
pub piece-room : (n channels c : ℕ) → c < channels → (c + 1) * (n / channels) ≤ n
piece-room n channels c inside =
    let most : (c + 1) * (n / channels) ≤ channels * (n / channels) =
    mul-le (c + 1) (n / channels) channels (n / channels) (omega arith) (omega arith) in
    omega (arith, most)

module _ {F : Type 0} (filter : F → FilterState) (filters : List F) (i : ℕ) (x : F) (inside : i < length filters)
    (read : x ≡ get_or filters i x) where
  -- the numbers of one filter stand within those of all
  pub kept-room : length (kept_of_all (map filter (take i filters))) + length (filter x).kept ≤ length
      (kept_of_all (map filter filters))
  kept-room =
      let room = length-flat_map-take (λ f. (filter f).kept) filters i x inside in
      let front = ap length (flat_map-map (λ (s : FilterState). s.kept) filter (take i filters)) in
      let all = ap length (flat_map-map (λ (s : FilterState). s.kept) filter filters) in
      let here = ap (λ f. length (filter f).kept) read in
      omega (arith, room, front, all, here)

  pub kept-more : kept_of_all (map filter (take (i + 1) filters)) ≡ kept_of_all (map filter (take i filters)) ++
      (filter x).kept
  kept-more =
      flat_map-map (λ (s : FilterState). s.kept) filter (take (i + 1) filters)
      ∙ ap (flat_map (λ f. (filter f).kept)) (take_more filters i x inside)
      ∙ flat_map-append (λ f. (filter f).kept) (take i filters) (get_or filters i x ∷ [])
      ∙ ap (λ t. flat_map (λ f. (filter f).kept) (take i filters) ++ t)
      (append-nil (filter (get_or filters i x)).kept ∙ ap (λ f. (filter f).kept) (sym read))
      ∙ ap (λ l. l ++ (filter x).kept) (sym (flat_map-map (λ (s : FilterState). s.kept) filter (take i filters)))

module _ (format : Fmt) (capacity : ℕ) (filters : List FilterState) (are : AreFilters format capacity filters)
    (numbers : List ℤ) where
  some : 0 < length filters
  some = (let some = are.some in omega (arith, some))

  fits-as : (c n : ℕ) (xs : List ℤ) → c < length filters → FitsChannel format (filter_at filters 0).block n xs →
      FitsChannel (filter_at filters c).format (filter_at filters c).block n xs
  fits-as c n xs h fits =
      let like = are.alike c no_filter h in
      subst (λ f. FitsChannel f (filter_at filters c).block n xs) (sym (like.format ∙ are.format_is))
      (subst (λ b. FitsChannel format b n xs) (sym like.block) fits)

  as-fits : (c n : ℕ) (xs : List ℤ) → c < length filters →
      FitsChannel (filter_at filters c).format (filter_at filters c).block n xs →
      FitsChannel format (filter_at filters 0).block n xs
  as-fits c n xs h fits =
      let like = are.alike c no_filter h in
      subst (λ b. FitsChannel format b n xs) like.block (subst (λ f. FitsChannel f (filter_at filters c).block n xs)
      (like.format ∙ are.format_is) fits)

  fits-by_channel : (n : ℕ) → length numbers % length filters ≡ 0 →
      ((c : ℕ) → c < length filters → FitsChannel (filter_at filters c).format (filter_at filters c).block n
      (numbers_in (length numbers / length filters) numbers c)) →
      FitsAfter format (length filters) (filter_at filters 0).block n numbers
  fits-by_channel n whole each =
      channels-fit format (filter_at filters 0).block are.by_channel (length filters) some numbers n
      (all_of (length numbers) (length filters) some whole)
      (λ c h. as-fits c n (numbers_in (length numbers / length filters) numbers c) h (each c h))
    where
      all_of : (a b : ℕ) → 0 < b → a % b ≡ 0 → a ≡ b * (a / b)
      all_of a b h e = grind (arith, h, e)

  -- and numbers that fit all fit each
  pub fits-each : (fits : Fits format (length filters) (filter_at filters 0).block numbers) (c : ℕ) →
      c < length filters → FitsChannel (filter_at filters c).format (filter_at filters c).block fits.0
      (numbers_in (length numbers / length filters) numbers c)
  fits-each fits c h = fits-as c fits.0 (numbers_in (length numbers / length filters) numbers c) h
      (fits-channels format (filter_at filters 0).block are.by_channel (length filters) some numbers fits.0 fits.1 c h)

-- the same of the filters of a program
module _ {F : Type 0} (format : Fmt) (capacity : ℕ) (filter : F → FilterState) (filters : List F)
    (are : AreFilters format capacity (map filter filters)) (numbers : List ℤ) where
  state-at : (c : ℕ) (x : F) → c < length filters → x ≡ get_or filters c x → filter x ≡ filter_at (map filter filters) c
  state-at c x inside is = ap filter is ∙ sym (get_or-map filter filters c x no_filter inside)

  pub place-at :
      (fits : Fits format (length filters) (filter_at (map filter filters) 0).block numbers) (c : ℕ) (x : F)
      (piece : List ℤ) (place : Option ℕ) → c < length filters → x ≡ get_or filters c x →
      piece ≡ numbers_in (length numbers / length filters) numbers c →
      ((n : ℕ) → FitsChannel (filter x).format (filter x).block n piece → place ≡ Some (place_of (filter x).block n))
      → place ≡ Some (place_of (filter_at (map filter filters) 0).block fits.0)
  place-at fits c x piece place inside is cut least =
      let size : length (map filter filters) ≡ length filters = length-map filters filter in
      let inside' : c < length (map filter filters) = omega (arith, inside, size) in
      let fits' : Fits format (length (map filter filters)) (filter_at (map filter filters) 0).block numbers =
      subst (λ k. Fits format k (filter_at (map filter filters) 0).block numbers) (sym size) fits in
      let cut' : piece ≡ numbers_in (length numbers / length (map filter filters)) numbers c = cut ∙
      ap (λ k. numbers_in (length numbers / k) numbers c) (sym size) in
      let first = state-at c x inside is in
      least fits.0 (subst (λ xs. FitsChannel (filter x).format (filter x).block fits.0 xs) (sym cut')
      (subst (λ (s : FilterState). FitsChannel s.format s.block fits.0
      (numbers_in (length numbers / length (map filter filters)) numbers c)) (sym first)
      (fits-each format capacity (map filter filters) are numbers fits' c inside')))
      ∙ ap (λ (s : FilterState). Some (place_of s.block fits.0)) first
      ∙ ap (λ b. Some (place_of b fits.0)) (are.alike c no_filter inside').block

  pub fits-here : (n c : ℕ) (x : F) (piece : List ℤ) → c < length filters → x ≡ get_or filters c x →
      piece ≡ numbers_in (length numbers / length filters) numbers c →
      FitsChannel (filter x).format (filter x).block n piece →
      FitsChannel (filter_at (map filter filters) c).format (filter_at (map filter filters) c).block n
      (numbers_in (length numbers / length filters) numbers c)
  fits-here n c x piece inside is cut fits =
      subst (λ xs. FitsChannel (filter_at (map filter filters) c).format (filter_at (map filter filters) c).block n
      xs) cut
      (subst (λ (s : FilterState). FitsChannel s.format s.block n piece) (state-at c x inside is) fits)

  pub fits-all : (n : ℕ) → length numbers % length filters ≡ 0 →
      ((c : ℕ) → c < length filters → FitsChannel (filter_at (map filter filters) c).format
      (filter_at (map filter filters) c).block n (numbers_in (length numbers / length filters) numbers c)) →
      FitsAfter format (length filters) (filter_at (map filter filters) 0).block n numbers
  fits-all n whole each =
      let size : length (map filter filters) ≡ length filters = length-map filters filter in
      subst (λ k. FitsAfter format k (filter_at (map filter filters) 0).block n numbers) size
      (fits-by_channel format capacity (map filter filters) are numbers n (ap (λ k. length numbers % k) size ∙ whole)
      (λ c h. subst (λ k. FitsChannel (filter_at (map filter filters) c).format
      (filter_at (map filter filters) c).block n (numbers_in (length numbers / k) numbers c)) (sym size)
      (each c (omega (arith, h, size)))))
