-- Values that are written one after another, and row after row.
use Rattle.std.proofs.Common.{◌≡◌, ◌∙◌, ap, ap₂, refl, sym, ℕ, zero, suc, ◌+◌, ◌-◌, ◌*◌, ◌<◌, ◌≤◌, ℤ, ◌+ℤ◌, ◌*ℤ◌}
use Rattle.std.proofs.Common.{◌/◌, ◌%◌, List, [], ◌∷◌, ◌++◌, length, map, take, drop, slice_range, arith, length-drop}
use Rattle.std.proofs.Common.{length-take-le, take_all}
use Rattle.std.proofs.lemmas.List.{take-map, drop-map, map-append, append-nil, take-append-le, drop-append-le}
use Rattle.std.proofs.lemmas.List.{drop_all, drop-drop}
use Rattle.std.proofs.Math.Seq.{take-append-add, drop-append-add}
use Rattle.std.proofs.lemmas.Slice.{take-put_mid}
use Rattle.std.proofs.lemmas.Nat.{div-mul-add, mod-mul-add, mod_below, mul-add-lt}
use borrow.Rule.Slice.PartMut.{put_mid}
use Rattle.std.specs.Simd.Lanes.{zip2}
use Rattle.std.proofs.lemmas.Int.{int_wrap-add_left}
use Rattle.dsp_defs.specs.Numbers.{Width, wrap}
use Rattle.dsp_defs.specs.Counts.{Counts}
use Rattle.dsp_defs.specs.Formats.{close}
use Rattle.dsp_defs.specs.Matrix.{transposed}
use Rattle.dsp_defs.specs.Signal.{sample, sum_below, values}
use Rattle.dsp_defs.proofs.Signal.{values_cong, values-add, sum_below_cong}
use Rattle.dsp_defs.specs.declared.format.Fmt.{Fmt}
use Rattle.dsp_lanes.specs.Turns.{RisesWithin}
use Rattle.dsp_filter.proofs.Slices.{sample-piece}
use Rattle.dsp_unit.proofs.ChannelFrames.{sample-values}
use Rattle.dsp_matrix.specs.Groups.{Group}
use Rattle.dsp_matrix.specs.Matrices.{product_element}

-- the first value, and the others
values-suc : {A : Type 0} (n : ℕ) (f : ℕ → A) → values (suc n) f ≡ f 0 ∷ values n (λ i. f (suc i))
values-suc n f =
    let count : suc n ≡ 1 + n = omega arith in
    ap (λ k. values k f) count ∙ values-add 1 n f
    ∙ ap (λ l. f 0 ∷ l) (values_cong n (λ i. f (1 + i)) (λ i. f (suc i)) (λ i _. ap f (omega arith)))

-- what is written in front of the rest, and the rest
pub front-written : {X : Type 0} (n : ℕ) (new rest : List X) → length new ≡ n → take n (new ++ rest) ≡ new
front-written n new rest size = take-append-le n new rest (omega (arith, size)) ∙ take_all n new (omega (arith, size))

pub rest-stays : {X : Type 0} (n : ℕ) (new rest : List X) → length new ≡ n → drop n (new ++ rest) ≡ rest
rest-stays n new rest size = drop-append-le n new rest (omega (arith, size)) ∙
    ap (λ l. l ++ rest) (drop_all n new (omega (arith, size)))

-- what f makes of each number
pub mapped-values : (f : ℤ → ℤ) (n : ℕ) (xs : List ℤ) → length xs ≡ n → map f xs ≡ values n (λ i. f (sample xs i))
mapped-values f zero [] e = refl
mapped-values f zero (x ∷ xs) e = absurd (omega (arith, e))
mapped-values f (suc n) [] e = absurd (omega (arith, e))
mapped-values f (suc n) (x ∷ xs) e =
    ap (λ l. f x ∷ l) (mapped-values f n xs (omega (arith, e))) ∙ sym (values-suc n (λ i. f (sample (x ∷ xs) i)))

-- and of each pair
pub joined-values : (f : ℤ → ℤ → ℤ) (n : ℕ) (xs ys : List ℤ) → length xs ≡ n → length ys ≡ n →
    zip2 f xs ys ≡ values n (λ i. f (sample xs i) (sample ys i))
joined-values f zero [] ys e h = refl
joined-values f zero (x ∷ xs) ys e h = absurd (omega (arith, e))
joined-values f (suc n) [] ys e h = absurd (omega (arith, e))
joined-values f (suc n) (x ∷ xs) [] e h = absurd (omega (arith, h))
joined-values f (suc n) (x ∷ xs) (y ∷ ys) e h =
    ap (λ l. f x y ∷ l) (joined-values f n xs ys (omega (arith, e)) (omega (arith, h))) ∙
    sym (values-suc n (λ i. f (sample (x ∷ xs) i) (sample (y ∷ ys) i)))

-- ---- row after row

module _ {X : Type 0} (number : X → ℤ) (f : ℕ → ℤ) where
  -- one row more, from the place j * n on
  pub row-written :
      (j m n place gap : ℕ) (old new : List X) → m ≡ j + 1 → place ≡ j * n → length new ≡ n → j * n ≤ length old →
      take (j * n) (map number old) ≡ values (j * n) f → map number new ≡ values n (λ l. f (j * n + l)) →
      take (m * n) (map number (put_mid place gap old new)) ≡ values (m * n) f
  row-written j m n place gap old new next start size room written row =
      let end : m * n ≡ place + length new = (ap (λ k. k * n) next ∙ omega (arith, start, size)) in
      let both : m * n ≡ j * n + n = (ap (λ k. k * n) next ∙ omega arith) in
      take-map number (m * n) (put_mid place gap old new)
      ∙ ap (map number) (take-put_mid place gap old new (m * n) end (omega (arith, start, room)))
      ∙ map-append number (take place old) new
      ∙ ap₂ (λ a b. a ++ b) (ap (λ k. map number (take k old)) start ∙ sym (take-map number (j * n) old) ∙ written) row
      ∙ sym (values-add (j * n) n f)
      ∙ ap (λ k. values k f) (sym both)

-- the counter of one step more
pub rises-more : (a b c : Counts) (i m p : ℕ) → m ≡ i + 1 → RisesWithin a b (i * p) (i * p) → RisesWithin b c p p →
    RisesWithin a c (m * p) (m * p)
rises-more a b c i m p next first second =
    let products : m * p ≡ i * p + p = (ap (λ j. j * p) next ∙ omega arith) in
    record {
      multiplies_rise = omega (arith, products, first.multiplies_rise, second.multiplies_rise);
      turns_within = omega (arith, products, first.turns_within, second.turns_within);
    }

-- ---- products

-- a row of a product, from the sums over a piece of a
pub product-row :
    {X : Type 0} (number : X → ℤ) (format : Fmt) (place : ℕ → ℕ → ℕ → ℕ → ℕ) (columns given j : ℕ) (a : List X)
    (row matrix out : List ℤ) →
    row ≡ map number (slice_range a (j * columns) (j * columns + columns)) →
    out ≡ values given (λ l. close format (sum_below columns
    (λ k. sample row k *ℤ sample matrix (place columns given k l)))) →
    out ≡ values given (λ l. product_element format place columns given (map number a) matrix (j * given + l))
product-row number format place columns given j a row matrix out is row_is =
    row_is
    ∙ values_cong given _ _
    (λ l h.
    let quotient : (j * given + l) / given ≡ j = div-mul-add j given l h in
    let rest : (j * given + l) % given ≡ l = mod-mul-add j given l h in
    ap (close format)
    (sum_below_cong columns _ _
    (λ k inside.
    let read : sample row k ≡ sample (map number a) ((j * given + l) / given * columns + k) =
    ap (λ r. sample r k) is ∙ sample-piece number a (j * columns) columns k inside ∙
    ap (λ q. sample (map number a) (q * columns + k)) (sym quotient) in
    ap₂ (λ u v. u *ℤ v) read (ap (λ i. sample matrix (place columns given k i)) (sym rest)))))

-- the elements of a matrix that stands column by column
pub turned-element : (format : Fmt) (columns given : ℕ) (a matrix turned : List ℤ) (n : ℕ) →
    turned ≡ values (columns * given) (transposed columns given matrix) →
    values (n * given) (product_element format (λ rows columns k l. l * rows + k) columns given a turned) ≡ values
    (n * given) (product_element format (λ rows columns k l. k * columns + l) columns given a matrix)
turned-element format columns given a matrix turned n is =
    values_cong (n * given) _ _
    (λ i h.
    let some : 0 < given = some-given i h in
    let column : i % given < given = mod_below i given some in
    ap (close format)
    (sum_below_cong columns _ _
    (λ k inside.
    let room : i % given * columns + k < columns * given = mul-add-lt (i % given) columns k given column inside in
    let read : sample turned (i % given * columns + k) ≡ transposed columns given matrix (i % given * columns + k) =
    ap (λ t. sample t (i % given * columns + k)) is ∙ sample-values (columns * given)
    (transposed columns given matrix) (i % given * columns + k) room in
    let place : (i % given * columns + k) % columns * given + (i % given * columns + k) / columns ≡ k * given + i %
    given =
    ap₂ (λ u v. u * given + v) (mod-mul-add (i % given) columns k inside) (div-mul-add (i % given) columns k inside) in
    ap (λ v. sample a (i / given * columns + k) *ℤ v) (read ∙ ap (sample matrix) place))))
  where
    some-given : (i : ℕ) → i < n * given → 0 < given
    some-given i h = grind (arith, h)

-- a piece is as long as it was cut
pub piece-length : {X : Type 0} (xs : List X) (place n : ℕ) → place + n ≤ length xs →
    length (slice_range xs place (place + n)) ≡ n
piece-length xs place n room =
    let size : place + n - place ≡ n = omega arith in
    let long : n ≤ length (drop place xs) = omega (arith, length-drop place xs) in
    ap (λ k. length (take k (drop place xs))) size ∙ length-take-le n (drop place xs) long

-- what one group becomes, by its place among those of all
pub group-row :
    {X : Type 0} (number : X → ℤ) (g : Group) (j start end : ℕ) (xs : List X) → start ≡ j * g.taken →
    end ≡ start + g.taken →
    values g.given (g.result (map number (slice_range xs start end)))
    ≡ values g.given (λ l. g.result (take g.taken (drop ((j * g.given + l) / g.given * g.taken) (map number xs)))
    ((j * g.given + l) % g.given))
group-row number g j start end xs first last =
    values_cong g.given _ _
    (λ l h.
    let quotient : (j * g.given + l) / g.given ≡ j = div-mul-add j g.given l h in
    let rest : (j * g.given + l) % g.given ≡ l = mod-mul-add j g.given l h in
    let size : end - start ≡ g.taken = omega (arith, last) in
    let place : start ≡ (j * g.given + l) / g.given * g.taken = first ∙ ap (λ q. q * g.taken) (sym quotient) in
    ap₂ (λ a i. g.result a i)
    (sym (take-map number (end - start) (drop start xs)) ∙
    ap₂ (λ n ys. take n ys) size (sym (drop-map number start xs) ∙ ap (λ n. drop n (map number xs)) place))
    (sym rest))

-- ---- products that are summed

-- a sum of one product more
pub product-more : (w : Width) (f : ℕ → ℤ) (k m : ℕ) (x y s t : ℤ) → m ≡ k + 1 → x *ℤ y ≡ f k →
    s ≡ wrap w (sum_below k f) → t ≡ wrap w (s +ℤ x *ℤ y) → t ≡ wrap w (sum_below m f)
product-more w f k m x y s t next is summed added =
    let count : m ≡ suc k = omega (arith, next) in
    added
    ∙ ap₂ (λ u v. wrap w (u +ℤ v)) summed is
    ∙ int_wrap-add_left w (sum_below k f) (f k)
    ∙ ap (λ n. wrap w (sum_below n f)) (sym count)

-- ---- what is written behind a place

module _ {X : Type 0} (a r gap : ℕ) (xs ys : List X) (inside : a ≤ length xs) (few : r ≤ length ys) where
  place-long : length (take a xs) ≡ a
  place-long = length-take-le a xs inside

  pub behind-front : take (a + r) (put_mid a gap xs ys) ≡ take a xs ++ take r ys
  behind-front =
      ap (λ n. take (n + r) (put_mid a gap xs ys)) (sym place-long)
      ∙ take-append-add (take a xs) (ys ++ drop gap (drop a xs)) r
      ∙ ap (λ l. take a xs ++ l) (take-append-le r ys (drop gap (drop a xs)) few)

  pub behind-rest : gap ≡ length xs - a → drop r ys ≡ drop r (take gap (drop a xs)) →
      drop (a + r) (put_mid a gap xs ys) ≡ drop (a + r) xs
  behind-rest size same =
      let none : drop gap (drop a xs) ≡ [] = drop_all gap (drop a xs) (omega (arith, length-drop a xs, size)) in
      let all : take gap (drop a xs) ≡ drop a xs = take_all gap (drop a xs) (omega (arith, length-drop a xs, size)) in
      ap (λ n. drop (n + r) (put_mid a gap xs ys)) (sym place-long)
      ∙ drop-append-add (take a xs) (ys ++ drop gap (drop a xs)) r
      ∙ drop-append-le r ys (drop gap (drop a xs)) few
      ∙ ap (λ l. drop r ys ++ l) none
      ∙ append-nil (drop r ys)
      ∙ same
      ∙ ap (drop r) all
      ∙ drop-drop r a xs
      ∙ ap (λ n. drop n xs) (omega arith)

-- what was left alone behind a place stays behind a later one
pub rest-further : {X : Type 0} (a r : ℕ) (xs ys : List X) → drop a xs ≡ drop a ys → drop (a + r) xs ≡ drop (a + r) ys
rest-further a r xs ys same = sym (drop-drop r a xs) ∙ ap (drop r) same ∙ drop-drop r a ys
