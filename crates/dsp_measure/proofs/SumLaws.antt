-- Sums of products that are wrapped on the way.
use Rattle.std.proofs.Common.{◌≡◌, ◌∙◌, ap, ap₂, refl, sym, ℕ, suc, ◌+◌, ◌<◌, ℤ, pos, ◌+ℤ◌, ◌-ℤ◌, neg_ℤ, List}
use Rattle.std.proofs.Common.{◌++◌, ◌*◌, ◌/◌, ◌%◌, length, arith, length-append}
use Rattle.std.specs.Prelude.{FitsSigned}
use Rattle.std.proofs.lemmas.Int.{int_wrap_fits, int_wrap-add_left}
use Rattle.std.proofs.lemmas.List.{get_or-append-add}
use Rattle.dsp_defs.specs.Counts.{Counts, Rises}
use Rattle.std.proofs.Math.IntN.{+ℤ_assoc, +ℤ_idr}
use Rattle.dsp_defs.specs.Formats.{accumulator}
use Rattle.dsp_defs.specs.Measure.{measured_product, dot, cmplx_dot_sums}
use Rattle.dsp_defs.specs.Numbers.{Width, wrap}
use Rattle.dsp_defs.specs.Signal.{sample, sum_below, values}
use Rattle.dsp_defs.specs.declared.format.Fmt.{Fmt}
use Rattle.dsp_defs.proofs.Signal.{sum_below_cong, sample-append, values_cong, values-add, sum_below-add}
use Rattle.dsp_defs.proofs.SumLemmas.{same_numbers}
use Rattle.dsp_unit.specs.Channels.{samples_in}
use Rattle.dsp_unit.proofs.ChannelFrames.{length-samples_in, sample-values}
use Rattle.dsp_measure.specs.Sums.{with_channels, with_products, with_complex, parts_in, complex_sums}

-- the only channel is the frames
pub one-channel : (xs : List ℤ) → samples_in 1 (length xs / 1) xs 0 ≡ xs
one-channel xs =
    let count : length xs / 1 ≡ length xs = omega arith in
    let long = length-samples_in 1 (length xs / 1) xs 0 in
    same_numbers (samples_in 1 (length xs / 1) xs 0) xs (long ∙ count)
    (λ i below.
    let here : i * 1 + 0 ≡ i = omega arith in
    sample-values (length xs / 1) (λ k. sample xs (k * 1 + 0)) i (omega (arith, below, long)) ∙ ap (sample xs) here)

-- a sum that goes on by the squares of the only channel
pub only-channel : (format : Fmt) (start : ℤ) (channels first second : ℕ) (frames : List ℤ) → channels ≡ 1 →
    first < channels → second < channels →
    with_products format start frames frames ≡ with_channels format start channels frames first second
only-channel format start channels first second frames one inside within =
    let same = sym (one-channel frames) in
    let none : 0 ≡ first = omega (arith, one, inside) in
    let zero_in : 0 ≡ second = omega (arith, one, within) in
    (λ i. with_products format start (same i) (same i)) ∙
    (λ i. with_channels format start (sym one i) frames (none i) (zero_in i))

-- a wrapped sum, and the first n of these terms more
abbrev pub sum_with : Width → ℤ → ℕ → (ℕ → ℤ) → ℤ
sum_with w start n f = wrap w (start +ℤ sum_below n f)

-- the products of two lists
abbrev pub products_of : Fmt → List ℤ → List ℤ → ℕ → ℤ
products_of format x y k = measured_product format (sample x k) (sample y k)

-- no further terms
pub sum-none : (w : Width) (start : ℤ) (f : ℕ → ℤ) → FitsSigned w start → start ≡ sum_with w start 0 f
sum-none w start f fits = sym (ap (wrap w) (+ℤ_idr start) ∙ int_wrap_fits w start fits)

-- one more
sum-more : (w : Width) (start sum more : ℤ) (n m : ℕ) (f : ℕ → ℤ) → m ≡ n + 1 → sum ≡ sum_with w start n f →
    more ≡ wrap w (sum +ℤ f n) → more ≡ sum_with w start m f
sum-more w start sum more n m f next summed added =
    let step : m ≡ suc n = omega (arith, next) in
    added
    ∙ ap (λ s. wrap w (s +ℤ f n)) summed
    ∙ int_wrap-add_left w (start +ℤ sum_below n f) (f n)
    ∙ ap (wrap w) (+ℤ_assoc start (sum_below n f) (f n))
    ∙ ap (λ k. wrap w (start +ℤ sum_below k f)) (sym step)

-- two more, that were added to one another before
pub sum-two : (w : Width) (start sum more : ℤ) (n m : ℕ) (f : ℕ → ℤ) → m ≡ n + 2 → sum ≡ sum_with w start n f →
    more ≡ wrap w (sum +ℤ (f n +ℤ f (n + 1))) → more ≡ sum_with w start m f
sum-two w start sum more n m f next summed added =
    sum-more w start (wrap w (sum +ℤ f n)) more (n + 1) m f (omega (arith, next))
    (sum-more w start sum (wrap w (sum +ℤ f n)) n (n + 1) f refl summed refl)
    (added ∙ ap (wrap w) (sym (+ℤ_assoc sum (f n) (f (n + 1)))) ∙
    sym (int_wrap-add_left w (sum +ℤ f n) (f (n + 1))))

-- one product more
pub products-more :
    (format : Fmt) (start sum more a b : ℤ) (n m : ℕ) (x y : List ℤ) → m ≡ n + 1 → (a ≡ sample x n) ×
    (b ≡ sample y n) → sum ≡ sum_with (accumulator format) start n (products_of format x y) →
    more ≡ wrap (accumulator format) (sum +ℤ measured_product format a b) →
    more ≡ sum_with (accumulator format) start m (products_of format x y)
products-more format start sum more a b n m x y next is summed added =
    sum-more (accumulator format) start sum more n m (products_of format x y) next summed
    (added ∙ ap₂ (λ c d. wrap (accumulator format) (sum +ℤ measured_product format c d)) is.0 is.1)

-- ---- sums of signals that go on

-- a sum over a list that goes on, of terms that follow from the numbers at a place
sums-join : (w : Width) (m n : ℕ) (f g whole : ℕ → ℤ) → ((k : ℕ) → k < m → f k ≡ whole k) →
    ((k : ℕ) → k < n → g k ≡ whole (m + k)) →
    wrap w (wrap w (sum_below m f) +ℤ sum_below n g) ≡ wrap w (sum_below (m + n) whole)
sums-join w m n f g whole front back =
    int_wrap-add_left w (sum_below m f) (sum_below n g)
    ∙ ap₂ (λ a b. wrap w (a +ℤ b)) (sum_below_cong m f whole front) (sum_below_cong n g (λ k. whole (m + k)) back)
    ∙ ap (wrap w) (sym (sum_below-add m n whole))

-- a sample behind the front of a list
sample-behind : (x y : List ℤ) (m n : ℕ) → length x ≡ m → sample (x ++ y) (m + n) ≡ sample y n
sample-behind x y m n size = ap (λ k. sample (x ++ y) (k + n)) (sym size) ∙ get_or-append-add x y n (pos 0)

-- the dot product of signals that go on
pub dot-more : (format : Fmt) (x y a b : List ℤ) → length x ≡ length y →
    with_products format (dot format x y) a b ≡ dot format (x ++ a) (y ++ b)
dot-more format x y a b same =
    let p : ℤ → ℤ → ℤ = measured_product format in
    sums-join (accumulator format) (length x) (length a) (products_of format x y) (products_of format a b)
    (products_of format (x ++ a) (y ++ b))
    (λ k h. ap₂ p (sym (sample-append x a k h)) (sym (sample-append y b k (omega (arith, h, same)))))
    (λ k h. ap₂ p (sym (sample-behind x a (length x) k refl)) (sym (sample-behind y b (length x) k (sym same))))
    ∙ ap (λ k. wrap (accumulator format) (sum_below k (products_of format (x ++ a) (y ++ b)))) (sym (length-append x a))

-- ---- sums of complex products

-- the terms of the real and of the imaginary sum
abbrev pub real_terms : Fmt → List ℤ → List ℤ → List ℤ → List ℤ → ℕ → ℤ
real_terms format a b c d n = measured_product format (sample a n) (sample c n) -ℤ measured_product format
    (sample b n) (sample d n)

abbrev pub imaginary_terms : Fmt → List ℤ → List ℤ → List ℤ → List ℤ → ℕ → ℤ
imaginary_terms format a b c d n = measured_product format (sample a n) (sample d n) +ℤ measured_product format
    (sample b n) (sample c n)

-- the four numbers at a place
abbrev pub AreAt : ℤ → ℤ → ℤ → ℤ → List ℤ → List ℤ → List ℤ → List ℤ → ℕ → Type 0
AreAt p q r s a b c d n = (p ≡ sample a n) × (q ≡ sample b n) × (r ≡ sample c n) × (s ≡ sample d n)

module _ (format : Fmt) (sum half more p q r s : ℤ) where
  abbrev w : Width
  w = accumulator format

  -- a product and another taken away
  pub real-step : half ≡ wrap w (sum +ℤ measured_product format p r) →
      more ≡ wrap w (half -ℤ measured_product format q s) →
      more ≡ wrap w (sum +ℤ (measured_product format p r -ℤ measured_product format q s))
  real-step first second =
      let one = measured_product format p r in
      let other = measured_product format q s in
      second ∙ ap (λ h. wrap w (h -ℤ other)) first ∙ int_wrap-add_left w (sum +ℤ one) (neg_ℤ other) ∙
      ap (wrap w) (+ℤ_assoc sum one (neg_ℤ other))

  -- two products
  pub imaginary-step : half ≡ wrap w (sum +ℤ measured_product format p s) →
      more ≡ wrap w (half +ℤ measured_product format q r) →
      more ≡ wrap w (sum +ℤ (measured_product format p s +ℤ measured_product format q r))
  imaginary-step first second =
      let one = measured_product format p s in
      let other = measured_product format q r in
      second ∙ ap (λ h. wrap w (h +ℤ other)) first ∙ int_wrap-add_left w (sum +ℤ one) other ∙
      ap (wrap w) (+ℤ_assoc sum one other)

module _ (format : Fmt) (start sum more p q r s : ℤ) (n m : ℕ) (a b c d : List ℤ) (next : m ≡ n + 1)
    (at : AreAt p q r s a b c d n) where
  abbrev v : Width
  v = accumulator format

  pub real-more :
      sum ≡ sum_with v start n (real_terms format a b c d) →
      more ≡ wrap v (sum +ℤ (measured_product format p r -ℤ measured_product format q s)) →
      more ≡ sum_with v start m (real_terms format a b c d)
  real-more summed added =
      sum-more v start sum more n m (real_terms format a b c d) next summed
      (added ∙ (λ i. wrap v (sum +ℤ (measured_product format (at.0 i) (at.2 i) -ℤ measured_product format (at.1 i)
      (at.3 i)))))

  pub imaginary-more :
      sum ≡ sum_with v start n (imaginary_terms format a b c d) →
      more ≡ wrap v (sum +ℤ (measured_product format p s +ℤ measured_product format q r)) →
      more ≡ sum_with v start m (imaginary_terms format a b c d)
  imaginary-more summed added =
      sum-more v start sum more n m (imaginary_terms format a b c d) next summed
      (added ∙ (λ i. wrap v (sum +ℤ (measured_product format (at.0 i) (at.3 i) +ℤ measured_product format (at.1 i)
      (at.2 i)))))

-- complex sums of signals that go on
module _ (format : Fmt) (a b c d a' b' c' d' : List ℤ) (sb : length a ≡ length b) (sc : length a ≡ length c)
    (sd : length a ≡ length d) where
  at-front : (x x' : List ℤ) → length a ≡ length x → (k : ℕ) → k < length a → sample x k ≡ sample (x ++ x') k
  at-front x x' same k h = sym (sample-append x x' k (omega (arith, h, same)))

  at-back : (x x' : List ℤ) → length a ≡ length x → (k : ℕ) → sample x' k ≡ sample (x ++ x') (length a + k)
  at-back x x' same k = sym (sample-behind x x' (length a) k (sym same))

  pub complex-more : with_complex format (cmplx_dot_sums format a b c d) a' b' c' d' ≡ cmplx_dot_sums format (a ++ a')
      (b ++ b') (c ++ c') (d ++ d')
  complex-more =
      let p : ℤ → ℤ → ℤ = measured_product format in
      let whole = length a + length a' in
      let size : whole ≡ length (a ++ a') = sym (length-append a a') in
      let real = sums-join (accumulator format) (length a) (length a') (real_terms format a b c d)
      (real_terms format a' b' c' d') (real_terms format (a ++ a') (b ++ b') (c ++ c') (d ++ d'))
      (λ k h i. p (at-front a a' refl k h i) (at-front c c' sc k h i) -ℤ p (at-front b b' sb k h i)
      (at-front d d' sd k h i))
      (λ k h i. p (at-back a a' refl k i) (at-back c c' sc k i) -ℤ p (at-back b b' sb k i) (at-back d d' sd k i)) in
      let imaginary = sums-join (accumulator format) (length a) (length a') (imaginary_terms format a b c d)
      (imaginary_terms format a' b' c' d') (imaginary_terms format (a ++ a') (b ++ b') (c ++ c') (d ++ d'))
      (λ k h i. p (at-front a a' refl k h i) (at-front d d' sd k h i) +ℤ p (at-front b b' sb k h i)
      (at-front c c' sc k h i))
      (λ k h i. p (at-back a a' refl k i) (at-back d d' sd k i) +ℤ p (at-back b b' sb k i) (at-back c c' sc k i)) in
      let many : (f : ℕ → ℤ) → wrap (accumulator format) (sum_below whole f) ≡ wrap (accumulator format)
      (sum_below (length (a ++ a')) f) = λ f i. wrap (accumulator format) (sum_below (size i) f) in
      λ i. (
        (real ∙ many (real_terms format (a ++ a') (b ++ b') (c ++ c') (d ++ d'))) i,
        (imaginary ∙ many (imaginary_terms format (a ++ a') (b ++ b') (c ++ c') (d ++ d'))) i,
      )

-- ---- parts of complex numbers

twice-half : (n : ℕ) → n % 2 ≡ 0 → n / 2 * 2 ≡ n
twice-half n even = omega (arith, even)

-- the parts of complex numbers that go on
pub parts-more : (x more : List ℤ) (part : ℕ) → length x % 2 ≡ 0 → part < 2 →
    parts_in (x ++ more) part ≡ parts_in x part ++ parts_in more part
parts-more x more part even inside =
    let whole : ℕ → ℤ = λ n. sample (x ++ more) (n * 2 + part) in
    let m = length x / 2 in
    let twice : m * 2 ≡ length x = twice-half (length x) even in
    let size : length (x ++ more) / 2 ≡ m + length more / 2 = omega (arith, length-append x more, even) in
    ap (λ k. values k whole) size
    ∙ values-add m (length more / 2) whole
    ∙ ap₂ {C = List ℤ} (λ a b. a ++ b)
    (values_cong m whole (λ n. sample x (n * 2 + part))
    (λ n h. sample-append x more (n * 2 + part) (omega (arith, h, inside, twice))))
    (values_cong (length more / 2) (λ n. whole (m + n)) (λ n. sample more (n * 2 + part))
    (λ n _. let place : (m + n) * 2 + part ≡ length x + (n * 2 + part) = omega (arith, twice) in
    ap (sample (x ++ more)) place ∙ sample-behind x more (length x) (n * 2 + part) refl))

-- a number at its place in a part
pub sample-part : (x : List ℤ) (count part n : ℕ) (a : ℤ) → length x / 2 ≡ count → n < count →
    a ≡ sample x (n * 2 + part) → a ≡ sample (parts_in x part) n
sample-part x count part n a size inside is = is ∙ sym
    (sample-values (length x / 2) (λ k. sample x (k * 2 + part)) n (omega (arith, size, inside)))

-- the parts of signals of one length are equally long
length-parts : (x y : List ℤ) (p q : ℕ) → length x ≡ length y → length (parts_in x p) ≡ length (parts_in y q)
length-parts x y p q same = length-samples_in 2 (length x / 2) x p ∙ ap (λ n. n / 2) same ∙
    sym (length-samples_in 2 (length y / 2) y q)

-- the sums over complex numbers that go on
pub complex_sums-more : (format : Fmt) (x y a b : List ℤ) → length x ≡ length y → length x % 2 ≡ 0 →
    with_complex format (complex_sums format x y) (parts_in a 0) (parts_in a 1) (parts_in b 0) (parts_in b 1) ≡
    complex_sums format (x ++ a) (y ++ b)
complex_sums-more format x y a b same even =
    let even' : length y % 2 ≡ 0 = ap (λ n. n % 2) (sym same) ∙ even in
    let zero_in : 0 < 2 = omega arith in
    let one_in : 1 < 2 = omega arith in
    complex-more format (parts_in x 0) (parts_in x 1) (parts_in y 0) (parts_in y 1) (parts_in a 0) (parts_in a 1)
    (parts_in b 0) (parts_in b 1)
    (length-parts x x 0 1 refl) (length-parts x y 0 0 same) (length-parts x y 0 1 same)
    ∙ sym (λ i. cmplx_dot_sums format (parts-more x a 0 even zero_in i) (parts-more x a 1 even one_in i)
    (parts-more y b 0 even' zero_in i) (parts-more y b 1 even' one_in i))

-- ---- what is counted

-- the products of k measures, and of one more
pub steps-more : (a b c : Counts) (k n : ℕ) → Rises a b (k * n) (k * n) → Rises b c n n →
    Rises a c ((k + 1) * n) ((k + 1) * n)
steps-more a b c k n first more =
    let next : (k + 1) * n ≡ k * n + n = omega arith in
    record {
      multiplies_rise = omega (arith, next, first.multiplies_rise, more.multiplies_rise);
      turns_rise =
          omega (arith, next, first.turns_rise, more.turns_rise);
    }
