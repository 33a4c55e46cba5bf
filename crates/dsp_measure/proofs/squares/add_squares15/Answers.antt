use Rattle.std.proofs.Common.{◌≡◌, ◌∙◌, ap, refl, sym, subst, length, ℤ, pos, negsuc, ◌+◌, ◌-◌, ◌*◌, ◌+ℤ◌, ◌*ℤ◌, ◌≤ℤ◌}
use Rattle.std.proofs.Common.{arith, rules, T, Fits, SFits, to_z, of_z, to_z-of_z, nat_abs}
use Rattle.std.specs.Int.{w16, w32, w64}
use lib.Signed.{non_neg}
use Rattle.std.proofs.lemmas.Int.{ints, wrapping_add_onto}
use Rattle.dsp_defs.specs.Numbers.{wrap}
use Rattle.dsp_defs.specs.Signal.{sample}
use Rattle.dsp_defs.specs.declared.format.Fmt.TheVariants.{Q15}
use Rattle.dsp_measure.proofs.SumLaws.{sum-two, sum_with, products-more, products_of}
use Rattle.dsp_measure.proofs.squares.add_squares15.Goals as goal

-- two numbers that are not negative, read without a sign
unsigned : (p q : ℤ) → pos 0 ≤ℤ p → pos 0 ≤ℤ q → pos (nat_abs p + nat_abs q) ≡ p +ℤ q
unsigned (pos m) (pos n) low low' = refl
unsigned (pos m) (negsuc n) low low' = absurd (omega (arith, ints, low'))
unsigned (negsuc m) q low low' = absurd (omega (arith, ints, low))

-- one of them as a number without a sign
cast : (p : ℤ) → SFits w32 p → pos 0 ≤ℤ p →
    T (non_neg (to_z w32 (of_z w32 p))) × Fits w32 (nat_abs (to_z w32 (of_z w32 p)))
cast p fits low = subst (λ r. T (non_neg r) × Fits w32 (nat_abs r)) (sym (to_z-of_z fits)) (by p fits low)
  where
    by : (p : ℤ) → SFits w32 p → pos 0 ≤ℤ p → T (non_neg p) × Fits w32 (nat_abs p)
    by (pos m) fits low = (tt, record { fits = omega (arith, fits.sfits) })
    by (negsuc m) fits low = absurd (omega (arith, ints, low))

-- and their sum has 32 bits
pair-fits : (p q : ℤ) → SFits w32 p → SFits w32 q → pos 0 ≤ℤ p → pos 0 ≤ℤ q → p ≤ℤ pos 1073741824 →
    q ≤ℤ pos 1073741824 → Fits w32 (nat_abs (to_z w32 (of_z w32 p)) + nat_abs (to_z w32 (of_z w32 q)))
pair-fits p q fits fits' low low' high high' =
    subst (λ (r : ℤ × ℤ). Fits w32 (nat_abs r.0 + nat_abs r.1)) (λ i. (sym (to_z-of_z fits) i, sym (to_z-of_z fits') i))
    (by p q low low' high high')
  where
    by : (p q : ℤ) → pos 0 ≤ℤ p → pos 0 ≤ℤ q → p ≤ℤ pos 1073741824 → q ≤ℤ pos 1073741824 →
        Fits w32 (nat_abs p + nat_abs q)
    by (pos m) (pos n) low low' high high' = record { fits = omega (arith, ints, high, high') }
    by (pos m) (negsuc n) low low' high high' = absurd (omega (arith, ints, low'))
    by (negsuc m) q low low' high high' = absurd (omega (arith, ints, low))

-- a number of 16 bits that was read from 32
half : (x : ℤ) → SFits w16 x → SFits w16 (to_z w32 (of_z w32 x))
half x fits = let wide : SFits w32 x = record { sfits = omega (arith, fits.sfits) } in
    subst (SFits w16) (sym (to_z-of_z wide)) fits

pub square-first-requires : goal.square-first-requires
square-first-requires g c = half _ (c.requires (c.loop-n.n * 2) (pos 0) (omega (arith, c.loop-n-test.true)))

pub square-second-requires : goal.square-second-requires
square-second-requires g c = half _ (c.requires (c.loop-n.n * 2 + 1) (pos 0) (omega (arith, c.loop-n-test.true)))

pub square-requires : goal.square-requires
square-requires g c = half _ (c.requires (length c.args.numbers.now - 1) (pos 0) (omega (arith, c.if-numbers-eq1.true)))

pub overflow_cast-first : goal.overflow_cast-first
overflow_cast-first g c = cast c.square-first.result (search rules) c.square-first.ensures.low

pub overflow_cast-second : goal.overflow_cast-second
overflow_cast-second g c = cast c.square-second.result (search rules) c.square-second.ensures.low

pub overflow_add-first : goal.overflow_add-first
overflow_add-first g c =
    let one = c.square-first.ensures in
    let other = c.square-second.ensures in
    pair-fits c.square-first.result c.square-second.result (search rules) (search rules) one.low other.low one.high
    other.high

pub loop-n-preserved : goal.loop-n-preserved
loop-n-preserved g c =
    let n = c.loop-n.n in
    let numbers = c.args.numbers.now in
    let x = sample numbers (n * 2) in
    let y = sample numbers (n * 2 + 1) in
    let p = c.square-first.result in
    let q = c.square-second.result in
    let rise = c.loop-n.invariant.steps in
    let one = c.square-first.ensures.steps in
    let other = c.square-second.ensures.steps in
    let fits_x : SFits w32 x = search rules in
    let fits_y : SFits w32 y = search rules in
    let fits_p : SFits w32 p = search rules in
    let fits_q : SFits w32 q = search rules in
    let made : SFits w64 c.from-sum.result = search rules in
    let square_x : p ≡ x *ℤ x = c.square-first.ensures.value ∙ (λ i. to_z-of_z fits_x i *ℤ to_z-of_z fits_x i) in
    let square_y : q ≡ y *ℤ y = c.square-second.ensures.value ∙ (λ i. to_z-of_z fits_y i *ℤ to_z-of_z fits_y i) in
    let pair : c.from-sum.result ≡ x *ℤ x +ℤ y *ℤ y =
    c.from-sum.ensures ∙ (λ i. pos (nat_abs (to_z-of_z fits_p i) + nat_abs (to_z-of_z fits_q i))) ∙
    unsigned p q c.square-first.ensures.low c.square-second.ensures.low ∙ (λ i. square_x i +ℤ square_y i) in
    record {
      sum = sum-two w64 _ (to_z w64 c.loop-n.sum-bits) _ (n * 2) ((n + 1) * 2) (products_of Q15 numbers numbers)
          (omega arith) c.loop-n.invariant.sum
          (wrapping_add_onto w64 c.loop-n.sum-bits c.from-sum.result c.loop-n.auto.sum-fits.fits made ∙
          ap (λ s. wrap w64 (to_z w64 c.loop-n.sum-bits +ℤ s)) pair);
      steps = record {
        multiplies_rise = omega (arith, rise.multiplies_rise, one.multiplies_rise, other.multiplies_rise);
        turns_rise = omega (arith, rise.turns_rise, one.turns_rise, other.turns_rise);
      };
    }

pub returns-then-numbers-eq1-clause-sum : goal.returns-then-numbers-eq1-clause-sum
returns-then-numbers-eq1-clause-sum g c =
    let n = c.loop-n.n in
    let numbers = c.args.numbers.now in
    let x = sample numbers (length numbers - 1) in
    let p = c.square.result in
    let fits_x : SFits w32 x = search rules in
    let fits_p : SFits w32 p = search rules in
    let made : SFits w64 c.from-sum-then-numbers-eq1.result = search rules in
    let ended : length numbers ≡ n * 2 + 1 = omega
    (arith, c.loop-n-test.false, c.loop-n.auto.n-end, c.if-numbers-eq1.true) in
    let last : x ≡ sample numbers (n * 2) = ap (sample numbers) (omega (arith, ended)) in
    let square_x : c.from-sum-then-numbers-eq1.result ≡ x *ℤ x =
    c.from-sum-then-numbers-eq1.ensures ∙ to_z-of_z fits_p ∙ c.square.ensures.value ∙
    (λ i. to_z-of_z fits_x i *ℤ to_z-of_z fits_x i) in
    products-more Q15 _ (to_z w64 c.loop-n.sum-bits) _ x x (n * 2) (length numbers) numbers numbers ended (last, last)
    c.loop-n.invariant.sum
    (wrapping_add_onto w64 c.loop-n.sum-bits c.from-sum-then-numbers-eq1.result c.loop-n.auto.sum-fits.fits made ∙
    ap (λ s. wrap w64 (to_z w64 c.loop-n.sum-bits +ℤ s)) square_x)
    ∙ ap (λ s. sum_with w64 s (length numbers) (products_of Q15 numbers numbers)) (to_z-of_z c.ranges.start)

pub returns-else-numbers-eq1-clause-sum : goal.returns-else-numbers-eq1-clause-sum
returns-else-numbers-eq1-clause-sum g c =
    let numbers = c.args.numbers.now in
    let ended : c.loop-n.n * 2 ≡ length numbers = omega
    (arith, c.loop-n-test.false, c.loop-n.auto.n-end, c.if-numbers-eq1.false) in
    c.loop-n.invariant.sum ∙
    (λ i. sum_with w64 (to_z-of_z c.ranges.start i) (ended i) (products_of Q15 numbers numbers))
