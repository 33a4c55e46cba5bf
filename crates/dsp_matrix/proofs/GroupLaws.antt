-- Groups of a signal that goes on.
use Rattle.std.proofs.Common.{◌≡◌, ◌∙◌, ap, ap₂, sym, ℕ, ◌+◌, ◌-◌, ◌*◌, ◌/◌, ◌%◌, ◌<◌, ◌≤◌, ℤ, List, [], ◌++◌, length}
use Rattle.std.proofs.Common.{map, take, drop, arith, length-append, length-drop, length-take-le, append_assoc}
use Rattle.std.proofs.Common.{take_all, min, ⊎_elim}
use Rattle.std.proofs.lemmas.Bool.{cases_lt}
use Rattle.std.proofs.lemmas.List.{length-map, drop-map, append-nil, take-append-drop, take-append-le, drop-append-le}
use Rattle.std.proofs.lemmas.Nat.{div-mul-add, mod-mul-add, div-add-mod', div_below, mod_below, mul-le}
use Rattle.std.proofs.Math.Nat.{mul-add-div_right, mod-eq_of_lt}
use Rattle.std.proofs.Math.Seq.{drop-append-add}
use Rattle.dsp_defs.specs.Signal.{values}
use Rattle.dsp_defs.specs.Streaming.{Continues}
use Rattle.dsp_defs.specs.Matrix.{each_group}
use Rattle.dsp_defs.specs.Kept.{open_group}
use Rattle.dsp_defs.proofs.Signal.{values_cong, values-add}
use Rattle.dsp_matrix.specs.Groups.{Group, given_group, given_groups, left_open}
use Rattle.dsp_defs.proofs.BlockLaws.{length-values}

-- ---- samples

module _ (t g : ℕ) (result : List ℤ → ℕ → ℤ) (some : 0 < t) where
  pub length-given : (x : List ℤ) → length (each_group t g result x) ≡ length x / t * g
  length-given x = length-values (length x / t * g) _

  no-groups : (x : List ℤ) → length x < t → length x / t ≡ 0
  no-groups x short = ap (λ k. k / t) (omega arith) ∙ div-mul-add 0 t (length x) short

  -- fewer samples than a group has give nothing, and all stay open
  short-gives : (x : List ℤ) → length x < t → each_group t g result x ≡ []
  short-gives x short =
      let none : length x / t * g ≡ 0 = (ap (λ q. q * g) (no-groups x short) ∙ omega arith) in
      ap (λ n. values n (λ i. result (take t (drop (i / g * t) x)) (i % g))) none

  pub short-open : (x : List ℤ) → length x < t → open_group t x ≡ x
  short-open x short =
      let none : length x / t * t ≡ 0 = (ap (λ q. q * t) (no-groups x short) ∙ omega arith) in
      ap (λ n. drop n x) none

  module _ (x y : List ℤ) (q : ℕ) (whole : length x ≡ q * t) where
    long : length (x ++ y) / t ≡ q + length y / t
    long = ap (λ n. n / t) (length-append x y ∙ ap (λ n. n + length y) whole) ∙ mul-add-div_right some q (length y)

    first : length x / t ≡ q
    first = ap (λ n. n / t) (whole ∙ omega arith) ∙ div-mul-add q t 0 some

    -- behind whole groups others begin
    whole-open : open_group t (x ++ y) ≡ open_group t y
    whole-open =
        let place : length (x ++ y) / t * t ≡ length x + length y / t * t =
        (ap (λ n. n * t) long ∙ omega (arith, whole)) in
        ap (λ n. drop n (x ++ y)) place ∙ drop-append-add x y (length y / t * t)

    before : (i : ℕ) → i < q * g → result (take t (drop (i / g * t) (x ++ y))) (i % g) ≡ result
        (take t (drop (i / g * t) x)) (i % g)
    before i h =
        let group : i / g < q = div_below i g q (omega-some i h) h in
        let rows : (i / g + 1) * t ≤ q * t = mul-le (i / g + 1) t q t (omega arith) (omega arith) in
        let start : i / g * t ≤ length x = omega (arith, rows, whole) in
        let room : t ≤ length (drop (i / g * t) x) = omega (arith, length-drop (i / g * t) x, rows, whole) in
        ap (λ a. result a (i % g)) (ap (take t) (drop-append-le (i / g * t) x y start) ∙
        take-append-le t (drop (i / g * t) x) y room)
      where
        omega-some : (i : ℕ) → i < q * g → 0 < g
        omega-some i h = grind (arith, h)

    behind : (i : ℕ) → i < length y / t * g → result (take t (drop ((q * g + i) / g * t) (x ++ y))) ((q * g + i) % g)
        ≡ result (take t (drop (i / g * t) y)) (i % g)
    behind i h =
        let size : 0 < g = some-given (length y / t) i h in
        let place : (q * g + i) / g ≡ q + i / g = mul-add-div_right size q i in
        let left : (q * g + i) % g ≡ i % g = same-rest i size in
        let start : (q * g + i) / g * t ≡ length x + i / g * t = (ap (λ n. n * t) place ∙ omega (arith, whole)) in
        ap₂ (λ a k. result a k) (ap (take t) (ap (λ n. drop n (x ++ y)) start ∙ drop-append-add x y (i / g * t))) left
      where
        some-given : (n i : ℕ) → i < n * g → 0 < g
        some-given n i h = grind (arith, h)

        same-rest : (i : ℕ) → 0 < g → (q * g + i) % g ≡ i % g
        same-rest i size =
            let parts : q * g + i ≡ (q + i / g) * g + i % g = omega (arith, div-add-mod' i g) in
            ap (λ n. n % g) parts ∙ mod-mul-add (q + i / g) g (i % g) (mod_below i g size)

    whole-gives : each_group t g result (x ++ y) ≡ each_group t g result x ++ each_group t g result y
    whole-gives =
        let f = λ (i : ℕ). result (take t (drop (i / g * t) (x ++ y))) (i % g) in
        let count : length (x ++ y) / t * g ≡ q * g + length y / t * g = (ap (λ n. n * g) long ∙ omega arith) in
        ap (λ n. values n f) count
        ∙ values-add (q * g) (length y / t * g) f
        ∙ ap₂ (λ a b. a ++ b)
        (values_cong (q * g) f (λ i. result (take t (drop (i / g * t) x)) (i % g)) before
        ∙ ap (λ n. values (n * g) (λ i. result (take t (drop (i / g * t) x)) (i % g))) (sym first))
        (values_cong (length y / t * g) (λ i. f (q * g + i)) (λ i. result (take t (drop (i / g * t) y)) (i % g)) behind)

  -- a signal is its whole groups and the open one
  module _ (x : List ℤ) where
    front : List ℤ
    front = take (length x / t * t) x

    parts : x ≡ take (length x / t * t) x ++ open_group t x
    parts = sym (take-append-drop (length x / t * t) x)

    fronts : length (take (length x / t * t) x) ≡ length x / t * t
    fronts = length-take-le (length x / t * t) x (omega (arith, div-add-mod' (length x) t))

    pub length-open : length (open_group t x) ≡ length x % t
    length-open = length-drop (length x / t * t) x ∙ omega (arith, div-add-mod' (length x) t)

    left : length (open_group t x) < t
    left = omega (arith, length-open, mod_below (length x) t some)

    gives-front : each_group t g result x ≡ each_group t g result (take (length x / t * t) x)
    gives-front =
        ap (each_group t g result) parts
        ∙ whole-gives (take (length x / t * t) x) (open_group t x) (length x / t) fronts
        ∙ ap (λ l. each_group t g result (take (length x / t * t) x) ++ l) (short-gives (open_group t x) left)
        ∙ append-nil _

    longer : (more : List ℤ) → x ++ more ≡ take (length x / t * t) x ++ (open_group t x ++ more)
    longer more = ap (λ l. l ++ more) parts ∙ append_assoc (take (length x / t * t) x) (open_group t x) more

    -- what the groups of a longer signal become, from the open group on
    pub gives-more : (more : List ℤ) → Continues (each_group t g result) x more
        (each_group t g result (open_group t x ++ more))
    gives-more more =
        ap (each_group t g result) (longer more)
        ∙ whole-gives (take (length x / t * t) x) (open_group t x ++ more) (length x / t) fronts
        ∙ ap (λ l. l ++ each_group t g result (open_group t x ++ more)) (sym gives-front)

    -- and what is left of it
    pub stays-open : (more : List ℤ) → open_group t (x ++ more) ≡ open_group t (open_group t x ++ more)
    stays-open more = ap (open_group t) (longer more) ∙
        whole-open (take (length x / t * t) x) (open_group t x ++ more) (length x / t) fronts

-- ---- an open group and the samples that follow it

module _ (of : Group) (some : 0 < of.taken) (old more : List ℤ) where
  -- they may be fewer than a group has
  pub still-gives : length old + length more < of.taken → given_groups of (old ++ more) ≡ []
  still-gives short = short-gives of.taken of.given of.result some (old ++ more)
      (omega (arith, short, length-append old more))

  pub still-open : length old + length more < of.taken → left_open of (old ++ more) ≡ old ++ more
  still-open short = short-open of.taken of.given of.result some (old ++ more)
      (omega (arith, short, length-append old more))

  pub still-none : length old + length more < of.taken → (length old + length more) / of.taken ≡ 0
  still-none short = ap (λ k. k / of.taken) (omega arith) ∙ div-mul-add 0 of.taken (length old + length more) short

  -- or make it whole
  module _ (first rest : List ℤ) (parts : more ≡ first ++ rest) (full : length old + length first ≡ of.taken) where
    whole : length (old ++ first) ≡ 1 * of.taken
    whole = length-append old first ∙ full ∙ omega arith

    joined : old ++ more ≡ (old ++ first) ++ rest
    joined = ap (λ l. old ++ l) parts ∙ sym (append_assoc old first rest)

    whole-group : given_groups of (old ++ first) ≡ given_group of (old ++ first)
    whole-group =
        let one : length (old ++ first) / of.taken ≡ 1 = (ap (λ n. n / of.taken) (whole ∙ omega arith) ∙
        div-mul-add 1 of.taken 0 some) in
        let count : length (old ++ first) / of.taken * of.given ≡ of.given =
        (ap (λ n. n * of.given) one ∙ omega arith) in
        let long : length (old ++ first) ≡ of.taken = (length-append old first ∙ full) in
        ap (λ n. values n (λ i. of.result (take of.taken (drop (i / of.given * of.taken) (old ++ first)))
        (i % of.given))) count
        ∙ values_cong of.given _ _
        (λ i h.
        let front : i / of.given * of.taken ≡ 0 = (ap (λ q. q * of.taken) (no-group i of.given h) ∙ omega arith) in
        let place : i % of.given ≡ i = mod-eq_of_lt h in
        ap₂ (λ a k. of.result a k) (ap (λ n. take of.taken (drop n (old ++ first))) front ∙
        take_all of.taken (old ++ first) (omega (arith, long))) place)
      where
        no-group : (i n : ℕ) → i < n → i / n ≡ 0
        no-group i n h = ap (λ k. k / n) (omega arith) ∙ div-mul-add 0 n i h

    pub completed-gives : given_groups of (old ++ more) ≡ given_group of (old ++ first) ++ given_groups of rest
    completed-gives =
        ap (given_groups of) joined
        ∙ whole-gives of.taken of.given of.result some (old ++ first) rest 1 whole
        ∙ ap (λ l. l ++ given_groups of rest) whole-group

    pub completed-open : left_open of (old ++ more) ≡ left_open of rest
    completed-open = ap (left_open of) joined ∙ whole-open of.taken of.given of.result some (old ++ first) rest 1 whole

    pub completed-count : (length old + length more) / of.taken ≡ 1 + length rest / of.taken
    completed-count =
        let long : length old + length more ≡ 1 * of.taken + length rest =
        omega (arith, ap length parts, length-append first rest, full) in
        ap (λ n. n / of.taken) long ∙ mul-add-div_right some 1 (length rest)

-- what is left behind the whole groups of some samples
pub left-behind : {X : Type 0} (number : X → ℤ) (of : Group) (xs : List X) (place gap : ℕ) →
    place ≡ length xs / of.taken * of.taken → gap ≡ length xs - place →
    map number (take gap (drop place xs)) ≡ left_open of (map number xs)
left-behind number of xs place gap start size =
    let all : length (drop place xs) ≤ gap = omega (arith, length-drop place xs, size) in
    ap (map number) (take_all gap (drop place xs) all)
    ∙ sym (drop-map number place xs)
    ∙ ap (λ n. drop n (map number xs)) (start ∙ ap (λ n. n / of.taken * of.taken) (sym (length-map xs number)))

-- ---- an open group that is filled

-- it has taken all samples, or has become whole
pub fill-short : (size p m start : ℕ) → p < size → start ≡ min (size - p) m → ((p + start ≡ size) → ⊥) → (start ≡ m) ×
    (p + m < size)
fill-short size p m start below is no_whole =
    ⊎_elim
    (λ (short : p + m < size). (omega (arith, short, is), short))
    (λ (enough : size ≤ p + m). let whole : p + start ≡ size = omega (arith, enough, is, below) in
    absurd (no_whole whole))
    (cases_lt (p + m) size)
