-- Machines one after another, in pieces.
use Rattle.std.proofs.Common.{◌≡◌, ◌∙◌, ap, ap₂, sym, subst, refl, ℕ, ◌+◌, ◌*◌, ◌<◌, ◌≤◌, ℤ, List, [], ◌∷◌, ◌++◌, map}
use Rattle.std.proofs.Common.{flat_map, length, take, drop, set, get_or, arith, length-set}
use Rattle.std.proofs.lemmas.List.{append_assoc, append-nil, map-append, take_more, take_more_set, get_or-drop}
use Rattle.std.proofs.lemmas.List.{drop-set-lt, drop-drop}
use Rattle.std.proofs.lemmas.Grind.{flat_map-append}
use Rattle.dsp_defs.specs.Counts.{Counts, Rises}
use Rattle.dsp_defs.specs.Streaming.{Behaviour, GoesOn, then, chained}
use Rattle.dsp_unit.proofs.GoingOn.{goes-chain, chained-append, chained-one, chained-two, then-size}

-- ---- a list that is written two places at a time

module _ {X : Type 0} (olds news : List X) (at : ℕ) (rest : drop at news ≡ drop at olds) where
  there : (k : ℕ) (d : X) → get_or news (at + k) d ≡ get_or olds (at + k) d
  there k d = sym (get_or-drop at news k d) ∙ ap (λ l. get_or l k d) rest ∙ get_or-drop at olds k d

  here : (d : X) → get_or news at d ≡ get_or olds at d
  here d = let none : at + 0 ≡ at = omega arith in ap (λ k. get_or news k d) (sym none) ∙ there 0 d ∙
      ap (λ k. get_or olds k d) none

  behind : (k : ℕ) → drop (at + k) news ≡ drop (at + k) olds
  behind k = sym (drop-drop k at news) ∙ ap (drop k) rest ∙ drop-drop k at olds

  -- what was read of two places, of one, and what is written there
  two-read : (x y : X) → x ≡ get_or news at x → y ≡ get_or news (at + 1) y → at + 1 < length olds →
      take (at + 2) olds ≡ take at olds ++ x ∷ y ∷ []
  two-read x y first second inside =
      let two : at + 2 ≡ at + 1 + 1 = omega arith in
      ap (λ k. take k olds) two ∙ take_more olds (at + 1) y inside ∙
      ap (λ t. t ++ get_or olds (at + 1) y ∷ []) (take_more olds at x (omega arith))
      ∙ append_assoc (take at olds) (get_or olds at x ∷ []) (get_or olds (at + 1) y ∷ [])
      ∙ ap₂ (λ v w. take at olds ++ v ∷ w ∷ []) (sym (first ∙ here x)) (sym (second ∙ there 1 y))

  one-read : (x : X) → x ≡ get_or news at x → at < length olds → take (at + 1) olds ≡ take at olds ++ x ∷ []
  one-read x first inside = take_more olds at x inside ∙ ap (λ v. take at olds ++ v ∷ []) (sym (first ∙ here x))

  two-written : (p q : X) → at + 1 < length news →
      take (at + 2) (set (set news at p) (at + 1) q) ≡ take at news ++ p ∷ q ∷ []
  two-written p q inside =
      let long = length-set news at p in
      let two : at + 2 ≡ at + 1 + 1 = omega arith in
      ap (λ k. take k (set (set news at p) (at + 1) q)) two
      ∙ take_more_set (set news at p) (at + 1) q (omega (arith, long))
      ∙ ap (λ t. t ++ q ∷ []) (take_more_set news at p (omega arith))
      ∙ append_assoc (take at news) (p ∷ []) (q ∷ [])

  pub two-behind : (p q : X) → drop (at + 2) (set (set news at p) (at + 1) q) ≡ drop (at + 2) olds
  two-behind p q =
      drop-set-lt (at + 2) (set news at p) (at + 1) q (omega arith) ∙ drop-set-lt (at + 2) news at p (omega arith) ∙
      behind 2

  -- what was read of a place that was not written yet
  there-yet : (k : ℕ) (p q x : X) → x ≡ get_or news (at + 2 + k) x →
      x ≡ get_or (set (set news at p) (at + 1) q) (at + 2 + k) x
  there-yet k p q x read =
      let written = set (set news at p) (at + 1) q in
      read ∙ sym (get_or-drop (at + 2) news k x) ∙ ap (λ l. get_or l k x) (behind 2 ∙ sym (two-behind p q)) ∙
      get_or-drop (at + 2) written k x

-- the machines before `at` gave what stands in the samples
pub record HaveRun {X S : Type 0} (does : X → Behaviour) (keeps : X → List ℤ) (number : S → ℤ) (price : ℕ)
    (olds news : List X) (at : ℕ) (xs ys : List S) (before after : Counts) : Type 0 where
  pub inside : at ≤ length olds
  pub acts : chained (map does (take at news)) ≡ chained (map does (take at olds))
  pub goes : GoesOn (chained (map does (take at olds))).gives (chained (map does (take at olds))).keeps
      (flat_map keeps (take at olds)) (flat_map keeps (take at news)) (map number xs) (map number ys)
  pub rest : drop at news ≡ drop at olds
  pub steps : Rises before after (length xs * (at * price)) (length xs * (at * price))

module _ {X : Type 0} (acts : X → Behaviour) (kept : X → List ℤ)
    (size : (m : X) (x : List ℤ) → length (kept m) ≡ length ((acts m).keeps x)) where
  abbrev all_act : List X → Behaviour
  all_act ms = chained (map acts ms)

  abbrev all_kept : List X → List ℤ
  all_kept ms = flat_map kept ms

  all-size : (ms : List X) (x : List ℤ) → length (all_kept ms) ≡ length ((all_act ms).keeps x)
  all-size [] x = refl
  all-size (m ∷ ms) x = then-size (acts m) (all_act ms) (kept m) (all_kept ms) (size m) (all-size ms) x

  act-append : (ms ns : List X) → all_act (ms ++ ns) ≡ then (all_act ms) (all_act ns)
  act-append ms ns = ap chained (map-append acts ms ns) ∙ chained-append (map acts ms) (map acts ns)

  -- a piece of a chain that still acts as before
  acts-more : (front front' piece piece' : List X) → all_act front' ≡ all_act front →
      all_act piece' ≡ all_act piece → all_act (front' ++ piece') ≡ all_act (front ++ piece)
  acts-more front front' piece piece' e e' = act-append front' piece' ∙ ap₂ then e e' ∙ sym (act-append front piece)

  -- a piece that takes what the front gives
  chain-more : (front front' piece piece' : List X) (xs ys zs : List ℤ) →
      GoesOn (all_act front).gives (all_act front).keeps (all_kept front) (all_kept front') xs ys →
      GoesOn (all_act piece).gives (all_act piece).keeps (all_kept piece) (all_kept piece') ys zs →
      GoesOn (all_act (front ++ piece)).gives (all_act (front ++ piece)).keeps (all_kept (front ++ piece))
      (all_kept (front' ++ piece')) xs zs
  chain-more front front' piece piece' xs ys zs first second =
      let both = goes-chain (all_act front).gives (all_act piece).gives (all_act front).keeps (all_act piece).keeps
      (all_kept front) (all_kept front') (all_kept piece) (all_kept piece') xs ys zs (all-size front) first second
      in
      rw (flat_map-append kept front piece, flat_map-append kept front' piece')
      (subst (λ (b : Behaviour). GoesOn b.gives b.keeps (all_kept front ++ all_kept piece)
      (all_kept front' ++ all_kept piece') xs zs) (sym (act-append front piece)) both)

  -- a piece of two, and of one
  two-go : (p q p' q' : X) (xs ys : List ℤ) → GoesOn (then (acts p) (acts q)).gives (then (acts p) (acts q)).keeps
      (kept p ++ kept q) (kept p' ++ kept q') xs ys →
      GoesOn (all_act (p ∷ q ∷ [])).gives (all_act (p ∷ q ∷ [])).keeps (all_kept (p ∷ q ∷ []))
      (all_kept (p' ∷ q' ∷ [])) xs ys
  two-go p q p' q' xs ys goes =
      rw (append-nil (kept q), append-nil (kept q'))
      (subst (λ (b : Behaviour). GoesOn b.gives b.keeps (kept p ++ kept q) (kept p' ++ kept q') xs ys)
      (sym (chained-two (acts p) (acts q))) goes)

  two-act : (p q p' q' : X) → then (acts p') (acts q') ≡ then (acts p) (acts q) →
      all_act (p' ∷ q' ∷ []) ≡ all_act (p ∷ q ∷ [])
  two-act p q p' q' same = chained-two (acts p') (acts q') ∙ same ∙ sym (chained-two (acts p) (acts q))

  one-goes : (p p' : X) (xs ys : List ℤ) → GoesOn (acts p).gives (acts p).keeps (kept p) (kept p') xs ys →
      GoesOn (all_act (p ∷ [])).gives (all_act (p ∷ [])).keeps (all_kept (p ∷ [])) (all_kept (p' ∷ [])) xs ys
  one-goes p p' xs ys goes =
      rw (append-nil (kept p), append-nil (kept p'))
      (subst (λ (b : Behaviour). GoesOn b.gives b.keeps (kept p) (kept p') xs ys) (sym (chained-one (acts p))) goes)

  one-acts : (p p' : X) → acts p' ≡ acts p → all_act (p' ∷ []) ≡ all_act (p ∷ [])
  one-acts p p' same = chained-one (acts p') ∙ same ∙ sym (chained-one (acts p))

  -- ---- a loop over the machines of a chain, of which those before `at` have worked

  module _ (olds news : List X) (at : ℕ) (rest : drop at news ≡ drop at olds)
      (before : all_act (take at news) ≡ all_act (take at olds)) where
    pub two-more-act : (x y p q : X) → x ≡ get_or news at x → y ≡ get_or news (at + 1) y → at + 1 < length olds →
        at + 1 < length news → then (acts p) (acts q) ≡ then (acts x) (acts y) →
        all_act (take (at + 2) (set (set news at p) (at + 1) q)) ≡ all_act (take (at + 2) olds)
    two-more-act x y p q first second inside inside' same =
        rw (two-read olds news at rest x y first second inside, two-written olds news at rest p q inside')
        (acts-more (take at olds) (take at news) (x ∷ y ∷ []) (p ∷ q ∷ []) before (two-act x y p q same))

    pub one-more-acts : (x p : X) → x ≡ get_or news at x → at < length olds → at < length news → acts p ≡ acts x →
        all_act (take (at + 1) (set news at p)) ≡ all_act (take (at + 1) olds)
    one-more-acts x p first inside inside' same =
        rw (one-read olds news at rest x first inside, take_more_set news at p inside')
        (acts-more (take at olds) (take at news) (x ∷ []) (p ∷ []) before (one-acts x p same))

    module _ (xs ys zs : List ℤ) (so_far : GoesOn (all_act (take at olds)).gives (all_act (take at olds)).keeps
        (all_kept (take at olds)) (all_kept (take at news)) xs ys) where
      pub two-more-go : (x y p q : X) → x ≡ get_or news at x → y ≡ get_or news (at + 1) y → at + 1 < length olds →
          at + 1 < length news →
          GoesOn (then (acts x) (acts y)).gives (then (acts x) (acts y)).keeps (kept x ++ kept y) (kept p ++ kept q)
          ys zs →
          GoesOn (all_act (take (at + 2) olds)).gives (all_act (take (at + 2) olds)).keeps
          (all_kept (take (at + 2) olds)) (all_kept (take (at + 2) (set (set news at p) (at + 1) q))) xs zs
      two-more-go x y p q first second inside inside' goes =
          rw (two-read olds news at rest x y first second inside, two-written olds news at rest p q inside')
          (chain-more (take at olds) (take at news) (x ∷ y ∷ []) (p ∷ q ∷ []) xs ys zs so_far
          (two-go x y p q ys zs goes))

      pub one-more-goes : (x p : X) → x ≡ get_or news at x → at < length olds → at < length news →
          GoesOn (acts x).gives (acts x).keeps (kept x) (kept p) ys zs →
          GoesOn (all_act (take (at + 1) olds)).gives (all_act (take (at + 1) olds)).keeps
          (all_kept (take (at + 1) olds)) (all_kept (take (at + 1) (set news at p))) xs zs
      one-more-goes x p first inside inside' goes =
          rw (one-read olds news at rest x first inside, take_more_set news at p inside')
          (chain-more (take at olds) (take at news) (x ∷ []) (p ∷ []) xs ys zs so_far (one-goes x p ys zs goes))

  -- ---- four machines of a chain that worked side by side

  module _ (olds news : List X) (at : ℕ) (inside : at + 3 < length olds) (inside' : at + 3 < length news)
      (x y z w p q r t : X) (first : x ≡ get_or news at x) (second : y ≡ get_or news (at + 1) y)
      (third : z ≡ get_or news (at + 2) z) (fourth : w ≡ get_or news (at + 3) w) where
    abbrev half : List X
    half = set (set news at p) (at + 1) q

    abbrev four_written : List X
    four_written = set (set (set (set news at p) (at + 1) q) (at + 2) r) (at + 3) t

    long : length half ≡ length news
    long = length-set (set news at p) (at + 1) q ∙ length-set news at p

    one-on : at + 2 + 1 ≡ at + 3
    one-on = omega arith

    two-on : at + 2 + 2 ≡ at + 4
    two-on = omega arith

    module _ (rest : drop at news ≡ drop at olds) where
      third' : z ≡ get_or half (at + 2) z
      third' =
          let none : at + 2 + 0 ≡ at + 2 = omega arith in
          subst (λ k. z ≡ get_or half k z) none (there-yet olds news at rest 0 p q z
          (subst (λ k. z ≡ get_or news k z) (sym none) third))

      fourth' : w ≡ get_or half (at + 2 + 1) w
      fourth' = there-yet olds news at rest 1 p q w (subst (λ k. w ≡ get_or news k w) (sym one-on) fourth)

      pub four-behind : drop (at + 4) four_written ≡ drop (at + 4) olds
      four-behind =
          (λ i. drop (sym two-on i) (set (set half (at + 2) r) (sym one-on i) t))
          ∙ two-behind olds half (at + 2) (two-behind olds news at rest p q) r t
          ∙ ap (λ k. drop k olds) two-on

      module _ (before : all_act (take at news) ≡ all_act (take at olds))
          (same : then (acts p) (acts q) ≡ then (acts x) (acts y)) where
        half-acts : all_act (take (at + 2) half) ≡ all_act (take (at + 2) olds)
        half-acts = two-more-act olds news at rest before x y p q first second (omega (arith, inside))
            (omega (arith, inside')) same

        pub four-more-act : then (acts r) (acts t) ≡ then (acts z) (acts w) →
            all_act (take (at + 4) four_written) ≡ all_act (take (at + 4) olds)
        four-more-act same' =
            (λ i. all_act (take (sym two-on i) (set (set half (at + 2) r) (sym one-on i) t)))
            ∙ two-more-act olds half (at + 2) (two-behind olds news at rest p q) half-acts z w r t third' fourth'
            (omega (arith, inside)) (omega (arith, inside', long)) same'
            ∙ ap (λ k. all_act (take k olds)) two-on

        pub four-more-go : (xs ys two zs : List ℤ) → GoesOn (all_act (take at olds)).gives
            (all_act (take at olds)).keeps (all_kept (take at olds)) (all_kept (take at news)) xs ys →
            GoesOn (then (acts x) (acts y)).gives (then (acts x) (acts y)).keeps (kept x ++ kept y) (kept p ++ kept q)
            ys two →
            GoesOn (then (acts z) (acts w)).gives (then (acts z) (acts w)).keeps (kept z ++ kept w) (kept r ++ kept t)
            two zs →
            GoesOn (all_act (take (at + 4) olds)).gives (all_act (take (at + 4) olds)).keeps
            (all_kept (take (at + 4) olds)) (all_kept (take (at + 4) four_written)) xs zs
        four-more-go xs ys two zs so_far goes goes' =
            let so_far' = two-more-go olds news at rest before xs ys two so_far x y p q first second
            (omega (arith, inside)) (omega (arith, inside')) goes in
            let all = two-more-go olds half (at + 2) (two-behind olds news at rest p q) half-acts xs two zs so_far' z
            w r t third' fourth' (omega (arith, inside)) (omega (arith, inside', long)) goes' in
            subst (λ k. GoesOn (all_act (take k olds)).gives (all_act (take k olds)).keeps (all_kept (take k olds))
            (all_kept (take k four_written)) xs zs) two-on
            (subst (λ k. GoesOn (all_act (take (at + 2 + 2) olds)).gives (all_act (take (at + 2 + 2) olds)).keeps
            (all_kept (take (at + 2 + 2) olds)) (all_kept (take (at + 2 + 2) (set (set half (at + 2) r) k t))) xs
            zs) one-on all)
