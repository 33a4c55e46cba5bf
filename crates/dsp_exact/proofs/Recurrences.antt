-- A recursion, one value after another.
use Rattle.std.proofs.Common.{◌≡◌, ◌∙◌, ap, sym, ℕ, ◌+◌, ◌<◌, List, [], ◌∷◌, ◌++◌, reverse, length, take, get_or, arith}
use Rattle.std.proofs.lemmas.List.{reverse-append, reverse-reverse, take_more}
use Rattle.dsp_defs.specs.Signal.{outputs, outputs_of_history}
use Rattle.dsp_defs.proofs.Streaming.{outputs-append}

-- the outputs for one input more
outputs-snoc : {A B : Type 0} (next : List A → List B → B) (w : List A) (a : A) →
    outputs next (w ++ a ∷ []) ≡ outputs next w ++ next (reverse (w ++ a ∷ [])) (reverse (outputs next w)) ∷ []
outputs-snoc next w a =
    let earlier = outputs_of_history next (reverse w) in
    outputs-append next w (a ∷ [])
    ∙ ap (λ r. outputs next w ++ next r earlier ∷ []) (sym (reverse-append w (a ∷ [])))
    ∙ ap (λ h. outputs next w ++ next (reverse (w ++ a ∷ [])) h ∷ []) (sym (reverse-reverse earlier))

-- a list that is not over has a next element
next-of : {A : Type 0} (x : List A) (n : ℕ) → n < length x → (a : A) × (take (n + 1) x ≡ take n x ++ a ∷ [])
next-of [] n inside = absurd (omega (arith, inside))
next-of (a ∷ x) n inside = (get_or (a ∷ x) n a, take_more (a ∷ x) n a inside)

-- one output more
pub outputs-next : {A B : Type 0} (next : List A → List B → B) (x : List A) (n : ℕ) → n < length x →
    outputs next (take (n + 1) x) ≡ outputs next (take n x) ++ next (reverse (take (n + 1) x))
    (reverse (outputs next (take n x))) ∷ []
outputs-next next x n inside =
    let (a, more) = next-of x n inside in
    rw more (outputs-snoc next (take n x) a)
