-- Words of contracts and proofs on signals that go on. No value of a block is defined here.
use Rattle.std.specs.Prelude.{ℕ, ◌≡◌, ◌+◌, ℤ, pos, ◌*ℤ◌, List, [], ◌∷◌, ◌++◌, length, drop, replicate}
use Rattle.dsp_defs.specs.Formats.{close}
use Rattle.dsp_defs.specs.Signal.{sample, values, sum_below}
use Rattle.dsp_defs.specs.declared.format.Fmt.{Fmt}

-- ---- what is given of further samples

-- what f gives of x followed by more is what it gives of x, and then ys
abbrev pub Continues : {A B : Type 0} → (List A → List B) → List A → List A → List B → Type 0
Continues f x more ys = f (x ++ more) ≡ f x ++ ys

-- ys begins with xs
abbrev pub Begins : {A : Type 0} → List A → List A → Type 0
Begins {A} xs ys = (rest : List A) × (ys ≡ xs ++ rest)

-- what f gives of a signal stays the beginning of what it gives of each longer one
abbrev pub IsCausal : {A B : Type 0} → (List A → List B) → Type 0
IsCausal {A} f = (x more : List A) → Begins (f x) (f (x ++ more))

-- ---- what is needed of the samples before

-- the last numbers of x, as many as `count`, with zeros before the first
abbrev pub last_of : ℕ → List ℤ → List ℤ
last_of count x = drop (length x) (replicate count (pos 0) ++ x)

-- the outputs of a filter over a window of the past and the block: out[i] = close(sum over j of taps[j] * window[i+j])
abbrev pub rows : Fmt → List ℤ → List ℤ → ℕ → List ℤ
rows format taps window n = values n (λ i. close format
    (sum_below (length taps) (λ j. sample taps j *ℤ sample window (i + j))))

-- ---- what is kept between calls

-- Where `old` is kept of a signal, a call takes `taken`, gives what f gives of it next, and keeps `new`, what is kept
-- of the longer signal.
pub record GoesOn {S A B : Type 0} (f : List A → List B) (kept : List A → S) (old new : S) (taken : List A)
    (given : List B) : Type 0 where
  pub values : (x : List A) → old ≡ kept x → Continues f x taken given
  pub stands : (x : List A) → old ≡ kept x → new ≡ kept (x ++ taken)

-- what a filter of one channel gives of a signal, and the numbers that it keeps of it
pub record Behaviour : Type 0 where
  pub gives : List ℤ → List ℤ
  pub keeps : List ℤ → List ℤ

-- one filter and then another, which takes what the first gives; its numbers stand behind
abbrev pub then : Behaviour → Behaviour → Behaviour
then b c = record { gives = λ x. c.gives (b.gives x); keeps = λ x. b.keeps x ++ c.keeps (b.gives x) }

-- filters one after another
abbrev pub chained : List Behaviour → Behaviour
chained [] = record { gives = λ x. x; keeps = λ x. [] }
chained (b ∷ bs) = then b (chained bs)
