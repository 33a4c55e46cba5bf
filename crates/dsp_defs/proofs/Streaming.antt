-- The streaming laws: each block's later values after its earlier ones, and what they depend on.
use Rattle.std.proofs.Common.{◌≡◌, ℕ, suc, ◌+◌, ◌-◌, ◌<◌, ◌≤◌, ℤ, pos, ◌*ℤ◌, List, [], ◌∷◌, ◌++◌, reverse, length}
use Rattle.std.proofs.Common.{drop, replicate, refl, sym, ap, ◌∙◌, arith, length-append, ⊎_elim}
use Rattle.std.proofs.lemmas.List.{append_assoc, get_or-reverse, length-reverse, length-replicate, get_or-drop}
use Rattle.std.proofs.lemmas.List.{get_or-replicate, get_or_append_left, get_or-append_right, drop-append-le}
use Rattle.std.proofs.lemmas.List.{drop-drop}
use mathlib.Core.List.{reverse_aux, reverse_aux-eq, reverse_aux-append, reverse_aux-reverse_aux-nil}
use Rattle.std.proofs.lemmas.Bool.{cases_lt}
use Rattle.dsp_defs.specs.Formats.{close}
use Rattle.dsp_defs.specs.Signal.{sample, delayed, values, sum_below, outputs_of_history, outputs}
use Rattle.dsp_defs.specs.Sums.{convolution_at, fir}
use Rattle.dsp_defs.specs.Streaming.{Continues, IsCausal, last_of, rows}
use Rattle.dsp_defs.proofs.Signal.{values_cong, values-add, sum_below_cong, sum_below_reversed, delayed-append}
use Rattle.dsp_defs.proofs.Signal.{delayed_before, delayed_after}
use Rattle.dsp_defs.specs.declared.format.Fmt.{Fmt}

-- ---- chains

-- a causal block after a causal block is causal
pub causal_chain : {A B C : Type 0} (f : List A → List B) (g : List B → List C) → IsCausal f → IsCausal g →
    IsCausal (λ x. g (f x))
causal_chain f g f_causal g_causal x more =
    let (ys, f_continues) = f_causal x more in
    let (zs, g_continues) = g_causal (f x) ys in
    (zs, ap g f_continues ∙ g_continues)

-- what the second gives of what the first gives
pub continues_chain : {A B C : Type 0} (f : List A → List B) (g : List B → List C) (x more : List A) (ys : List B)
    (zs : List C) → Continues f x more ys → Continues g (f x) ys zs → Continues (λ w. g (f w)) x more zs
continues_chain f g x more ys zs first second = ap g first ∙ second

-- what is given in two steps
pub continues_twice : {A B : Type 0} (f : List A → List B) (x more later : List A) (ys zs : List B) →
    Continues f x more ys → Continues f (x ++ more) later zs → Continues f x (more ++ later) (ys ++ zs)
continues_twice f x more later ys zs first second =
    ap f (sym (append_assoc x more later)) ∙ second ∙ ap (λ r. r ++ zs) first ∙ append_assoc (f x) ys zs

-- ---- the sum over taps

-- what `fir` gives of more, after x
unfoldable pub fir_later : Fmt → List ℤ → List ℤ → List ℤ → List ℤ
fir_later format taps x more = values (length more) (λ i. close format
    (convolution_at (reverse taps) (x ++ more) (length x + i)))

pub fir-append : (format : Fmt) (taps x more : List ℤ) →
    Continues (fir format taps) x more (fir_later format taps x more)
unfolding fir_later
fir-append format taps x more =
    rw (length-append x more)
    (values-add (length x) (length more) (λ n. close format (convolution_at (reverse taps) (x ++ more) n))
    ∙ ap (λ front. front ++ fir_later format taps x more)
    (values_cong (length x) (λ n. close format (convolution_at (reverse taps) (x ++ more) n))
    (λ n. close format (convolution_at (reverse taps) x n))
    (λ n h. ap (close format) (sum_below_cong (length (reverse taps))
    (λ k. sample (reverse taps) k *ℤ delayed (x ++ more) n k) (λ k. sample (reverse taps) k *ℤ delayed x n k)
    (λ k _. ap (λ v. sample (reverse taps) k *ℤ v) (delayed-append x more n k h))))))

pub fir_causal : (format : Fmt) (taps : List ℤ) → IsCausal (fir format taps)
fir_causal format taps x more = (fir_later format taps x more, fir-append format taps x more)

-- a place of the window is a place of the signal
pub window_at : (x more : List ℤ) (past i j k : ℕ) → past ≡ j + k →
    sample (last_of past x ++ more) (i + j) ≡ delayed (x ++ more) (length x + i) k
window_at x more past i j k e =
    let zeros = replicate past (pos 0) in
    let fits : length x ≤ length (zeros ++ x) = omega (arith, length-append zeros x) in
    let moved : last_of past x ++ more ≡ drop (length x) (zeros ++ x ++ more) =
    sym (drop-append-le (length x) (zeros ++ x) more fits) in
    rw (moved, get_or-drop, append_assoc zeros x more)
    (⊎_elim
    (λ before. let h : length x + (i + j) < past = omega arith in
    at_zeros_before past (x ++ more) (length x + (i + j)) h ∙ sym (delayed_before (x ++ more) (length x + i) k before))
    (λ after. let h : past ≤ length x + (i + j) = omega arith in
    let same : length x + (i + j) - past ≡ length x + i - k = omega arith in
    at_zeros_after past (x ++ more) (length x + (i + j)) h ∙ ap (sample (x ++ more)) same ∙
    sym (delayed_after (x ++ more) (length x + i) k after))
    (cases_lt (length x + i) k))
  where
    at_zeros_before : (past : ℕ) (s : List ℤ) (m : ℕ) → m < past → sample (replicate past (pos 0) ++ s) m ≡ pos 0
    at_zeros_before past s m h =
        get_or_append_left (replicate past (pos 0)) s (pos 0) m (omega (arith, length-replicate past (pos 0))) ∙
        get_or-replicate past m (pos 0) (pos 0) h

    at_zeros_after : (past : ℕ) (s : List ℤ) (m : ℕ) → past ≤ m →
        sample (replicate past (pos 0) ++ s) m ≡ sample s (m - past)
    at_zeros_after past s m h = get_or-append_right (replicate past (pos 0)) s past m (pos 0)
        (length-replicate past (pos 0)) h

-- the later outputs come from the window of the last T-1 numbers and the further ones
pub fir_later-rows : (format : Fmt) (taps x more : List ℤ) → 0 < length taps →
    fir_later format taps x more ≡ rows format taps (last_of (length taps - 1) x ++ more) (length more)
unfolding fir_later
fir_later-rows format taps x more some =
    values_cong (length more) _ _ (λ i h. ap (close format) (sum i))
  where
    sum : (i : ℕ) → convolution_at (reverse taps) (x ++ more) (length x + i) ≡ sum_below (length taps)
        (λ j. sample taps j *ℤ sample (last_of (length taps - 1) x ++ more) (i + j))
    sum i = rw (length-reverse taps)
        (sum_below_reversed (length taps) (λ k. sample (reverse taps) k *ℤ delayed (x ++ more) (length x + i) k)
        (λ j. sample taps j *ℤ sample (last_of (length taps - 1) x ++ more) (i + j))
        (λ j h.
        let back : length taps - 1 - (length taps - suc j) ≡ j = omega arith in
        let inside : length taps - suc j < length taps = omega arith in
        let tap : sample (reverse taps) (length taps - suc j) ≡ sample taps j =
        get_or-reverse taps (length taps - suc j) (pos 0) inside ∙ ap (sample taps) back in
        let read : sample (last_of (length taps - 1) x ++ more) (i + j) ≡ delayed (x ++ more) (length x + i)
        (length taps - suc j) = window_at x more (length taps - 1) i j (length taps - suc j) (omega arith) in
        cc))

-- the window rolls: what it keeps after a block is the end of the past and the block
pub last_of-append : (count : ℕ) (x more : List ℤ) → last_of count (x ++ more) ≡ drop (length more)
    (last_of count x ++ more)
last_of-append count x more =
    let zeros = replicate count (pos 0) in
    let fits : length x ≤ length (zeros ++ x) = omega (arith, length-append zeros x) in
    let moved : last_of count x ++ more ≡ drop (length x) (zeros ++ x ++ more) =
    sym (drop-append-le (length x) (zeros ++ x) more fits) in
    rw (moved, drop-drop, length-append x more, append_assoc zeros x more) refl

-- ---- recurrences

-- the outputs of a recurrence for further inputs, after a history of inputs and one of outputs, the newest first
abbrev outputs_after : {A B : Type 0} → (List A → List B → B) → List A → List B → List A → List B
outputs_after next past earlier [] = []
outputs_after next past earlier (x ∷ more) =
    let y = next (x ∷ past) earlier in
    y ∷ outputs_after next (x ∷ past) (y ∷ earlier) more

history-append : {A B : Type 0} (next : List A → List B → B) (more past : List A) (earlier : List B) →
    outputs_of_history next past ≡ earlier → outputs_of_history next (reverse_aux more past) ≡ reverse_aux
    (outputs_after next past earlier more) earlier
history-append next [] past earlier e = e
history-append next (x ∷ more) past earlier e =
    history-append next more (x ∷ past) (next (x ∷ past) earlier ∷ earlier) (ap (λ r. next (x ∷ past) r ∷ r) e)

-- the later outputs of a recurrence come from the history of the inputs and of the outputs
pub outputs-append : {A B : Type 0} (next : List A → List B → B) (x more : List A) →
    Continues (outputs next) x more (outputs_after next (reverse x) (outputs_of_history next (reverse x)) more)
outputs-append next x more =
    let past = reverse x in
    let earlier = outputs_of_history next past in
    let later = outputs_after next past earlier more in
    ap (λ h. reverse (outputs_of_history next h)) (reverse_aux-append x more [])
    ∙ ap reverse (history-append next more past earlier refl)
    ∙ reverse_aux-reverse_aux-nil later earlier
    ∙ reverse_aux-eq earlier later

pub outputs_causal : {A B : Type 0} (next : List A → List B → B) → IsCausal (outputs next)
outputs_causal next x more = (
  outputs_after next (reverse x) (outputs_of_history next (reverse x)) more,
  outputs-append next x more,
)
