-- Each block's values stay when its signal goes on.
use Rattle.std.proofs.Common.{◌≡◌, ℕ, suc, ◌+◌, ◌-◌, ◌*◌, ◌/◌, ◌%◌, ◌<◌, ◌≤◌, min, ℤ, ◌*ℤ◌, List, [], ◌∷◌, ◌++◌, map}
use Rattle.std.proofs.Common.{reverse, length, get_or, take, drop, refl, sym, ap, ◌∙◌, arith, length-append, fold}
use Rattle.std.proofs.Common.{⊎_elim}
use Rattle.std.proofs.lemmas.Grind.{common_steps}
use Rattle.std.proofs.lemmas.List.{length-map, length-reverse, take-append-le, drop-append-le, length-drop, take_all}
use Rattle.std.proofs.lemmas.Bool.{cases_lt}
use Rattle.std.proofs.lemmas.List.FromFn.{length-map-range_with_len, take-map-range_with_len}
use Rattle.dsp_defs.specs.Formats.{close}
use Rattle.dsp_defs.specs.Signal.{sample, delayed, values, sum_below, outputs_of_history, outputs}
use Rattle.dsp_defs.specs.Sums.{convolution_at, phase_taps, sparse_term, sparse_close, full_length, fir, sparse}
use Rattle.dsp_defs.specs.Sums.{decimate, interpolate, conv, conv_partial}
use Rattle.dsp_defs.specs.Lattice.{lattice_output, lattice_section, lattice_fir, ladder_output, lattice_iir}
use Rattle.dsp_defs.specs.Biquad.{Section, sections, section_output, biquad_section, biquad, wide_output}
use Rattle.dsp_defs.specs.Biquad.{biquad64_section, biquad64}
use Rattle.dsp_defs.specs.Adaptive.{pid, pid_gains, pid_output, lms, lms_output}
use Rattle.dsp_defs.specs.Matrix.{each_group}
use Rattle.dsp_defs.specs.Streaming.{Begins, IsCausal}
use Rattle.dsp_defs.specs.Block.{live_conv, live_conv_partial}
use Rattle.dsp_defs.proofs.Signal.{sum_below_cong, delayed-append}
use Rattle.dsp_defs.proofs.Causal.{GivesByLength, values_begins, map_causal}
use Rattle.dsp_defs.proofs.Streaming.{outputs_causal, causal_chain}
use Rattle.dsp_defs.specs.declared.format.Fmt.{Fmt}
use Rattle.dsp_defs.specs.declared.format.Fmt.TheVariants.{Q31}

pub product_below : (j n m : ℕ) → j < n / m → j * m + m ≤ n
product_below j n m h = grind arith

start_below : (j n m : ℕ) → j < n / m → j * m < n
start_below j n m h = grind arith

quotient_below : (i n l : ℕ) → i < n * l → i / l < n
quotient_below i n l h = grind arith

pub quotient_grows : (n k m : ℕ) → n / m ≤ (n + k) / m
quotient_grows n k m = grind arith

product_grows : (n k m : ℕ) → n * m ≤ (n + k) * m
product_grows n k m = grind arith

-- ---- values by their place

pub length-values : {A : Type 0} (n : ℕ) (f : ℕ → A) → length (values n f) ≡ n
length-values n f = length-map-range_with_len f 0 n

pub values_by_length : {A B : Type 0} (count : ℕ → ℕ) (f : List A → ℕ → B) →
    GivesByLength (λ x. values (count (length x)) (f x))
values_by_length count f x x' e = length-values (count (length x)) (f x) ∙ ap count e ∙
    sym (length-values (count (length x')) (f x'))

values_causal : {A B : Type 0} (count : ℕ → ℕ) (f : List A → ℕ → B) → ((n k : ℕ) → count n ≤ count (n + k)) →
    ((x more : List A) (i : ℕ) → i < count (length x) → f (x ++ more) i ≡ f x i) →
    IsCausal (λ x. values (count (length x)) (f x))
values_causal count f grows same x more =
    values_begins (count (length x)) (count (length (x ++ more))) (f x) (f (x ++ more))
    (rw length-append (grows (length x) (length more))) (same x more)

convolution_at-append : (b x more : List ℤ) (n : ℕ) → n < length x →
    convolution_at b (x ++ more) n ≡ convolution_at b x n
convolution_at-append b x more n h =
    sum_below_cong (length b) (λ k. sample b k *ℤ delayed (x ++ more) n k) (λ k. sample b k *ℤ delayed x n k)
    (λ k _. ap (λ v. sample b k *ℤ v) (delayed-append x more n k h))

pub fir_causal : (format : Fmt) (taps : List ℤ) → IsCausal (fir format taps)
fir_causal format taps =
    values_causal (λ n. n) (λ x n. close format (convolution_at (reverse taps) x n)) (λ n k. omega arith)
    (λ x more n h. ap (close format) (convolution_at-append (reverse taps) x more n h))

pub decimate_causal : (format : Fmt) (factor : ℕ) (taps : List ℤ) → IsCausal (decimate format factor taps)
decimate_causal format factor taps =
    values_causal (λ n. n / factor) (λ x j. close format (convolution_at (reverse taps) x (j * factor)))
    (λ n k. quotient_grows n k factor)
    (λ x more j h. ap (close format) (convolution_at-append (reverse taps) x more (j * factor)
    (start_below j (length x) factor h)))

pub interpolate_causal : (format : Fmt) (factor : ℕ) (taps : List ℤ) → IsCausal (interpolate format factor taps)
interpolate_causal format factor taps =
    values_causal (λ n. n * factor) (λ x i. close format
    (convolution_at (phase_taps factor (reverse taps) (i % factor)) x (i / factor)))
    (λ n k. product_grows n k factor)
    (λ x more i h. ap (close format) (convolution_at-append (phase_taps factor (reverse taps) (i % factor)) x more
    (i / factor) (quotient_below i (length x) factor h)))

pub sparse_causal : (format : Fmt) (b : List ℤ) (delays : List ℕ) → IsCausal (sparse format b delays)
sparse_causal format b delays =
    values_causal (λ n. n) (λ x n. sparse_close format (sum_below (length b)
    (λ k. sparse_term format (sample b k) (delayed x n (get_or delays k 0))))) (λ n k. omega arith)
    (λ x more n h. ap (sparse_close format) (sum_below_cong (length b) _ _
    (λ k _. ap (sparse_term format (sample b k)) (delayed-append x more n (get_or delays k 0) h))))

pub each_group_causal : (taken given : ℕ) (result : List ℤ → ℕ → ℤ) → IsCausal (each_group taken given result)
each_group_causal taken given result =
    values_causal (λ n. n / taken * given) (λ x i. result (take taken (drop (i / given * taken) x)) (i % given))
    (λ n k. grows (n / taken) ((n + k) / taken) given (quotient_grows n k taken))
    (λ x more i h. ap (λ group. result group (i % given))
    (whole_group x more (i / given) (product_below (i / given) (length x) taken
    (quotient_below i (length x / taken) given h))))
  where
    grows : (a b c : ℕ) → a ≤ b → a * c ≤ b * c
    grows a b c h = grind arith

    whole_group : (x more : List ℤ) (q : ℕ) → q * taken + taken ≤ length x →
        take taken (drop (q * taken) (x ++ more)) ≡ take taken (drop (q * taken) x)
    whole_group x more q h =
        let start : q * taken ≤ length x = omega arith in
        let room : taken ≤ length (drop (q * taken) x) = omega (arith, length-drop (q * taken) x) in
        rw (drop-append-le (q * taken) x more start) (take-append-le taken (drop (q * taken) x) more room)

-- ---- recurrences

length-history : {A B : Type 0} (next : List A → List B → B) (x : List A) →
    length (outputs_of_history next x) ≡ length x
length-history next [] = refl
length-history next (a ∷ x) = ap suc (length-history next x)

pub length-outputs : {A B : Type 0} (next : List A → List B → B) (x : List A) → length (outputs next x) ≡ length x
length-outputs next x = length-reverse (outputs_of_history next (reverse x)) ∙ length-history next (reverse x) ∙
    length-reverse x

-- a section after another, each of which keeps the length
module _ {A C : Type 0} (section : List A → C → List A) (section_causal : (c : C) → IsCausal (λ x. section x c))
    (section_length_same : (c : C) (x : List A) → length (section x c) ≡ length x) where
  cascade_causal : (cs : List C) → IsCausal (λ x. fold section x cs)
  cascade_causal [] x more = (more, refl)
  cascade_causal (c ∷ cs) x more = causal_chain (λ w. section w c) (λ w. fold section w cs) (section_causal c)
      (cascade_causal cs) x more

  cascade_length : (cs : List C) (x : List A) → length (fold section x cs) ≡ length x
  cascade_length [] x = refl
  cascade_length (c ∷ cs) x = cascade_length cs (section x c) ∙ section_length_same c x

pub by_length : {A B : Type 0} (f : List A → List B) → ((x : List A) → length (f x) ≡ length x) → GivesByLength f
by_length f keeps x x' e = keeps x ∙ e ∙ sym (keeps x')

pub biquad_causal : (format : Fmt) (p : ℕ) (coefficients : List ℤ) → IsCausal (biquad format p coefficients)
biquad_causal format p coefficients = cascade_causal (biquad_section format p)
    (λ c. outputs_causal (section_output format p c)) (λ c x. length-outputs (section_output format p c) x)
    (sections format coefficients)

pub length-biquad : (format : Fmt) (p : ℕ) (coefficients x : List ℤ) →
    length (biquad format p coefficients x) ≡ length x
length-biquad format p coefficients = cascade_length (biquad_section format p)
    (λ c. outputs_causal (section_output format p c)) (λ c x. length-outputs (section_output format p c) x)
    (sections format coefficients)

biquad64_section_causal : (p : ℕ) (c : Section) → IsCausal (λ x. biquad64_section p x c)
biquad64_section_causal p c = causal_chain (outputs (wide_output p c)) (map _) (outputs_causal (wide_output p c))
    (map_causal _)

length-biquad64_section : (p : ℕ) (c : Section) (x : List ℤ) → length (biquad64_section p x c) ≡ length x
length-biquad64_section p c x = length-map (outputs (wide_output p c) x) _ ∙ length-outputs (wide_output p c) x

pub biquad64_causal : (p : ℕ) (coefficients : List ℤ) → IsCausal (biquad64 p coefficients)
biquad64_causal p coefficients = cascade_causal (biquad64_section p) (biquad64_section_causal p)
    (length-biquad64_section p) (sections Q31 coefficients)

pub length-biquad64 : (p : ℕ) (coefficients x : List ℤ) → length (biquad64 p coefficients x) ≡ length x
length-biquad64 p coefficients = cascade_length (biquad64_section p) (biquad64_section_causal p)
    (length-biquad64_section p) (sections Q31 coefficients)

pub pid_causal : (format : Fmt) (kp ki kd : ℤ) → IsCausal (pid format kp ki kd)
pid_causal format kp ki kd = outputs_causal (pid_output format (pid_gains format kp ki kd))

pub lattice_fir_causal : (ks : List ℤ) → IsCausal (lattice_fir ks)
lattice_fir_causal ks =
    causal_chain (λ x. fold lattice_section (map (λ a. (a, a)) x) ks) (map (λ (w : ℤ × ℤ). w.0))
    (causal_chain (map (λ (a : ℤ). (a, a))) (λ w. fold lattice_section w ks) (map_causal _)
    (cascade_causal lattice_section (λ k. outputs_causal (lattice_output k))
    (λ k w. length-outputs (lattice_output k) w) ks))
    (map_causal _)

pub lattice_iir_causal : (format : Fmt) (k v : List ℤ) → IsCausal (lattice_iir format k v)
lattice_iir_causal format k v = causal_chain (outputs (ladder_output format k)) (map _)
    (outputs_causal (ladder_output format k)) (map_causal _)

pub lms_causal : (format : Fmt) (p : ℕ) (mu : ℤ) (taps : List ℤ) → IsCausal (lms format p mu taps)
lms_causal format p mu taps = outputs_causal (lms_output format p mu (reverse taps))

pub length-lattice_fir : (ks x : List ℤ) → length (lattice_fir ks x) ≡ length x
length-lattice_fir ks x =
    length-map (fold lattice_section (map (λ a. (a, a)) x) ks) (λ (w : ℤ × ℤ). w.0)
    ∙ cascade_length lattice_section (λ k. outputs_causal (lattice_output k))
    (λ k w. length-outputs (lattice_output k) w) ks (map (λ a. (a, a)) x)
    ∙ length-map x (λ (a : ℤ). (a, a))

pub length-lattice_iir : (format : Fmt) (k v x : List ℤ) → length (lattice_iir format k v x) ≡ length x
length-lattice_iir format k v x = length-map (outputs (ladder_output format k) x) _ ∙
    length-outputs (ladder_output format k) x

pub length-pid : (format : Fmt) (kp ki kd : ℤ) (x : List ℤ) → length (pid format kp ki kd x) ≡ length x
length-pid format kp ki kd x = length-outputs (pid_output format (pid_gains format kp ki kd)) x

-- ---- convolutions

take-values : {A : Type 0} (k n : ℕ) (f : ℕ → A) → take k (values n f) ≡ values (min k n) f
take-values k n f =
    ⊎_elim
    (λ less. let e : k ≡ min k n = omega arith in take-map-range_with_len f 0 n k (omega arith) ∙
    ap (λ m. values m f) e)
    (λ more. let e : n ≡ min k n = omega arith in take_all k (values n f) (rw length-values more) ∙
    ap (λ m. values m f) e)
    (cases_lt k n)

live_conv_length : (n k t : ℕ) → min n (full_length n t) ≤ full_length (n + k) t
live_conv_length n k t = grind (arith, common_steps)

live_conv_grows : (n k t : ℕ) → min n (full_length n t) ≤ min (n + k) (full_length (n + k) t)
live_conv_grows n k t = grind (arith, common_steps)

-- values of a convolution, the value n at the place that `place` names
module _ (format : Fmt) (b : List ℤ) (place : ℕ → ℕ) where
  convolution_begins : (m n : ℕ) (x more : List ℤ) → m ≤ n → ((i : ℕ) → i < m → place i < length x) →
      Begins (values m (λ i. close format (convolution_at b x (place i))))
      (values n (λ i. close format (convolution_at b (x ++ more) (place i))))
  convolution_begins m n x more le inside =
      values_begins m n _ _ le (λ i h. ap (close format) (convolution_at-append b x more (place i) (inside i h)))

live_conv-is : (format : Fmt) (b x : List ℤ) → live_conv format b x ≡ values
    (min (length x) (full_length (length x) (length b))) (λ n. close format (convolution_at b x n))
live_conv-is format b x = take-values (length x) (full_length (length x) (length b))
    (λ n. close format (convolution_at b x n))

pub length-live_conv : (format : Fmt) (b x : List ℤ) →
    length (live_conv format b x) ≡ min (length x) (full_length (length x) (length b))
length-live_conv format b x = ap length (live_conv-is format b x) ∙ length-values _ _

pub live_conv_causal : (format : Fmt) (b : List ℤ) → IsCausal (live_conv format b)
live_conv_causal format b x more =
    rw (live_conv-is format b x, live_conv-is format b (x ++ more))
    (convolution_begins format b (λ n. n) (min (length x) (full_length (length x) (length b)))
    (min (length (x ++ more)) (full_length (length (x ++ more)) (length b))) x more
    (rw length-append (live_conv_grows (length x) (length more) (length b))) (λ i h. omega arith))

pub live_conv_begins : (format : Fmt) (b x more : List ℤ) → Begins (live_conv format b x) (conv format b (x ++ more))
live_conv_begins format b x more =
    rw (live_conv-is format b x)
    (convolution_begins format b (λ n. n) (min (length x) (full_length (length x) (length b)))
    (full_length (length (x ++ more)) (length b)) x more
    (rw length-append (live_conv_length (length x) (length more) (length b))) (λ i h. omega arith))

-- how many values a window of a convolution has, and how many while the signal goes on
window_length : ℕ → ℕ → ℕ → ℕ → ℕ
window_length first count t n = min count (full_length n t - first)

live_window_length : ℕ → ℕ → ℕ → ℕ → ℕ
live_window_length first count t n = min (n - first) (min count (full_length n t - first))

window_grows : (first count t n k : ℕ) → live_window_length first count t n ≤ window_length first count t (n + k)
unfolding window_length live_window_length
window_grows first count t n k = grind (arith, common_steps)

live_window_grows : (first count t n k : ℕ) → live_window_length first count t n ≤ live_window_length first count t
    (n + k)
unfolding window_length live_window_length
live_window_grows first count t n k = grind (arith, common_steps)

live_conv_partial-is : (format : Fmt) (first count : ℕ) (b x : List ℤ) →
    live_conv_partial format first count b x ≡ values (live_window_length first count (length b) (length x))
    (λ n. close format (convolution_at b x (first + n)))
unfolding live_window_length
live_conv_partial-is format first count b x =
    take-values (length x - first) (min count (full_length (length x) (length b) - first))
    (λ n. close format (convolution_at b x (first + n)))

pub length-live_conv_partial : (format : Fmt) (first count : ℕ) (b x : List ℤ) →
    length (live_conv_partial format first count b x) ≡ min (length x - first)
    (min count (full_length (length x) (length b) - first))
unfolding live_window_length
length-live_conv_partial format first count b x = ap length (live_conv_partial-is format first count b x) ∙
    length-values _ _

live_window_inside : (first count t n i : ℕ) → i < live_window_length first count t n → first + i < n
unfolding live_window_length
live_window_inside first count t n i h = omega arith

pub live_conv_partial_causal : (format : Fmt) (first count : ℕ) (b : List ℤ) →
    IsCausal (live_conv_partial format first count b)
live_conv_partial_causal format first count b x more =
    rw (live_conv_partial-is format first count b x, live_conv_partial-is format first count b (x ++ more))
    (convolution_begins format b (λ n. first + n) (live_window_length first count (length b) (length x))
    (live_window_length first count (length b) (length (x ++ more))) x more
    (rw length-append (live_window_grows first count (length b) (length x) (length more)))
    (live_window_inside first count (length b) (length x)))

pub live_conv_partial_begins : (format : Fmt) (first count : ℕ) (b x more : List ℤ) →
    Begins (live_conv_partial format first count b x) (conv_partial format first count b (x ++ more))
unfolding window_length
live_conv_partial_begins format first count b x more =
    rw (live_conv_partial-is format first count b x)
    (convolution_begins format b (λ n. first + n) (live_window_length first count (length b) (length x))
    (window_length first count (length b) (length (x ++ more))) x more
    (rw length-append (window_grows first count (length b) (length x) (length more)))
    (live_window_inside first count (length b) (length x)))

pub live_conv_by_length : (format : Fmt) (b : List ℤ) → GivesByLength (live_conv format b)
live_conv_by_length format b x x' e =
    rw (live_conv-is format b x, live_conv-is format b x')
    (values_by_length (λ n. min n (full_length n (length b))) (λ x n. close format (convolution_at b x n)) x x' e)

pub live_conv_partial_by_length : (format : Fmt) (first count : ℕ) (b : List ℤ) →
    GivesByLength (live_conv_partial format first count b)
live_conv_partial_by_length format first count b x x' e =
    rw (live_conv_partial-is format first count b x, live_conv_partial-is format first count b x')
    (values_by_length (live_window_length first count (length b))
    (λ x n. close format (convolution_at b x (first + n))) x x' e)
