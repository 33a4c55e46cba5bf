-- What a block gave of a signal stays when the signal goes on.
use Rattle.std.proofs.Common.{◌≡◌, ℕ, zero, suc, ◌+◌, ◌-◌, ◌<◌, ◌≤◌, ℤ, pos, List, [], ◌∷◌, ◌++◌, map, length, refl}
use Rattle.std.proofs.Common.{sym, ap, ◌∙◌, arith, length-append}
use Rattle.std.proofs.lemmas.List.{map-append, length-map, get_or_append_left}
use Rattle.std.proofs.lemmas.List.{reverse-append}
use Rattle.std.proofs.Common.{reverse}
use Rattle.std.specs.List.{range_with_len}
use Rattle.dsp_defs.specs.Signal.{sample, values}
use Rattle.dsp_defs.specs.Streaming.{Begins, IsCausal}
use Rattle.dsp_defs.specs.Block.{Frame, channel, each_channel}
use Rattle.dsp_defs.proofs.Signal.{values_cong, values-add}

-- the length of what f gives comes from the length of what it takes
abbrev pub GivesByLength : {A B : Type 0} → (List A → List B) → Type 0
GivesByLength {A} f = (x x' : List A) → length x ≡ length x' → length (f x) ≡ length (f x')

pub values_begins : {A : Type 0} (m n : ℕ) (f g : ℕ → A) → m ≤ n → ((i : ℕ) → i < m → g i ≡ f i) →
    Begins (values m f) (values n g)
values_begins m n f g le same =
    let e : n ≡ m + (n - m) = omega arith in (
      values (n - m) (λ i. g (m + i)),
      ap (λ k. values k g) e ∙ values-add m (n - m) g ∙
          ap (λ r. r ++ values (n - m) (λ i. g (m + i))) (values_cong m g f same),
    )

pub map_causal : {A B : Type 0} (f : A → B) → IsCausal (map f)
map_causal f x more = (map f more, map-append f x more)

-- ---- channels

pub map-values : {A B : Type 0} (h : A → B) (a n : ℕ) (f : ℕ → A) →
    map h (map f (range_with_len a n)) ≡ map (λ i. h (f i)) (range_with_len a n)
map-values h a zero f = refl
map-values h a (suc n) f = ap (λ r. h (f a) ∷ r) (map-values h (a + 1) n f)

pub channel-append : (c : ℕ) (x more : List Frame) → channel c (x ++ more) ≡ channel c x ++ channel c more
channel-append c x more = map-append (λ (f : Frame). sample f c) x more

-- Blocks f and g that work on each channel: what g gives of more frames begins with what f gives, if this is so for
-- each channel.
module _ (f g : List ℤ → List ℤ) (f_length : GivesByLength f)
    (begins : (x more : List ℤ) → Begins (f x) (g (x ++ more))) where
  channel_begins : (c : ℕ) (x more : List Frame) → Begins (f (channel c x)) (g (channel c (x ++ more)))
  channel_begins c x more =
      let (rest, e) = begins (channel c x) (channel c more) in
      (rest, ap g (channel-append c x more) ∙ e)

  channel_longer : (x more : List Frame) → length (f (channel 0 x)) ≤ length (g (channel 0 (x ++ more)))
  channel_longer x more =
      let (rest, e) = channel_begins 0 x more in
      rw (e, length-append (f (channel 0 x)) rest) (omega arith)

  channel_at : (c n : ℕ) (x more : List Frame) → n < length (f (channel 0 x)) →
      sample (g (channel c (x ++ more))) n ≡ sample (f (channel c x)) n
  channel_at c n x more h =
      let (rest, e) = channel_begins c x more in
      let same : length (channel c x) ≡ length (channel 0 x) = length-map x (λ (v : Frame). sample v c) ∙
      sym (length-map x (λ (v : Frame). sample v 0)) in
      let inside : n < length (f (channel c x)) = rw (f_length (channel c x) (channel 0 x) same) h in
      ap (λ (s : List ℤ). sample s n) e ∙ get_or_append_left (f (channel c x)) rest (pos 0) n inside

  pub each_channel_begins : (channels : ℕ) (x more : List Frame) →
      Begins (each_channel channels f x) (each_channel channels g (x ++ more))
  each_channel_begins zero x more = ([], refl)
  each_channel_begins (suc channels) x more =
      values_begins (length (f (channel 0 x))) (length (g (channel 0 (x ++ more)))) _ _ (channel_longer x more)
      (λ n h.
      map-values (λ s. sample s n) 0 (suc channels) (λ c. g (channel c (x ++ more)))
      ∙ values_cong (suc channels) (λ c. sample (g (channel c (x ++ more))) n) (λ c. sample (f (channel c x)) n)
      (λ c _. channel_at c n x more h)
      ∙ sym (map-values (λ s. sample s n) 0 (suc channels) (λ c. f (channel c x))))

-- the map of what is reversed
pub map-reverse : {A B : Type 0} (f : A → B) (xs : List A) → map f (reverse xs) ≡ reverse (map f xs)
map-reverse f [] = refl
map-reverse f (a ∷ xs) =
    ap (map f) (reverse-append (a ∷ []) xs) ∙ map-append f (reverse xs) (a ∷ []) ∙
    ap (λ l. l ++ f a ∷ []) (map-reverse f xs) ∙ sym (reverse-append (f a ∷ []) (map f xs))
