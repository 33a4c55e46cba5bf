-- Frames and their channels; lists of filters.
use Rattle.std.proofs.Common.{◌≡◌, ◌∙◌, ap, ap₂, refl, sym, ℕ, zero, suc, ◌+◌, ◌*◌, ◌/◌, ◌<◌, ℤ, pos, List, [], ◌∷◌}
use Rattle.std.proofs.Common.{◌++◌, length, get_or, flat_map, arith, length-append, get_or-append-add}
use Rattle.std.specs.List.{range_with_len}
use Rattle.std.proofs.lemmas.List.{length-map, get_or-map, get_or_append_left}
use Rattle.std.proofs.lemmas.List.Folds.{flat_map-map}
use Rattle.std.proofs.lemmas.List.FromFn.{length-map-range_with_len, get_or-map-range_with_len, fill_by_all}
use Rattle.std.proofs.Math.Nat.{mul-div_cancel_left}
use Rattle.dsp_defs.specs.Signal.{sample, values}
use Rattle.dsp_defs.specs.Block.{Frame, channel, frames_of}
use Rattle.dsp_unit.specs.Unit.{frames_in}
use Rattle.dsp_unit.specs.Filter.{FilterState, filter_at, no_filter, kept_of_all, tails_of}
use Rattle.dsp_unit.specs.Channels.{samples_in}
use Rattle.dsp_defs.proofs.Signal.{values_cong, values-add}
use Rattle.dsp_defs.proofs.Causal.{map-values}

pub factor-same : (c a b : ℕ) → 0 < c → c * a ≡ c * b → a ≡ b
factor-same c a b some e = sym (mul-div_cancel_left a some) ∙ ap (λ n. n / c) e ∙ mul-div_cancel_left b some

pub sample-values : (n : ℕ) (f : ℕ → ℤ) (c : ℕ) → c < n → sample (values n f) c ≡ f c
sample-values n f c h = get_or-map-range_with_len f 0 n c c (pos 0) h (omega arith)

pub values-of : (xs : List ℤ) (n : ℕ) → length xs ≡ n → values n (sample xs) ≡ xs
values-of xs n size = sym (fill_by_all (sample xs) xs n (pos 0) size (λ k _. refl))

-- ---- frames of channels

frames-of_values : (channels : ℕ) (p : ℕ → List ℤ) → 0 < channels →
    frames_of (values channels p) ≡ values (length (p 0)) (λ n. values channels (λ c. sample (p c) n))
frames-of_values zero p some = absurd (omega (arith, some))
frames-of_values (suc k) p some = values_cong (length (p 0)) _ _ (λ n _. map-values (λ s. sample s n) 0 (suc k) p)

pub length-frames_of : (channels : ℕ) (p : ℕ → List ℤ) → 0 < channels →
    length (frames_of (values channels p)) ≡ length (p 0)
length-frames_of channels p some =
    ap length (frames-of_values channels p some) ∙ length-map-range_with_len
    (λ n. values channels (λ c. sample (p c) n)) 0 (length (p 0))

-- the frames of longer channels
pub frames-append : (channels : ℕ) (f g : ℕ → List ℤ) → 0 < channels →
    ((c : ℕ) → c < channels → length (f c) ≡ length (f 0)) →
    frames_of (values channels (λ c. f c ++ g c)) ≡ frames_of (values channels f) ++ frames_of (values channels g)
frames-append channels f g some size =
    let whole : ℕ → Frame = λ n. values channels (λ c. sample (f c ++ g c) n) in
    frames-of_values channels (λ c. f c ++ g c) some
    ∙ ap (λ m. values m whole) (length-append (f 0) (g 0))
    ∙ values-add (length (f 0)) (length (g 0)) whole
    ∙ ap₂ {C = List Frame} (λ a b. a ++ b)
    (values_cong (length (f 0)) whole (λ n. values channels (λ c. sample (f c) n))
    (λ n h. values_cong channels (λ c. sample (f c ++ g c) n) (λ c. sample (f c) n)
    (λ c inside. let here : n < length (f c) = rw (size c inside) h in get_or_append_left (f c) (g c) (pos 0) n here))
    ∙ sym (frames-of_values channels f some))
    (values_cong (length (g 0)) (λ n. whole (length (f 0) + n)) (λ n. values channels (λ c. sample (g c) n))
    (λ n _. values_cong channels (λ c. sample (f c ++ g c) (length (f 0) + n)) (λ c. sample (g c) n)
    (λ c inside. ap (λ m. sample (f c ++ g c) (m + n)) (sym (size c inside)) ∙ get_or-append-add (f c) (g c) n (pos 0)))
    ∙ sym (frames-of_values channels g some))

-- one channel of the frames of channels
pub channel-frames_of : (channels : ℕ) (p : ℕ → List ℤ) (c : ℕ) → c < channels → length (p c) ≡ length (p 0) →
    channel c (frames_of (values channels p)) ≡ p c
channel-frames_of channels p c inside size =
    let some : 0 < channels = omega (arith, inside) in
    ap (channel c) (frames-of_values channels p some)
    ∙ map-values (λ (f : Frame). sample f c) 0 (length (p 0)) (λ n. values channels (λ c. sample (p c) n))
    ∙ values_cong (length (p 0)) _ (sample (p c)) (λ n _. sample-values channels (λ c. sample (p c) n) c inside)
    ∙ values-of (p c) (length (p 0)) size

pub frames-cong : (channels : ℕ) (f g : ℕ → List ℤ) → ((c : ℕ) → c < channels → f c ≡ g c) →
    frames_of (values channels f) ≡ frames_of (values channels g)
frames-cong channels f g same = ap frames_of (values_cong channels f g same)

-- ---- frames of a slice

pub channel-frames_in : (channels : ℕ) (samples : List ℤ) (c : ℕ) → c < channels →
    channel c (frames_in channels samples) ≡ samples_in channels (length samples / channels) samples c
unfolding frames_in
channel-frames_in channels samples c inside =
    map-values (λ (f : Frame). sample f c) 0 (length samples / channels)
    (λ n. values channels (λ c. sample samples (n * channels + c)))
    ∙ values_cong (length samples / channels) _ _ (λ n _. sample-values channels
    (λ c. sample samples (n * channels + c)) c inside)

pub length-samples_in : (channels count : ℕ) (samples : List ℤ) (c : ℕ) →
    length (samples_in channels count samples c) ≡ count
length-samples_in channels count samples c = length-map-range_with_len (λ n. sample samples (n * channels + c)) 0 count

pub frames-of_channels : (channels count : ℕ) (samples : List ℤ) → 0 < channels → length samples / channels ≡ count →
    frames_of (values channels (samples_in channels count samples)) ≡ frames_in channels samples
unfolding frames_in
frames-of_channels channels count samples some size =
    frames-of_values channels (samples_in channels count samples) some
    ∙ ap (λ m. values m (λ n. values channels (λ c. sample (samples_in channels count samples c) n)))
    (length-samples_in channels count samples 0)
    ∙ values_cong count (λ n. values channels (λ c. sample (samples_in channels count samples c) n))
    (λ n. values channels (λ c. sample samples (n * channels + c)))
    (λ n h. values_cong channels (λ c. sample (samples_in channels count samples c) n)
    (λ c. sample samples (n * channels + c))
    (λ c _. sample-values count (λ n. sample samples (n * channels + c)) n h))
    ∙ ap (λ m. values m (λ n. values channels (λ c. sample samples (n * channels + c)))) (sym size)

-- ---- lists of filters, by their places

flat-places : {A : Type 0} (h : A → List ℤ) (xs : List A) (d : A) →
    flat_map h xs ≡ flat_map (λ c. h (get_or xs c d)) (range_with_len 0 (length xs))
flat-places h xs d =
    ap (flat_map h) (fill_by_all (λ c. get_or xs c d) xs (length xs) d refl (λ n _. refl))
    ∙ flat_map-map h (λ c. get_or xs c d) (range_with_len 0 (length xs))

pub kept-places : (filters : List FilterState) → kept_of_all filters ≡ flat_map (λ c. (filter_at filters c).kept)
    (range_with_len 0 (length filters))
kept-places filters = flat-places (λ (f : FilterState). f.kept) filters no_filter

pub tail-places : (filters : List FilterState) → tails_of filters ≡ values (length filters)
    (λ c. (filter_at filters c).tail)
tail-places filters =
    fill_by_all (λ c. (filter_at filters c).tail) (tails_of filters) (length filters) []
    (length-map filters (λ (f : FilterState). f.tail))
    (λ c h. get_or-map (λ (f : FilterState). f.tail) filters c no_filter [] h)

pub get_or-default : {A : Type 0} (xs : List A) (k : ℕ) (d e : A) → k < length xs → get_or xs k d ≡ get_or xs k e
get_or-default [] k d e h = absurd (omega (arith, h))
get_or-default (x ∷ xs) zero d e h = refl
get_or-default (x ∷ xs) (suc k) d e h = get_or-default xs k d e (omega (arith, h))
