-- The places of a stream, and the values that come with a call and behind it.
use Rattle.std.proofs.Common.{◌≡◌, ◌∙◌, ap, sym, refl, ℕ, zero, suc, ◌+◌, ◌-◌, ◌*◌, ◌<◌, ◌≤◌, List, [], ◌∷◌, ◌++◌, ℤ}
use Rattle.std.proofs.Common.{pos, length, arith}
use Rattle.std.proofs.lemmas.Grind.{common_steps}
use Rattle.dsp_defs.specs.declared.format.Fmt.{Fmt}
use Rattle.dsp_defs.specs.Formats.{word}
use Rattle.dsp_defs.specs.Sums.{full_length}
use Rattle.dsp_defs.specs.Shape.{whole_frames, live_frames}
use Rattle.dsp_defs.specs.Cost.{live_block_cost, cost_so_far}
use Rattle.dsp_defs.specs.Kept.{Fixed, flag, in_words, kinds_by, kept_of_channel}
use Rattle.dsp_unit.specs.Unit.{most_frames}
use Rattle.dsp_defs.specs.Streaming.{last_of}
use Rattle.dsp_conv.specs.declared.extent.Extent.{Extent}
use Rattle.dsp_conv.specs.declared.extent.Extent.TheVariants.{Full, Within}
use Rattle.dsp_conv.specs.Extent.{block_of, first_of, live_end, whole_end, place_in, greatest_place, place_after}
use Rattle.dsp_conv.specs.Extent.{start_in, given_in, zeros_behind}

-- ---- flags

full-some : (n t : ℕ) → 0 < n → full_length n t ≡ n + t - 1
full-some n t begun = grind (arith, common_steps)

pub full-is : (n t : ℕ) → 0 < t → full_length n t ≡ n + flag n * (t - 1)
full-is zero t some = grind (arith, common_steps)
full-is (suc n) t some = omega (arith, full-some (suc n) t (omega arith))

flag-some : (n : ℕ) → 0 < n → flag n ≡ 1
flag-some zero begun = absurd (omega arith)
flag-some (suc n) begun = refl

flag-more : (n m : ℕ) → flag (flag n + m) ≡ flag (n + m)
flag-more zero m = refl
flag-more (suc n) m = flag-some (1 + m) (omega arith) ∙ sym (flag-some (suc n + m) (omega arith))

-- ---- places

pub place-more : (e : Extent) (place n m : ℕ) → place ≡ place_in e n → place_after e place m ≡ place_in e (n + m)
place-more Full place n m is = ap (λ p. flag (p + m)) is ∙ flag-more n m
place-more (Within first count) place n m is = omega (arith, is)

pub place-within : (e : Extent) (place m : ℕ) → place_after e place m ≤ greatest_place e
place-within Full place m = few (place + m)
  where
    few : (n : ℕ) → flag n ≤ 1
    few zero = omega arith
    few (suc n) = omega arith
place-within (Within first count) place m = omega arith

pub placed-within : (e : Extent) (n : ℕ) → place_in e n ≤ greatest_place e
placed-within Full zero = omega arith
placed-within Full (suc n) = omega arith
placed-within (Within first count) n = omega arith

-- a place is the place of as many samples
pub place-itself : (e : Extent) (place : ℕ) → place ≤ greatest_place e → place_in e place ≡ place
place-itself Full zero within = refl
place-itself Full (suc zero) within = refl
place-itself Full (suc (suc place)) within = absurd (omega (arith, within))
place-itself (Within first count) place within = omega (arith, within)

pub no-place : (e : Extent) → place_in e 0 ≡ 0
no-place Full = refl
no-place (Within first count) = omega arith

-- ---- the values of a call

-- they are those that the samples add
pub more-given : (e : Extent) (place n m : ℕ) → place ≡ place_in e n →
    live_end e (n + m) - first_of e ≡ (live_end e n - first_of e) + given_in e place m
more-given Full place n m is = omega arith
more-given (Within first count) place n m is = omega (arith, is)

-- and stand behind the samples that have their indexes
pub given-index : (e : Extent) (place n m i : ℕ) → place ≡ place_in e n → i < given_in e place m →
    first_of e + ((live_end e n - first_of e) + i) ≡ n + (start_in e place m + i)
given-index Full place n m i is inside = omega arith
given-index (Within first count) place n m i is inside = omega (arith, is, inside)

pub live-within : (e : Extent) (n : ℕ) → live_end e n ≤ n
live-within Full n = omega arith
live-within (Within first count) n = omega arith

-- the whole convolution ends as if zeros came behind the signal
pub whole-end : (e : Extent) (place n t : ℕ) → 0 < t → place ≡ place_in e n →
    whole_end e n t - first_of e ≡ live_end e (n + zeros_behind place t) - first_of e
whole-end Full zero n t some is = ap (λ k. k - 0) (full-is n t some ∙ nothing n (sym is))
  where
    nothing : (n : ℕ) → flag n ≡ 0 → n + flag n * (t - 1) ≡ n + 0
    nothing zero is = omega arith
    nothing (suc n) is = absurd (omega (arith, is))
whole-end Full (suc place) n t some is = ap (λ k. k - 0) (full-is n t some ∙ all n (sym is))
  where
    all : (n : ℕ) → flag n ≡ suc place → n + flag n * (t - 1) ≡ n + (t - 1)
    all zero is = absurd (omega (arith, is))
    all (suc n) is = omega arith
whole-end (Within first count) zero zero t some is = omega arith
whole-end (Within first count) zero (suc n) t some is = omega (arith, is)
whole-end (Within first count) (suc place) zero t some is = absurd (omega (arith, is))
whole-end (Within first count) (suc place) (suc n) t some is = omega (arith, full-some (suc n) t (omega arith))

-- ---- frames

pub live-frames : (e : Extent) (b : List ℤ) (n : ℕ) → 0 < length b →
    live_frames (block_of e b) n ≡ live_end e n - first_of e
live-frames Full b n some = omega (arith, full-is n (length b) some)
live-frames (Within first count) b n some = omega (arith, full-is n (length b) some)

pub whole-frames : (e : Extent) (b : List ℤ) (n : ℕ) →
    whole_frames (block_of e b) n ≡ whole_end e n (length b) - first_of e
whole-frames Full b n = omega arith
whole-frames (Within first count) b n = omega arith

pub most-same : (e : Extent) (b : List ℤ) (n : ℕ) → most_frames (block_of e b) n ≡ n
most-same Full b n = refl
most-same (Within first count) b n = refl

-- ---- costs

pub live-cost : (e : Extent) (format : Fmt) (b : List ℤ) (n : ℕ) →
    live_block_cost format 1 (block_of e b) n ≡ live_frames (block_of e b) n * length b
live-cost Full format b n = omega arith
live-cost (Within first count) format b n = omega arith

pub cost-so-far : (e : Extent) (format : Fmt) (b : List ℤ) (n given : ℕ) →
    cost_so_far format 1 (block_of e b) n n given ≡ given * length b
cost-so-far Full format b n given = omega arith
cost-so-far (Within first count) format b n given = omega arith

-- ---- kept numbers

pub kinds-are : (e : Extent) (format : Fmt) (b : List ℤ) (n : ℕ) →
    kinds_by format (block_of e b) n ≡ in_words (word format) (length b - 1) ++ Fixed (place_in e n) ∷ []
kinds-are Full format b n = refl
kinds-are (Within first count) format b n = refl

pub kept-are : (e : Extent) (format : Fmt) (b x : List ℤ) →
    kept_of_channel format (block_of e b) x ≡ last_of (length b - 1) x ++ pos (place_in e (length x)) ∷ []
kept-are Full format b x = refl
kept-are (Within first count) format b x = refl
