-- What `route` gives.
use Rattle.std.proofs.Common.{◌≡◌, ◌∙◌, refl, sym, ℕ, zero, suc, ◌+◌, ◌-◌, ◌*◌, ◌/◌, ◌<◌, ◌≤◌, ℤ, pos, negsuc, List}
use Rattle.std.proofs.Common.{[], ◌∷◌, take, length, get_or, arith, All, nat_abs}
use Rattle.std.specs.List.{AllByRecursion}
use Rattle.std.proofs.lemmas.Int.{ints}
use Rattle.std.proofs.lemmas.Grind.{common_steps}
use Rattle.dsp_defs.specs.Grammar.{Suits}
use Rattle.dsp_defs.specs.Parameters.{IsBetween}
use Rattle.std.proofs.lemmas.List.{length-map, get_or-map}
use Rattle.std.proofs.lemmas.List.FromFn.{get_or-map-range_with_len}
use Rattle.dsp_defs.specs.Signal.{sample, values}
use Rattle.dsp_unit.specs.Unit.{IsSignal}
use Rattle.dsp_defs.proofs.FrameLemmas.{sample-within}
use Rattle.dsp_defs.specs.declared.format.Fmt.{Fmt}
use Rattle.dsp_filter.specs.Memoryless.{Gives}
use Rattle.dsp_filter.proofs.MemorylessUnits.{places-give}
use Rattle.dsp_defs.specs.declared.script.Block.TheVariants.{Route}

-- the channels that a sound list names are there
named : (channels : ℕ) → 1 ≤ channels → (list : List ℤ) →
    AllByRecursion (IsBetween (pos 0) (pos (channels - 1))) list → (k : ℕ) (d : ℤ) → k < length list →
    nat_abs (get_or list k d) < channels
named channels some [] between k d h = absurd (omega (arith, h))
named channels some (x ∷ xs) between zero d h = by_sign x between.0
  where
    by_sign : (x : ℤ) → IsBetween (pos 0) (pos (channels - 1)) x → nat_abs x < channels
    by_sign (pos n) b = omega (arith, ints, b.1, some)
    by_sign (negsuc n) b = absurd (omega (arith, ints, b.0))
named channels some (x ∷ xs) between (suc k) d h = named channels some xs between.1 k d (omega (arith, h))

abbrev IsRoute : Fmt → ℕ → List ℤ → Type 0
IsRoute format channels list = Suits (record { format = format; channels = channels }) (Route list)

pub route-inside : (format : Fmt) (channels : ℕ) (list : List ℤ) → 1 ≤ channels → IsRoute format channels list →
    All (λ c. nat_abs c < channels) list
route-inside format channels list some suits = named channels some list suits.parameters.0.each

route-some : (format : Fmt) (channels : ℕ) (list : List ℤ) → IsRoute format channels list → 0 < length list
route-some format channels list suits = let complete = suits.parameters.0.count in grind (arith, common_steps)

-- the channels that a list names, place by place
pub route-gives : (format : Fmt) (channels : ℕ) (list taken out : List ℤ) → IsSignal format channels taken →
    1 ≤ channels → IsRoute format channels list →
    length taken / channels * length list ≤ length out →
    ((n c : ℕ) → n < length taken / channels → c < length list →
    sample out (n * length list + c) ≡ sample taken (n * channels + nat_abs (sample list c))) →
    Gives format channels (Route list) taken (take (length taken / channels * length list) out)
route-gives format channels list taken out signal some suits room written =
    let inside = route-inside format channels list some suits in
    places-give format channels (length list) (length taken / channels) (Route list) taken out
    (route-some format channels list suits) refl room refl
    (λ x. length-map list (λ c. sample x (nat_abs c)))
    (λ n c h k. written n c h k
    ∙ sym (get_or-map-range_with_len (λ d. sample taken (n * channels + d)) 0 channels (nat_abs (sample list c))
    (nat_abs (sample list c)) (pos 0) (inside c (pos 0) k) (omega arith))
    ∙ sym (get_or-map (λ d. sample (values channels (λ d. sample taken (n * channels + d))) (nat_abs d)) list c
    (pos 0) (pos 0) k))
    (λ n c h k. rw (written n c h k) (signal.in_format (n * channels + nat_abs (sample list c)) (pos 0)
    (sample-within (length taken) channels n (nat_abs (sample list c)) h (inside c (pos 0) k))))
