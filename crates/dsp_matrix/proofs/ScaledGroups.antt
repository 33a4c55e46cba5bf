-- Groups that are scaled all at once.
use Rattle.std.proofs.Common.{◌≡◌, ◌∙◌, ap, sym, ℕ, ◌+◌, ◌*◌, ◌/◌, ◌%◌, ◌<◌, ℤ, pos, List, length, map, take}
use Rattle.std.proofs.Common.{drop, arith}
use Rattle.std.proofs.lemmas.List.{length-map, take-map, get_or-take, get_or-drop}
use Rattle.std.proofs.lemmas.Nat.{div-add-mod', mod_below}
use Rattle.dsp_defs.specs.Elementwise.{scale}
use Rattle.dsp_defs.specs.Matrix.{each_group, scaled}
use Rattle.dsp_defs.specs.Signal.{sample, values}
use Rattle.dsp_defs.specs.declared.format.Fmt.{Fmt}
use Rattle.dsp_defs.proofs.Signal.{values_cong}

-- an element of a group is the element of the signal at its place
read : (t i : ℕ) (x : List ℤ) → 0 < t → sample (take t (drop (i / t * t) x)) (i % t) ≡ sample x i
read t i x some =
    let place : i / t * t + i % t ≡ i = omega (arith, div-add-mod' i t) in
    get_or-take t (drop (i / t * t) x) (i % t) (pos 0) (mod_below i t some)
    ∙ get_or-drop (i / t * t) x (i % t) (pos 0)
    ∙ ap (sample x) place

-- so the whole groups, scaled one by one, are the elements that they have together, each scaled
pub scaled-at-once : {X : Type 0} (number : X → ℤ) (format : Fmt) (fract s : ℤ) (t n : ℕ) (xs : List X) → 0 < t →
    n ≡ length xs / t * t →
    values n (scaled format fract s (map number (take n xs))) ≡ each_group t t (scaled format fract s) (map number xs)
scaled-at-once number format fract s t n xs some count =
    let x = map number xs in
    let size : n ≡ length x / t * t = count ∙ ap (λ k. k / t * t) (sym (length-map xs number)) in
    ap (λ l. values n (scaled format fract s l)) (sym (take-map number n xs))
    ∙ values_cong n (λ i. scale format fract s (sample (take n x) i))
    (λ i. scale format fract s (sample (take t (drop (i / t * t) x)) (i % t)))
    (λ i h. ap (scale format fract s) (get_or-take n x i (pos 0) h ∙ sym (read t i x some)))
    ∙ ap (λ k. values k (λ i. scale format fract s (sample (take t (drop (i / t * t) x)) (i % t)))) size
