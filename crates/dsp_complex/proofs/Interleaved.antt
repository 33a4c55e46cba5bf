-- One more complex number that a loop writes.
use Rattle.std.proofs.Common.{◌≡◌, ◌∙◌, ap, sym, ℕ, zero, suc, ◌+◌, ◌*◌, ◌<◌, ℤ, List, [], ◌∷◌, ◌++◌, set, take}
use Rattle.std.proofs.Common.{length, length-set, arith}
use Rattle.std.specs.List.{flat_map, range_with_len}
use Rattle.std.proofs.lemmas.List.{append-nil, append_assoc, take_more_set}
use Rattle.dsp_defs.specs.Block.{pair_frame}
use Rattle.dsp_complex.specs.Pairs.{interleaved}

range-more : (f : ℕ → List ℤ) (a n : ℕ) → flat_map f (range_with_len a (suc n)) ≡ flat_map f (range_with_len a n) ++ f
    (a + n)
range-more f a zero = let here : a ≡ a + 0 = omega arith in append-nil (f a) ∙ ap f here
range-more f a (suc n) =
    let place : a + 1 + n ≡ a + suc n = omega arith in
    ap (λ l. f a ++ l) (range-more f (a + 1) n)
    ∙ sym (append_assoc (f a) (flat_map f (range_with_len (a + 1) n)) (f (a + 1 + n)))
    ∙ ap (λ k. flat_map f (range_with_len a (suc n)) ++ f k) place

pub pair-more : (f : ℕ → ℤ × ℤ) (n : ℕ) (out : List ℤ) (u v : ℤ) → n * 2 + 1 < length out →
    take (n * 2) out ≡ interleaved n f → u ≡ (f n).0 → v ≡ (f n).1 →
    take ((n + 1) * 2) (set (set out (n * 2) u) (n * 2 + 1) v) ≡ interleaved (n + 1) f
pair-more f n out u v room done re_is im_is =
    let long = length-set out (n * 2) u in
    let size : (n + 1) * 2 ≡ n * 2 + 1 + 1 = omega arith in
    let next : suc n ≡ n + 1 = omega arith in
    let here : n ≡ 0 + n = omega arith in
    ap (λ k. take k (set (set out (n * 2) u) (n * 2 + 1) v)) size
    ∙ take_more_set (set out (n * 2) u) (n * 2 + 1) v (omega (arith, room, long))
    ∙ ap (λ l. l ++ v ∷ []) (take_more_set out (n * 2) u (omega (arith, room)))
    ∙ append_assoc (take (n * 2) out) (u ∷ []) (v ∷ [])
    ∙ (λ i. done i ++ re_is i ∷ im_is i ∷ [])
    ∙ ap (λ k. interleaved n f ++ pair_frame (f k)) here
    ∙ sym (range-more (λ k. pair_frame (f k)) 0 n)
    ∙ ap (λ k. interleaved k f) next
