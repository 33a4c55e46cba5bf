-- A frame that is written among frames.
use Rattle.std.proofs.Common.{◌≡◌, ◌∙◌, ap, sym, refl, ℕ, ◌+◌, ◌-◌, ◌*◌, ◌<◌, ◌≤◌, ℤ, pos, List, ◌++◌, take, drop}
use Rattle.std.proofs.Common.{length, arith, length-take-le}
use Rattle.std.proofs.lemmas.List.{get_or_append_left, get_or-append-add, get_or-take, length-drop}
use Rattle.std.proofs.lemmas.List.Edits.{get_or-between}
use Rattle.std.proofs.lemmas.List.FromFn.{fill_by_all}
use Rattle.std.proofs.lemmas.Nat.{mul-add-lt}
use Rattle.std.specs.List.{between}
use borrow.Rule.Slice.PartMut.{put_mid, post_of}
use Rattle.dsp_defs.specs.Signal.{sample, values}

pub frame-within : (n count size length : ℕ) → n < count → count * size ≤ length → n * size + size ≤ length
frame-within n count size length h k =
    let split : count ≡ n + 1 + (count - (n + 1)) = omega (arith, h) in
    let product : count * size ≡ n * size + size + (count - (n + 1)) * size = ap (λ m. m * size) split ∙
    distributed n (count - (n + 1)) size in
    omega (arith, product, k)
  where
    distributed : (n m size : ℕ) → (n + 1 + m) * size ≡ n * size + size + m * size
    distributed n m size = omega arith

pub part-length : (K' K n : ℕ) (xs : List ℤ) → K' ≡ K → n * K + K ≤ length xs →
    length (take (n * K' + K' - n * K') (drop (n * K') xs)) ≡ K
part-length K' K n xs same room =
    let size : n * K + K - n * K ≡ K = omega arith in
    ap (λ s. length (take (n * s + s - n * s) (drop (n * s) xs))) same ∙
    length-take-le (n * K + K - n * K) (drop (n * K) xs) (omega (arith, length-drop (n * K) xs, room)) ∙ size

-- frame n of frames of K numbers
pub frame-is : (K' K n : ℕ) (xs : List ℤ) → K' ≡ K → n * K + K ≤ length xs →
    between (n * K') (n * K' + K') xs ≡ values K (λ k. sample xs (n * K + k))
frame-is K' K n xs same room =
    ap (λ s. between (n * s) (n * s + s) xs) same
    ∙ fill_by_all (λ k. sample xs (n * K + k)) (between (n * K) (n * K + K) xs) K (pos 0)
    (part-length K K n xs refl room)
    (λ k h. get_or-between xs (n * K) (n * K + K) k (pos 0) (omega (arith, h)))

module _ (M' M n : ℕ) (out piece : List ℤ) (same : M' ≡ M) (room : n * M + M ≤ length out) (long : length piece ≡ M)
  where
    front : length (take (n * M) out) ≡ n * M
    front = length-take-le (n * M) out (omega (arith, room))

    -- the frames before stay
    pub placed-before : (m c : ℕ) → m < n → c < M → sample (put_mid (n * M') (n * M' + M' - n * M') out piece)
        (m * M + c) ≡ sample out (m * M + c)
    placed-before m c h k =
        let below : m * M + c < n * M = (let b = mul-add-lt m M c n h k in omega (arith, b)) in
        ap (λ s. sample (put_mid (n * s) (n * s + s - n * s) out piece) (m * M + c)) same
        ∙ get_or_append_left (take (n * M) out) (piece ++ post_of (n * M) (n * M + M - n * M) out) (pos 0) (m * M + c)
        (omega (arith, below, front))
        ∙ get_or-take (n * M) out (m * M + c) (pos 0) below

    -- and the frame is there
    pub placed-here : (c : ℕ) → c < M → sample (put_mid (n * M') (n * M' + M' - n * M') out piece) (n * M + c) ≡ sample
        piece c
    placed-here c k =
        ap (λ s. sample (put_mid (n * s) (n * s + s - n * s) out piece) (n * M + c)) same
        ∙ ap (sample (take (n * M) out ++ (piece ++ post_of (n * M) (n * M + M - n * M) out)))
        (ap (λ a. a + c) (sym front))
        ∙ get_or-append-add (take (n * M) out) (piece ++ post_of (n * M) (n * M + M - n * M) out) c (pos 0)
        ∙ get_or_append_left piece (post_of (n * M) (n * M + M - n * M) out) (pos 0) c (omega (arith, k, long))
