use Rattle.std.proofs.Common.{ℕ, ◌≡◌, ◌+◌, ◌-◌, ◌++◌, List, length, take, drop, arith, ap, sym, ◌∙◌, append_assoc}
use Rattle.std.proofs.Common.{length-append, length-take-le, length-drop, take_at}
use Rattle.dsp_window.proofs.numbers.roll.Goals as goal

whole_part : {A : Type 0} (n : ℕ) (xs ys rest : List A) → n ≡ length xs + length ys →
    take n (xs ++ (ys ++ rest)) ≡ xs ++ ys
whole_part n xs ys rest e =
    let long = length-append xs ys in
    let same : length (xs ++ ys) ≡ n = omega arith in
    ap (take n) (sym (append_assoc xs ys rest)) ∙ take_at (xs ++ ys) rest n same

pub returns : goal.returns
returns g c =
    let p = c.args.past in
    let from = c.args.from in
    let s = c.args.samples.now in
    let later = drop from s in
    let left = length-drop from s in
    let k = from + p - from in
    let moved = c.copy_within.ensures.after in
    let written = c.copy_from_slice.ensures.after in
    let same : k ≡ p = omega arith in
    let long : length (take k later) ≡ p = length-take-le k later (omega arith) ∙ same in
    let front : take p c.copy_within.new.self ≡ take p later = ap (take p) moved ∙
    take_at (take k later) (drop (0 + k) s) p long ∙ ap (λ j. take j later) same in
    let head : length (take p c.copy_within.new.self) ≡ p = ap length front ∙ length-take-le p later (omega arith) in
    let tail : length c.copy_from_slice.new.self ≡ length c.args.block.now = ap length written in
    whole_part (p + length c.args.block.now) (take p c.copy_within.new.self) c.copy_from_slice.new.self _
    (omega arith) ∙ (λ i. front i ++ written i)
