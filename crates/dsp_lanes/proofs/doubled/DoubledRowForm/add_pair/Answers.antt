use Rattle.std.proofs.Common.{ℕ, ℤ, List, ◌≤◌, ◌≡◌, ◌+◌, ◌++◌, ◌∙◌, ap, sym, arith, length, map, ◌+ℤ◌, ◌*ℤ◌}
use Rattle.std.proofs.lemmas.List.{length-map}
use Rattle.std.proofs.lemmas.Simd.{length-chunk, length-zip2}
use Rattle.std.specs.Int.{int_wrap}
use lib.Lanes.{zip2, chunk}
use Rattle.dsp_defs.specs.Signal.{sample}
use Rattle.dsp_lanes.proofs.Groups.{zip2-append, chunk-append}
use Rattle.dsp_lanes.proofs.doubled.DoubledRowForm.add_pair.Goals as goal

pub returns-clause-sums : goal.returns-clause-sums
returns-clause-sums g c =
    let F = g.F.RowForm in
    let number = g.T.Sample.number in
    let at = c.args.at in
    let n = F.size in
    let window = map number c.args.window.now in
    let taps = map number c.args.taps.now in
    let long_w = length-map c.args.window.now number in
    let room = c.requires.window in
    let long : length (chunk at n window) ≡ n = length-chunk at n window (omega (arith, long_w, room)) in
    let next : length (chunk (at + 1) n window) ≡ n = length-chunk (at + 1) n window (omega (arith, long_w, room)) in
    let behind = c.behind.ensures in
    let swap : c.behind.result + 1 ≡ at + 1 + n = omega (arith, behind) in
    let add : ℕ → ℤ → ℤ → ℤ = λ j s x. int_wrap F.width (s +ℤ (sample taps j *ℤ x)) in
    let j = c.args.j in
    let first = F.lanes c.args.sums.first in
    let second = F.lanes c.args.sums.second in
    let once : length (zip2 (add j) first (chunk at n window)) ≡ n =
    length-zip2 (add j) first (chunk at n window) (c.requires.fit.2 ∙ sym long) ∙ c.requires.fit.2 in
    (λ i. c.add_pair.ensures.sums i ++ (c.add_pair-2.ensures.sums ∙
    (λ k. zip2 (add (j + 1)) (zip2 (add j) second (chunk (c.behind.ensures k) n window)) (chunk (swap k) n window)))
    i)
    ∙ sym (zip2-append (add (j + 1)) (zip2 (add j) first (chunk at n window))
    (zip2 (add j) second (chunk (at + n) n window)) (chunk (at + 1) n window) (chunk (at + 1 + n) n window)
    (once ∙ sym next))
    ∙ (λ k. zip2 (add (j + 1)) (sym (zip2-append (add j) first second (chunk at n window) (chunk (at + n) n window)
    (c.requires.fit.2 ∙ sym long)) k) (sym (chunk-append (at + 1) n n window) k))
    ∙ ap (λ l. zip2 (add (j + 1)) (zip2 (add j) (first ++ second) l) (chunk (at + 1) (n + n) window))
    (sym (chunk-append at n n window))

pub returns-clause-fit : goal.returns-clause-fit
returns-clause-fit g c =
    let F = g.F.RowForm in
    let number = g.T.Sample.number in
    let n = F.size in
    let window = map number c.args.window.now in
    let long_w = length-map c.args.window.now number in
    let room = c.requires.window in
    let behind = c.behind.ensures in
    let add : ℕ → ℤ → ℤ → ℤ = λ j s x. int_wrap F.width (s +ℤ (sample (map number c.args.taps.now) j *ℤ x)) in
    let j = c.args.j in
    let both : (lanes : List ℤ) (p : ℕ) → length lanes ≡ n → p + 1 + n ≤ length window →
    length (zip2 (add (j + 1)) (zip2 (add j) lanes (chunk p n window)) (chunk (p + 1) n window)) ≡ n =
    λ lanes p long inside.
    let part : length (chunk p n window) ≡ n = length-chunk p n window (omega (arith, inside)) in
    let next : length (chunk (p + 1) n window) ≡ n = length-chunk (p + 1) n window inside in
    let once : length (zip2 (add j) lanes (chunk p n window)) ≡ n =
    length-zip2 (add j) lanes (chunk p n window) (omega (arith, long, part)) ∙ long in
    length-zip2 (add (j + 1)) (zip2 (add j) lanes (chunk p n window)) (chunk (p + 1) n window)
    (omega (arith, once, next)) ∙ once in (
      c.add_pair.ensures.fit,
      c.add_pair-2.ensures.fit,
      ap length c.add_pair.ensures.sums ∙ both (F.lanes c.args.sums.first) c.args.at c.requires.fit.2
          (omega (arith, long_w, room)),
      ap length c.add_pair-2.ensures.sums ∙ both (F.lanes c.args.sums.second) c.behind.result c.requires.fit.3
          (omega (arith, long_w, room, behind)),
    )
