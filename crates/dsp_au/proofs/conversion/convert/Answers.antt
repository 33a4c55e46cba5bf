use Rattle.std.proofs.Common.{◌≡◌, ◌∙◌, ℕ, ◌≤◌, ◌/◌, ◌*◌, length, take, length-take-le, refl, ap}
use Rattle.std.proofs.Math.ListN.{replicate, length-replicate}
use Rattle.dsp_au.proofs.EndLaws as laws
use Rattle.dsp_au.proofs.conversion.convert.Goals as goal

pub returns-in-Ok-clause-ok : goal.returns-in-Ok-clause-ok
returns-in-Ok-clause-ok g c =
    let passed = c.in_ok-taken.ensures.ok _ _ c.in_ok-header.ensures.ok in
    let (put, settled) = c.in-Ok.ensures.closed in
    laws.done c.args.direction c.in_ok-header.header _ _ _ _ _ _ passed _ put settled c.in-Ok.ensures.faults
    (ap (λ n. c.in_ok-taken.taken / n) c.frame_bytes.ensures ∙ passed.frames) refl (ap (λ n. 8 * n) c.width.ensures)

pub returns-in-Err-clause-err : goal.returns-in-Err-clause-err
returns-in-Err-clause-err g c =
    let passed = c.in_ok-taken.ensures.ok _ _ c.in_ok-header.ensures.ok in
    let (written, begins, put) = c.in-Err.ensures.closed in
    laws.unclosed c.args.direction c.in_ok-header.header _ _ _ _ _ _ passed written begins put c.in-Err.ensures.faults

front_long : (n k m : ℕ) → k ≤ n → k ≡ m → length {A = ℕ} (take k (replicate n 0)) ≡ m
front_long n k m fits is = length-take-le k (replicate n 0) (rw (length-replicate {A = ℕ} n 0) fits) ∙ is

pub pass_samples-requires-clause-block : goal.pass_samples-requires-clause-block
pass_samples-requires-clause-block g c =
    front_long 65536 c.block_bytes-size.result _ c.block_bytes-size.ensures.within c.block_bytes-size.ensures.value
