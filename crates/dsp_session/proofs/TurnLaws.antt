-- The turns of the calls of a run, in blocks of one size.
use Rattle.std.proofs.Common.{◌≡◌, ℕ, zero, suc, ◌+◌, ◌-◌, ◌*◌, ◌/◌, ◌<◌, ◌≤◌, Bool, min, List, [], ◌∷◌, sym}
use Rattle.std.proofs.Common.{◌∙◌, refl, ap, subst, arith, inl, inr}
use Rattle.std.proofs.lemmas.Bool.{cases_lt}
use Rattle.dsp_defs.specs.Counts.{Counts}
use Rattle.std.proofs.lemmas.Grind.{div_ceil_times}
use Rattle.std.specs.Int.{div_ceil}
use Rattle.dsp_defs.specs.Block.{format_after, channels_after}
use Rattle.dsp_defs.specs.Cost.{live_cost, chain_turns}
use Rattle.dsp_defs.specs.Shape.{live_frames}
use Rattle.dsp_defs.specs.declared.format.Fmt.{Fmt}
use Rattle.dsp_defs.specs.declared.script.Block.{Block}
use Rattle.dsp_defs.specs.declared.script.Script.{Script}
use Rattle.dsp_unit.proofs.TurnLaws.{unit_turns_within, live_frames_more}
use Rattle.dsp_session.specs.Session.{TurnsByProducts, cost_of, live_cost_of, turns_of, calls_turns, run_turns}
use Rattle.dsp_session.specs.Advancing.{turns_from}
use Rattle.dsp_session.specs.Resuming.{part_turns, rest_turns}

-- the turns of a chain are no more than its products
pub chain_turns_within : (banked : Bool) (format : Fmt) (channels : ℕ) (blocks : List Block) (m n : ℕ) → m ≤ n →
    chain_turns banked format channels blocks m n + live_cost format channels blocks m ≤ live_cost format channels
    blocks n
chain_turns_within banked format channels [] m n h = omega arith
chain_turns_within banked format channels (block ∷ blocks) m n h =
    let here = unit_turns_within banked format channels block m n h in
    let later = chain_turns_within banked (format_after format block) (channels_after channels block) blocks
    (live_frames block m) (live_frames block n) (live_frames_more block m n h) in
    omega (arith, here, later)

module _ (banked : Bool) (script : Script) (size : ℕ) where
  -- no frames take no turns
  no_turns : (n : ℕ) → turns_of banked script n n ≡ 0
  no_turns n = (let within = chain_turns_within banked script.input.format script.input.channels script.blocks n n
      (omega arith) in omega (arith, within))

  min_is : (a n : ℕ) → a ≤ n → min a n ≡ a
  min_is a n h = omega (arith, h)

  fewer : (k n : ℕ) → suc k * size ≤ n → k * size ≤ n
  fewer k n h = omega (arith, h)

  -- the calls do not depend on what comes behind them
  calls_same : (n m k : ℕ) → k * size ≤ n → k * size ≤ m →
      calls_turns banked script size n k ≡ calls_turns banked script size m k
  calls_same n m zero h g = refl
  calls_same n m (suc k) h g =
      let earlier = calls_same n m k (fewer k n h) (fewer k m g) in
      let ends : min (suc k * size) n ≡ min (suc k * size) m = min_is (suc k * size) n h ∙
      sym (min_is (suc k * size) m g) in
      λ i. earlier i + turns_of banked script (k * size) (ends i)

  -- one call more
  pub call_more : (k m : ℕ) → m ≡ k * size → calls_turns banked script size m k + turns_of banked script (k * size)
      (suc k * size) ≡ calls_turns banked script size (suc k * size) (suc k)
  call_more k m is =
      let earlier = calls_same m (suc k * size) k (omega (arith, is)) (omega arith) in
      let end : suc k * size ≡ min (suc k * size) (suc k * size) = omega arith in
      λ i. earlier i + turns_of banked script (k * size) (end i)

  whole_calls : (k : ℕ) → 0 < size → div_ceil (k * size) size ≡ k
  whole_calls k some =
      let (enough, close) = div_ceil_times (k * size) size some in
      between (div_ceil (k * size) size) enough close
    where
      between : (q : ℕ) → k * size ≤ q * size → q * size < k * size + size → q ≡ k
      between q low high = (let more : k < suc q = lt-of-mul k (suc q) (omega (arith, low, some)) in
          let less : q < suc k = lt-of-mul q (suc k) (omega (arith, high)) in omega (arith, more, less))
        where
          lt-of-mul : (a b : ℕ) → a * size < b * size → a < b
          lt-of-mul a b h = grind arith

  part_calls : (k e n : ℕ) → 0 < size → n ≡ k * size + suc e → suc e ≤ size → div_ceil n size ≡ suc k
  part_calls k e n some is h =
      let (enough, close) = div_ceil_times n size some in
      between (div_ceil n size) (omega (arith, enough, is)) (omega (arith, close, is, h))
    where
      between : (q : ℕ) → k * size < q * size → q * size < suc (suc k) * size → q ≡ suc k
      between q low high = (let more : k < q = lt-of-mul k q low in let less : q < suc (suc k) =
          lt-of-mul q (suc (suc k)) high in omega (arith, more, less))
        where
          lt-of-mul : (a b : ℕ) → a * size < b * size → a < b
          lt-of-mul a b h = grind arith

  -- all calls of a run whose whole blocks are these, and perhaps a shorter one behind them
  run_is : (k n : ℕ) → 0 < size → k * size ≤ n → n ≤ suc k * size →
      calls_turns banked script size (k * size) k + turns_of banked script (k * size) n ≤ calls_turns banked script size
      n (div_ceil n size)
  run_is k n some low high = by (n - k * size) (omega (arith, low)) (omega (arith, high))
    where
      by : (e : ℕ) → n ≡ k * size + e → e ≤ size → calls_turns banked script size (k * size) k + turns_of banked
          script (k * size) n ≤ calls_turns banked script size n (div_ceil n size)
      by zero is few =
          let same : n ≡ k * size = omega (arith, is) in
          subst (λ z. calls_turns banked script size (k * size) k + turns_of banked script (k * size) z ≤ calls_turns
          banked script size z (div_ceil z size)) (sym same)
          (subst (λ calls. calls_turns banked script size (k * size) k + turns_of banked script (k * size) (k * size)
          ≤ calls_turns banked script size (k * size) calls) (sym (whole_calls k some))
          (omega (arith, no_turns (k * size))))
      by (suc e) is few =
          let earlier = calls_same (k * size) n k (omega arith) low in
          let end : min (suc k * size) n ≡ n = omega (arith, high) in
          let last : calls_turns banked script size n (suc k) ≡ calls_turns banked script size (k * size) k + turns_of
          banked script (k * size) n = λ i. sym earlier i + turns_of banked script (k * size) (end i) in
          subst (λ calls. calls_turns banked script size (k * size) k + turns_of banked script (k * size) n ≤
          calls_turns banked script size n calls) (sym (part_calls k e n some is few)) (omega (arith, last))

  run_split : (n : ℕ) → run_turns banked script size n ≡ (cost_of script n - live_cost_of script n) + calls_turns
      banked script size n (div_ceil n size)
  run_split n = refl

  -- within the bound of a whole run: before a call, behind it, and behind the tail
  pub turns_before : (k n before after : ℕ) → 0 < size → k * size ≤ n → n ≤ suc k * size →
      after ≤ before + calls_turns banked script size (k * size) k → after ≤ before + run_turns banked script size n
  turns_before k n before after some low high h = omega (arith, h, run_is k n some low high, run_split n)

  pub turns_behind : (k n before between after : ℕ) → 0 < size → k * size ≤ n → n ≤ suc k * size →
      between ≤ before + calls_turns banked script size (k * size) k →
      after ≤ between + turns_of banked script (k * size) n → after ≤ before + run_turns banked script size n
  turns_behind k n before between after some low high h g = omega (arith, h, g, run_is k n some low high, run_split n)

  pub turns_end : (k n before between fed after made all : ℕ) → 0 < size → k * size ≤ n → n ≤ suc k * size →
      between ≤ before + calls_turns banked script size (k * size) k →
      fed ≤ between + turns_of banked script (k * size) n
      → after + made ≤ fed + all → all + live_cost_of script n ≤ made + cost_of script n →
      after ≤ before + run_turns banked script size n
  turns_end k n before between fed after made all some low high h g tail cost =
      omega (arith, h, g, tail, cost, run_is k n some low high, run_split n)

  -- ---- a part of a run, from m frames on

  -- whole blocks have passed, and at most one more, which may be shorter
  abbrev Within : ℕ → ℕ → ℕ → ℕ → Type 0
  Within m k n calls = turns_from banked script size m k + turns_of banked script (m + k * size) n ≤ turns_from banked
      script size m calls + turns_of banked script (m + calls * size) n

  quotient : (q z : ℕ) → 0 < size → q * size ≤ z → z < suc q * size → z / size ≡ q
  quotient q z some low high = grind arith

  part_is : (m k n : ℕ) → 0 < size → m + k * size ≤ n → n ≤ m + suc k * size → Within m k n ((n - m) / size)
  part_is m k n some low high = elim (cases_lt n (m + suc k * size)) [
    | inl shorter ↦ subst (Within m k n)
        (sym (quotient k (n - m) some (omega (arith, low)) (omega (arith, shorter)))) (omega arith)
    | inr whole ↦
        let is : n ≡ m + suc k * size = omega (arith, whole, high) in
        let same : turns_of banked script (m + k * size) n ≡ turns_of banked script (m + k * size)
        (m + suc k * size) = ap (turns_of banked script (m + k * size)) is in
        subst (Within m k n) (sym (quotient (suc k) (n - m) some (omega (arith, is)) (omega (arith, is, some))))
        (omega (arith, same))
  ]

  -- before a call, and behind it
  pub part_before : (m k n before after : ℕ) → 0 < size → m + k * size ≤ n → n ≤ m + suc k * size →
      after ≤ before + turns_from banked script size m k → after ≤ before + part_turns banked script size m n
  part_before m k n before after some low high h = (let all = part_is m k n some low high in omega (arith, h, all))

  pub part_behind : (m k n before between after : ℕ) → 0 < size → m + k * size ≤ n → n ≤ m + suc k * size →
      between ≤ before + turns_from banked script size m k →
      after ≤ between + turns_of banked script (m + k * size) n → after ≤ before + part_turns banked script size m n
  part_behind m k n before between after some low high h g =
      (let all = part_is m k n some low high in omega (arith, h, g, all))

-- behind the tail
pub rest_behind : (banked : Bool) (script : Script) (size m n before : ℕ) (fed after : Counts) →
    fed.turns ≤ before + part_turns banked script size m n → TurnsByProducts fed after →
    after.multiplies + live_cost_of script n ≤ fed.multiplies + cost_of script n →
    after.turns ≤ before + rest_turns banked script size m n
rest_behind banked script size m n before fed after h tail cost = omega (arith, h, tail, cost)
