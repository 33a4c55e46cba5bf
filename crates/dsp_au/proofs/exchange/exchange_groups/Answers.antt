use Rattle.std.proofs.Common.{◌≡◌, ◌∙◌, ℕ, ap, sym, ◌+◌, ◌-◌, ◌*◌, ◌/◌, ◌<◌, ◌≤◌, length, take, drop, arith, length-take}
use Rattle.std.proofs.Common.{length-drop}
use Rattle.std.proofs.lemmas.List.{take_all}
use Rattle.dsp_au.specs.Exchange.{exchanged, exchanged_first}
use Rattle.dsp_au.proofs.ExchangeLaws as laws
use Rattle.dsp_au.proofs.exchange.exchange_groups.Goals as goal
use Rattle.dsp_wave.proofs.SampleBytes.{within-bytes}

-- what is left behind the groups is whole samples
left_whole : (w k : ℕ) → 48 / w * w ≡ 48 → 1 ≤ w → k / w * w ≡ k → (k / w - k / 48 * (48 / w)) * w ≡ k - k / 48 * 48
left_whole w k group some whole =
    let place = laws.groups_end (k / 48) (48 / w) w 48 group in
    laws.samples_left (k / 48 * (48 / w)) (k / w) w some (omega (arith, place, whole)) ∙ omega (arith, place, whole)

pub exchange_by-requires-clause-whole : goal.exchange_by-requires-clause-whole
exchange_by-requires-clause-whole c =
    let w = c.args.width in
    let k = length c.args.bytes.now in
    let now = c.loop-i.bytes in
    let same : length now ≡ k = c.loop-i.auto.bytes in
    let size = left_whole w k c.requires.group c.requires.some c.requires.whole in
    let long : length (take (length now - k / 48 * 48) (drop (k / 48 * 48) now)) ≡ k - k / 48 * 48 = omega (
      arith,
      length-take (length now - k / 48 * 48) (drop (k / 48 * 48) now),
      length-drop (k / 48 * 48) now,
      same,
    ) in
    rw long (ap (λ m. m * w) (laws.counted (k / w - k / 48 * (48 / w)) w _ c.requires.some size) ∙ size)

pub loop-i-preserved : goal.loop-i-preserved
loop-i-preserved c =
    let w = c.args.width in
    let i = c.loop-i.i in
    let old = c.args.bytes.now in
    let now = c.loop-i.bytes in
    let out = c.exchange_group.new.bytes in
    let size : i * 48 + 48 - i * 48 ≡ 48 = omega arith in
    let same : length now ≡ length old = c.loop-i.auto.bytes in
    let room : length old / 48 * 48 ≤ length old = omega arith in
    let below : i < length old / 48 = omega arith in
    let part = take 48 (drop (i * 48) now) in
    let full : length part ≡ 48 = omega (
      arith,
      length-take 48 (drop (i * 48) now),
      length-drop (i * 48) now,
      within-bytes i (length old / 48) 48 below,
      room,
      same,
    ) in
    let is : out ≡ exchanged_first (48 / w) w part = c.exchange_group.ensures
    ∙ ap (λ n. exchanged w (take n (drop (i * 48) now))) size
    ∙ ap (λ n. exchanged_first (n / w) w part) full in
    let long : length out ≡ 48 =
    c.exchange_group.auto.bytes ∙ ap (λ n. length (take n (drop (i * 48) now))) size ∙ full in
    rw size (record {
      front = laws.one_more_group i (48 / w) w 48 (length old / 48) old now out c.requires.group below same room
          c.loop-i.invariant.front c.loop-i.invariant.rest long is;
      rest = laws.rest_stays i 48 (length old / 48) old now out below same room c.loop-i.invariant.rest long;
    })

pub returns : goal.returns
returns c =
    let w = c.args.width in
    let old = c.args.bytes.now in
    let now = c.loop-i.bytes in
    let out = c.exchange_by.new.bytes in
    let count = length old / 48 in
    let a = count * (48 / w) in
    let n = length old / w in
    let left = length now - count * 48 in
    let same : length now ≡ length old = c.loop-i.auto.bytes in
    let end : c.loop-i.i ≡ count = omega arith in
    let place : a * w ≡ count * 48 = laws.groups_end count (48 / w) w 48 c.requires.group in
    let within : a * w ≤ n * w = omega (arith, place, c.requires.whole) in
    let size : (n - a) * w ≡ left = laws.samples_left a n w c.requires.some within
    ∙ omega (arith, place, c.requires.whole, same) in
    let whole : length old ≡ count * 48 + left = omega (arith, same) in
    let all : take left (drop (count * 48) now) ≡ drop (count * 48) now = take_all left (drop (count * 48) now)
    (omega (arith, length-drop (count * 48) now)) in
    let few : length (drop (count * 48) now) / w ≡ n - a = ap (λ m. m / w) (length-drop (count * 48) now)
    ∙ laws.counted (n - a) w left c.requires.some size in
    let is : out ≡ exchanged_first (n - a) w (drop (count * 48) now) = c.exchange_by.ensures ∙ ap (exchanged w) all
    ∙ ap (λ m. exchanged_first m w (drop (count * 48) now)) few in
    let long : length out ≡ left = c.exchange_by.auto.bytes ∙ ap length all ∙ length-drop (count * 48) now in
    let both : a + (n - a) ≡ n = laws.samples_within a n w c.requires.some within in
    laws.last_part a (n - a) w (count * 48) left old now out place size whole same
    (ap (λ m. take (m * 48) now) (sym end) ∙ c.loop-i.invariant.front
    ∙ ap (λ m. exchanged_first (m * (48 / w)) w old) end)
    (ap (λ m. drop (m * 48) now) (sym end) ∙ c.loop-i.invariant.rest ∙ ap (λ m. drop (m * 48) old) end) long is
    ∙ ap (λ m. exchanged_first m w old) both
