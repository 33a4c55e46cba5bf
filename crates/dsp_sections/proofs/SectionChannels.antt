-- Outputs of a section that are written frame by frame for neighbouring channels.
use Rattle.std.proofs.Common.{ℕ, ◌≡◌, ◌<◌, ◌≤◌, ◌+◌, ◌-◌, ◌*◌, ℤ, pos, List, length, sym, ap, ◌∙◌, arith, ⊎_elim}
use Rattle.std.proofs.lemmas.Bool.{cases_lt}
use Rattle.std.proofs.lemmas.List.FromFn.{get_or-map-range_with_len}
use Rattle.std.proofs.Math.Nat.{mul-le-mul_right}
use Rattle.std.proofs.lemmas.Nat.{mul-add-lt}
use Rattle.std.proofs.lemmas.Simd.{get_or-chunk, length-chunk, get_or-put_chunk_below, get_or-put_chunk_at}
use Rattle.std.proofs.lemmas.Simd.{get_or-put_chunk_above, length-put_chunk}
use lib.Lanes.{chunk, put_chunk}
use Rattle.dsp_defs.specs.Biquad.{Section}
use Rattle.dsp_defs.specs.Signal.{sample, values}
use Rattle.dsp_defs.proofs.SumLemmas.{same_numbers}
use Rattle.dsp_defs.specs.declared.format.Fmt.{Fmt}
use Rattle.dsp_sections.specs.Sections.{cell, next_output, Follows, Stays}

module _ (row first N count frame : ℕ) (mid new ys : List ℤ) (long : length mid ≡ (count + 2) * row)
    (inside : first + N ≤ row) (below : frame < count) (size : length ys ≡ N)
    (is : new ≡ put_chunk ((frame + 2) * row + first) mid ys) where
  room : (frame + 2) * row + first + N ≤ length mid
  room = grind (arith, long, inside, below)

  new-size : length new ≡ length mid
  new-size = ap length is ∙ length-put_chunk ((frame + 2) * row + first) mid ys

  -- a frame that was there before
  cell-earlier : (n i : ℕ) → n < frame + 2 → i < row → cell row new n i ≡ cell row mid n i
  cell-earlier n i h k =
      let near = mul-add-lt n row i (frame + 2) h k in
      let low : n * row + i < (frame + 2) * row + first = omega (arith, near) in
      ap (λ l. sample l (n * row + i)) is ∙ get_or-put_chunk_below ((frame + 2) * row + first) mid ys (n * row + i)
      (pos 0) low

  -- a channel before those that are written
  cell-before : (n i : ℕ) → i < first → cell row new n i ≡ cell row mid n i
  cell-before n i k = ⊎_elim (λ h. cell-earlier n i h (omega (arith, k, inside)))
      (λ h. ⊎_elim (λ g. here (omega (arith, h, g))) later (cases_lt n (frame + 3))) (cases_lt n (frame + 2))
    where
      here : n ≡ frame + 2 → cell row new n i ≡ cell row mid n i
      here e =
          let same : n * row ≡ (frame + 2) * row = ap (λ m. m * row) e in
          let low : n * row + i < (frame + 2) * row + first = omega (arith, same, k) in
          ap (λ l. sample l (n * row + i)) is ∙ get_or-put_chunk_below ((frame + 2) * row + first) mid ys (n * row + i)
          (pos 0) low

      later : frame + 3 ≤ n → cell row new n i ≡ cell row mid n i
      later h =
          let far : (frame + 3) * row ≤ n * row = mul-le-mul_right row h in
          let split : (frame + 3) * row ≡ (frame + 2) * row + row = omega arith in
          let high : (frame + 2) * row + first + length ys ≤ n * row + i = omega (arith, far, split, inside, size) in
          ap (λ l. sample l (n * row + i)) is ∙ get_or-put_chunk_above ((frame + 2) * row + first) mid ys (n * row + i)
          (pos 0) high

  -- the frame that is written
  cell-written : (j : ℕ) → j < N → cell row new (frame + 2) (first + j) ≡ sample ys j
  cell-written j h =
      let place : (frame + 2) * row + (first + j) ≡ (frame + 2) * row + first + j = omega arith in
      ap (sample new) place ∙ ap (λ l. sample l ((frame + 2) * row + first + j)) is
      ∙ get_or-put_chunk_at ((frame + 2) * row + first) mid ys j (pos 0) (omega (arith, h, size))
      (omega (arith, size, room))

  -- the registers behind it
  pub written-chunk : ys ≡ chunk ((frame + 1 + 1) * row + first) N new
  written-chunk =
      let two : (frame + 1 + 1) * row + first ≡ (frame + 2) * row + first = omega arith in
      let long' : length (chunk ((frame + 2) * row + first) N new) ≡ N = length-chunk ((frame + 2) * row + first) N new
      (omega (arith, room, new-size)) in
      same_numbers ys (chunk ((frame + 2) * row + first) N new) (size ∙ sym long')
      (λ j h.
      let j' : j < N = omega (arith, h, size) in
      let place : (frame + 2) * row + (first + j) ≡ (frame + 2) * row + first + j = omega arith in
      sym (cell-written j j') ∙ ap (sample new) place
      ∙ sym (get_or-chunk ((frame + 2) * row + first) N new j (pos 0) j'))
      ∙ ap (λ a. chunk a N new) (sym two)

  pub earlier-chunk : (n : ℕ) → n < frame + 2 → chunk (n * row + first) N mid ≡ chunk (n * row + first) N new
  earlier-chunk n h =
      let fits : n * row + first + N ≤ length mid =
      (let less : n ≤ frame + 2 = omega (arith, h) in let near : n * row ≤ (frame + 2) * row = mul-le-mul_right row
      less in omega (arith, near, room)) in
      let l = length-chunk (n * row + first) N mid fits in
      let l' = length-chunk (n * row + first) N new (omega (arith, fits, new-size)) in
      same_numbers (chunk (n * row + first) N mid) (chunk (n * row + first) N new) (l ∙ sym l')
      (λ j k.
      let j' : j < N = omega (arith, k, l) in
      let place : n * row + (first + j) ≡ n * row + first + j = omega arith in
      get_or-chunk (n * row + first) N mid j (pos 0) j' ∙ ap (sample mid) (sym place)
      ∙ sym (cell-earlier n (first + j) h (omega (arith, j', inside)))
      ∙ ap (sample new) place ∙ sym (get_or-chunk (n * row + first) N new j (pos 0) j'))

  -- one frame more stays
  pub stays-past : (old : List ℤ) (i : ℕ) → i < row → Stays row old mid 2 i → Stays row old new 2 i
  stays-past old i h so_far = λ n k. cell-earlier n i (omega (arith, k)) h ∙ so_far n k

  pub stays-before : (old : List ℤ) (i : ℕ) → i < first → Stays row old mid (count + 2) i
      → Stays row old new (count + 2) i
  stays-before old i h so_far = λ n k. cell-before n i h ∙ so_far n k

  -- one frame more follows
  module _ (format : Fmt) (p : ℕ) (c : Section) (xs : List ℤ)
      (value : ys ≡ values N (λ j. next_output format p c (sample (chunk ((frame + 2) * row + first) N xs) j)
      (sample (chunk ((frame + 1) * row + first) N xs) j) (sample (chunk (frame * row + first) N xs) j)
      (sample (chunk ((frame + 1) * row + first) N mid) j) (sample (chunk (frame * row + first) N mid) j))) where
    chunk-cell : (zs : List ℤ) (n j : ℕ) → j < N → sample (chunk (n * row + first) N zs) j ≡ cell row zs n (first + j)
    chunk-cell zs n j h = get_or-chunk (n * row + first) N zs j (pos 0) h
        ∙ (let place : n * row + first + j ≡ n * row + (first + j) = omega arith in ap (sample zs) place)

    last : (j : ℕ) → j < N → cell row new (frame + 2) (first + j) ≡ next_output format p c
        (cell row xs (frame + 2) (first + j)) (cell row xs (frame + 1) (first + j)) (cell row xs frame (first + j))
        (cell row new (frame + 1) (first + j)) (cell row new frame (first + j))
    last j h =
        let k : first + j < row = omega (arith, h, inside) in
        cell-written j h ∙ ap (λ l. sample l j) value ∙ get_or-map-range_with_len _ 0 N j j (pos 0) h (omega arith)
        ∙ (λ i. next_output format p c (chunk-cell xs (frame + 2) j h i) (chunk-cell xs (frame + 1) j h i)
        (chunk-cell xs frame j h i)
        ((chunk-cell mid (frame + 1) j h ∙ sym (cell-earlier (frame + 1) (first + j) (omega arith) k)) i)
        ((chunk-cell mid frame j h ∙ sym (cell-earlier frame (first + j) (omega arith) k)) i))

    pub follows-more : (i : ℕ) → first ≤ i → i < first + N → Follows format p c row xs mid frame i
        → Follows format p c row xs new (frame + 1) i
    follows-more i low high so_far = λ n h. ⊎_elim (earlier n) (λ k. now n (omega (arith, h, k))) (cases_lt n frame)
      where
        k : i < row
        k = omega (arith, high, inside)

        earlier : (n : ℕ) → n < frame → cell row new (n + 2) i ≡ next_output format p c (cell row xs (n + 2) i)
            (cell row xs (n + 1) i) (cell row xs n i) (cell row new (n + 1) i) (cell row new n i)
        earlier n h =
            cell-earlier (n + 2) i (omega (arith, h)) k ∙ so_far n h
            ∙ (λ t. next_output format p c (cell row xs (n + 2) i) (cell row xs (n + 1) i) (cell row xs n i)
            (sym (cell-earlier (n + 1) i (omega (arith, h)) k) t) (sym (cell-earlier n i (omega (arith, h)) k) t))

        now : (n : ℕ) → n ≡ frame → cell row new (n + 2) i ≡ next_output format p c (cell row xs (n + 2) i)
            (cell row xs (n + 1) i) (cell row xs n i) (cell row new (n + 1) i) (cell row new n i)
        now n e =
            let j : first + (i - first) ≡ i = omega (arith, low) in
            let here = last (i - first) (omega (arith, low, high)) in
            rw (sym j, e) here

-- what follows in a channel that stays
follows-stays : (format : Fmt) (p : ℕ) (c : Section) (row : ℕ) (xs mid new : List ℤ) (count i : ℕ)
    → Stays row mid new (count + 2) i → Follows format p c row xs mid count i → Follows format p c row xs new count i
follows-stays format p c row xs mid new count i stays so_far = λ n h.
    stays (n + 2) (omega (arith, h)) ∙ so_far n h
    ∙ (λ t. next_output format p c (cell row xs (n + 2) i) (cell row xs (n + 1) i) (cell row xs n i)
    (sym (stays (n + 1) (omega (arith, h))) t) (sym (stays n (omega (arith, h))) t))

-- the channels before `first` follow, and a group more
pub follows-group : (format : Fmt) (p : ℕ) (c : Section) (row : ℕ) (xs mid new : List ℤ) (count first N m : ℕ)
    → m ≡ first + N → ((i : ℕ) → i < first → Stays row mid new (count + 2) i) →
    ((i : ℕ) → i < first → Follows format p c row xs mid count i)
    → ((i : ℕ) → first ≤ i → i < first + N → Follows format p c row xs new count i) → (i : ℕ) → i < m
    → Follows format p c row xs new count i
follows-group format p c row xs mid new count first N m end stays so_far group = λ i h.
    ⊎_elim (λ low. follows-stays format p c row xs mid new count i (stays i low) (so_far i low))
    (λ high. group i high (omega (arith, h, end))) (cases_lt i first)

pub past-group : (row : ℕ) (old mid new : List ℤ) → ((i : ℕ) → i < row → Stays row old mid 2 i)
    → ((i : ℕ) → i < row → Stays row mid new 2 i) → (i : ℕ) → i < row → Stays row old new 2 i
past-group row old mid new first second = λ i h n k. second i h n k ∙ first i h n k
