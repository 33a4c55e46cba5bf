-- Units of measures: they give the frames as they take them, and keep numbers for each measure.
use Rattle.std.proofs.Common.{◌≡◌, ◌∙◌, ap, refl, sym, subst, ℕ, zero, suc, ◌+◌, ◌-◌, ◌*◌, ◌/◌, ◌<◌, ◌≤◌, ℤ, pos}
use Rattle.std.proofs.Common.{List, [], ◌∷◌, ◌++◌, length, take, drop, replicate, flat_map, Bool, false, IfSome}
use Rattle.std.proofs.Common.{mul-le-mul_right, arith, rules}
use Rattle.std.specs.Prelude.{FitsSigned}
use Rattle.std.specs.List.{range_with_len}
use Rattle.std.proofs.lemmas.List.{append-nil, take-append-le, take_all}
use Rattle.dsp_defs.specs.Block.{Frame, live, whole, format_after, channels_after}
use Rattle.dsp_defs.specs.Cost.{live_block_cost, block_turns}
use Rattle.dsp_defs.specs.Counts.{Counts, Rises}
use Rattle.dsp_defs.specs.Formats.{accumulator}
use Rattle.dsp_defs.specs.Grammar.{Suits}
use Rattle.dsp_defs.specs.Numbers.{int_wrap}
use Rattle.dsp_defs.specs.Shape.{live_frames, whole_frames}
use Rattle.dsp_defs.specs.Signal.{sample}
use Rattle.dsp_defs.specs.declared.format.Fmt.{Fmt}
use Rattle.dsp_defs.specs.declared.format.Fmt.TheVariants.{Q7, Q15, Q31}
use Rattle.dsp_defs.specs.declared.script.Block.{Block}
use Rattle.dsp_unit.specs.Channels.{numbers_in}
use Rattle.dsp_defs.specs.Kept.{Each, IsPlace, IsOfKind, IsTaken, Fits, FitsAfter, HasPlace, kinds_by, kept_kinds}
use Rattle.dsp_defs.specs.Kept.{kept_numbers, extreme_kinds, limit_of}
use Rattle.dsp_unit.specs.Unit.{UnitState, MadeAs, StandsFor, CountsFrames, Feeds, Restores, Accepts, IsNew, IsSignal}
use Rattle.dsp_unit.specs.Unit.{IsOutput, frames_in, room_of, most_frames, most_kept}
use Rattle.dsp_defs.proofs.FrameLemmas.{length-frames_in}
use Rattle.dsp_unit.proofs.ChannelKept.{kinds-place, each-length, pieces-same, pieces-each}
use Rattle.dsp_measure.specs.Measures.{block_of, channels_of, parts_of, size_of, price_of, part_kept, AllCanTake}
use Rattle.dsp_measure.specs.Measures.{PartsFeed}
use Rattle.dsp_measure.specs.declared.measure_block.MeasureBlock.{MeasureBlock}
use Rattle.dsp_measure.specs.declared.measure_block.MeasureBlock.TheVariants as measure
use Rattle.dsp_measure.proofs.ExtremeLaws.{four-numbers}
use Rattle.dsp_measure.proofs.MeasureParts.{length-kept, kinds-each, each-kinds, kinds-parts, numbers-parts}
use Rattle.dsp_shape.proofs.KeptRules.{extreme-count}

-- ---- what the blocks have in common

module _ (format : Fmt) (channels : ℕ) where
  passes : (m : MeasureBlock) (x : List Frame) → live format channels (block_of m) x ≡ x
  passes measure.Power x = refl
  passes measure.Dot x = refl
  passes measure.CmplxDot x = refl
  passes measure.Max x = refl
  passes measure.Min x = refl

  passes-whole : (m : MeasureBlock) (x : List Frame) → whole format channels (block_of m) x ≡ x
  passes-whole measure.Power x = refl
  passes-whole measure.Dot x = refl
  passes-whole measure.CmplxDot x = refl
  passes-whole measure.Max x = refl
  passes-whole measure.Min x = refl

  pub channels-stay : (m : MeasureBlock) → channels_after channels (block_of m) ≡ channels
  channels-stay measure.Power = refl
  channels-stay measure.Dot = refl
  channels-stay measure.CmplxDot = refl
  channels-stay measure.Max = refl
  channels-stay measure.Min = refl

  format-stays : (m : MeasureBlock) → format_after format (block_of m) ≡ format
  format-stays measure.Power = refl
  format-stays measure.Dot = refl
  format-stays measure.CmplxDot = refl
  format-stays measure.Max = refl
  format-stays measure.Min = refl

  cost-of : (m : MeasureBlock) (n : ℕ) → live_block_cost format channels (block_of m) n ≡ parts_of m channels *
      (price_of m * n)
  cost-of measure.Power n = omega arith
  cost-of measure.Dot n = omega arith
  cost-of measure.CmplxDot n = omega arith
  cost-of measure.Max n = omega arith
  cost-of measure.Min n = omega arith

  turns-of : (m : MeasureBlock) (a b : ℕ) → block_turns format channels (block_of m) a b ≡ live_block_cost format
      channels (block_of m) b - live_block_cost format channels (block_of m) a
  turns-of measure.Power a b = refl
  turns-of measure.Dot a b = refl
  turns-of measure.CmplxDot a b = refl
  turns-of measure.Max a b = refl
  turns-of measure.Min a b = refl

frames-stay : (m : MeasureBlock) (n : ℕ) → live_frames (block_of m) n ≡ n
frames-stay measure.Power n = refl
frames-stay measure.Dot n = refl
frames-stay measure.CmplxDot n = refl
frames-stay measure.Max n = refl
frames-stay measure.Min n = refl

whole-stay : (m : MeasureBlock) (n : ℕ) → whole_frames (block_of m) n ≡ n
whole-stay measure.Power n = refl
whole-stay measure.Dot n = refl
whole-stay measure.CmplxDot n = refl
whole-stay measure.Max n = refl
whole-stay measure.Min n = refl

most-stay : (m : MeasureBlock) (n : ℕ) → most_frames (block_of m) n ≡ n
most-stay measure.Power n = refl
most-stay measure.Dot n = refl
most-stay measure.CmplxDot n = refl
most-stay measure.Max n = refl
most-stay measure.Min n = refl

-- as many measures as channels at most, and at least one
pub parts-few : (m : MeasureBlock) (channels : ℕ) → channels_of m ≤ channels → (0 < parts_of m channels) ×
    (parts_of m channels ≤ channels)
parts-few measure.Power channels h = (omega (arith, h), omega arith)
parts-few measure.Dot channels h = (omega arith, omega (arith, h))
parts-few measure.CmplxDot channels h = (omega arith, omega (arith, h))
parts-few measure.Max channels h = (omega (arith, h), omega arith)
parts-few measure.Min channels h = (omega (arith, h), omega arith)

-- a block that suits its place has the channels that it measures
pub enough-channels : (m : MeasureBlock) (format : Fmt) (channels : ℕ) (b : Block) → block_of m ≡ b → 1 ≤ channels →
    Suits (record { format = format; channels = channels }) b → channels_of m ≤ channels
enough-channels m format channels b is some suits = by m
    (subst (Suits (record { format = format; channels = channels })) (sym is) suits)
  where
    by : (k : MeasureBlock) → Suits (record { format = format; channels = channels }) (block_of k) →
        channels_of k ≤ channels
    by measure.Power fits = some
    by measure.Dot fits = omega (arith, fits.channels)
    by measure.CmplxDot fits = omega (arith, fits.channels)
    by measure.Max fits = some
    by measure.Min fits = some

-- ---- numbers at their place

four-kinds : (format : Fmt) (a b : ℕ) (p q r s : ℤ) → Each IsOfKind (extreme_kinds format a) (p ∷ q ∷ r ∷ s ∷ []) →
    Each IsPlace (extreme_kinds format b) (p ∷ q ∷ r ∷ s ∷ []) → a ≡ b
four-kinds format zero zero p q r s kinds place = refl
four-kinds format zero (suc b) p q r s kinds place = (let zero_is : p ≡ pos 0 = kinds.0 in let one_is : p ≡ pos 1 =
    place.0 in cc)
four-kinds format (suc a) zero p q r s kinds place = (let zero_is : p ≡ pos 0 = place.0 in let one_is : p ≡ pos 1 =
    kinds.0 in cc)
four-kinds format (suc a) (suc b) p q r s kinds place =
    (let one : s ≡ pos (suc a) = kinds.1.1.1.0 in let other : s ≡ pos (suc b) = place.1.1.1.0 in cc)

extreme-place : (format : Fmt) (a b : ℕ) (xs : List ℤ) → Each IsOfKind (extreme_kinds format a) xs →
    Each IsPlace (extreme_kinds format b) xs → a ≡ b
extreme-place format a b xs kinds place =
    let whole = four-numbers xs (each-length IsOfKind (extreme_kinds format a) xs kinds ∙
    extreme-count format a) in
    four-kinds format a b (sample xs 0) (sample xs 1) (sample xs 2) (sample xs 3)
    (subst (Each IsOfKind (extreme_kinds format a)) whole kinds)
    (subst (Each IsPlace (extreme_kinds format b)) whole place)

-- numbers of some count that are at the place of another are of its kinds
part-kinds : (format : Fmt) (m : MeasureBlock) (a b : ℕ) (xs : List ℤ) →
    Each IsOfKind (kinds_by format (block_of m) a) xs → Each IsPlace (kinds_by format (block_of m) b) xs →
    Each IsOfKind (kinds_by format (block_of m) b) xs
part-kinds format measure.Power a b xs kinds place = kinds
part-kinds format measure.Dot a b xs kinds place = kinds
part-kinds format measure.CmplxDot a b xs kinds place = kinds
part-kinds format measure.Max a b xs kinds place = subst (λ n. Each IsOfKind (extreme_kinds format n) xs)
    (extreme-place format a b xs kinds place) kinds
part-kinds format measure.Min a b xs kinds place = subst (λ n. Each IsOfKind (extreme_kinds format n) xs)
    (extreme-place format a b xs kinds place) kinds

place-kinds : (format : Fmt) (channels : ℕ) (m : MeasureBlock) (a b : ℕ) (xs : List ℤ) →
    Each IsOfKind (kept_kinds format channels (block_of m) a) xs → HasPlace format channels (block_of m) b xs →
    Each IsOfKind (kept_kinds format channels (block_of m) b) xs
place-kinds format channels m a b xs kinds place =
    each-kinds format channels m IsOfKind b xs (length-kept format channels m IsOfKind a xs kinds)
    (λ p h. part-kinds format m a b (numbers_in (size_of m) xs p)
    (kinds-each format channels m IsOfKind a xs kinds p h) (kinds-each format channels m IsPlace b xs place p h))

-- ---- the unit

-- a unit of the measure that is not ended
pub record IsMeasuring (m : MeasureBlock) (u : UnitState) : Type 0 where
  pub block : u.block ≡ block_of m
  pub running : u.ended ≡ false
  tail : u.tail ≡ []
  plain : u.banked ≡ false

module _ (m : MeasureBlock) (u : UnitState) (is : IsMeasuring m u) where
  measure-stands : (x : List Frame) → u.kept ≡ kept_numbers u.format u.channels (block_of m) x → StandsFor u x
  measure-stands x keeps = record {
    running = is.running;
    keeps = rw is.block keeps;
    tail_follows = rw (is.block, is.tail, passes-whole u.format u.channels m x, passes u.format u.channels m x)
        (sym (append-nil x));
  }

  measure-keeps : (x : List Frame) → StandsFor u x → u.kept ≡ kept_numbers u.format u.channels (block_of m) x
  measure-keeps x stands = rw is.block at stands.keeps

  measure-counts : (n : ℕ) → HasPlace u.format u.channels (block_of m) n u.kept → CountsFrames u n
  measure-counts n place = record {
    running = is.running;
    place = rw is.block place;
    tail_frames = rw (is.block, is.tail, whole-stay m n, frames-stay m n) (omega arith);
  }

  measure-place : (n : ℕ) → CountsFrames u n → HasPlace u.format u.channels (block_of m) n u.kept
  measure-place n counts = rw is.block at counts.place

-- what it may take
pub can-take : (m : MeasureBlock) (u : UnitState) (more : ℕ) → IsMeasuring m u →
    Fits u.format u.channels (block_of m) u.kept → Accepts u more → AllCanTake u.format u.channels m more u.kept
can-take m u more is fits accepts = by m is fits
  where
    limited : (k : MeasureBlock) → IsMeasuring k u → Fits u.format u.channels (block_of k) u.kept → (n : ℕ) →
        CountsFrames u n → IsTaken (block_of k) (n + more) → AllCanTake u.format u.channels k more u.kept
    limited k mine fits n counts few = (
      n,
      place-kinds u.format u.channels k fits.0 n u.kept fits.1.1
          (measure-place k u mine n counts),
      few,
    )

    told : {b : Block} → u.block ≡ b → IfSome (limit_of b) (λ limit. (n : ℕ) × CountsFrames u n × (n + more ≤ limit))
    told e = subst (λ b. IfSome (limit_of b) (λ limit. (n : ℕ) × CountsFrames u n × (n + more ≤ limit))) e accepts

    by : (k : MeasureBlock) → IsMeasuring k u → Fits u.format u.channels (block_of k) u.kept →
        AllCanTake u.format u.channels k more u.kept
    by measure.Power mine fits = (fits.0, fits.1.1, tt)
    by measure.Dot mine fits = (fits.0, fits.1.1, tt)
    by measure.CmplxDot mine fits = (fits.0, fits.1.1, tt)
    by measure.Max mine fits = let h : (n : ℕ) × CountsFrames u n × (n + more ≤ 4611686018427387903) =
        told mine.block in limited measure.Max mine fits h.0 h.1 h.2
    by measure.Min mine fits = let h : (n : ℕ) × CountsFrames u n × (n + more ≤ 4611686018427387903) =
        told mine.block in limited measure.Min mine fits h.0 h.1 h.2

-- fed with frames, each measure goes on
pub measure-feeds :
    (m : MeasureBlock) (u v : UnitState) (frames : List ℤ) (before after : Counts) → IsMeasuring m u →
    IsMeasuring m v → MadeAs u v → Fits u.format u.channels (block_of m) u.kept →
    PartsFeed u.format m u.channels frames u.kept v.kept →
    Rises before after (parts_of m u.channels * (price_of m * (length frames / u.channels)))
    (parts_of m u.channels * (price_of m * (length frames / u.channels))) →
    Feeds u v (frames_in u.channels frames) (frames_in u.channels frames) before after
measure-feeds m u v frames before after is is' made fits fed rises = record {
  made = made;
  values = λ x _. rw (is.block, passes u.format u.channels m (x ++ taken), passes u.format u.channels m x) refl;
  stands = λ x stands. measure-stands m v is' (x ++ taken)
      (rw (made.format, made.channels) (fed.stands x (measure-keeps m u is x stands)));
  frames = λ n _. rw (is.block, frames-stay m (n + length taken), frames-stay m n) refl;
  counts = λ n counts. measure-counts m v is' (n + length taken)
      (rw (made.format, made.channels, many) (kinds-place _ v.kept
      (fed.kinds n (place-kinds u.format u.channels m fits.0 n u.kept fits.1.1 (measure-place m u is n counts)))));
  multiplies = λ n _. rw (
    is.block,
    cost-of u.format u.channels m (n + length taken),
    cost-of u.format u.channels m n,
    many,
  ) (omega (arith, rises.multiplies_rise, more n (length frames / u.channels)));
  turns = λ n _. rw (
    is.plain,
    is.block,
    turns-of u.format u.channels m n (n + length taken),
    cost-of u.format u.channels m (n + length taken),
    cost-of u.format u.channels m n,
    many,
  )
      (omega (arith, rises.turns_rise, more n (length frames / u.channels)));
}
  where
    taken : List Frame
    taken = frames_in u.channels frames

    many : length taken ≡ length frames / u.channels
    many = length-frames_in u.channels frames

    product : (a b n k : ℕ) → a * (b * (n + k)) ≡ a * (b * n) + a * (b * k)
    product a b n k = omega arith

    more : (n k : ℕ) → parts_of m u.channels * (price_of m * (n + k)) ≡ parts_of m u.channels * (price_of m * n) +
        parts_of m u.channels * (price_of m * k)
    more n k = product (parts_of m u.channels) (price_of m) n k

-- what it gives is what it took
pub measure-output : (m : MeasureBlock) (u : UnitState) (frames : List ℤ) → IsMeasuring m u →
    IsSignal u.format u.channels frames → length (frames_in u.channels frames) ≤ u.capacity →
    IsOutput u (most_frames u.block u.capacity) frames
measure-output m u frames is signal few = record {
  signal =
      rw (is.block, format-stays u.format u.channels m, channels-stay u.format u.channels m) signal;
  at_most =
      rw (is.block, channels-stay u.format u.channels m, most-stay m u.capacity) few;
}

-- and the frames have room
pub measure-room :
    (m : MeasureBlock) (u : UnitState) (frames : List ℤ) (n : ℕ) → u.block ≡ block_of m →
    IsSignal u.format u.channels frames →
    length (frames_in u.channels frames) ≤ u.capacity → room_of u ≤ n → length frames ≤ n
measure-room m u frames n is signal few room =
    let most : u.capacity * u.channels ≤ n = rw (is, channels-stay u.format u.channels m, most-stay m u.capacity) at
    room in
    omega (arith, signal.whole_frames, mul-le-mul_right u.channels few, most)

pub measure-restores : (m : MeasureBlock) (u v : UnitState) (numbers : List ℤ) → IsMeasuring m u → IsMeasuring m v →
    MadeAs u v → v.kept ≡ numbers → Restores u v numbers
measure-restores m u v numbers is is' made kept = record {
  made = made;
  running = is'.running;
  kept = kept;
  stands = λ x e. measure-stands m v is' x (rw (made.format, made.channels) (kept ∙ (rw is.block at e)));
  counts = λ n place. measure-counts m v is' n (rw (made.format, made.channels, kept) (rw is.block at place));
}

-- ---- a new one

zero-sum : (format : Fmt) → FitsSigned (accumulator format) (pos 0)
zero-sum Q7 = search rules
zero-sum Q15 = search rules
zero-sum Q31 = search rules

zero-kinds : (format : Fmt) (m : MeasureBlock) → Each IsOfKind (kinds_by format (block_of m) 0)
    (replicate (size_of m) (pos 0))
zero-kinds format measure.Power = (zero-sum format, tt)
zero-kinds format measure.Dot = (zero-sum format, tt)
zero-kinds format measure.CmplxDot = (zero-sum format, (zero-sum format, tt))
zero-kinds format measure.Max = (refl, (refl, (refl, (refl, tt))))
zero-kinds format measure.Min = (refl, (refl, (refl, (refl, tt))))

none-taken : (m : MeasureBlock) → IsTaken (block_of m) 0
none-taken measure.Power = tt
none-taken measure.Dot = tt
none-taken measure.CmplxDot = tt
none-taken measure.Max = omega arith
none-taken measure.Min = omega arith

zero-part : (format : Fmt) (m : MeasureBlock) (p : ℕ) → replicate (size_of m) (pos 0) ≡ part_kept format m p []
unfolding int_wrap
zero-part Q7 measure.Power p = refl
zero-part Q15 measure.Power p = refl
zero-part Q31 measure.Power p = refl
zero-part Q7 measure.Dot p = refl
zero-part Q15 measure.Dot p = refl
zero-part Q31 measure.Dot p = refl
zero-part Q7 measure.CmplxDot p = refl
zero-part Q15 measure.CmplxDot p = refl
zero-part Q31 measure.CmplxDot p = refl
zero-part format measure.Max p = refl
zero-part format measure.Min p = refl

-- what all keep of nothing
zeros-parts : (size a n : ℕ) → flat_map (λ (_ : ℕ). replicate {A = ℤ} size (pos 0)) (range_with_len a n) ≡ replicate
    (n * size) (pos 0)
zeros-parts size a zero = ap (λ k. replicate k (pos 0)) (let e : 0 ≡ 0 * size = omega arith in e)
zeros-parts size a (suc n) =
    ap (λ l. replicate size (pos 0) ++ l) (zeros-parts size (a + 1) n)
    ∙ replicate-more size (n * size)
    ∙ ap (λ k. replicate k (pos 0)) (let e : size + n * size ≡ suc n * size = omega arith in e)
  where
    replicate-more : (j k : ℕ) → replicate {A = ℤ} j (pos 0) ++ replicate k (pos 0) ≡ replicate (j + k) (pos 0)
    replicate-more zero k = ap (λ m. replicate m (pos 0)) (let e : k ≡ 0 + k = omega arith in e)
    replicate-more (suc j) k = ap (λ l. pos 0 ∷ l) (replicate-more j k) ∙
        ap (λ m. replicate m (pos 0)) (let e : suc (j + k) ≡ suc j + k = omega arith in e)

module _ (format : Fmt) (channels : ℕ) (m : MeasureBlock) where
  abbrev many : ℕ
  many = parts_of m channels

  zeros-kept : replicate (many * size_of m) (pos 0) ≡ kept_numbers format channels (block_of m) []
  zeros-kept =
      sym (zeros-parts (size_of m) 0 many)
      ∙ pieces-same (λ (_ : ℕ). replicate (size_of m) (pos 0)) (λ p. part_kept format m p []) many
      (λ p _. zero-part format m p)
      ∙ sym (numbers-parts format channels m [])

  pub zeros-fit : FitsAfter format channels (block_of m) 0 (replicate (many * size_of m) (pos 0))
  zeros-fit = (
    none-taken m,
    subst (λ ks. Each IsOfKind ks (replicate (many * size_of m) (pos 0))) (sym (kinds-parts format channels m 0))
        (subst (Each IsOfKind (flat_map (λ (_ : ℕ). kinds_by format (block_of m) 0) (range_with_len 0 many)))
        (zeros-parts (size_of m) 0 many)
        (pieces-each IsOfKind (kinds_by format (block_of m) 0) (λ (_ : ℕ). replicate (size_of m) (pos 0)) many
        (λ p _. zero-kinds format m))),
  )

-- the state of a unit
abbrev pub state : MeasureBlock → Fmt → ℕ → ℕ → List ℤ → Bool → UnitState
state m format channels capacity kept ended =
    record {
      block = block_of m;
      format = format;
      channels = channels;
      capacity = capacity;
      banked = false;
      kept =
          kept;
      tail = [];
      ended = ended;
    }

pub is-measuring : (m : MeasureBlock) (format : Fmt) (channels capacity : ℕ) (kept : List ℤ) (ended : Bool) →
    ended ≡ false → IsMeasuring m (state m format channels capacity kept ended)
is-measuring m format channels capacity kept ended running =
    record { block = refl; running = running; tail = refl; plain = refl }

-- a unit that has taken nothing
pub measure-new : (m : MeasureBlock) (format : Fmt) (channels capacity : ℕ) (b : Block) → block_of m ≡ b →
    IsNew b format channels capacity (state m format channels capacity
    (replicate (parts_of m channels * size_of m) (pos 0)) false)
measure-new m format channels capacity b is =
    let zeros = replicate (parts_of m channels * size_of m) (pos 0) in
    let u = state m format channels capacity zeros false in
    let mine = is-measuring m format channels capacity zeros false refl in
    record {
      block = is;
      format = refl;
      channels = refl;
      capacity = refl;
      plain = refl;
      stands = measure-stands m u mine [] (zeros-kept format channels m);
      counts = measure-counts m u mine 0 (kinds-place _ zeros (zeros-fit format channels m).1);
    }

-- what was written in front of the rest
pub front-row : {X : Type 0} → (size : ℕ) (new rest : List X) → length new ≡ size → take size (new ++ rest) ≡ new
front-row size new rest e =
    let fits : size ≤ length new = omega (arith, e) in
    let full : length new ≤ size = omega (arith, e) in
    take-append-le size new rest fits ∙ take_all size new full

-- a row that was written whole
pub whole-row : {X : Type 0} → (size : ℕ) (new old : List X) → length new ≡ size →
    take size (new ++ drop (length new) old) ≡ new
whole-row size new old = front-row size new (drop (length new) old)

-- at most four numbers a channel
pub few-kept : (m : MeasureBlock) (format : Fmt) (channels : ℕ) (kept : List ℤ) → channels_of m ≤ channels →
    channels < 256 → Fits format channels (block_of m) kept → length kept ≤ most_kept
few-kept m format channels kept enough few fits =
    let size : length kept ≡ parts_of m channels * size_of m =
    length-kept format channels m IsOfKind fits.0 kept fits.1.1 in
    let parts = (parts-few m channels enough).1 in
    by m size parts
  where
    by : (k : MeasureBlock) → length kept ≡ parts_of k channels * size_of k → parts_of k channels ≤ channels →
        length kept ≤ most_kept
    by measure.Power size parts = omega (arith, size, few)
    by measure.Dot size parts = omega (arith, size, few)
    by measure.CmplxDot size parts = omega (arith, size, few)
    by measure.Max size parts = omega (arith, size, few)
    by measure.Min size parts = omega (arith, size, few)

-- as many numbers fit as are kept
pub same-count : (m : MeasureBlock) (format : Fmt) (channels : ℕ) (kept numbers : List ℤ) →
    Fits format channels (block_of m) kept → Fits format channels (block_of m) numbers → length kept ≡ length numbers
same-count m format channels kept numbers fits other =
    length-kept format channels m IsOfKind fits.0 kept fits.1.1 ∙
    sym (length-kept format channels m IsOfKind other.0 numbers other.1.1)
