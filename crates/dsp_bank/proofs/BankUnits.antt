-- Units of banks.
use Rattle.std.proofs.Common.{◌≡◌, ◌∙◌, ap, refl, sym, subst, ℕ, zero, suc, ◌+◌, ◌-◌, ◌*◌, ◌/◌, ◌<◌, ◌≤◌, ℤ, pos}
use Rattle.std.proofs.Common.{Bool, false, List, [], ◌∷◌, ◌++◌, length, take, replicate, flat_map, arith}
use Rattle.std.specs.List.{range_with_len}
use Rattle.std.specs.Prelude.{All, FitsSigned}
use Rattle.std.proofs.lemmas.List.{append-nil, length-replicate, replicate-append-replicate}
use Rattle.dsp_defs.specs.Block.{Frame, channel, frames_of, live, whole, channels_after}
use Rattle.dsp_defs.specs.Biquad.{Section}
use Rattle.dsp_defs.specs.Cost.{section_count, lane_turns}
use Rattle.dsp_defs.specs.Counts.{Counts}
use Rattle.dsp_defs.specs.Formats.{word}
use Rattle.dsp_defs.specs.declared.format.Fmt.{Fmt}
use Rattle.dsp_defs.specs.declared.format.Fmt.TheVariants.{Q7, Q15, Q31}
use Rattle.dsp_defs.specs.declared.script.Block.{Block}
use Rattle.dsp_defs.specs.declared.script.Block.TheVariants.{Biquad}
use Rattle.dsp_defs.proofs.FrameLemmas.{length-frames_in}
use Rattle.dsp_defs.proofs.KeptLaws.{in_words-place}
use Rattle.dsp_unit.specs.Channels.{AreFed, numbers_in, unit_of_filters}
use Rattle.dsp_unit.specs.Filter.{FilterState, FilterCounts, IsByChannel, IsLike, AreFilters, filter_at, no_filter}
use Rattle.dsp_unit.specs.Filter.{kept_of_all, tails_of}
use Rattle.dsp_defs.specs.Kept.{Each, IsOfKind, IsPlace, HasPlace, Fits, FitsAfter, InWord, in_words, kept_kinds}
use Rattle.dsp_defs.specs.Kept.{kept_numbers, kept_of_channel, sections_kept}
use Rattle.dsp_unit.specs.Unit.{UnitState, StandsFor, CountsFrames, Feeds, IsOutput, frames_in}
use Rattle.dsp_unit.proofs.ChannelFrames.{get_or-default, kept-places}
use Rattle.dsp_unit.proofs.ChannelKept.{length-numbers_in, numbers-in_pieces, pieces-same}
use Rattle.dsp_unit.proofs.ChannelLaws.{counts-took, length-unit_tail, live-by, whole-by}
use Rattle.dsp_unit.proofs.ChannelOutput.{unit-fed}
use Rattle.dsp_unit.proofs.SteadyFilters.{steady-size}
use Rattle.dsp_biquad.specs.Laws.{biquad-steady}
use Rattle.dsp_biquad.specs.Sections.{size_in}
use Rattle.dsp_bank.specs.Bank.{BankState, IsNewBank, IsNewBanked, IsWholeBank, bank_block, bank_filters, sections_of}
use Rattle.dsp_bank.specs.Bank.{unit_of_bank}
use Rattle.dsp_bank.proofs.Amounts.{kept-few}
use Rattle.dsp_bank.proofs.BankFed.{filter-of, length-filters}

-- ---- equal pieces

flat-replicate : {A : Type 0} (x : A) (k n a : ℕ) → flat_map (λ (_ : ℕ). replicate k x) (range_with_len a n)
    ≡ replicate (n * k) x
flat-replicate x k zero a = ap (λ m. replicate m x) (let none : 0 ≡ 0 * k = omega arith in none)
flat-replicate x k (suc n) a =
    ap (λ l. replicate k x ++ l) (flat-replicate x k n (a + 1)) ∙ replicate-append-replicate k (n * k) x
    ∙ ap (λ m. replicate m x) (let more : k + n * k ≡ suc n * k = omega arith in more)

-- the kinds of what a bank keeps
bank-kinds : (format : Fmt) (b : BankState) (n : ℕ) → kept_kinds format b.channels (bank_block b) n
    ≡ in_words (word format) (b.channels * (4 * sections_of format b))
bank-kinds format b n = flat-replicate (InWord (word format)) (4 * sections_of format b) b.channels 0

-- ---- zeros

sections-quiet : (format : Fmt) (p : ℕ) (cs : List Section) → sections_kept format p cs []
    ≡ replicate (length (sections_kept format p cs [])) (pos 0)
sections-quiet format p [] = refl
sections-quiet format p (c ∷ cs) = ap (λ l. pos 0 ∷ pos 0 ∷ pos 0 ∷ pos 0 ∷ l) (sections-quiet format p cs)

-- a cascade that has taken nothing keeps zeros
quiet : (format : Fmt) (p : ℕ) (numbers : List ℤ) → kept_of_channel format (Biquad p numbers) []
    ≡ replicate (4 * section_count format numbers) (pos 0)
quiet format p numbers =
    sections-quiet format p _
    ∙ ap (λ n. replicate n (pos 0)) (steady-size format (Biquad p numbers) (5 * section_count format numbers) 0
    (biquad-steady format p numbers) [] ∙ length-replicate (4 * section_count format numbers)
    (InWord (word format)))

-- ---- what a bank stands for

module _ (format : Fmt) (b : BankState) where
  bank-stands : (x : List Frame) → b.kept ≡ kept_numbers format b.channels (bank_block b) x
      → StandsFor (unit_of_bank format false b) x
  bank-stands x keeps = record {
    running = refl;
    keeps = keeps;
    tail_follows =
        whole-by format (bank_block b) (biquad-steady format b.post_shift b.coefficients).by_channel b.channels x
        ∙ sym (live-by format (bank_block b) (biquad-steady format b.post_shift b.coefficients).by_channel b.channels x)
        ∙ sym (append-nil (live format b.channels (bank_block b) x));
  }

  bank-counts : (n : ℕ) → HasPlace format b.channels (bank_block b) n b.kept
      → CountsFrames (unit_of_bank format false b) n
  bank-counts n place = record { running = refl; place = place; tail_frames = omega arith }

  -- as many numbers are at any place
  bank-placed : (n : ℕ) (numbers : List ℤ) → length numbers ≡ b.channels * (4 * sections_of format b)
      → HasPlace format b.channels (bank_block b) n numbers
  bank-placed n numbers size =
      subst (λ ks. Each IsPlace ks numbers) (sym (bank-kinds format b n)) (in_words-place (word format)
      (b.channels * (4 * sections_of format b)) numbers size)

  -- numbers of the width fit
  pub words-fit_bank : (n : ℕ) (numbers : List ℤ) → length b.kept ≡ b.channels * (4 * sections_of format b)
      → Each IsOfKind (in_words (word format) (length b.kept)) numbers → FitsAfter format b.channels (bank_block b) n
      numbers
  words-fit_bank n numbers size each = (
    tt,
    subst (λ ks. Each IsOfKind ks numbers) (sym (bank-kinds format b n))
        (subst (λ k. Each IsOfKind (in_words (word format) k) numbers) size each),
  )

  pub bank-fits_words : (numbers : List ℤ) → length b.kept ≡ b.channels * (4 * sections_of format b)
      → Fits format b.channels (bank_block b) numbers → Each IsOfKind (in_words (word format) (length b.kept)) numbers
  bank-fits_words numbers size fits =
      subst (λ k. Each IsOfKind (in_words (word format) k) numbers) (sym size) (subst (λ ks. Each IsOfKind ks numbers)
      (bank-kinds format b fits.0) fits.1.1)

  -- what it writes
  pub bank-output : (e : Bool) (frames out : List ℤ) → length frames ≡ length (frames_in b.channels frames)
      * b.channels → length (frames_in b.channels frames) ≤ b.capacity → length out ≡ length frames
      → All (FitsSigned (word format)) out →
      IsOutput (unit_of_bank format e b) b.capacity out
  bank-output e frames out whole few size fits =
      let many : length (frames_in b.channels out) ≡ length (frames_in b.channels frames) = length-frames_in
      b.channels out ∙ ap (λ n. n / b.channels) size ∙ sym (length-frames_in b.channels frames) in
      record {
        signal = record { whole_frames = size ∙ whole ∙ ap (λ n. n * b.channels) (sym many); in_format = fits };
        at_most = omega (arith, many, few);
      }

-- a bank that has taken nothing is whole
few-sections : (format : Fmt) (numbers : List ℤ) → length numbers ≤ 64 * size_in format
    → section_count format numbers ≤ 64
few-sections Q7 numbers few = omega (arith, few)
few-sections Q15 numbers few = omega (arith, few)
few-sections Q31 numbers few = omega (arith, few)

pub new-whole : (format : Fmt) (b : BankState) (p : ℕ) (numbers : List ℤ) (channels capacity : ℕ)
    → IsNewBank format p numbers channels capacity b → 1 ≤ channels → channels < 256
    → length numbers ≤ 64 * size_in format → IsWholeBank format b
new-whole format b p numbers channels capacity made some below few =
    let count = section_count format numbers in
    let long : length b.kept ≡ channels * count * 4 = ap length made.zeros
    ∙ length-replicate (channels * count * 4) (pos 0) in
    let turned : channels * count * 4 ≡ channels * (4 * count) = omega arith in
    record {
      some = subst (λ n. 1 ≤ n) (sym made.channels_are) some;
      size = long ∙ turned
          ∙ sym (λ i. made.channels_are i * (4 * section_count format (made.coefficients_are i)));
      few = kept-few (length b.kept) channels count long below (few-sections format numbers few);
    }

-- in a unit of the block
pub bank-new : (format : Fmt) (b : BankState) (p : ℕ) (numbers : List ℤ) (channels capacity : ℕ) (block : Block)
    → block ≡ Biquad p numbers → IsNewBank format p numbers channels capacity b → IsNewBanked block format channels
    capacity (unit_of_bank format false b)
bank-new format b p numbers channels capacity block is made =
    let sections : sections_of format b ≡ section_count format numbers = ap (section_count format)
    made.coefficients_are in
    let count : channels * section_count format numbers * 4 ≡ channels * (4 * section_count format numbers) = omega
    arith in
    let zeros : b.kept ≡ replicate (b.channels * (4 * sections_of format b)) (pos 0) =
    made.zeros ∙ ap (λ n. replicate n (pos 0)) (count ∙ sym (λ i. made.channels_are i * (4 * sections i))) in
    let keeps : b.kept ≡ kept_numbers format b.channels (bank_block b) [] =
    zeros ∙ sym (flat-replicate (pos 0) (4 * sections_of format b) b.channels 0)
    ∙ pieces-same (λ (_ : ℕ). replicate (4 * sections_of format b) (pos 0)) (λ i. kept_of_channel format
    (bank_block b) (channel i [])) b.channels (λ i h. sym (quiet format b.post_shift b.coefficients)) in
    record {
      block = (λ i. Biquad (made.post_shift_is i) (made.coefficients_are i)) ∙ sym is;
      format = refl;
      channels = made.channels_are;
      capacity = made.capacity_is;
      banked = refl;
      stands = bank-stands format b [] keeps;
      counts = bank-counts format b 0 (bank-placed format b 0 b.kept (ap length zeros ∙ length-replicate
          (b.channels * (4 * sections_of format b)) (pos 0)));
    }

-- ---- a bank beside a unit of filters

module _ (format : Fmt) (b : BankState) (is : IsWholeBank format b) where
  first-inside : 0 < b.channels
  first-inside = (let some = is.some in omega (arith, some))

  counts-one : (c : ℕ) → c < b.channels → FilterCounts (filter_at (bank_filters format false b) c) 0
  counts-one c h =
      subst (λ f. FilterCounts f 0) (sym (filter-of format b c h))
      (record {
        running = refl;
        place = in_words-place (word format) (4 * sections_of format b) (numbers_in (4 * sections_of format b) b.kept c)
            (length-numbers_in (4 * sections_of format b) b.channels b.kept is.size c h);
        tail_values = omega arith;
      })

  are-bank : AreFilters format b.capacity (bank_filters format false b)
  are-bank = record {
    some = (let long = length-filters format b in let some = is.some in omega (arith, long, some));
    alike = λ c d h. rw (get_or-default (bank_filters format false b) c d no_filter h) (like c (inside c h));
    format_is = ap (λ (f : FilterState). f.format) (filter-of format b 0 first-inside);
    by_channel = subst (λ (f : FilterState). IsByChannel format f.block) (sym (filter-of format b 0 first-inside))
        (biquad-steady format b.post_shift b.coefficients).by_channel;
    counted = λ _. (
      0,
      λ c d h. rw (get_or-default (bank_filters format false b) c d no_filter h)
          (counts-one c (inside c h)),
    );
    took = (
      0,
      λ c d h. rw (get_or-default (bank_filters format false b) c d no_filter h)
          (counts-took (filter_at (bank_filters format false b) c) 0 (counts-one c (inside c h))),
    );
  }
    where
      inside : (c : ℕ) → c < length (bank_filters format false b) → c < b.channels
      inside c h = (let long = length-filters format b in omega (arith, h, long))

      like : (c : ℕ) → c < b.channels → IsLike (filter_at (bank_filters format false b) 0) b.capacity
          (filter_at (bank_filters format false b) c)
      like c h =
          let this = filter-of format b c h in
          let first = filter-of format b 0 first-inside in
          record {
            block = ap (λ (f : FilterState). f.block) this ∙ sym (ap (λ (f : FilterState). f.block) first);
            format = ap (λ (f : FilterState). f.format) this ∙ sym (ap (λ (f : FilterState). f.format) first);
            capacity = ap (λ (f : FilterState). f.capacity) this;
            ended = ap (λ (f : FilterState). f.ended) this ∙ sym (ap (λ (f : FilterState). f.ended) first);
            tail = ap (λ (f : FilterState). length f.tail) this ∙ sym (ap (λ (f : FilterState). length f.tail) first);
          }

  kept-all : kept_of_all (bank_filters format false b) ≡ b.kept
  kept-all =
      kept-places (bank_filters format false b)
      ∙ ap (λ n. flat_map (λ c. (filter_at (bank_filters format false b) c).kept) (range_with_len 0 n))
      (length-filters format b)
      ∙ pieces-same (λ c. (filter_at (bank_filters format false b) c).kept) (numbers_in (4 * sections_of format b)
      b.kept) b.channels (λ c h. ap (λ (f : FilterState). f.kept) (filter-of format b c h))
      ∙ sym (numbers-in_pieces (4 * sections_of format b) b.channels b.kept is.size)

  no-tail : frames_of (tails_of (bank_filters format false b)) ≡ []
  no-tail = none (frames_of (tails_of (bank_filters format false b))) (length-unit_tail format b.capacity
      (bank_filters format false b) are-bank ∙ ap (λ (f : FilterState). length f.tail)
      (filter-of format b 0 first-inside))
    where
      none : (x : List Frame) → length x ≡ 0 → x ≡ []
      none [] e = refl
      none (f ∷ x) e = absurd (omega (arith, e))

  -- the unit of its filters is the bank, but for the turns
  as-plain : unit_of_filters format b.capacity (bank_filters format false b)
      ≡ record (unit_of_bank format false b) { banked = false }
  as-plain =
      let first = filter-of format b 0 first-inside in
      let long = length-filters format b in
      let kept = kept-all in
      let tail = no-tail in
      (λ i. record {
        block = (first i).block;
        format = format;
        channels = long i;
        capacity = b.capacity;
        banked = false;
        kept = kept i;
        tail = tail i;
        ended = (first i).ended;
      })

-- a bank is fed as its filters are, in the turns of a bank
module _ (format : Fmt) (old new : BankState) (taken given : List Frame) (before after : Counts)
    (fed : Feeds (record (unit_of_bank format false old) { banked = false }) (record (unit_of_bank format false new)
    { banked = false }) taken given before after)
    (turns : after.turns ≤ before.turns + 5 * sections_of format old * length taken * lane_turns format old.channels)
  where
    stands-plain : (x : List Frame) → StandsFor (unit_of_bank format false old) x
        → StandsFor (record (unit_of_bank format false old) { banked = false }) x
    stands-plain x stands = record {
      running = stands.running;
      keeps = stands.keeps;
      tail_follows = stands.tail_follows;
    }

    plain-stands : (x : List Frame) → StandsFor (record (unit_of_bank format false new) { banked = false }) x
        → StandsFor (unit_of_bank format false new) x
    plain-stands x stands = record {
      running = stands.running;
      keeps = stands.keeps;
      tail_follows = stands.tail_follows;
    }

    counts-plain : (n : ℕ) → CountsFrames (unit_of_bank format false old) n
        → CountsFrames (record (unit_of_bank format false old) { banked = false }) n
    counts-plain n counts = record { running = counts.running; place = counts.place; tail_frames = counts.tail_frames }

    plain-counts : (n : ℕ) → CountsFrames (record (unit_of_bank format false new) { banked = false }) n
        → CountsFrames (unit_of_bank format false new) n
    plain-counts n counts = record { running = counts.running; place = counts.place; tail_frames = counts.tail_frames }

    banked-feeds : Feeds (unit_of_bank format false old) (unit_of_bank format false new) taken given before after
    banked-feeds = record {
      made = record {
        block = fed.made.block;
        format = refl;
        channels = fed.made.channels;
        capacity = fed.made.capacity;
        banked = refl;
      };
      values = λ x stands. fed.values x (stands-plain x stands);
      stands = λ x stands. plain-stands (x ++ taken) (fed.stands x (stands-plain x stands));
      frames = λ n counts. fed.frames n (counts-plain n counts);
      counts = λ n counts. plain-counts (n + length taken) (fed.counts n (counts-plain n counts));
      multiplies = λ n counts. fed.multiplies n (counts-plain n counts);
      turns = λ n _. let more : n + length taken - n ≡ length taken = omega arith in rw more turns;
    }

-- and so the call of a unit
pub bank-feeds :
    (format : Fmt) (old : BankState) (kept' frames out : List ℤ) (before after : Counts) → IsWholeBank format old
    → IsWholeBank format (record old { kept = kept' }) → length frames ≤ length out →
    length frames ≡ length frames / old.channels * old.channels →
    AreFed (bank_filters format false old) (bank_filters format false (record old { kept = kept' }))
    (length frames / old.channels) frames (length frames / old.channels) out before after →
    after.turns ≤ before.turns + 5 * sections_of format old * (length frames / old.channels) * lane_turns format
    old.channels →
    Feeds (unit_of_bank format false old) (unit_of_bank format false (record old { kept = kept' }))
    (frames_in old.channels frames) (frames_in old.channels (take (length frames) out)) before after
bank-feeds format old kept' frames out before after is is' room whole fed turns =
    let new : BankState = record old { kept = kept' } in
    let olds = bank_filters format false old in
    let news = bank_filters format false (record old { kept = kept' }) in
    let count = length frames / old.channels in
    let long = length-filters format old in
    let room' : count * length olds ≤ length out = omega (
      arith,
      subst (λ n. length frames ≡ count * n) (sym long)
          whole,
      room,
    ) in
    let fed' = subst (λ k. AreFed olds news (length frames / k) frames count out before after) (sym long) fed in
    let running = ap (λ (f : FilterState). f.ended) (filter-of format old 0 (let some = is.some in omega
    (arith, some))) in
    let unit = unit-fed format old.capacity olds (are-bank format old is) count out room' news frames before after
    running fed' in
    let plain = subst (λ (u : UnitState). Feeds u (unit_of_filters format old.capacity news)
    (frames_in u.channels frames) (frames_in (channels_after u.channels u.block) (take (count * u.channels) out))
    before after) (as-plain format old is) unit in
    let plain' = subst (λ (v : UnitState). Feeds (record (unit_of_bank format false old) { banked = false }) v
    (frames_in old.channels frames) (frames_in old.channels (take (count * old.channels) out)) before after)
    (as-plain format (record old { kept = kept' }) is') plain in
    let plain'' = subst (λ k. Feeds (record (unit_of_bank format false old) { banked = false })
    (record (unit_of_bank format false (record old { kept = kept' })) { banked = false })
    (frames_in old.channels frames) (frames_in old.channels (take k out)) before after) (sym whole) plain' in
    banked-feeds format old (record old { kept = kept' }) (frames_in old.channels frames)
    (frames_in old.channels (take (length frames) out)) before after plain''
    (rw (length-frames_in old.channels frames) turns)

-- as many kept numbers
pub whole-kept : (format : Fmt) (b : BankState) (kept' : List ℤ) → IsWholeBank format b → length kept' ≡ length b.kept
    → IsWholeBank format (record b { kept = kept' })
whole-kept format b kept' is size = record {
  some = is.some;
  size = size ∙ is.size;
  few = (let few = is.few in omega (arith, few, size));
}

pub ruleset words = (bank-fits_words)
