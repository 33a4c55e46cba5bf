-- A unit of filters gives its tail as its filters give theirs.
use Rattle.std.proofs.Common.{◌≡◌, ◌∙◌, ap, ap₂, refl, sym, subst, ℕ, ◌+◌, ◌-◌, ◌*◌, ◌/◌, ◌<◌, ℤ, List, [], ◌∷◌, ◌++◌}
use Rattle.std.proofs.Common.{length, arith, true, length-append}
use Rattle.std.proofs.lemmas.Bool.{false≢true}
use Rattle.std.proofs.lemmas.List.{nil_from_length}
use Rattle.dsp_defs.specs.Signal.{values}
use Rattle.dsp_defs.specs.Block.{Frame, frames_of}
use Rattle.std.specs.Prelude.{All}
use Rattle.dsp_defs.specs.Shape.{whole_frames}
use Rattle.dsp_defs.specs.Cost.{cost_so_far}
use Rattle.dsp_defs.specs.Counts.{Counts}
use Rattle.dsp_unit.specs.Unit.{made_so_far, Finishes, frames_in}
use Rattle.dsp_unit.specs.Filter.{IsByChannel, FilterState, FilterTook, filter_at, no_filter, made_with_left}
use Rattle.dsp_unit.specs.Filter.{tails_of, IsLike, AreFilters}
use Rattle.dsp_unit.specs.Channels.{unit_of_filters, samples_in, made_now, AreFinished}
use Rattle.dsp_defs.proofs.FrameLemmas.{length-frames_in}
use Rattle.dsp_unit.proofs.ChannelFrames.{frames-append, frames-cong, length-samples_in, frames-of_channels}
use Rattle.dsp_unit.proofs.ChannelFrames.{tail-places, get_or-default}
use Rattle.dsp_unit.proofs.ChannelLaws.{length-unit_tail, took-filters, filters-took}
use Rattle.dsp_defs.specs.declared.format.Fmt.{Fmt}

module _ (format : Fmt) (capacity : ℕ) (olds news : List FilterState) (are : AreFilters format capacity olds)
    (many : ℕ) (given : List ℤ) (before after : Counts) (finished : AreFinished olds news many given before after) where
  old-first : 0 < length olds
  old-first = (let some = are.some in omega (arith, some))

  within : (c : ℕ) → c < length news → c < length olds
  within c h = (let size = finished.size in omega (arith, h, size))

  block-kept : (c : ℕ) → c < length olds → (filter_at news c).block ≡ (filter_at olds 0).block
  block-kept c h = let (start, stop, finishes) = finished.each c h in finishes.made.block ∙
      (are.alike c no_filter h).block

  format-kept : (c : ℕ) → c < length olds → (filter_at news c).format ≡ format
  format-kept c h = let (start, stop, finishes) = finished.each c h in finishes.made.format ∙
      (are.alike c no_filter h).format ∙ are.format_is

  ended-now : (c : ℕ) → c < length olds → (filter_at news c).ended ≡ true
  ended-now c h = let (start, stop, finishes) = finished.each c h in finishes.ended

  tail-left : (c : ℕ) → c < length olds → length (filter_at olds 0).tail ≡ many + length (filter_at news c).tail
  tail-left c h =
      let (start, stop, finishes) = finished.each c h in
      sym (are.alike c no_filter h).tail
      ∙ ap length finishes.tail
      ∙ length-append (samples_in (length olds) many given c) (filter_at news c).tail
      ∙ ap (λ n. n + length (filter_at news c).tail) (length-samples_in (length olds) many given c)

  like-new : (c : ℕ) → c < length olds → IsLike (filter_at news 0) capacity (filter_at news c)
  like-new c h = record {
    block = block-kept c h ∙ sym (block-kept 0 old-first);
    format = format-kept c h ∙ sym (format-kept 0 old-first);
    capacity = (let (start, stop, finishes) = finished.each c h in finishes.made.capacity ∙
        (are.alike c no_filter h).capacity);
    ended = ended-now c h ∙ sym (ended-now 0 old-first);
    tail = (let one = tail-left c h in let other = tail-left 0 old-first in omega (arith, one, other));
  }

  -- what they took stays
  took-now : (n : ℕ) → All (λ f. FilterTook f n) olds → All (λ f. FilterTook f n) news
  took-now n took = λ c d h. rw (get_or-default news c d no_filter h)
      (let (start, stop, finishes) = finished.each c (within c h) in finishes.took n (took c no_filter (within c h)))

  pub are-finished : AreFilters format capacity news
  are-finished = record {
    some = (let some = are.some in let size = finished.size in omega (arith, some, size));
    alike = λ c d h. rw (get_or-default news c d no_filter h) (like-new c (within c h));
    format_is = format-kept 0 old-first;
    by_channel = subst (λ b. IsByChannel format b) (sym (block-kept 0 old-first)) are.by_channel;
    counted = λ running. absurd (false≢true (sym running ∙ ended-now 0 old-first));
    took = (are.took.0, took-now are.took.0 are.took.1);
  }

  pub channels-finish : length given / length olds ≡ many →
      Finishes (unit_of_filters format capacity olds) (unit_of_filters format capacity news)
      (frames_in (length olds) given) before after
  channels-finish size = record {
    made = record {
      block = block-kept 0 old-first;
      format = refl;
      channels = finished.size;
      capacity = refl;
      banked =
          refl;
    };
    ended = ended-now 0 old-first;
    tail =
        ap frames_of (tail-places olds)
        ∙ frames-cong (length olds) (λ c. (filter_at olds c).tail)
        (λ c. samples_in (length olds) many given c ++ (filter_at news c).tail)
        (λ c h. let (start, stop, finishes) = finished.each c h in finishes.tail)
        ∙ frames-append (length olds) (samples_in (length olds) many given) (λ c. (filter_at news c).tail) old-first
        (λ c h. length-samples_in (length olds) many given c ∙ sym (length-samples_in (length olds) many given 0))
        ∙ ap₂ {C = List Frame} (λ a b. a ++ b) (frames-of_channels (length olds) many given old-first size)
        (ap (λ n. frames_of (values n (λ c. (filter_at news c).tail))) (sym finished.size) ∙
        ap frames_of (sym (tail-places news)));
    spent = λ none.
        let (start, stop, finishes) = finished.each 0 old-first in
        let gone : many ≡ 0 = sym size ∙ sym (length-frames_in (length olds) given) ∙ ap length none in
        let nothing : samples_in (length olds) many given 0 ≡ [] =
        nil_from_length (samples_in (length olds) many given 0) (length-samples_in (length olds) many given 0 ∙ gone) in
        nil_from_length (frames_of (tails_of olds)) (length-unit_tail format capacity olds are ∙
        ap length (finishes.spent nothing));
    took = λ n took. filters-took format capacity news are-finished n
        (took-now n (took-filters format capacity olds are n took));
    multiplies = λ n took. (let made = finished.multiplies n (took-filters format capacity olds are n took) in
        omega (arith, made, made-old n, made-new n));
    turns = λ n took. (let turned = finished.turns n (took-filters format capacity olds are n took) in
        omega (arith, turned, made-old n, made-new n));
    measures = λ number. are-finished.by_channel.no_measures (length news) number _ ∙
        sym (are.by_channel.no_measures (length olds) number _);
  }
    where
      made-of : (filters : List FilterState) (left : ℕ) → AreFilters format capacity filters →
          length (frames_of (tails_of filters)) ≡ left → (filter_at filters 0).block ≡ (filter_at olds 0).block →
          length filters ≡ length olds → (n : ℕ) →
          made_so_far (unit_of_filters format capacity filters) n ≡ length olds * made_with_left
          (filter_at olds 0).format (filter_at olds 0).block n left
      made-of filters left alike long same many n =
          (λ i. cost_so_far format (many i) (same i) n n (whole_frames (same i) n - long i))
          ∙ are.by_channel.so_far (length olds) n n (whole_frames (filter_at olds 0).block n - left)
          ∙ ap (λ f. length olds * made_with_left f (filter_at olds 0).block n left) (sym are.format_is)

      made-old : (n : ℕ) → made_so_far (unit_of_filters format capacity olds) n ≡ length olds * made_now olds 0 n
      made-old n = made-of olds (length (filter_at olds 0).tail - 0) are
          (length-unit_tail format capacity olds are ∙ omega arith) refl refl n

      made-new : (n : ℕ) → made_so_far (unit_of_filters format capacity news) n ≡ length olds * made_now olds many n
      made-new n = made-of news (length (filter_at olds 0).tail - many) are-finished
          (length-unit_tail format capacity news are-finished ∙ omega (arith, tail-left 0 old-first))
          (block-kept 0 old-first) finished.size n
