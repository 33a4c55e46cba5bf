-- A unit of filters, one for each channel.
use Rattle.std.proofs.Common.{◌≡◌, ◌∙◌, sym, subst, ℕ, ◌+◌, ◌-◌, ◌*◌, ◌<◌, ◌≤◌, List, ◌++◌}
use Rattle.std.proofs.Common.{get_or, length, take, drop, arith}
use Rattle.std.specs.Prelude.{All}
use Rattle.std.proofs.lemmas.List.{take-append-le, take_all}
use Rattle.std.proofs.Math.Nat.{mul-sub}
use Rattle.dsp_defs.specs.Shape.{whole_frames, live_frames}
use Rattle.dsp_unit.specs.Unit.{most_frames}
use Rattle.dsp_unit.proofs.ChannelLaws.{counts-took}
use Rattle.dsp_unit.specs.Filter.{FilterState, FilterMadeAs, IsByChannel, IsLike, IsNewFilter}
use Rattle.dsp_unit.specs.Filter.{AreFilters, filter_at, filter_room, no_filter}
use Rattle.dsp_defs.specs.declared.format.Fmt.{Fmt}
use Rattle.dsp_defs.specs.declared.script.Block.{Block}

pub written-whole : {X : Type 0} → (size : ℕ) (new old : List X) → length new ≡ size →
    take size (new ++ drop (length new) old) ≡ new
written-whole size new old e =
    let fits : size ≤ length new = omega arith in
    let full : length new ≤ size = omega arith in
    take-append-le size new (drop (length new) old) fits ∙ take_all size new full

-- a filter that was made in the same way gives as many values in a call
room-kept : (old new : FilterState) → FilterMadeAs old new → filter_room new ≡ filter_room old
room-kept old new made = (λ i. most_frames (made.block i) (made.capacity i))

-- new filters of a block, one for each channel
pub new-filters : (block : Block) (format : Fmt) (capacity : ℕ) (filters : List FilterState) → 1 ≤ length filters →
    IsByChannel format block → All (IsNewFilter block format capacity) filters → AreFilters format capacity filters
new-filters block format capacity filters some by new = record {
  some = some;
  alike = λ c d h. like c d h;
  format_is = first.format;
  by_channel = subst (λ b. IsByChannel format b) (sym first.block) by;
  counted = λ _. (0, λ c d h. (new c d h).counts);
  took = (0, λ c d h. counts-took _ 0 (new c d h).counts);
}
  where
    first : IsNewFilter block format capacity (filter_at filters 0)
    first = new 0 no_filter some

    like : (c : ℕ) (d : FilterState) → c < length filters → IsLike (filter_at filters 0) capacity (get_or filters c d)
    like c d h =
        let this = new c d h in
        record {
          block = this.block ∙ sym first.block;
          format = this.format ∙ sym first.format;
          capacity = this.capacity;
          ended = this.stands.running ∙ sym first.stands.running;
          tail =
              let mine : whole_frames block 0 ≡ live_frames block 0 + length (get_or filters c d).tail =
              subst (λ b. whole_frames b 0 ≡ live_frames b 0 + length (get_or filters c d).tail) this.block
              this.counts.tail_values in
              let its : whole_frames block 0 ≡ live_frames block 0 + length (filter_at filters 0).tail =
              subst (λ b. whole_frames b 0 ≡ live_frames b 0 + length (filter_at filters 0).tail) first.block
              first.counts.tail_values in
              omega (arith, mine, its);
        }

-- what stays of a unit's filters when each was made as before
pub kept-whole : (format : Fmt) (capacity input output channels : ℕ) (olds news : List FilterState) →
    AreFilters format capacity news → FilterMadeAs (filter_at olds 0) (filter_at news 0) →
    AreFilters format capacity olds × (input ≡ capacity) × (output ≡ filter_room (filter_at olds 0)) ×
    (channels ≤ 255) →
    AreFilters format capacity news × (input ≡ capacity) × (output ≡ filter_room (filter_at news 0)) × (channels ≤ 255)
kept-whole format capacity input output channels olds news are made before =
    (are, before.1, before.2 ∙ sym (room-kept (filter_at olds 0) (filter_at news 0) made), before.3)

-- a cost of all channels, from that of one
pub scaled : (c a b : ℕ) → c * a * b ≡ c * (1 * a * b)
scaled c a b = omega arith

pub scaled-one : (c n : ℕ) → c * n ≡ c * (1 * n)
scaled-one c n = omega arith

-- one that is nothing
pub scaled-none : (c : ℕ) → 0 ≡ c * 0
scaled-none c = omega arith

pub less-none : (c : ℕ) → 0 - 0 ≡ c * (0 - 0)
less-none c = omega arith

-- and a difference of costs
pub less-scaled : (c m n a : ℕ) → c * n * a - c * m * a ≡ c * (1 * n * a - 1 * m * a)
less-scaled c m n a = (λ i. scaled c n a i - scaled c m a i) ∙ sym (mul-sub c (1 * n * a) (1 * m * a))

-- the filters, by the capacity of the first one
pub are-first : (format : Fmt) (capacity : ℕ) (filters : List FilterState) → AreFilters format capacity filters →
    AreFilters format (filter_at filters 0).capacity filters
are-first format capacity filters are =
    subst (λ k. AreFilters format k filters) (sym (are.alike 0 no_filter
    (let some = are.some in omega (arith, some))).capacity) are
