-- The numbers that sections keep, four of each.
use Rattle.std.proofs.Common.{◌≡◌, ◌∙◌, ap, refl, sym, subst, ℕ, ◌+◌, ◌-◌, ◌*◌, ◌<◌, ◌≤◌, ℤ, List, [], ◌∷◌, ◌++◌}
use Rattle.std.proofs.Common.{length, flat_map, take, drop, get_or, set, slice_range, arith, length-append}
use Rattle.std.specs.List.{range_with_len}
use Rattle.std.proofs.lemmas.List.{append-nil, take_more, take_more_set}
use Rattle.std.proofs.lemmas.Slice.{take-put_mid}
use borrow.Rule.Slice.PartMut.{put_mid}
use Rattle.std.proofs.lemmas.Grind.{flat_map-append}
use Rattle.std.proofs.Math.Seq.{take-add}
use Rattle.dsp_unit.specs.Channels.{numbers_in}
use Rattle.dsp_defs.specs.Kept.{Kind, Each, IsOfKind}
use Rattle.dsp_unit.proofs.ChannelKept.{each-length, length-pieces, numbers-in_pieces, length-numbers_in, pieces-each}
use Rattle.dsp_unit.proofs.ChannelKept.{each-pieces}

module _ (kinds : List Kind) (four : length kinds ≡ 4) (n : ℕ) (numbers : List ℤ) where
  abbrev all_kinds : List Kind
  all_kinds = flat_map (λ (_ : ℕ). kinds) (range_with_len 0 n)

  pub kinds-count : Each IsOfKind all_kinds numbers → length numbers ≡ n * 4
  kinds-count each = each-length IsOfKind all_kinds numbers each ∙ length-pieces (λ (_ : ℕ). kinds) 4 n (λ _ _. four)

  module _ (whole : length numbers ≡ n * 4) where
    pub each-section : Each IsOfKind all_kinds numbers → (k : ℕ) → k < n → Each IsOfKind kinds (numbers_in 4 numbers k)
    each-section each k inside =
        each-pieces IsOfKind kinds (numbers_in 4 numbers) n (λ c h. length-numbers_in 4 n numbers whole c h ∙ sym four)
        (subst (λ zs. Each IsOfKind all_kinds zs) (numbers-in_pieces 4 n numbers whole) each) k inside

    pub sections-each : ((k : ℕ) → k < n → Each IsOfKind kinds (numbers_in 4 numbers k)) →
        Each IsOfKind all_kinds numbers
    sections-each each =
        subst (λ zs. Each IsOfKind all_kinds zs) (sym (numbers-in_pieces 4 n numbers whole))
        (pieces-each IsOfKind kinds (numbers_in 4 numbers) n each)

-- a piece of the numbers
pub piece-is : (numbers : List ℤ) (k : ℕ) → slice_range numbers (k * 4) (k * 4 + 4) ≡ numbers_in 4 numbers k
piece-is numbers k = let long : k * 4 + 4 - k * 4 ≡ 4 = omega arith in ap (λ m. take m (drop (k * 4) numbers)) long

-- one section more keeps its numbers
pub restored-more : {X : Type 0} (kept : X → List ℤ) (sections : List X) (s : X) (k : ℕ) (numbers : List ℤ) →
    k < length sections → kept s ≡ numbers_in 4 numbers k → flat_map kept (take k sections) ≡ take (k * 4) numbers →
    flat_map kept (take (k + 1) (set sections k s)) ≡ take ((k + 1) * 4) numbers
restored-more kept sections s k numbers inside here so_far =
    ap (flat_map kept) (take_more_set sections k s inside)
    ∙ flat_map-append kept (take k sections) (s ∷ [])
    ∙ (λ i. so_far i ++ (append-nil (kept s) ∙ here) i)
    ∙ sym (ap (λ m. take m numbers) more ∙ take-add (k * 4) 4 numbers)
  where
    more : (k + 1) * 4 ≡ k * 4 + 4
    more = omega arith

-- four numbers of each section
pub kept-count : {X : Type 0} (kept : X → List ℤ) → ((s : X) → length (kept s) ≡ 4) → (sections : List X) →
    length (flat_map kept sections) ≡ length sections * 4
kept-count kept four [] = refl
kept-count kept four (s ∷ sections) = omega (
  arith,
  length-append (kept s) (flat_map kept sections),
  four s,
  kept-count kept four sections,
)

-- one section more has its numbers written
pub kept-more :
    {X : Type 0} (kept : X → List ℤ) (sections : List X) (s : X) (k : ℕ) (out piece : List ℤ) → k < length sections →
    s ≡ get_or sections k s → k * 4 ≤ length out → piece ≡ kept s → length (kept s) ≡ 4 →
    take (k * 4) out ≡ flat_map kept (take k sections) →
    take ((k + 1) * 4) (put_mid (k * 4) (k * 4 + 4 - k * 4) out piece) ≡ flat_map kept (take (k + 1) sections)
kept-more kept sections s k out piece inside read within is four so_far =
    let long : length piece ≡ 4 = ap length is ∙ four in
    let next = take_more sections k s inside ∙ ap (λ x. take k sections ++ x ∷ []) (sym read) in
    take-put_mid (k * 4) (k * 4 + 4 - k * 4) out piece ((k + 1) * 4) (omega (arith, long)) within
    ∙ (λ i. so_far i ++ (is ∙ sym (append-nil (kept s))) i)
    ∙ sym (ap (flat_map kept) next ∙ flat_map-append kept (take k sections) (s ∷ []))
