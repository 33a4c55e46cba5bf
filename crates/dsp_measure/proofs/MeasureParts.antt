-- What one measure keeps goes on with the frames, and so do all of a unit.
use Rattle.std.proofs.Common.{◌≡◌, ◌∙◌, ap, refl, sym, subst, ℕ, zero, suc, ◌+◌, ◌*◌, ◌/◌, ◌<◌, ◌≤◌, ℤ, List, [], ◌∷◌}
use Rattle.std.proofs.Common.{◌++◌, length, take, drop, true, false, Option, Some, None, flat_map, arith}
use Rattle.std.proofs.Common.{length-append, length-take, below_more}
use Rattle.std.specs.List.{range_with_len}
use Rattle.std.proofs.Math.Seq.{drop-append_seam}
use Rattle.std.proofs.lemmas.List.{length-map, drop-take}
use Rattle.std.proofs.lemmas.Slice.{take-put_mid_below, take-put_mid, drop-put_mid}
use borrow.Rule.Slice.PartMut.{put_mid}
use Rattle.dsp_defs.specs.Block.{Frame, channel}
use Rattle.dsp_defs.specs.Formats.{accumulator}
use Rattle.dsp_defs.specs.Measure.{dot, cmplx_dot_sums, maximum, minimum}
use Rattle.dsp_defs.specs.Signal.{sample}
use Rattle.dsp_defs.specs.declared.format.Fmt.{Fmt}
use Rattle.dsp_unit.specs.Channels.{samples_in, numbers_in}
use Rattle.dsp_defs.specs.Kept
use Rattle.dsp_defs.specs.Kept.{Each, IsOfKind, in_words, kinds_by, kept_kinds, kept_numbers, extreme_kept}
use Rattle.dsp_defs.specs.Kept.{extreme_kinds}
use Rattle.dsp_unit.specs.Unit.{frames_in}
use Rattle.dsp_unit.proofs.ChannelFrames.{channel-frames_in, length-samples_in}
use Rattle.dsp_unit.proofs.ChannelKept.{length-words, length-pieces, pieces-apart, pieces-same, pieces-each}
use Rattle.dsp_unit.proofs.ChannelKept.{each-pieces, each-length, numbers-in_pieces, length-numbers_in}
use Rattle.dsp_measure.specs.Extremes.{extreme}
use Rattle.dsp_measure.specs.Measures.{block_of, parts_of, size_of, part_kept, PartFeeds, PartsFeed}
use Rattle.dsp_measure.specs.Sums.{with_products, with_complex}
use Rattle.dsp_measure.specs.declared.measure_block.MeasureBlock.{MeasureBlock}
use Rattle.dsp_measure.specs.declared.measure_block.MeasureBlock.TheVariants as measure
use Rattle.dsp_measure.proofs.SumLaws.{dot-more, complex-more}
use Rattle.dsp_measure.proofs.ExtremeLaws.{extreme-maximum, extreme-minimum}
use Rattle.dsp_defs.proofs.Causal.{channel-append}

module _ (format : Fmt) (channels : ℕ) (frames : List ℤ) where
  abbrev many : ℕ
  many = length frames / channels

  abbrev more : ℕ → List ℤ
  more c = samples_in channels many frames c

  -- a channel of a signal that goes on
  goes-on : (x : List Frame) (c : ℕ) → c < channels → channel c x ++ more c ≡ channel c (x ++ frames_in channels frames)
  goes-on x c inside = ap (λ l. channel c x ++ l) (sym (channel-frames_in channels frames c inside)) ∙
      sym (channel-append c x (frames_in channels frames))

  same-length : (x : List Frame) (c d : ℕ) → length (channel c x) ≡ length (channel d x)
  same-length x c d = length-map x (λ (f : Frame). sample f c) ∙ sym (length-map x (λ (f : Frame). sample f d))

  -- a sum of the products of two channels
  dot-goes : (x : List Frame) (a b : ℕ) (s : ℤ) → a < channels → b < channels →
      s ≡ dot format (channel a x) (channel b x) → with_products format s (more a) (more b) ≡ dot format
      (channel a (x ++ frames_in channels frames)) (channel b (x ++ frames_in channels frames))
  dot-goes x a b s ina inb is =
      ap (λ t. with_products format t (more a) (more b)) is
      ∙ dot-more format (channel a x) (channel b x) (more a) (more b) (same-length x a b)
      ∙ (λ i. dot format (goes-on x a ina i) (goes-on x b inb i))

  pub power-part : (part : ℕ) (old new : List ℤ) → part < channels →
      new ≡ with_products format (sample old 0) (more part) (more part) ∷ [] →
      Each IsOfKind (in_words (accumulator format) 1) new → PartFeeds format measure.Power channels part frames old new
  power-part part old new inside sum fits = record {
    stands = λ x e. sum ∙ ap (λ s. s ∷ []) (dot-goes x part part (sample old 0) inside inside (ap (λ l. sample l 0) e));
    kinds = λ n _. fits;
  }

  pub dot-part : (part : ℕ) (old new : List ℤ) → 2 ≤ channels →
      new ≡ with_products format (sample old 0) (more 0) (more 1) ∷ [] →
      Each IsOfKind (in_words (accumulator format) 1) new → PartFeeds format measure.Dot channels part frames old new
  dot-part part old new enough sum fits = record {
    stands = λ x e. sum ∙ ap (λ s. s ∷ []) (dot-goes x 0 1 (sample old 0) (omega (arith, enough))
        (omega (arith, enough)) (ap (λ l. sample l 0) e));
    kinds = λ n _. fits;
  }

  pub complex-part : (part : ℕ) (old new : List ℤ) → 4 ≤ channels →
      sample new 0 ≡ (with_complex format (sample old 0, sample old 1) (more 0) (more 1) (more 2) (more 3)).0 →
      sample new 1 ≡ (with_complex format (sample old 0, sample old 1) (more 0) (more 1) (more 2) (more 3)).1 →
      Each IsOfKind (in_words (accumulator format) 2) new →
      PartFeeds format measure.CmplxDot channels part frames old new
  complex-part part old new enough re im fits = record {
    stands = λ x e. (
        let sums : with_complex format (sample old 0, sample old 1) (more 0) (more 1) (more 2) (more 3) ≡
        cmplx_dot_sums format (longer x 0) (longer x 1) (longer x 2) (longer x 3) =
        ap (λ (s : ℤ × ℤ). with_complex format s (more 0) (more 1) (more 2) (more 3))
        (λ i. (sample (e i) 0, sample (e i) 1))
        ∙ complex-more format (channel 0 x) (channel 1 x) (channel 2 x) (channel 3 x) (more 0) (more 1) (more 2)
        (more 3) (same-length x 0 1) (same-length x 0 2) (same-length x 0 3)
        ∙ (λ i. cmplx_dot_sums format (goes-on x 0 (omega (arith, enough)) i) (goes-on x 1 (omega (arith, enough)) i)
        (goes-on x 2 (omega (arith, enough)) i) (goes-on x 3 (omega (arith, enough)) i)) in
        two new (length-words IsOfKind (accumulator format) 2 new fits)
        ∙ (λ i. (re ∙ ap (λ (s : ℤ × ℤ). s.0) sums) i ∷ (im ∙ ap (λ (s : ℤ × ℤ). s.1) sums) i ∷ []));
    kinds = λ n _. fits;
  }
    where
      longer : List Frame → ℕ → List ℤ
      longer x c = channel c (x ++ frames_in channels frames)

      two : (xs : List ℤ) → length xs ≡ 2 → xs ≡ sample xs 0 ∷ sample xs 1 ∷ []
      two [] h = absurd (omega (arith, h))
      two (a ∷ []) h = absurd (omega (arith, h))
      two (a ∷ b ∷ []) h = refl
      two (a ∷ b ∷ c ∷ xs) h = absurd (omega (arith, h))

  -- an extreme by either order
  longer-count : (x : List Frame) (c : ℕ) → c < channels →
      length (channel c x) + many ≡ length (channel c (x ++ frames_in channels frames))
  longer-count x c inside = ap (λ k. length (channel c x) + k) (sym (length-samples_in channels many frames c)) ∙
      sym (length-append (channel c x) (more c)) ∙ ap length (goes-on x c inside)

  pub max-part : (part : ℕ) (old new : List ℤ) → part < channels →
      ((x : List ℤ) → old ≡ extreme_kept (extreme false x) (length x) →
      new ≡ extreme_kept (extreme false (x ++ more part)) (length x + many)) →
      ((n : ℕ) → Each IsOfKind (extreme_kinds format n) old → Each IsOfKind (extreme_kinds format (n + many)) new) →
      PartFeeds format measure.Max channels part frames old new
  max-part part old new inside stands kinds = record {
    stands = λ x e. stands (channel part x) (e ∙ ap (λ f. extreme_kept f (length (channel part x)))
        (sym (extreme-maximum (channel part x))))
        ∙ (λ i. extreme_kept ((extreme-maximum (channel part x ++ more part) ∙ ap maximum (goes-on x part inside)) i)
        (longer-count x part inside i));
    kinds = kinds;
  }

  pub min-part : (part : ℕ) (old new : List ℤ) → part < channels →
      ((x : List ℤ) → old ≡ extreme_kept (extreme true x) (length x) →
      new ≡ extreme_kept (extreme true (x ++ more part)) (length x + many)) →
      ((n : ℕ) → Each IsOfKind (extreme_kinds format n) old → Each IsOfKind (extreme_kinds format (n + many)) new) →
      PartFeeds format measure.Min channels part frames old new
  min-part part old new inside stands kinds = record {
    stands = λ x e. stands (channel part x) (e ∙ ap (λ f. extreme_kept f (length (channel part x)))
        (sym (extreme-minimum (channel part x))))
        ∙ (λ i. extreme_kept ((extreme-minimum (channel part x ++ more part) ∙ ap minimum (goes-on x part inside)) i)
        (longer-count x part inside i));
    kinds = kinds;
  }

-- ---- one measure after another

-- a measure keeps as many numbers whatever it took, and all keep them one after another
length-kinds : (format : Fmt) (m : MeasureBlock) (n : ℕ) → length (kinds_by format (block_of m) n) ≡ size_of m
length-kinds format measure.Power n = refl
length-kinds format measure.Dot n = refl
length-kinds format measure.CmplxDot n = refl
length-kinds format measure.Max zero = refl
length-kinds format measure.Max (suc n) = refl
length-kinds format measure.Min zero = refl
length-kinds format measure.Min (suc n) = refl

pub kinds-parts : (format : Fmt) (channels : ℕ) (m : MeasureBlock) (n : ℕ) →
    kept_kinds format channels (block_of m) n ≡ flat_map (λ (_ : ℕ). kinds_by format (block_of m) n)
    (range_with_len 0 (parts_of m channels))
kinds-parts format channels measure.Power n = refl
kinds-parts format channels measure.Dot n = refl
kinds-parts format channels measure.CmplxDot n = refl
kinds-parts format channels measure.Max n = refl
kinds-parts format channels measure.Min n = refl

pub numbers-parts : (format : Fmt) (channels : ℕ) (m : MeasureBlock) (x : List Frame) →
    kept_numbers format channels (block_of m) x ≡ flat_map (λ p. part_kept format m p x)
    (range_with_len 0 (parts_of m channels))
numbers-parts format channels measure.Power x = refl
numbers-parts format channels measure.Dot x = refl
numbers-parts format channels measure.CmplxDot x = refl
numbers-parts format channels measure.Max x = refl
numbers-parts format channels measure.Min x = refl

length-extreme : (found : Option (ℤ × ℕ)) (count : ℕ) → length (extreme_kept found count) ≡ 4
length-extreme None count = refl
length-extreme (Some best) count = refl

length-part : (format : Fmt) (m : MeasureBlock) (p : ℕ) (x : List Frame) → length (part_kept format m p x) ≡ size_of m
length-part format measure.Power p x = refl
length-part format measure.Dot p x = refl
length-part format measure.CmplxDot p x = refl
length-part format measure.Max p x = length-extreme (maximum (channel p x)) (length (channel p x))
length-part format measure.Min p x = length-extreme (minimum (channel p x)) (length (channel p x))

module _ (format : Fmt) (channels : ℕ) (m : MeasureBlock) where
  abbrev parts : ℕ
  parts = parts_of m channels

  -- the numbers of all are as many
  pub length-kept : (P : Kept.Kind → ℤ → Type 0) (n : ℕ) (numbers : List ℤ) →
      Each P (kept_kinds format channels (block_of m) n) numbers → length numbers ≡ parts * size_of m
  length-kept P n numbers each =
      each-length P (kept_kinds format channels (block_of m) n) numbers each
      ∙ ap length (kinds-parts format channels m n)
      ∙ length-pieces (λ (_ : ℕ). kinds_by format (block_of m) n) (size_of m) parts (λ _ _. length-kinds format m n)

  -- those of each are of its kinds
  pub kinds-each : (P : Kept.Kind → ℤ → Type 0) (n : ℕ) (numbers : List ℤ) →
      Each P (kept_kinds format channels (block_of m) n) numbers → (p : ℕ) → p < parts →
      Each P (kinds_by format (block_of m) n) (numbers_in (size_of m) numbers p)
  kinds-each P n numbers each p inside =
      let whole = length-kept P n numbers each in
      let cut : Each P (flat_map (λ (_ : ℕ). kinds_by format (block_of m) n) (range_with_len 0 parts))
      (flat_map (numbers_in (size_of m) numbers) (range_with_len 0 parts)) =
      subst (λ ks. Each P ks (flat_map (numbers_in (size_of m) numbers) (range_with_len 0 parts)))
      (kinds-parts format channels m n)
      (subst (Each P (kept_kinds format channels (block_of m) n)) (numbers-in_pieces (size_of m) parts numbers whole)
      each) in
      each-pieces P (kinds_by format (block_of m) n) (numbers_in (size_of m) numbers) parts
      (λ c h. length-numbers_in (size_of m) parts numbers whole c h ∙ sym (length-kinds format m n)) cut p inside

  pub each-kinds : (P : Kept.Kind → ℤ → Type 0) (n : ℕ) (numbers : List ℤ) → length numbers ≡ parts * size_of m →
      ((p : ℕ) → p < parts → Each P (kinds_by format (block_of m) n) (numbers_in (size_of m) numbers p)) →
      Each P (kept_kinds format channels (block_of m) n) numbers
  each-kinds P n numbers whole each =
      subst (λ ks. Each P ks numbers) (sym (kinds-parts format channels m n))
      (subst (Each P (flat_map (λ (_ : ℕ). kinds_by format (block_of m) n) (range_with_len 0 parts)))
      (sym (numbers-in_pieces (size_of m) parts numbers whole))
      (pieces-each P (kinds_by format (block_of m) n) (numbers_in (size_of m) numbers) parts each))

  -- and are what it keeps of a signal
  kept-each : (x : List Frame) (numbers : List ℤ) → length numbers ≡ parts * size_of m →
      numbers ≡ kept_numbers format channels (block_of m) x → (p : ℕ) → p < parts →
      numbers_in (size_of m) numbers p ≡ part_kept format m p x
  kept-each x numbers whole e p inside =
      pieces-apart (numbers_in (size_of m) numbers) (λ q. part_kept format m q x) parts (size_of m)
      (length-numbers_in (size_of m) parts numbers whole) (λ q _. length-part format m q x)
      (sym (numbers-in_pieces (size_of m) parts numbers whole) ∙ e ∙ numbers-parts format channels m x) p inside

  each-kept : (x : List Frame) (numbers : List ℤ) → length numbers ≡ parts * size_of m →
      ((p : ℕ) → p < parts → numbers_in (size_of m) numbers p ≡ part_kept format m p x) →
      numbers ≡ kept_numbers format channels (block_of m) x
  each-kept x numbers whole each =
      numbers-in_pieces (size_of m) parts numbers whole ∙
      pieces-same (numbers_in (size_of m) numbers) (λ q. part_kept format m q x) parts each ∙
      sym (numbers-parts format channels m x)

-- those before `done` took the frames, and the others are as they were
pub record PartsSoFar (format : Fmt) (m : MeasureBlock) (channels : ℕ) (frames olds news : List ℤ) (done : ℕ) : Type 0
  where
    pub fed : (p : ℕ) → p < done → PartFeeds format m channels p frames (numbers_in (size_of m) olds p)
        (numbers_in (size_of m) news p)
    pub left : (p : ℕ) → done ≤ p → numbers_in (size_of m) news p ≡ numbers_in (size_of m) olds p

-- ---- numbers of one part that are written

module _ (size p start k : ℕ) (xs piece : List ℤ) (at : start ≡ p * size) (many : k ≡ size)
    (long : length piece ≡ size) (within : p * size + size ≤ length xs) where
  abbrev written : List ℤ
  written = put_mid start k xs piece

  by-front : (q : ℕ) (l : List ℤ) → numbers_in size l q ≡ drop (q * size) (take (q * size + size) l)
  by-front q l = sym (drop-take (q * size) size l)

  part-before : (q : ℕ) → q < p → numbers_in size written q ≡ numbers_in size xs q
  part-before q less =
      let room : q * size + size ≤ p * size = grind (arith, less) in
      by-front q written ∙ ap (drop (q * size)) (take-put_mid_below start k xs piece (q * size + size)
      (omega (arith, room, at)) (omega (arith, at, within))) ∙ sym (by-front q xs)

  part-here : numbers_in size written p ≡ piece
  part-here =
      by-front p written
      ∙ ap (drop (p * size)) (take-put_mid start k xs piece (p * size + size) (omega (arith, at, long))
      (omega (arith, at, within)))
      ∙ ap (λ n. drop n (take start xs ++ piece)) (let e : p * size ≡ length (take start xs) =
      omega (arith, length-take start xs, at, within) in e)
      ∙ drop-append_seam (take start xs) piece

  part-behind : (q : ℕ) → p < q → numbers_in size written q ≡ numbers_in size xs q
  part-behind q less =
      let room : p * size + size ≤ q * size = grind (arith, less) in
      ap (take size) (drop-put_mid start k xs piece (q * size) (omega (arith, room, at, many))
      (omega (arith, at, within)) (long ∙ sym many))

pub parts-more :
    (format : Fmt) (m : MeasureBlock) (channels p start k : ℕ) (frames olds news piece : List ℤ) →
    start ≡ p * size_of m → k ≡ size_of m → length piece ≡ size_of m → p * size_of m + size_of m ≤ length news →
    PartsSoFar format m channels frames olds news p → PartFeeds format m channels p frames
    (numbers_in (size_of m) news p) piece → PartsSoFar format m channels frames olds (put_mid start k news piece)
    (p + 1)
parts-more format m channels p start k frames olds news piece at many long within so_far feeds =
    let size = size_of m in
    record {
      fed = below_more (λ q. PartFeeds format m channels q frames (numbers_in size olds q)
          (numbers_in size (put_mid start k news piece) q)) p
          (λ q less. subst (PartFeeds format m channels q frames (numbers_in size olds q))
          (sym (part-before size p start k news piece at many long within q less)) (so_far.fed q less))
          (subst (PartFeeds format m channels p frames (numbers_in size olds p))
          (sym (part-here size p start k news piece at many long within))
          (subst (λ l. PartFeeds format m channels p frames l piece) (so_far.left p (omega arith)) feeds));
      left = λ q more. part-behind size p start k news piece at many long within q (omega (arith, more)) ∙
          so_far.left q (omega (arith, more));
    }

-- all took them
pub parts-feed : (format : Fmt) (m : MeasureBlock) (channels : ℕ) (frames olds news : List ℤ) →
    length olds ≡ parts_of m channels * size_of m → length news ≡ length olds →
    PartsSoFar format m channels frames olds news (parts_of m channels) → PartsFeed format m channels frames olds news
parts-feed format m channels frames olds news whole same so_far = record {
  stands = λ x e. each-kept format channels m (x ++ frames_in channels frames) news (same ∙ whole)
      (λ p h. (so_far.fed p h).stands x (kept-each format channels m x olds whole e p h));
  kinds = λ n each. each-kinds format channels m IsOfKind (n + length frames / channels) news (same ∙ whole)
      (λ p h. (so_far.fed p h).kinds n (kinds-each format channels m IsOfKind n olds each p h));
}
