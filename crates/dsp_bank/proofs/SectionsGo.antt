-- All channels of a bank through one section more, and through all of them.
use Rattle.std.proofs.Common.{◌≡◌, ◌∙◌, refl, subst, ℕ, ◌+◌, ◌*◌, ◌<◌, ◌≤◌, ℤ, List, length, arith}
use Rattle.std.proofs.lemmas.Nat.{mul-add-lt}
use Rattle.dsp_defs.specs.Streaming.{Behaviour, GoesOn}
use Rattle.dsp_defs.specs.declared.format.Fmt.{Fmt}
use Rattle.dsp_defs.specs.declared.script.Block.TheVariants.{Biquad}
use Rattle.dsp_unit.specs.Channels.{numbers_in}
use Rattle.dsp_unit.proofs.ChannelKept.{pieces-same}
use Rattle.dsp_biquad.specs.Sections.{block_acts, size_in}
use Rattle.dsp_bank.specs.Rows.{acts_at, channel_after, four_at, SectionGoes, ChannelsGo}
use Rattle.dsp_bank.proofs.Groups.{channel-groups, length-four}
use Rattle.dsp_bank.proofs.Composition.{front_acts, front-whole, fours, goes-section}

module _ (format : Fmt) (p size : ℕ) (numbers : List ℤ) (sections row count : ℕ) where
  -- each channel has gone through the first s sections
  abbrev pub HaveGone : ℕ → List ℤ → List ℤ → List ℤ → List ℤ → Type 0
  HaveGone s old kept frames frames' =
      (i : ℕ) → i < row → GoesOn (front_acts format p size numbers s).gives (front_acts format p size numbers s).keeps
      (fours format p size numbers sections i old s) (fours format p size numbers sections i kept s)
      (channel_after row count frames i) (channel_after row count frames' i)

  -- the sections from s on keep what they kept
  abbrev pub LaterStay : ℕ → List ℤ → List ℤ → Type 0
  LaterStay s old kept = (i t : ℕ) → i < row → s ≤ t → t < sections → four_at sections kept i t
      ≡ four_at sections old i t

  -- before the first section
  pub none-gone : (old frames : List ℤ) → HaveGone 0 old old frames frames
  none-gone old frames i h = record { values = λ x e. refl; stands = λ x e. refl }

  module _ (old mid new frames frames' frames'' : List ℤ) (s : ℕ) (whole : length old ≡ row * sections * 4)
      (inside : s < sections)
      (so_far : HaveGone s old mid frames frames') (rest : LaterStay s old mid)
      (step : SectionGoes (acts_at format p size numbers s) sections s row count mid new frames' frames'') where
    pub gone-more : HaveGone (s + 1) old new frames frames''
    gone-more i h =
        let four : (t : ℕ) → t < s → length (four_at sections old i t) ≡ 4 = λ t k. length-four sections row old i t
        whole (omega (arith, mul-add-lt i sections t row h (omega (arith, k, inside)))) in
        let stays = pieces-same (four_at sections new i) (four_at sections mid i) s (λ t k. step.others i t h
        (omega (arith, k, inside)) (omega (arith, k))) in
        goes-section format p size numbers sections i old mid new (channel_after row count frames i)
        (channel_after row count frames' i) (channel_after row count frames'' i) s four (so_far i h)
        (step.goes i h) (rest i s h (omega arith) inside) stays

    pub stay-more : LaterStay (s + 1) old new
    stay-more i t h low high = step.others i t h high (omega (arith, low)) ∙ rest i t h (omega (arith, low)) high

  pub all-gone :
      (is : size ≡ size_in format) (old new frames frames' : List ℤ) → length old ≡ row * sections * 4 → length new
      ≡ row * sections * 4 → length numbers ≡ sections * size →
      HaveGone sections old new frames frames' → ChannelsGo (block_acts format (Biquad p numbers)) (4 * sections) row
      count old new frames frames'
  all-gone is old new frames frames' size_old size_new long gone = λ i h.
      let acts = block_acts format (Biquad p numbers) in
      let xs = channel_after row count frames i in
      let ys = channel_after row count frames' i in
      subst (λ l. GoesOn acts.gives acts.keeps l (numbers_in (4 * sections) new i) xs ys)
      (channel-groups sections row old i size_old h)
      (subst (λ l. GoesOn acts.gives acts.keeps (fours format p size numbers sections i old sections) l xs ys)
      (channel-groups sections row new i size_new h)
      (subst (λ (b : Behaviour). GoesOn b.gives b.keeps (fours format p size numbers sections i old sections)
      (fours format p size numbers sections i new sections) xs ys) (front-whole format p size numbers is sections
      long) (gone i h)))
