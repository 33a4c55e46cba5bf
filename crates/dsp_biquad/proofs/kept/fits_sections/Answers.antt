use Rattle.std.proofs.Common.{◌∙◌, refl, sym, subst, arith, ℕ, flat_map}
use Rattle.std.specs.List.{range_with_len}
use Rattle.std.proofs.lemmas.Bool.{false≢true}
use Rattle.dsp_unit.specs.Channels.{numbers_in}
use Rattle.dsp_defs.specs.Kept.{Each, IsOfKind}
use Rattle.dsp_biquad.proofs.SectionNumbers.{kinds-count, each-section, sections-each, piece-is}
use Rattle.dsp_biquad.proofs.kept.fits_sections.Goals as goal

pub returns-then-numbers-count : goal.returns-then-numbers-count
returns-then-numbers-count g c = (
  λ h. absurd (false≢true h),
  λ each. absurd (c.if-numbers-count.true
      (kinds-count g.S.CascadeSection.kinds g.met.S.CascadeSection.four_kinds c.args.count c.args.numbers.now each)),
)

pub returns-then-not-fits : goal.returns-then-not-fits
returns-then-not-fits g c =
    let kinds = g.S.CascadeSection.kinds in
    let numbers = c.args.numbers.now in
    let four = g.met.S.CascadeSection.four_kinds in
    let here : Each IsOfKind (flat_map (λ (_ : ℕ). kinds) (range_with_len 0 c.args.count)) numbers →
    Each IsOfKind kinds (numbers_in 4 numbers c.loop-k.k) =
    λ each. each-section kinds four c.args.count numbers (kinds-count kinds four c.args.count numbers each) each
    c.loop-k.k c.loop-k-test.true in (
      λ h. absurd (false≢true h),
      λ each. absurd (false≢true
          (sym c.if-not-fits.true ∙ c.fits.ensures.1 (subst (λ l. Each IsOfKind kinds l)
          (sym (piece-is numbers c.loop-k.k)) (here each)))),
    )

pub returns : goal.returns
returns g c = (
  λ _. sections-each g.S.CascadeSection.kinds g.met.S.CascadeSection.four_kinds c.args.count c.args.numbers.now
      c.if-numbers-count.false (λ k h. c.loop-k.invariant k (omega (arith, h, c.loop-k-test.false))),
  λ _. refl,
)
