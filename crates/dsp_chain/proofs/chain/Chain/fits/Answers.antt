use Rattle.std.proofs.Common.{◌≡◌, ap, sym, subst, false, true, ◌≤◌, arith}
use Rattle.dsp_unit.specs.Line.{Place, blocks_of}
use Rattle.dsp_defs.specs.Shape.{gathered}
use Rattle.dsp_defs.specs.declared.limits.TheConstants.{MAX_GATHERED}
use Rattle.dsp_chain.specs.Restored.{FitsUnits}
use Rattle.dsp_chain.proofs.Restored.{fits-blocks, fits-units}
use Rattle.dsp_chain.proofs.chain.Chain.fits.Goals as goal

never : false ≡ true → ⊥
never e = cc

pub gathered-requires : goal.gathered-requires
gathered-requires g c =
    rw c.deref.ensures.value (c.self.invariant.is.few_frames c.args.frames
    (omega (arith, c.if-frames-gt-MAX_INPUT.false)))

pub returns-then-frames-gt-MAX_INPUT : goal.returns-then-frames-gt-MAX_INPUT
returns-then-frames-gt-MAX_INPUT g c = (
  λ e. absurd (never e),
  λ fits. absurd (omega (arith, c.if-frames-gt-MAX_INPUT.true, fits.limit)),
)

pub returns-then-gathered : goal.returns-then-gathered
returns-then-gathered g c =
    let blocks = blocks_of c.self.inside.links.items in
    let same = ap (λ us. gathered (blocks_of us) c.args.frames) c.deref.ensures.value in
    rw (← c.self.view_is) (
      λ e. absurd (never e),
      λ fits. absurd
          (omega (arith, c.if-gathered.true, c.gathered.ensures, same, fits.gathers)),
    )

pub fits_line-requires : goal.fits_line-requires
fits_line-requires g c =
    rw c.deref-2.ensures.value (c.self.invariant.is.few_frames c.args.frames
    (omega (arith, c.if-frames-gt-MAX_INPUT.false)))

pub returns : goal.returns
returns g c =
    let is = c.self.invariant.is in
    let links = c.self.inside.links.items in
    let p : Place = record {
      format = c.self.inside.format;
      channels = c.self.inside.channels;
      capacity =
          c.self.inside.capacity;
    } in
    let blocks = blocks_of links in
    let same = ap (λ us. gathered (blocks_of us) c.args.frames) c.deref.ensures.value in
    let gathers : gathered blocks c.args.frames ≤ MAX_GATHERED =
    omega (arith, c.if-gathered.false, c.gathered.ensures, same) in
    let line = c.deref-2.ensures.value in
    rw (← c.self.view_is) (
      λ yes. record {
        limit = omega (arith, c.if-frames-gt-MAX_INPUT.false);
        gathers = gathers;
        fits = fits-blocks p links c.args.frames c.args.numbers.now is.line
            (subst (λ us. FitsUnits us c.args.frames c.args.numbers.now) line (c.fits_line.ensures.0 yes));
      },
      λ fits. c.fits_line.ensures.1 (subst (λ us. FitsUnits us c.args.frames c.args.numbers.now) (sym line)
          (fits-units p links c.args.frames c.args.numbers.now is.line fits.fits)),
    )
