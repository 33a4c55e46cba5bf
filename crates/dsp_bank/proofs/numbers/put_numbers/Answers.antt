use Rattle.std.proofs.Common.{◌∙◌, ◌<◌, sym, subst, pos, length, arith}
use Rattle.std.specs.Prelude.{FitsSigned}
use Rattle.std.specs.Int.{w32}
use Rattle.std.proofs.lemmas.Int.{to_z-of_z}
use Rattle.dsp_defs.specs.Formats.{word}
use Rattle.dsp_unit.proofs.ChannelFrames.{get_or-default}
use Rattle.dsp_bank.proofs.Written.{each-more, number-more}
use Rattle.dsp_bank.proofs.numbers.put_numbers.Goals as goal

pub loop-k-preserved : goal.loop-k-preserved
loop-k-preserved g c =
    let k = c.loop-k.k in
    let inside : c.loop-k.k < length c.args.samples.now = c.loop-k-test.true in
    let room = subst (λ n. k < n) (sym (c.loop-k.auto.numbers ∙ c.requires)) inside in
    let held = to_z-of_z w32 c.number.result (record { sfits = c.number.type_inv }) in
    record {
      value = number-more g.T.Sample.number c.args.samples.now c.loop-k.numbers k c.index-samples-k.result _ inside room
          c.index-samples-k.is (held ∙ c.number.ensures.value) c.loop-k.invariant.value;
      fits = each-more (FitsSigned (word g.T.Sample.format)) c.loop-k.numbers k _ c.number.result room held
          c.number.ensures.fits c.loop-k.invariant.fits;
    }

pub returns-clause-in_format : goal.returns-clause-in_format
returns-clause-in_format g c = λ i d h.
    let within : i < c.loop-k.k = omega (arith, h, c.loop-k.auto.numbers, c.requires, c.loop-k-test.false) in
    subst (FitsSigned (word g.T.Sample.format)) (sym (get_or-default c.loop-k.numbers i d (pos 0) h))
    (c.loop-k.invariant.fits i within)
