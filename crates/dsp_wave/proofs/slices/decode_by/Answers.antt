use Rattle.std.proofs.Common.{◌≡◌, ◌≢◌, ◌∙◌, ap, ◌*◌, ◌<◌, pos, length, take, drop, arith, below_more, to_z, of_z}
use Rattle.std.proofs.Common.{get_or-set_same}
use Rattle.std.specs.Int.{w32}
use Rattle.std.proofs.lemmas.Int.{to_z-of_z}
use Rattle.std.proofs.lemmas.List.{get_or-set_other}
use Rattle.std.proofs.lemmas.List.FromFn.{fill_by_all}
use Rattle.std.proofs.lemmas.List.Elements.{All-from_get_or}
use Rattle.dsp_defs.specs.Bytes.{IsValue, sample_of, width}
use Rattle.dsp_wave.proofs.SampleBytes.{value_fits, piece}
use Rattle.dsp_wave.proofs.slices.decode_by.Goals as goal

pub loop-i-preserved : goal.loop-i-preserved
loop-i-preserved c =
    let coding = c.args.coding in
    let bytes = c.args.bytes.now in
    let i = c.loop-i.i in
    let old = c.loop-i.samples in
    let within : i < length old = omega arith in
    let stored : to_z w32 (of_z w32 c.sample_of.result) ≡ c.sample_of.result =
    to_z-of_z w32 c.sample_of.result (value_fits coding c.sample_of.result c.sample_of.ensures.fits) in
    let place : i * c.width-width.result ≡ i * width coding = ap (λ w. i * w) c.width-width.ensures in
    let read : c.sample_of.result ≡ sample_of coding (take (width coding) (drop (i * width coding) bytes)) =
    c.sample_of.ensures.value ∙ ap (sample_of coding) (piece (i * c.width-width.result) c.width-width.result
    (width coding) bytes c.width-width.ensures ∙ ap (λ from. take (width coding) (drop from bytes)) place) in
    record {
      read =
          below_more _ i
          (λ k before. let other : k ≢ i = omega arith in get_or-set_other old i k _ (pos 0) other ∙
          c.loop-i.invariant.read k before)
          (get_or-set_same old i _ (pos 0) within ∙ stored ∙ read);
      fits =
          below_more _ i
          (λ k before. let other : k ≢ i = omega arith in rw
          (get_or-set_other old i k (to_z w32 (of_z w32 c.sample_of.result)) (pos 0) other)
          (c.loop-i.invariant.fits k before))
          (rw (get_or-set_same old i (to_z w32 (of_z w32 c.sample_of.result)) (pos 0) within, stored)
          c.sample_of.ensures.fits);
    }

pub returns-clause-values : goal.returns-clause-values
returns-clause-values c =
    let long : length c.loop-i.samples ≡ length c.args.samples.now = omega arith in
    fill_by_all (λ i. sample_of c.args.coding (take (width c.args.coding)
    (drop (i * width c.args.coding) c.args.bytes.now)))
    c.loop-i.samples (length c.args.samples.now) (pos 0) long (λ k below. c.loop-i.invariant.read k (omega arith))

pub returns-clause-fits : goal.returns-clause-fits
returns-clause-fits c = All-from_get_or (IsValue c.args.coding) c.loop-i.samples (pos 0)
    (λ i h. c.loop-i.invariant.fits i (omega arith))
