use Rattle.std.proofs.Common.{◌≡◌, ◌∙◌, ap, ◌-ℤ◌, arith, rules, w32, w64, SFits, to_z, of_z}
use Rattle.std.proofs.lemmas.Int.{ints, to_z-of_z}
use Rattle.dsp_defs.specs.Numbers.{◌>>◌, wrap, saturate}
use Rattle.dsp_lattice.proofs.lattice_sample.I32LatticeSample.lowered.Goals as goal

pub returns : goal.returns
returns c =
    let word : c.low_word.result ≡ wrap w32 (c.args.reflected >> 31) = search rules in
    let result : SFits w32 c.nearest31.result = search rules in
    let total : to_z w64 (of_z w64 (to_z w64 (of_z w64 c.from.result) -ℤ to_z w64 (of_z w64 c.from-2.result))) ≡
    c.args.f -ℤ c.low_word.result = omega (arith, ints) in
    to_z-of_z w32 c.nearest31.result result ∙ c.nearest31.ensures ∙
    ap (saturate 32) (total ∙ ap (λ z. c.args.f -ℤ z) word)
