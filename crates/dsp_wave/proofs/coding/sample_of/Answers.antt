use Rattle.std.proofs.Common.{◌≡◌, ◌∙◌, to_z, of_z, arith, rules}
use Rattle.std.specs.Int.{w32}
use Rattle.std.proofs.lemmas.Int.{to_z-of_z}
use Rattle.dsp_defs.specs.Bytes.{sample_of}
use Rattle.dsp_defs.specs.declared.format.Coding.TheVariants.{Wave24}
use Rattle.dsp_defs.proofs.BytesLaws.{sample_of-IsValue}
use Rattle.dsp_wave.proofs.coding.sample_of.Goals as goal

pub returns-in-Wave24-clause-fits : goal.returns-in-Wave24-clause-fits
returns-in-Wave24-clause-fits c =
    let bytes = c.args.bytes.now in
    let value = c.from_le_bytes.result in
    let same : to_z w32 (of_z w32 value) ≡ sample_of Wave24 bytes =
    to_z-of_z w32 value (record { sfits = omega (arith, c.from_le_bytes.type_inv) }) ∙ c.from_le_bytes.ensures in
    rw (c.in-Wave24.is, same) (sample_of-IsValue Wave24 bytes
    (rw c.in-Wave24.is at c.requires, λ i. omega (arith, c.type_inv.bytes i)))

pub returns-in-Wave7-clause-value : goal.returns-in-Wave7-clause-value
returns-in-Wave7-clause-value c = search rules

pub returns-in-Wave24-clause-value : goal.returns-in-Wave24-clause-value
returns-in-Wave24-clause-value c = search rules
