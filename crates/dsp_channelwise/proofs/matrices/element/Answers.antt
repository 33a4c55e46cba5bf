use Rattle.std.proofs.Common.{◌≡◌, ◌∙◌, ap, sym, to_z, of_z, arith, rules}
use Rattle.std.specs.Int.{w32}
use Rattle.std.proofs.lemmas.Int.{to_z-of_z}
use Rattle.dsp_defs.specs.Matrix.{multiplied}
use Rattle.dsp_channelwise.specs.Groups.{element}
use Rattle.dsp_channelwise.proofs.matrices.element.Goals as goal

pub returns-in-MatMult-clause-value : goal.returns-in-MatMult-clause-value
returns-in-MatMult-clause-value g c =
    let value : to_z w32 (of_z w32 c.close.result) ≡ multiplied c.in-MatMult.columns c.in-MatMult.given
    c.in-MatMult.matrix c.args.a.now c.args.i = grind (arith, to_z-of_z) in
    value ∙ ap (λ b. element c.args.format b c.args.a.now c.args.i) (sym c.in-MatMult.is)

pub returns-in-MatAdd : goal.returns-in-MatAdd
returns-in-MatAdd g c = search rules

pub returns-in-MatSub : goal.returns-in-MatSub
returns-in-MatSub g c = search rules

pub returns-in-MatScale : goal.returns-in-MatScale
returns-in-MatScale g c = search rules

pub nonzero_rem-i : goal.nonzero_rem-i
nonzero_rem-i g c = search rules

pub overflow_mul-i : goal.overflow_mul-i
overflow_mul-i g c = search rules

pub nonzero_div-i : goal.nonzero_div-i
nonzero_div-i g c = search rules

pub overflow_add-i : goal.overflow_add-i
overflow_add-i g c = search rules

pub returns-in-MatTrans-clause-value : goal.returns-in-MatTrans-clause-value
returns-in-MatTrans-clause-value g c = search rules

pub returns-in-MatTrans-clause-products : goal.returns-in-MatTrans-clause-products
returns-in-MatTrans-clause-products g c = search rules

pub returns-in-MatMult-clause-fits : goal.returns-in-MatMult-clause-fits
returns-in-MatMult-clause-fits g c = search rules

pub returns-in-MatMult-clause-products : goal.returns-in-MatMult-clause-products
returns-in-MatMult-clause-products g c = search rules

pub returns-in_default : goal.returns-in_default
returns-in_default g c = search rules
