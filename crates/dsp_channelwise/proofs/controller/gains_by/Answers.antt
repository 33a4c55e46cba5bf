use Rattle.std.proofs.Common.{arith, rules}
use Rattle.dsp_channelwise.proofs.Gains.{controls, gains-in-Q31, gains-else}
use Rattle.dsp_channelwise.proofs.controller.gains_by.Goals as goal

pub returns-in-Q31 : goal.returns-in-Q31
returns-in-Q31 c =
    gains-in-Q31 c.args.format c.args.kp c.args.ki c.args.kd _ _ _ c.in-Q31.is (grind (arith, controls))
    (grind (arith, controls)) (grind (arith, controls))

pub returns-in_default : goal.returns-in_default
returns-in_default c =
    gains-else c.args.format c.args.kp c.args.ki c.args.kd _ _ _ c.in_default.not-Q31 (grind (arith, controls))
    (grind (arith, controls)) (grind (arith, controls))

pub overflow_sub-from : goal.overflow_sub-from
overflow_sub-from c = search rules

pub overflow_add-p : goal.overflow_add-p
overflow_add-p c = search rules

pub overflow_add-p-in_default : goal.overflow_add-p-in_default
overflow_add-p-in_default c = search rules

pub overflow_add-d : goal.overflow_add-d
overflow_add-d c = search rules

pub overflow_sub-sum : goal.overflow_sub-sum
overflow_sub-sum c = search rules
