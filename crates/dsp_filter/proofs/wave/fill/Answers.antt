use Rattle.std.proofs.Common.{[], ◌∷◌}
use Rattle.dsp_filter.specs.Waves.{Works, part_of}
use Rattle.dsp_filter.proofs.Waves.{rests, twice}
use Rattle.dsp_filter.proofs.wave.fill.Goals as goal

pub returns-clause-flows : goal.returns-clause-flows
returns-clause-flows g c =
    let M = g.M.Machine in
    let number = g.T.Sample.number in
    let m = c.args.machines.now in
    let x = number c.args.first in
    let y = number c.args.second in
    let z = number c.args.third in
    let one = number c.step-one.result in
    let two = number c.step-two.result in
    let three = number c.step-machines.result in
    let early = number c.step-early.result in
    let late = number c.step-machines-2.result in
    let first = part_of M.acts M.kept m.first in
    let first' = part_of M.acts M.kept c.step-one.new.self in
    let first'' = part_of M.acts M.kept c.step-two.new.self in
    let first''' = part_of M.acts M.kept c.step-machines.new.self in
    let second = part_of M.acts M.kept m.second in
    let second' = part_of M.acts M.kept c.step-early.new.self in
    let second'' = part_of M.acts M.kept c.step-machines-2.new.self in
    let takes_x : Works first first' (x ∷ []) (one ∷ []) =
    record { acts = c.step-one.ensures.acts; goes = c.step-one.ensures.goes } in
    let takes_y : Works first' first'' (y ∷ []) (two ∷ []) =
    record { acts = c.step-two.ensures.acts; goes = c.step-two.ensures.goes } in
    let takes_z : Works first'' first''' (z ∷ []) (three ∷ []) =
    record { acts = c.step-machines.ensures.acts; goes = c.step-machines.ensures.goes } in
    let takes_one : Works second second' (one ∷ []) (early ∷ []) =
    record { acts = c.step-early.ensures.acts; goes = c.step-early.ensures.goes } in
    let takes_two : Works second' second'' (two ∷ []) (late ∷ []) =
    record { acts = c.step-machines-2.ensures.acts; goes = c.step-machines-2.ensures.goes } in
    record {
      one = one ∷ two ∷ [];
      two = early ∷ [];
      three = [];
      first = twice first first'' first''' (x ∷ y ∷ []) (z ∷ []) (one ∷ two ∷ []) (three ∷ [])
          (twice first first' first'' (x ∷ []) (y ∷ []) (one ∷ []) (two ∷ []) takes_x takes_y) takes_z;
      second = twice second second' second'' (one ∷ []) (two ∷ []) (early ∷ []) (late ∷ []) takes_one takes_two;
      third = record { acts = c.step-machines-3.ensures.acts; goes = c.step-machines-3.ensures.goes };
      fourth = rests (part_of M.acts M.kept m.fourth);
    }
