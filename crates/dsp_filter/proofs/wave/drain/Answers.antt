use Rattle.std.proofs.Common.{◌∙◌, subst, [], ◌∷◌, ◌++◌, ℤ, List}
use Rattle.std.proofs.lemmas.List.{append_assoc}
use Rattle.dsp_filter.specs.Waves.{Works, part_of}
use Rattle.dsp_filter.proofs.Waves.{twice}
use Rattle.dsp_filter.proofs.wave.drain.Goals as goal

pub returns-clause-passes : goal.returns-clause-passes
returns-clause-passes g c =
    let M = g.M.Machine in
    let number = g.T.Sample.number in
    let m = c.args.machines.now in
    let x = number m.to_second in
    let y = number m.to_third in
    let z = number m.to_fourth in
    let a = number c.step-first.result in
    let late = number c.step-late.result in
    let b = number c.step-second.result in
    let last = number c.step-last.result in
    let last' = number c.step-last-2.result in
    let d = number c.step-third.result in
    let second = part_of M.acts M.kept m.second in
    let second' = part_of M.acts M.kept c.step-last.new.self in
    let third = part_of M.acts M.kept m.third in
    let third' = part_of M.acts M.kept c.step-late.new.self in
    let third'' = part_of M.acts M.kept c.step-last-2.new.self in
    let fourth = part_of M.acts M.kept m.fourth in
    let fourth' = part_of M.acts M.kept c.step-first.new.self in
    let fourth'' = part_of M.acts M.kept c.step-second.new.self in
    let fourth''' = part_of M.acts M.kept c.step-third.new.self in
    let gives_a : Works fourth fourth' (z ∷ []) (a ∷ []) =
    record { acts = c.step-first.ensures.acts; goes = c.step-first.ensures.goes } in
    let gives_late : Works third third' (y ∷ []) (late ∷ []) =
    record { acts = c.step-late.ensures.acts; goes = c.step-late.ensures.goes } in
    let gives_b : Works fourth' fourth'' (late ∷ []) (b ∷ []) =
    record { acts = c.step-second.ensures.acts; goes = c.step-second.ensures.goes } in
    let gives_last : Works second second' (x ∷ []) (last ∷ []) =
    record { acts = c.step-last.ensures.acts; goes = c.step-last.ensures.goes } in
    let gives_last' : Works third' third'' (last ∷ []) (last' ∷ []) =
    record { acts = c.step-last-2.ensures.acts; goes = c.step-last-2.ensures.goes } in
    let gives_d : Works fourth'' fourth''' (last' ∷ []) (d ∷ []) =
    record { acts = c.step-third.ensures.acts; goes = c.step-third.ensures.goes } in
    λ from xs zs f.
    let two = f.two ++ y ∷ [] in
    let three = f.three ++ z ∷ [] in
    let three' = three ++ late ∷ [] in
    let three'' = three' ++ last' ∷ [] in
    let all = append_assoc (zs ++ a ∷ []) (b ∷ []) (d ∷ []) ∙ append_assoc zs (a ∷ []) (b ∷ d ∷ []) in
    record {
      one = f.one ++ x ∷ [];
      two = two ++ last ∷ [];
      three = three'';
      first = f.first;
      second = twice from.second second second' f.one (x ∷ []) two (last ∷ []) f.second gives_last;
      third = twice from.third third' third'' two (last ∷ []) three' (last' ∷ [])
          (twice from.third third third' f.two (y ∷ []) three (late ∷ []) f.third gives_late) gives_last';
      fourth = subst (λ (l : List ℤ). Works from.fourth fourth''' three'' l) all
          (twice from.fourth fourth'' fourth''' three' (last' ∷ []) ((zs ++ a ∷ []) ++ b ∷ []) (d ∷ [])
          (twice from.fourth fourth' fourth'' three (late ∷ []) (zs ++ a ∷ []) (b ∷ [])
          (twice from.fourth fourth fourth' f.three (z ∷ []) zs (a ∷ []) f.fourth gives_a) gives_b) gives_d);
    }
