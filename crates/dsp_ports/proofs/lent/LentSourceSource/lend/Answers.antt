use Rattle.std.proofs.Common.{◌≡◌, ◌+◌, ◌-◌, ◌≤◌, arith, length, length-drop, take, drop, refl, subst, []}
use Rattle.std.proofs.lemmas.List.{length-take-le, take_at}
use Rattle.dsp_ports.specs.Ports.{Gave}
use Rattle.dsp_ports.proofs.Moved.{Gave-copied}
use Rattle.dsp_ports.proofs.lent.LentSourceSource.lend.Goals as goal

pub take-requires : goal.take-requires
take-requires g c =
    let p = c.self.inside.position in
    let n = c.args.count in
    let all = c.self.inside.bytes.now in
    let long : length (take (p + n - p) (drop p all)) ≡ p + n - p =
    length-take-le (p + n - p) (drop p all)
    (omega (arith, length-drop p all, c.if-count-self.false, c.self.invariant)) in
    omega (arith, long, c.requires)

pub returns-clause-lent : goal.returns-clause-lent
returns-clause-lent g c lends =
    let p = c.self.inside.position in
    let n = c.args.count in
    let all = c.self.inside.bytes.now in
    let bytes = take (p + n - p) (drop p all) in
    let long : length bytes ≡ p + n - p =
    length-take-le (p + n - p) (drop p all)
    (omega (arith, length-drop p all, c.if-count-self.false, c.self.invariant)) in
    let size : length bytes ≡ n = omega (arith, long) in
    let within : p + n ≤ length all = omega (arith, c.if-count-self.false, c.self.invariant) in
    record {
      bytes = bytes;
      long = size;
      gave = rw (← c.self.view_is) (subst (Gave _ _) (take_at bytes [] n size)
          (Gave-copied all p n 0 0 _ _ _ _ bytes [] within refl refl));
      no_fault = rw (← c.self.view_is) refl;
      going = rw (← c.self.view_is) refl;
      reads = tt;
      takes = c.take.ensures;
    }
