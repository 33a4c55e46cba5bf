use Rattle.std.proofs.Common.{◌≡◌, ◌+◌, length, take, refl, ap, sym, subst, arith, length-take-le}
use Rattle.std.proofs.lemmas.List.{take_all}
use Rattle.dsp_ports.specs.Ports.{Gave}
use Rattle.dsp_wave.proofs.reader.take.Goals as goal

pub returns-in-Ok-clause-err : goal.returns-in-Ok-clause-err
returns-in-Ok-clause-err g c =
    let filled = c.in-Ok.ensures.ok in
    let long : length (take c.in-Ok.count c.fill.new.block) ≡ c.in-Ok.count =
    length-take-le c.in-Ok.count c.fill.new.block filled.within in
    record {
      bytes = take c.in-Ok.count c.fill.new.block;
      short = omega (arith, long, c.if-count-piece.true);
      gave = filled.gave;
      in_limit = omega (arith, long, filled.in_room);
      missed = (
        refl,
        ap (λ n. c.args.taken + n) (sym long),
        filled.end (omega (arith, c.if-count-piece.true)),
        filled.no_fault,
      );
    }

pub returns-in-Ok-2-clause-ok : goal.returns-in-Ok-2-clause-ok
returns-in-Ok-2-clause-ok g c =
    let filled = c.in-Ok.ensures.ok in
    let all : length c.fill.new.block ≡ c.in-Ok.count = omega (arith, filled.within, c.if-count-piece.false) in
    record {
      long = refl;
      gave = subst (Gave (g.S.Source.state c.args.source.now) (g.S.Source.state c.fill.new.input))
          (take_all c.in-Ok.count c.fill.new.block (omega (arith, all))) filled.gave;
      in_limit = omega (arith, all, filled.in_room);
      no_fault = filled.no_fault;
      going = filled.going (omega (arith, all));
    }

pub returns-in-Err-Failed-clause-err : goal.returns-in-Err-Failed-clause-err
returns-in-Err-Failed-clause-err g c =
    let missed = rw c.in-Err-Failed.field-0-is at c.in-Err-Failed.ensures.err in
    let (fault, room) = missed.cause in
    record {
      bytes = missed.bytes;
      short = missed.short;
      gave = missed.gave;
      in_limit = omega (arith, missed.in_room);
      missed = (fault, omega (arith, room));
    }

pub returns-in-Err-LimitReached-clause-err : goal.returns-in-Err-LimitReached-clause-err
returns-in-Err-LimitReached-clause-err g c =
    let missed = rw c.in-Err-LimitReached.field-0-is at c.in-Err-LimitReached.ensures.err in
    let (fault, room) = missed.cause in
    record {
      bytes = missed.bytes;
      short = missed.short;
      gave = missed.gave;
      in_limit = omega (arith, missed.in_room);
      missed = (omega (arith, room), fault);
    }
