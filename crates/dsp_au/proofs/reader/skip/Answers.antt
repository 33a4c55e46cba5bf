use Rattle.std.proofs.Common.{◌+◌, refl, ap, sym, arith}
use Rattle.dsp_au.proofs.reader.skip.Goals as goal

pub returns-in-Ok-clause-err : goal.returns-in-Ok-clause-err
returns-in-Ok-clause-err g c =
    let skipped = c.in-Ok.ensures.ok in
    record {
      bytes = skipped.bytes;
      short = omega (arith, skipped.long, c.if-came-count.true);
      gave = skipped.gave;
      missed = (
        refl,
        ap (λ n. c.args.taken + n) (sym skipped.long),
        skipped.end c.if-came-count.true,
        skipped.no_fault,
      );
    }

pub returns-in-Ok-2-clause-ok : goal.returns-in-Ok-2-clause-ok
returns-in-Ok-2-clause-ok g c =
    let skipped = c.in-Ok.ensures.ok in (
      skipped.bytes,
      record {
        long = omega (arith, skipped.long, skipped.within, c.if-came-count.false);
        gave = skipped.gave;
        no_fault = skipped.no_fault;
        going = skipped.going (omega (arith, c.if-came-count.false));
      },
    )

pub returns-in-Err-Failed-clause-err : goal.returns-in-Err-Failed-clause-err
returns-in-Err-Failed-clause-err g c =
    let missed = rw c.in-Err-Failed.field-0-is at c.in-Err-Failed.ensures.err in
    record { bytes = missed.bytes; short = missed.short; gave = missed.gave; missed = missed.cause.0 }
