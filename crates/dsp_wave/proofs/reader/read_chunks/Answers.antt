use Rattle.std.proofs.Common.{◌+◌, ◌++◌, ◌∙◌, [], Some, length, ap, append_assoc, subst, arith, refl}
use Rattle.std.proofs.lemmas.Result.{err_from_is_err_and}
use Rattle.dsp_wave.specs.Reading.{said_from}
use Rattle.dsp_wave.specs.Taking.{Came}
use Rattle.dsp_wave.proofs.ReaderLaws as laws
use Rattle.dsp_wave.proofs.StartLaws as start_laws
use Rattle.dsp_wave.proofs.reader.read_chunks.Goals as goal

pub header-init : goal.header-init
header-init g c = record {
  read = (
    0,
    [],
    laws.nothing_came c.args.offset _ c.requires,
    omega arith,
    λ wanted more. refl,
  );
}

pub returns-in_err-header-clause-err : goal.returns-in_err-header-clause-err
returns-in_err-header-clause-err g c wanted =
    let (count, front, came, here, said) = c.header.invariant.read in
    let (error, is, same) = err_from_is_err_and c.from_residual.result c.from_residual.ensures.1 in
    rw (is, same)
    (start_laws.stopped_sooner (said_from wanted c.args.offset (Some c.args.known))
    (said_from wanted c.header.offset (Some c.args.known)) c.args.offset count
    c.header.offset here _ _ _ front came (said wanted) _ (c.in_err-header.ensures.err wanted))

pub returns-in-Samples-clause-ok : goal.returns-in-Samples-clause-ok
returns-in-Samples-clause-ok g c wanted =
    let (count, front, came, here, said) = c.header.invariant.read in
    let headed = rw c.in-Samples.is at c.in_ok-header.ensures.ok in
    start_laws.headed_sooner (said_from wanted c.args.offset (Some c.args.known))
    (said_from wanted c.header.offset (Some c.args.known)) c.args.offset count
    c.header.offset here _ _ _ front came (said wanted) _ (headed wanted)

pub header-preserved : goal.header-preserved
header-preserved g c =
    let (count, front, came, here, said) = c.header.invariant.read in
    let (bytes, second, taken, some, goes) = rw c.in-Other.is at c.in_ok-header.ensures.ok in
    let later = subst (λ p. Came p (length bytes) (g.S.Source.state c.header.source)
    (g.S.Source.state c.next_chunk.new.source) bytes) here second in
    record {
      read = (
        count + length bytes,
        front ++ bytes,
        laws.both_came c.args.offset count (length bytes) _ _ _ front bytes came later,
        omega (arith, here, taken),
        λ wanted more. ap (said_from wanted c.args.offset (Some c.args.known)) (append_assoc front bytes more) ∙
            said wanted (bytes ++ more) ∙ goes wanted more,
      );
    }

pub header-smaller : goal.header-smaller
header-smaller g c =
    let (bytes, second, taken, some, goes) = rw c.in-Other.is at c.in_ok-header.ensures.ok in
    omega (arith, taken, some, second.in_limit)
