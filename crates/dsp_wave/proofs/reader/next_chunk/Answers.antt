use Rattle.std.proofs.Common.{◌≡◌, false, codes, length, take, Some, refl, arith}
use Rattle.std.specs.Str.{bytes_eq}
use Rattle.std.proofs.lemmas.Grind.{common_steps}
use Rattle.std.proofs.lemmas.Result.{err_from_is_err_and}
use Rattle.dsp_defs.specs.Wave.{padded, u32_at}
use Rattle.dsp_wave.specs.Reading.{said_from}
use Rattle.dsp_wave.proofs.ReaderLaws as laws
use Rattle.dsp_wave.proofs.ChunkLaws as chunk_laws
use Rattle.dsp_wave.proofs.reader.next_chunk.Goals as goal

pub returns-in_err-take-clause-err : goal.returns-in_err-take-clause-err
returns-in_err-take-clause-err g c wanted =
    let known = Some c.args.known in
    let (error, is, same) = err_from_is_err_and c.from_residual.result c.from_residual.ensures.1 in
    let long : length c.take.new.piece ≡ 8 = c.take.auto.piece in
    rw (is, same) (laws.stops_missing (said_from wanted c.args.offset known) c.args.offset _ _ 8 _
    (chunk_laws.needs_head wanted c.args.offset known)
    (rw long at c.in_err-take.ensures.err))

pub returns-in_err-skip-clause-err : goal.returns-in_err-skip-clause-err
returns-in_err-skip-clause-err g c wanted =
    let known = Some c.args.known in
    let (error, is, same) = err_from_is_err_and c.from_residual-in_err-skip.result
    c.from_residual-in_err-skip.ensures.1 in
    let head = c.take.new.piece in
    let long : length head ≡ 8 = c.take.auto.piece in
    let other : bytes_eq (take 4 head) (codes "data") ≡ false =
    grind (arith, common_steps, c.eq.ensures, c.if-eq.false) in
    let size : c.padded.result ≡ padded (u32_at head 4) =
    grind (arith, common_steps, c.padded.ensures, c.read_u32-size.ensures) in
    rw (is, same) (laws.stops_later (said_from wanted c.args.offset known) c.args.offset _ _ 8
    (padded (u32_at head 4)) _ head _
    (λ more. chunk_laws.passes_short wanted c.args.offset head long known known more
    (chunk_laws.other_passes wanted c.args.offset head long known more other refl))
    (rw long at c.in_ok-take.ensures.ok) (rw size at c.in_err-skip.ensures.err))

pub returns-clause-ok : goal.returns-clause-ok
returns-clause-ok g c =
    let head = c.take.new.piece in
    let long : length head ≡ 8 = c.take.auto.piece in
    let other : bytes_eq (take 4 head) (codes "data") ≡ false =
    grind (arith, common_steps, c.eq.ensures, c.if-eq.false) in
    let skipped : c.padded.result ≡ padded (u32_at head 4) =
    grind (arith, common_steps, c.padded.ensures, c.read_u32-size.ensures) in
    let size : c.padded-2.result ≡ padded (u32_at head 4) =
    grind (arith, common_steps, c.padded-2.ensures, c.read_u32-size.ensures) in
    let (body, second) = c.in_ok-skip.ensures.ok in
    rw size (chunk_laws.chunk_came c.args.offset c.args.known head long other _ _ _ body
    (rw long at c.in_ok-take.ensures.ok) (rw skipped at second))
