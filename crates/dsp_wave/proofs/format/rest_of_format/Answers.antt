use Rattle.std.proofs.Common.{◌≡◌, ◌+◌, ◌-◌, ◌∙◌, ◌++◌, ℕ, [], Some, None, Err, length, refl, sym, ap, arith}
use Rattle.std.proofs.Common.{length-append}
use Rattle.std.proofs.lemmas.Grind.{common_steps}
use Rattle.std.proofs.lemmas.Result.{err_from_is_err_and}
use Rattle.dsp_defs.specs.Wave.{format_fault, padded, u32_at}
use Rattle.dsp_defs.specs.declared.wave.HeaderFault.TheVariants.{NoSamples}
use Rattle.dsp_wave.specs.Taking.{format_chunk, said_behind}
use Rattle.dsp_wave.proofs.ReaderLaws as laws
use Rattle.dsp_wave.proofs.ChunkLaws as chunk_laws
use Rattle.dsp_wave.proofs.format.rest_of_format.Goals as goal

pub returns-in-Some-clause-err : goal.returns-in-Some-clause-err
returns-in-Some-clause-err g c =
    let head = c.args.head.now in
    let body = c.args.body.now in
    let place = c.args.offset + 8 + length body in
    let size : c.read_u32-size.result ≡ u32_at head 4 =
    grind (arith, common_steps, c.read_u32-size.ensures, c.requires.head.long) in
    let fault : format_fault c.args.wanted 0 (format_chunk c.args.offset (u32_at head 4) body) ≡ Some
    (c.in-Some.fault, c.in-Some.offset) =
    ap (λ n. format_fault c.args.wanted 0 (format_chunk c.args.offset n body)) (sym size) ∙
    sym c.format_fault.ensures ∙ c.in-Some.is in
    laws.stops_sure (λ more. said_behind c.args.wanted c.args.offset head (body ++ more)) place _ _ 0 [] _ _
    (laws.nothing_came place _ c.requires.offset)
    (chunk_laws.faulty_ends c.args.wanted c.args.offset head c.requires.head.long c.requires.head.id body
    c.requires.enough
    _ _ fault)

pub returns-in_err-skip-clause-err : goal.returns-in_err-skip-clause-err
returns-in_err-skip-clause-err g c =
    let (error, is, same) = err_from_is_err_and c.from_residual.result c.from_residual.ensures.1 in
    let head = c.args.head.now in
    let body = c.args.body.now in
    let place = c.args.offset + 8 + length body in
    let size : c.read_u32-size.result ≡ u32_at head 4 =
    grind (arith, common_steps, c.read_u32-size.ensures, c.requires.head.long) in
    let good : format_fault c.args.wanted 0 (format_chunk c.args.offset (u32_at head 4) body) ≡ None =
    ap (λ n. format_fault c.args.wanted 0 (format_chunk c.args.offset n body)) (sym size) ∙
    sym c.format_fault.ensures ∙ c.in_default.is in
    let whole : c.padded.result ≡ padded (u32_at head 4) = c.padded.ensures ∙ ap padded size in
    rw (is, same) (laws.stops_missing (λ more. said_behind c.args.wanted c.args.offset head (body ++ more)) place _ _
    (padded (u32_at head 4) - length body) _
    (λ more short.
    let end : c.args.offset + 8 + length (body ++ more) ≡ place + length more =
    omega (arith, length-append body more) in
    chunk_laws.rest_short c.args.wanted c.args.offset head c.requires.head.long c.requires.head.id body
    c.requires.enough
    good (length body) refl more short
    ∙ ap (λ (n : ℕ). Err (NoSamples, n)) end)
    (rw whole at c.in_err-skip.ensures.err))

pub returns-clause-ok : goal.returns-clause-ok
returns-clause-ok g c =
    let head = c.args.head.now in
    let body = c.args.body.now in
    let size : c.read_u32-size.result ≡ u32_at head 4 =
    grind (arith, common_steps, c.read_u32-size.ensures, c.requires.head.long) in
    let good : format_fault c.args.wanted 0 (format_chunk c.args.offset (u32_at head 4) body) ≡ None =
    ap (λ n. format_fault c.args.wanted 0 (format_chunk c.args.offset n body)) (sym size) ∙
    sym c.format_fault.ensures ∙ c.in_default.is in
    let whole : c.padded.result ≡ padded (u32_at head 4) = c.padded.ensures ∙ ap padded size in
    let (rest, second) = c.in_ok-skip.ensures.ok in
    record { rest = rest; came = rw whole at second; good = good; known_is = c.sampling.ensures }
