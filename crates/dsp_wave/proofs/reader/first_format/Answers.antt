use Rattle.std.proofs.Common.{◌≡◌, ◌+◌, true, false, codes, length, take, arith}
use Rattle.std.proofs.lemmas.Grind.{common_steps}
use Rattle.std.proofs.lemmas.Result.{err_from_is_err_and}
use Rattle.std.specs.Str.{bytes_eq}
use Rattle.dsp_defs.specs.Wave.{padded, u32_at}
use Rattle.dsp_wave.proofs.FirstFormat as laws
use Rattle.dsp_wave.proofs.reader.first_format.Goals as goal

pub chunks-init : goal.chunks-init
chunks-init g c = record { read = laws.begins _ }

pub returns-in_err-take-clause-err : goal.returns-in_err-take-clause-err
returns-in_err-take-clause-err g c says by_any =
    let (error, is, same) = err_from_is_err_and c.from_residual.result c.from_residual.ensures.1 in
    let long : length c.take.new.piece ≡ 8 = c.take.auto.piece in
    rw (is, same) (laws.head_missing _ _ _ _ c.chunks.invariant.read says by_any _
    (rw long at c.in_err-take.ensures.err))

pub returns-then-eq-clause-err : goal.returns-then-eq-clause-err
returns-then-eq-clause-err g c says by_any =
    let head = c.take.new.piece in
    let long : length head ≡ 8 = c.take.auto.piece in
    let samples : bytes_eq (take 4 head) (codes "data") ≡ true =
    grind (arith, common_steps, c.eq.ensures, c.if-eq.true, c.as_slice.ensures) in
    laws.too_early _ _ _ _ c.chunks.invariant.read says by_any head long samples (rw long at c.in_ok-take.ensures.ok)

pub returns-then-eq-2-clause-ok : goal.returns-then-eq-2-clause-ok
returns-then-eq-2-clause-ok g c =
    let head = c.take.new.piece in
    let long : length head ≡ 8 = c.take.auto.piece in
    let format : bytes_eq (take 4 head) (codes "fmt ") ≡ true =
    grind (arith, common_steps, c.eq-in-chunks.ensures, c.if-eq-2.true, c.as_slice-in-chunks.ensures) in
    laws.found _ _ _ _ c.chunks.invariant.read head long (rw long at c.in_ok-take.ensures.ok) format

pub returns-in_err-skip-clause-err : goal.returns-in_err-skip-clause-err
returns-in_err-skip-clause-err g c says by_any =
    let (error, is, same) = err_from_is_err_and c.from_residual-in_err-skip.result
    c.from_residual-in_err-skip.ensures.1 in
    let head = c.take.new.piece in
    let long : length head ≡ 8 = c.take.auto.piece in
    let no_samples : bytes_eq (take 4 head) (codes "data") ≡ false =
    grind (arith, common_steps, c.eq.ensures, c.if-eq.false, c.as_slice.ensures) in
    let no_format : bytes_eq (take 4 head) (codes "fmt ") ≡ false =
    grind (arith, common_steps, c.eq-in-chunks.ensures, c.if-eq-2.false, c.as_slice-in-chunks.ensures) in
    let size : c.padded-size.result ≡ padded (u32_at head 4) =
    grind (arith, common_steps, c.padded-size.ensures, c.read_u32.ensures) in
    rw (is, same) (laws.chunk_missing _ _ _ _ c.chunks.invariant.read says by_any head long no_samples no_format _
    (rw long at c.in_ok-take.ensures.ok) _
    (rw size at c.in_err-skip.ensures.err))

pub chunks-preserved : goal.chunks-preserved
chunks-preserved g c =
    let head = c.take.new.piece in
    let long : length head ≡ 8 = c.take.auto.piece in
    let no_samples : bytes_eq (take 4 head) (codes "data") ≡ false =
    grind (arith, common_steps, c.eq.ensures, c.if-eq.false, c.as_slice.ensures) in
    let no_format : bytes_eq (take 4 head) (codes "fmt ") ≡ false =
    grind (arith, common_steps, c.eq-in-chunks.ensures, c.if-eq-2.false, c.as_slice-in-chunks.ensures) in
    let size : c.padded-size.result ≡ padded (u32_at head 4) =
    grind (arith, common_steps, c.padded-size.ensures, c.read_u32.ensures) in
    let (body, second) = c.in_ok-skip.ensures.ok in
    let place : c.chunks.offset + (8 + c.padded-size.result) ≡ c.chunks.offset + 8 + padded (u32_at head 4) =
    omega (arith, size) in
    rw place (record {
      read = laws.another _ _ _ _ c.chunks.invariant.read head long
          (rw long at c.in_ok-take.ensures.ok) _ body (rw size at second) no_samples no_format;
    })
