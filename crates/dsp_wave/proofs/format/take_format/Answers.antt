use Rattle.std.proofs.Common.{◌≡◌, ◌+◌, ◌-◌, ◌≤◌, ◌<◌, ◌∙◌, [], ◌++◌, length, take, drop, ap, sym, arith}
use Rattle.std.proofs.lemmas.Grind.{common_steps}
use Rattle.std.proofs.lemmas.List.{take_at, take-append-le, length-take-le}
use Rattle.std.proofs.lemmas.Result.{err_from_is_err_and}
use Rattle.std.proofs.lemmas.Slice.{take-put_mid}
use Rattle.dsp_defs.specs.Wave.{u16_at, u32_at, extensible_tag}
use Rattle.dsp_wave.proofs.FormatLaws.{size_behind}
use Rattle.dsp_wave.proofs.ReaderLaws as laws
use Rattle.dsp_wave.proofs.ChunkLaws as chunk_laws
use Rattle.dsp_wave.proofs.format.take_format.Goals as goal
use Rattle.dsp_wave.proofs.format.take_format.Goals.{then-read_u16-ne-EXTENSIBLE_TAG-via-then-read_u16-ne-EXTENSIBLE_TAG}
use Rattle.dsp_wave.proofs.format.take_format.Goals.{then-read_u16-ne-EXTENSIBLE_TAG-via-else-read_u16-ne-EXTENSIBLE_TAG+then-size-2}

pub returns-then-size-clause-err : goal.returns-then-size-clause-err
returns-then-size-clause-err g c says agrees =
    let size : c.read_u32-size.result ≡ u32_at c.args.head.now 4 =
    size_behind c.args.head.now c.read_u32-size.result c.requires.head.long c.read_u32-size.ensures in
    let small : u32_at c.args.head.now 4 < 16 = omega (arith, size, c.if-size.true) in
    rw size (laws.stops_sure says (c.args.offset + 8) _ _ 0 [] _ _
    (laws.nothing_came (c.args.offset + 8) _ c.requires.offset)
    (λ more. let (wanted, is) = agrees more in is ∙ chunk_laws.format_too_small wanted c.args.offset c.args.head.now
    c.requires.head.long c.requires.head.id more small))

pub returns-in_err-take-clause-err : goal.returns-in_err-take-clause-err
returns-in_err-take-clause-err g c says agrees =
    let (error, is, same) = err_from_is_err_and c.from_residual.result c.from_residual.ensures.1 in
    let sixteen : length c.take.new.piece ≡ 16 = c.take.auto.piece ∙
    length-take-le 16 c.args.body.now (omega (arith, c.requires.room)) in
    let size : c.read_u32-size.result ≡ u32_at c.args.head.now 4 =
    size_behind c.args.head.now c.read_u32-size.result c.requires.head.long c.read_u32-size.ensures in
    let enough : 16 ≤ u32_at c.args.head.now 4 = omega (arith, size, c.if-size.false) in
    rw (is, same) (laws.stops_missing says (c.args.offset + 8) _ _ 16 _
    (λ more short. let (wanted, said) = agrees more in said ∙
    chunk_laws.format_short wanted c.args.offset c.args.head.now c.requires.head.long c.requires.head.id enough more
    short) (rw sixteen at c.in_err-take.ensures.err))

pub returns-then-read_u16-ne-EXTENSIBLE_TAG-clause-ok : goal.returns-then-read_u16-ne-EXTENSIBLE_TAG-clause-ok
returns-then-read_u16-ne-EXTENSIBLE_TAG-clause-ok g c =
    let front = c.take.new.piece in
    let behind = drop 16 c.args.body.now in
    let sixteen : length front ≡ 16 = c.take.auto.piece ∙
    length-take-le 16 c.args.body.now (omega (arith, c.requires.room)) in
    let whole : take 16 (front ++ behind) ≡ front = take_at front behind 16 sixteen in
    let read = rw (take-append-le 2 front behind (omega (arith, sixteen))) at c.read_u16.ensures in
    let tag : c.read_u16.result ≡ u16_at front 0 = omega (arith, read) in
    let size : c.read_u32-size.result ≡ u32_at c.args.head.now 4 =
    size_behind c.args.head.now c.read_u32-size.result c.requires.head.long c.read_u32-size.ensures in
    rw whole (
      rw sixteen at c.in_ok-take.ensures.ok,
      record {
        plain = omega (arith, sixteen);
        within = omega (arith, sixteen, size, c.if-size.false);
        extended =
            λ is long. elim c.then-read_u16-ne-EXTENSIBLE_TAG.branch [
              | then-read_u16-ne-EXTENSIBLE_TAG-via-then-read_u16-ne-EXTENSIBLE_TAG w ↦ absurd
                  (w.if-read_u16-ne-EXTENSIBLE_TAG.true (tag ∙ is))
              | then-read_u16-ne-EXTENSIBLE_TAG-via-else-read_u16-ne-EXTENSIBLE_TAG+then-size-2 w ↦ absurd
                  (omega (arith, size, w.if-size-2.true, long))
            ];
      },
    )

pub returns-in_err-take-2-clause-err : goal.returns-in_err-take-2-clause-err
returns-in_err-take-2-clause-err g c says agrees =
    let (error, is, same) = err_from_is_err_and c.from_residual-in_err-take-2.result
    c.from_residual-in_err-take-2.ensures.1 in
    let front = c.take.new.piece in
    let behind = drop 16 c.args.body.now in
    let sixteen : length front ≡ 16 = c.take.auto.piece ∙
    length-take-le 16 c.args.body.now (omega (arith, c.requires.room)) in
    let rest : length c.take-2.new.piece ≡ 24 = grind (
      arith,
      common_steps,
      c.take-2.auto.piece,
      sixteen,
      c.requires.room,
    ) in
    let read = rw (take-append-le 2 front behind (omega (arith, sixteen))) at c.read_u16.ensures in
    let tag : c.read_u16.result ≡ u16_at front 0 = omega (arith, read) in
    let is_extended : u16_at front 0 ≡ extensible_tag = sym tag ∙ c.if-read_u16-ne-EXTENSIBLE_TAG.false in
    let size : c.read_u32-size.result ≡ u32_at c.args.head.now 4 =
    size_behind c.args.head.now c.read_u32-size.result c.requires.head.long c.read_u32-size.ensures in
    let enough : 40 ≤ u32_at c.args.head.now 4 = omega (arith, size, c.if-size-2.false) in
    let at : c.args.offset + 24 ≡ c.args.offset + 8 + 16 = omega arith in
    rw (is, same) (laws.stops_later says (c.args.offset + 8) _ _ 16 24 _ front _
    (λ more short. let (wanted, said) = agrees (front ++ more) in said ∙
    chunk_laws.extension_short wanted c.args.offset c.args.head.now c.requires.head.long
    c.requires.head.id front sixteen
    enough is_extended more short)
    (rw sixteen at c.in_ok-take.ensures.ok) (rw (rest, at) at c.in_err-take-2.ensures.err))

pub returns-clause-ok : goal.returns-clause-ok
returns-clause-ok g c =
    let front = c.take.new.piece in
    let back = c.take-2.new.piece in
    let behind = drop 16 c.args.body.now in
    let sixteen : length front ≡ 16 = c.take.auto.piece ∙
    length-take-le 16 c.args.body.now (omega (arith, c.requires.room)) in
    let rest : length back ≡ 24 = grind (arith, common_steps, c.take-2.auto.piece, sixteen, c.requires.room) in
    let size : c.read_u32-size.result ≡ u32_at c.args.head.now 4 =
    size_behind c.args.head.now c.read_u32-size.result c.requires.head.long c.read_u32-size.ensures in
    let at : c.args.offset + 24 ≡ c.args.offset + 8 + 16 = omega arith in
    let whole =
    take-put_mid 16 (length (front ++ behind) - 16) (front ++ behind) back 40 (omega (arith, rest))
    (grind (arith, common_steps, sixteen))
    ∙ ap (λ l. l ++ back) (take_at front behind 16 sixteen) in
    let both = laws.both_came (c.args.offset + 8) 16 24 _ _ _ front back (rw sixteen at c.in_ok-take.ensures.ok)
    (rw (rest, at) at c.in_ok-take-2.ensures.ok) in
    rw whole (
      both,
      record {
        plain = omega (arith, both.long);
        within = omega (arith, both.long, size, c.if-size-2.false);
        extended = λ _ _. omega (arith, both.long);
      },
    )
