use Rattle.std.proofs.Common.{◌≡◌, ◌≤◌, true, false, codes, length, take, drop, refl, arith}
use Rattle.std.specs.Str.{bytes_eq}
use Rattle.std.proofs.lemmas.Grind.{common_steps}
use Rattle.dsp_wave.proofs.StartLaws as start_laws
use Rattle.dsp_wave.proofs.reader.read_riff.Goals as goal
use Rattle.dsp_wave.proofs.reader.read_riff.Goals.{then-count-lt4-via-then-count-lt4}
use Rattle.dsp_wave.proofs.reader.read_riff.Goals.{then-count-lt4-via-else-count-lt4+then-ne}
use Rattle.dsp_wave.proofs.reader.read_riff.Goals.{then-count-lt12-via-then-count-lt12}
use Rattle.dsp_wave.proofs.reader.read_riff.Goals.{then-count-lt12-via-else-count-lt12+then-ne-2}

pub returns-then-count-lt4-clause-err : goal.returns-then-count-lt4-clause-err
returns-then-count-lt4-clause-err g c says by_header =
    let block = c.fill.new.block in
    let twelve : length block ≡ 12 = c.fill.auto.block in
    elim c.then-count-lt4.branch [
      | then-count-lt4-via-then-count-lt4 w ↦ start_laws.short_riff says by_header _ _ block c.in-Ok.count twelve
          c.in-Ok.ensures.ok w.if-count-lt4.true
      | then-count-lt4-via-else-count-lt4+then-ne w ↦
          let enough : 4 ≤ c.in-Ok.count = omega (arith, w.if-count-lt4.false) in
          let other : bytes_eq (take 4 block) (codes "RIFF") ≡ false =
          grind (arith, common_steps, w.ne.ensures, w.if-ne.true, w.as_slice.ensures) in
          start_laws.other_riff says by_header _ _ block c.in-Ok.count twelve c.in-Ok.ensures.ok enough other
    ]

pub returns-then-count-lt12-clause-err : goal.returns-then-count-lt12-clause-err
returns-then-count-lt12-clause-err g c says by_header =
    let block = c.fill.new.block in
    let twelve : length block ≡ 12 = c.fill.auto.block in
    let enough : 4 ≤ c.in-Ok.count = omega (arith, c.if-count-lt4.false) in
    let riff : bytes_eq (take 4 block) (codes "RIFF") ≡ true =
    grind (arith, common_steps, c.ne.ensures, c.if-ne.false, c.as_slice.ensures) in
    elim c.then-count-lt12.branch [
      | then-count-lt12-via-then-count-lt12 w ↦ start_laws.short_wave says by_header _ _ block c.in-Ok.count twelve
          c.in-Ok.ensures.ok enough riff w.if-count-lt12.true
      | then-count-lt12-via-else-count-lt12+then-ne-2 w ↦
          let all : 12 ≤ c.in-Ok.count = omega (arith, w.if-count-lt12.false) in
          let other : bytes_eq (take 4 (drop 8 block)) (codes "WAVE") ≡ false =
          start_laws.not_same _ _ _ _ w.as_slice-else-count-lt12.ensures w.ne-else-count-lt12.ensures w.if-ne-2.true in
          start_laws.other_wave says by_header _ _ block c.in-Ok.count twelve c.in-Ok.ensures.ok enough riff all other
    ]

pub returns-in-Err-clause-err : goal.returns-in-Err-clause-err
returns-in-Err-clause-err g c says by_header =
    start_laws.fails_any says by_header _ _ _ _ c.in-Err.field-0 c.fill.auto.block refl c.in-Err.ensures.err
