use Rattle.std.proofs.Common.{◌≡◌, ◌∙◌, ◌≤◌, Bool, true, false, not, codes, length, take, refl, sym, ap, arith}
use Rattle.std.specs.Str.{bytes_eq}
use Rattle.std.proofs.lemmas.Result.{err_from_is_err_and}
use Rattle.dsp_defs.proofs.AuLaws.{au_said-good}
use Rattle.dsp_au.proofs.ReaderLaws as laws
use Rattle.dsp_au.proofs.reader.read_au.Goals as goal
use Rattle.dsp_au.proofs.reader.read_au.Goals.{then-count-lt4-via-then-count-lt4}
use Rattle.dsp_au.proofs.reader.read_au.Goals.{then-count-lt4-via-else-count-lt4+then-ne}

equal : (r same : Bool) → r ≡ not same → r ≡ false → same ≡ true
equal r true is told = refl
equal r false is told = absurd cc

unequal : (r same : Bool) → r ≡ not same → r ≡ true → same ≡ false
unequal r true is told = absurd cc
unequal r false is told = refl

pub returns-in-Err-clause-err : goal.returns-in-Err-clause-err
returns-in-Err-clause-err g c = laws.fails_any _ _ _ _ c.in-Err.field-0 c.fill.auto.block refl c.in-Err.ensures.err

pub returns-then-count-lt4-clause-err : goal.returns-then-count-lt4-clause-err
returns-then-count-lt4-clause-err g c =
    let block = c.fill.new.block in
    let size : length block ≡ 24 = c.fill.auto.block in
    elim c.then-count-lt4.branch [
      | then-count-lt4-via-then-count-lt4 w ↦ laws.begin_cut _ _ block c.in-Ok.count size c.in-Ok.ensures.ok
          w.if-count-lt4.true
      | then-count-lt4-via-else-count-lt4+then-ne w ↦
          let enough : 4 ≤ c.in-Ok.count = omega (arith, w.if-count-lt4.false) in
          let other : bytes_eq (take 4 block) (codes ".snd") ≡ false =
          ap (bytes_eq (take 4 block)) (sym w.as_slice.ensures) ∙ unequal _ _ w.ne.ensures w.if-ne.true in
          laws.begin_other _ _ block c.in-Ok.count size c.in-Ok.ensures.ok enough other
    ]

pub overflow_sub-header : goal.overflow_sub-header
overflow_sub-header g c = (au_said-good c.fill.new.block c.in-Ok-read_fields.header
    (sym c.in-Ok-read_fields.ensures.said)).1

pub returns-in_err-skip-in-Ok-read_fields-clause-err : goal.returns-in_err-skip-in-Ok-read_fields-clause-err
returns-in_err-skip-in-Ok-read_fields-clause-err g c =
    let (error, is, same) = err_from_is_err_and c.from_residual.result c.from_residual.ensures.1 in
    let block = c.fill.new.block in
    let header = c.in-Ok-read_fields.header in
    let size : length block ≡ 24 = c.fill.auto.block in
    let begins : bytes_eq (take 4 block) (codes ".snd") ≡ true =
    ap (bytes_eq (take 4 block)) (sym c.as_slice.ensures) ∙ equal _ _ c.ne.ensures c.if-ne.false in
    let (good, start) = au_said-good block header (sym c.in-Ok-read_fields.ensures.said) in
    rw (is, same) (laws.stopped_behind _ _ _ block c.in-Ok.count size c.in-Ok.ensures.ok (omega arith) begins
    (omega arith) header good start c.in-Ok-read_fields.ensures.few (sym c.in-Ok-read_fields.ensures.said) _
    c.in_err-skip-in-Ok-read_fields.ensures.err)

pub returns-in_ok-skip-in-Ok-read_fields-clause-ok : goal.returns-in_ok-skip-in-Ok-read_fields-clause-ok
returns-in_ok-skip-in-Ok-read_fields-clause-ok g c =
    let block = c.fill.new.block in
    let header = c.in-Ok-read_fields.header in
    let size : length block ≡ 24 = c.fill.auto.block in
    let begins : bytes_eq (take 4 block) (codes ".snd") ≡ true =
    ap (bytes_eq (take 4 block)) (sym c.as_slice.ensures) ∙ equal _ _ c.ne.ensures c.if-ne.false in
    let (good, start) = au_said-good block header (sym c.in-Ok-read_fields.ensures.said) in
    let (rest, came) = c.in_ok-skip-in-Ok-read_fields.ensures.ok in
    laws.headed_behind _ _ _ block c.in-Ok.count size c.in-Ok.ensures.ok (omega arith) begins (omega arith) header
    good start c.in-Ok-read_fields.ensures.few (sym c.in-Ok-read_fields.ensures.said) rest came

pub returns-in-Err-read_fields-clause-err : goal.returns-in-Err-read_fields-clause-err
returns-in-Err-read_fields-clause-err g c =
    let block = c.fill.new.block in
    let size : length block ≡ 24 = c.fill.auto.block in
    let begins : bytes_eq (take 4 block) (codes ".snd") ≡ true =
    ap (bytes_eq (take 4 block)) (sym c.as_slice.ensures) ∙ equal _ _ c.ne.ensures c.if-ne.false in
    laws.wrong_fields _ _ block c.in-Ok.count size c.in-Ok.ensures.ok (omega arith) begins (omega arith)
    c.in-Err-read_fields.fault c.in-Err-read_fields.offset
    (sym (rw (c.in-Err-read_fields.fault-is, c.in-Err-read_fields.offset-is) c.in-Err-read_fields.ensures.said))
