use Rattle.std.proofs.Common.{◌≡◌, ◌∙◌, ◌/◌, length, refl, arith}
use Rattle.std.proofs.lemmas.Result.{err_from_is_err_and}
use Rattle.dsp_defs.specs.Au.{open_frame_bytes}
use Rattle.dsp_defs.proofs.CodingLemmas.{width-some}
use Rattle.dsp_au.specs.Convert.{block_bytes}
use Rattle.dsp_au.proofs.ConvertLaws as laws
use Rattle.dsp_au.proofs.FrameLaws.{whole_samples}
use Rattle.dsp_au.proofs.conversion.pass_samples.Goals as goal
use Rattle.std.proofs.Math.Nat.{div-mul-le_self}

pub passing-init : goal.passing-init
passing-init g c =
    let (before, empty, begun) = c.requires.begun in
    laws.starts c.args.direction c.args.header begun.opened.good _ _
    (omega (arith, begun.opened.start, begun.opened.in_limit))

pub returns-in_err-count-clause-err : goal.returns-in_err-count-clause-err
returns-in_err-count-clause-err g c before empty begun =
    let (error, is, same) = err_from_is_err_and c.from_residual.result c.from_residual.ensures.1 in
    let size : length c.passing.block ≡ block_bytes c.args.header = c.passing.auto.block ∙ c.requires.block in
    rw (is, same) (laws.stops_unread c.args.direction c.args.header begun.opened.good before _ empty _ begun
    c.passing.taken _ _ _ c.passing.invariant (length c.passing.block) size _ c.in_err-count.ensures.err)

pub exchange-requires-clause-whole : goal.exchange-requires-clause-whole
exchange-requires-clause-whole g c =
    let bound = div-mul-le_self c.in_ok-count.count c.frame_bytes-frame.result in
    whole_samples (c.in_ok-count.count / c.frame_bytes-frame.result) c.args.header.channels _
    c.frame_bytes-frame.result c.width.result c.read_block.new.block c.frame_bytes-frame.ensures c.width.ensures
    (width-some c.args.header.coding) (omega (arith, bound, c.in_ok-count.ensures.ok.within))

pub returns-in-Err-clause-err : goal.returns-in-Err-clause-err
returns-in-Err-clause-err g c before empty begun =
    let size : length c.read_block.new.block ≡ block_bytes c.args.header = c.read_block.auto.block ∙
    c.passing.auto.block ∙ c.requires.block in
    let (k, less, took) = rw (c.exchange.ensures, c.width.ensures, c.frame_bytes-frame.ensures) at
    c.in-Err.ensures.took in
    laws.unwritten c.args.direction c.args.header begun.opened.good before _ empty _ begun c.passing.taken _ _ _ _
    c.passing.invariant c.read_block.new.block c.in_ok-count.count
    (c.in_ok-count.count / open_frame_bytes c.args.header) c.in_ok-count.ensures.small size c.in_ok-count.ensures.ok
    refl k less took c.in-Err.ensures.faults

pub returns-then-count-block-clause-ok : goal.returns-then-count-block-clause-ok
returns-then-count-block-clause-ok g c before empty begun =
    let size : length c.read_block.new.block ≡ block_bytes c.args.header = c.read_block.auto.block ∙
    c.passing.auto.block ∙ c.requires.block in
    let took = rw (c.exchange.ensures, c.width.ensures, c.frame_bytes-frame.ensures) at c.in-Ok.ensures.took in
    laws.ends c.args.direction c.args.header begun.opened.good before _ empty _ begun c.passing.taken _ _ _ _
    c.passing.invariant c.read_block.new.block c.in_ok-count.count
    (c.in_ok-count.count / open_frame_bytes c.args.header) c.in_ok-count.ensures.small size c.in_ok-count.ensures.ok
    refl took c.in-Ok.ensures.faults (omega arith)

pub passing-preserved : goal.passing-preserved
passing-preserved g c =
    let (before, empty, begun) = c.requires.begun in
    let size : length c.read_block.new.block ≡ block_bytes c.args.header = c.read_block.auto.block ∙
    c.passing.auto.block ∙ c.requires.block in
    let took = rw (c.exchange.ensures, c.width.ensures, c.frame_bytes-frame.ensures) at c.in-Ok.ensures.took in
    laws.goes_on c.args.direction c.args.header begun.opened.good c.passing.taken _ _ _ _ _ _ c.passing.invariant
    c.read_block.new.block c.in_ok-count.count (c.in_ok-count.count / open_frame_bytes c.args.header)
    c.in_ok-count.ensures.small size c.in_ok-count.ensures.ok refl took c.in-Ok.ensures.faults (omega arith)
