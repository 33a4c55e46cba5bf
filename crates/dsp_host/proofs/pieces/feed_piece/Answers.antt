use Rattle.std.proofs.Common.{◌≡◌, ◌≤◌, ◌∙◌, take, length, arith, rules}
use Rattle.std.proofs.lemmas.List.{length-take-le}
use Rattle.std.proofs.lemmas.Result.{err_from_is_err_and}
use Rattle.dsp_host.proofs.Behind as laws
use Rattle.dsp_host.proofs.pieces.feed_piece.Goals as goal

pub returns-in_err-count-clause-err : goal.returns-in_err-count-clause-err
returns-in_err-count-clause-err g c =
    let (error, is, same) = err_from_is_err_and c.from_residual-in_err-count.result
    c.from_residual-in_err-count.ensures.1 in
    rw (is, same) (laws.goes_not _ _ _ _ _ c.in_ok-session.ensures.ok _ _ _ _ c.in_err-count.ensures.err)

pub save-kept-requires-clause-room : goal.save-kept-requires-clause-room
save-kept-requires-clause-room g c =
    let fed = c.in_ok-given.ensures.ok in
    let wanted = laws.kept_wanted _ _ _ _ _ c.in_ok-session.ensures.ok _ _ _ _ _ _ _ fed _ _
    c.kept_count_of-wanted.ensures c.in_ok-count.ensures.count in
    omega (arith, wanted, c.if-wanted-kept_out.false)

pub returns-clause-ok : goal.returns-clause-ok
returns-clause-ok g c =
    let opened = c.in_ok-session.ensures.ok in
    let fed = c.in_ok-given.ensures.ok in
    let wanted = laws.kept_wanted _ _ _ _ _ opened _ _ _ _ _ _ _ fed _ _ c.kept_count_of-wanted.ensures
    c.in_ok-count.ensures.count in
    let few : c.save-kept.result ≤ length c.args.kept_out.now =
    omega (arith, wanted, c.if-wanted-kept_out.false, c.save-kept.ensures.count) in
    let long : length (take c.save-kept.result c.save-kept.new.numbers) ≡ c.save-kept.result =
    length-take-le c.save-kept.result c.save-kept.new.numbers (omega (arith, few, c.save-kept.auto.numbers)) in
    laws.goes _ _ _ _ _ opened _ _ _ _ _ _ _ fed _ _ _ (laws.front_is _ _ _ _ _ opened _ _ _ _ _ _ _ fed)
    (long ∙ c.save-kept.ensures.count) (omega (arith, few, long)) c.save-kept.ensures.stands

pub returns-then-wanted-kept_out-clause-err : goal.returns-then-wanted-kept_out-clause-err
returns-then-wanted-kept_out-clause-err g c = search rules
