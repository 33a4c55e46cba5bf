use Rattle.std.proofs.Common.{◌+◌, ◌-◌, ◌<◌, length, take, drop, arith}
use Rattle.dsp_script.proofs.Tokens.{token_first, token_bad, token_missing, open_begins, close_begins, bad_begins}
use Rattle.dsp_script.proofs.Tokens.{run_from}
use Rattle.dsp_defs.specs.Token.{Open, Close, Run}
use Rattle.dsp_script.proofs.token.token_from.Goals as goal

pub returns-then-at-text-clause-token : goal.returns-then-at-text-clause-token
returns-then-at-text-clause-token c = (token_missing c.args.text.now c.args.from c.token_start-at.result
    c.token_start-at.ensures.same (omega arith))

pub returns-then-byte-eq123-clause-token : goal.returns-then-byte-eq123-clause-token
returns-then-byte-eq123-clause-token c =
    token_first c.args.text.now c.args.from c.token_start-at.result (c.token_start-at.result + 1) Open
    c.token_start-at.ensures.same (open_begins c.args.text.now c.token_start-at.result (omega arith)
    c.if-byte-eq123.true) tt

pub returns-then-byte-eq125-clause-token : goal.returns-then-byte-eq125-clause-token
returns-then-byte-eq125-clause-token c =
    token_first c.args.text.now c.args.from c.token_start-at.result (c.token_start-at.result + 1) Close
    c.token_start-at.ensures.same (close_begins c.args.text.now c.token_start-at.result (omega arith)
    c.if-byte-eq125.true) tt

pub returns-then-end-at-clause-token : goal.returns-then-end-at-clause-token
returns-then-end-at-clause-token c =
    let lt : c.token_start-at.result < length c.args.text.now = omega arith in
    (token_bad c.args.text.now c.args.from c.token_start-at.result (c.token_start-at.result + 1)
    c.token_start-at.ensures.same
    (bad_begins c.args.text.now c.token_start-at.result lt (c.token_start-at.ensures.comment lt)
    (c.token_start-at.ensures.white lt) c.if-byte-eq123.false c.if-byte-eq125.false
    (rw c.if-end-at.true at (c.run_end-end.ensures.ends (omega arith)))))

pub returns-clause-token : goal.returns-clause-token
returns-clause-token c =
    token_first c.args.text.now c.args.from c.token_start-at.result c.run_end-end.result
    (Run (take (c.run_end-end.result - c.token_start-at.result) (drop c.token_start-at.result c.args.text.now)))
    c.token_start-at.ensures.same
    (run_from c.args.text.now c.token_start-at.result c.run_end-end.result (omega arith) (omega arith)
    c.run_end-end.ensures.run c.run_end-end.ensures.ends) tt
