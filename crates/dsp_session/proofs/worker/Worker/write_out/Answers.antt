use Rattle.std.proofs.Common.{◌∙◌, ap, ℕ, ◌<◌, List, length, take, flat_map, subst, MatchResult}
use Rattle.dsp_defs.specs.Bytes.{bytes_of}
use Rattle.dsp_ports.specs.Ports.{Took}
use Rattle.dsp_session.specs.Working.{row_of}
use Rattle.dsp_session.proofs.WorkerLaws as laws
use Rattle.dsp_session.proofs.worker.Worker.write_out.Goals as goal

pub write_piece-requires : goal.write_piece-requires
write_piece-requires g c =
    let w = c.self.inside in
    let given = c.new.ensures ∙ ap (flat_map (bytes_of w.output)) (c.given_samples-given.ensures ∙
    ap (λ zs. take w.given (row_of w.as_taken w.samples.row zs)) c.deref.ensures.value) in
    let room = laws.bytes_room w.output w.given w.values.len w.bytes.len _
    (take w.given (row_of w.as_taken w.samples.row w.values.items)) c.self.invariant.long c.self.invariant.within
    c.self.invariant.values c.self.invariant.bytes in
    rw (given, c.as_mut_slice.ensures.len) room

pub returns-clause-took : goal.returns-clause-took
returns-clause-took g c =
    let w = c.self.inside in
    let given = c.new.ensures ∙ ap (flat_map (bytes_of w.output)) (c.given_samples-given.ensures ∙
    ap (λ zs. take w.given (row_of w.as_taken w.samples.row zs)) c.deref.ensures.value) in
    let before = g.K.Sink.state c.args.output.now in
    let after = g.K.Sink.state c.write_piece.new.sink in
    rw (← c.self.view_is)
    (subst (λ (bytes : List ℕ). MatchResult c.write_piece.result (λ _. Took before after bytes)
    (λ _. (count : ℕ) × (count < length bytes) × Took before after (take count bytes))) given
    c.write_piece.ensures.took)
