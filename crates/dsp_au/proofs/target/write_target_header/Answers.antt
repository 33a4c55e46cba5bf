use Rattle.std.proofs.Common.{◌≡◌, ◌∙◌, ℕ, ◌<◌, List, length, take, MatchResult, refl, subst}
use Rattle.dsp_ports.specs.Ports.{Took}
use Rattle.dsp_defs.specs.Au.{form_header, target_form}
use Rattle.dsp_au.proofs.target.write_target_header.Goals as goal

pub returns-in-WaveToAu-clause-took : goal.returns-in-WaveToAu-clause-took
returns-in-WaveToAu-clause-took g c =
    let header = c.args.header in
    let bytes : c.deref.result.now ≡ form_header (target_form c.args.direction) header =
    c.deref.ensures.0 ∙ c.write_au.ensures.bytes ∙ rw (c.in-WaveToAu.is, c.declared_frames-frames.ensures.value) refl in
    subst (λ (bytes : List ℕ). MatchResult c.write_all.result
    (λ _. Took (g.K.Sink.state c.args.output.now) (g.K.Sink.state c.write_all.new.sink) bytes)
    (λ _. (count : ℕ) × (count < length bytes) × Took (g.K.Sink.state c.args.output.now)
    (g.K.Sink.state c.write_all.new.sink) (take count bytes))) bytes c.write_all.ensures.took

pub returns-in-AuToWave-clause-took : goal.returns-in-AuToWave-clause-took
returns-in-AuToWave-clause-took g c =
    let header = c.args.header in
    let bytes : c.deref-in-AuToWave.result.now ≡ form_header (target_form c.args.direction) header =
    c.deref-in-AuToWave.ensures.0 ∙ c.write_open_header.ensures.bytes ∙
    rw (c.in-AuToWave.is, c.declared_frames-frames.ensures.value) refl in
    subst (λ (bytes : List ℕ). MatchResult c.write_all-in-AuToWave.result
    (λ _. Took (g.K.Sink.state c.args.output.now) (g.K.Sink.state c.write_all-in-AuToWave.new.sink) bytes)
    (λ _. (count : ℕ) × (count < length bytes) × Took (g.K.Sink.state c.args.output.now)
    (g.K.Sink.state c.write_all-in-AuToWave.new.sink) (take count bytes))) bytes
    c.write_all-in-AuToWave.ensures.took
