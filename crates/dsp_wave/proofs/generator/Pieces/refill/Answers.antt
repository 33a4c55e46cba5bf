use Rattle.std.proofs.Common.{◌∙◌, ap, arith, [], ◌∷◌, ◌++◌, ℕ, List, ◌-◌, if◌then◌else◌}
use Rattle.std.proofs.lemmas.Grind.{common_steps}
use Rattle.std.specs.Int.{w32}
use Rattle.std.proofs.lemmas.Int.{to_z-of_z}
use Rattle.dsp_defs.specs.Bytes.{bytes_of}
use Rattle.dsp_defs.specs.Generator.{state_sample}
use Rattle.dsp_wave.specs.Generated.{made}
use Rattle.dsp_wave.proofs.SampleBytes.{sample_fits}
use Rattle.dsp_wave.proofs.GeneratorLemmas.{refilled}
use Rattle.dsp_wave.proofs.generator.Pieces.refill.Goals as goal

pub returns-then-self-gt0-clause-same : goal.returns-then-self-gt0-clause-same
returns-then-self-gt0-clause-same c =
    let old = c.args.self.now in
    let C = old.container in
    let F = old.format in
    let last : List ℕ = if old.has_pad then (0 ∷ []) else [] in
    let value = c.state_sample.result in
    let state = c.next_state-self.ensures in
    let sample = to_z-of_z w32 value (sample_fits F value c.state_sample.ensures.fits) ∙
    c.state_sample.ensures.value ∙ ap (state_sample F) state in
    let bytes = c.append.ensures.items ∙ ap (λ l. l ++ c.bytes_of.new.out) c.clear.ensures ∙ c.bytes_of.ensures ∙
    (λ i. bytes_of (c.coding_of-coding.ensures i) (sample i)) in
    (λ i. bytes i ++ (made C F (state i) (old.samples - 1) ++ last))
    ∙ refilled C F old.state old.samples old.given old.ready.items last (omega arith) (omega arith)

pub returns-then-self-clause-same : goal.returns-then-self-clause-same
returns-then-self-clause-same c = grind (arith, common_steps)
