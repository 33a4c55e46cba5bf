use Rattle.std.proofs.Common.{◌≡◌, ◌∙◌, ap, ℕ, List, ◌*◌, length, Some, arith, false}
use Rattle.dsp_defs.specs.Generator.{generated_bytes}
use Rattle.dsp_defs.specs.Wave.{wave_header, data_size}
use Rattle.dsp_defs.specs.declared.format.Container.TheVariants.{Wave}
use Rattle.dsp_defs.specs.declared.limits.TheConstants.{GENERATED_RATE}
use Rattle.dsp_wave.specs.Generated.{to_come}
use Rattle.dsp_wave.proofs.GeneratorLemmas.{begins-raw, begins-wave, generated_bytes-small}
use Rattle.dsp_wave.proofs.generator.GenSource.new.Goals.{in-Raw, in-Wave}
use Rattle.dsp_wave.proofs.generator.GenSource.new.Goals as goal

begins : (c : goal.After-from) → to_come (record {
  container = c.match-input.container.0;
  format =
      c.args.input.now.format;
  ready = c.match-input.container.1;
  given = 0;
  state = c.args.seed;
  samples =
      c.from-count.result * c.from.result;
  has_pad = c.match-input.container.2;
}) ≡ generated_bytes c.args.input.now
    c.args.seed c.args.frames
begins c =
    let count : c.from-count.result * c.from.result ≡ c.args.frames * c.args.input.now.channels =
    (λ i. c.from-count.ensures i * c.from.ensures i) in
    elim c.match-input.branch [
      | in-Raw w ↦ begins-raw c.args.input.now c.args.seed c.args.frames _ w.in-Raw.rate c.match-input.container
          w.new.result w.in-Raw.is w.container-is w.new.ensures count
      | in-Wave w ↦
          begins-wave c.args.input.now c.args.seed c.args.frames _ w.data_size.result c.match-input.container
          w.write_header.result w.in-Wave.is w.container-is
          (w.write_header.ensures.bytes ∙ ap (λ n. wave_header Wave c.args.input.now.format c.args.input.now.channels
          GENERATED_RATE (Some n)) c.from-count.ensures)
          (w.data_size.ensures ∙ ap (λ n. data_size c.args.input.now.format c.args.input.now.channels (Some n))
          c.from-count.ensures)
          count
    ]

pub invariant_of-result : goal.invariant_of-result
invariant_of-result c =
    let small = generated_bytes-small c.args.input.now c.args.seed c.args.frames c.requires.channels c.requires.frames
    in
    (omega arith, omega (arith, small, ap length (begins c)))

pub returns : goal.returns
returns c = ap (λ (l : List ℕ). record { rest = l; taken = 0; ended = false; strayed = false }) (begins c)
