use Rattle.std.proofs.Common.{◌∙◌, ◌*◌, ap, refl, arith}
use Rattle.dsp_defs.specs.Bytes.{coding_of, format_in}
use Rattle.dsp_defs.specs.declared.flow.Flow.{Flow}
use Rattle.dsp_defs.proofs.CodingLemmas.{format_in-coding_of}
use Rattle.dsp_session.proofs.WorkerLaws as laws
use Rattle.dsp_session.proofs.worker.Worker.new.Goals as goal

pub overflow_mul-room : goal.overflow_mul-room
overflow_mul-room g c =
    let few = laws.few_bytes c.args.script c.args.block c.requires c.args.banked c.in_ok-chain.chain
    c.in_ok-chain.ensures c.coding_of-output.result c.room-room.result c.width.result c.room-room.ensures
    c.width.ensures in
    omega (arith, few)

pub invariant_of-result : goal.invariant_of-result
invariant_of-result g c =
    let new = c.in_ok-chain.ensures in record {
      holds = record { ready = c.requires; input = new.input; blocks = new.blocks_are; turns = new.turns };
      input = ap format_in (c.in_ok-samples.ensures.0 ∙ c.coding_of-input.ensures) ∙
          format_in-coding_of c.container.result c.args.script.input.format;
      output = c.coding_of-output.ensures ∙ ap (λ (flow : Flow). coding_of c.args.script.output flow.format)
          c.output_flow-flow.ensures;
      samples = c.in_ok-samples.ensures.1 ∙ ap (λ n. c.args.block * n) c.from.ensures;
      values = c.in_ok-values.ensures.len ∙ c.room-room.ensures;
      bytes = c.in_ok-bytes.ensures.len ∙ (λ i. c.room-room.ensures i * c.width.ensures i);
      within = omega arith;
      long = refl;
      given_fit = λ k d less. absurd (omega (arith, less));
    }

pub returns : goal.returns
returns g c =
    let new = c.in_ok-chain.ensures in record {
      script_is = refl;
      banked_is = refl;
      block_is = refl;
      coding_is = c.in_ok-samples.ensures.0 ∙ c.coding_of-input.ensures ∙
          ap (λ container. coding_of container c.args.script.input.format)
          c.container.ensures;
      stands = record {
        holds = record { ready = c.requires; input = new.input; blocks = new.blocks_are; turns = new.turns };
        chain = new.stands;
        live = new.live;
      };
      empty = refl;
    }
