use Rattle.std.proofs.Common.{◌∙◌, ap, sym}
use Rattle.dsp_session.specs.SessionState.{SessionState}
use Rattle.dsp_session.proofs.worker.Worker.set_coding.Goals as goal

pub returns-clause-coding : goal.returns-clause-coding
returns-clause-coding g c = rw c.set_coding.ensures
    (ap (λ (s : SessionState). record s { coding = c.args.coding }) c.self.view_is)

pub returns-clause-same : goal.returns-clause-same
returns-clause-same g c = record {
  script = ap (λ (s : SessionState). s.script) c.self.view_is;
  banked = ap (λ (s : SessionState). s.banked) c.self.view_is;
  block = ap (λ (s : SessionState). s.block) c.self.view_is;
}

pub invariant_of-self : goal.invariant_of-self
invariant_of-self g c =
    let is = c.self.invariant in rw c.set_coding.ensures (record {
      holds = record {
        ready = is.holds.ready;
        input = is.holds.input;
        blocks = is.holds.blocks;
        turns =
            is.holds.turns;
      };
      input = c.requires ∙ ap (λ (s : SessionState). s.script.input.format) (sym c.self.view_is);
      output = is.output;
      samples = is.samples;
      values = is.values;
      bytes = is.bytes;
      within = is.within;
      long = is.long;
      given_fit = is.given_fit;
    })
