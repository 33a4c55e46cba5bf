use Rattle.std.proofs.Common.{◌≡◌, ◌∙◌, ap, sym, ◌*◌, length, rules, vec_len}
use Rattle.dsp_biquad.proofs.SectionNumbers.{kept-count}
use Rattle.dsp_biquad.proofs.cascade.CascadeStepwise.kept_count.Goals as goal

pub returns-clause-count : goal.returns-clause-count
returns-clause-count g c =
    let sections = c.self.inside.sections in
    let long : vec_len sections ≡ length sections.items = search rules in
    rw (← c.self.view_is) (ap (λ n. n * 4) (c.len.ensures ∙ long) ∙
    sym (kept-count g.S.Machine.kept g.met.S.CascadeSection.four sections.items))
