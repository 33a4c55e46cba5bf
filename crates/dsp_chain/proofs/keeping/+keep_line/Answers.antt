use Rattle.std.proofs.Common.{◌∙◌, ap, sym, ◌++◌, length, arith}
use Rattle.dsp_chain.proofs.Room.{behind-runs}
use Rattle.dsp_chain.proofs.KeptLines.{kept-apart, kept-length}
use Rattle.dsp_chain.proofs.keeping.+keep_line.Goals as goal

pub split_at_mut-here-requires : goal.split_at_mut-here-requires
split_at_mut-here-requires g t c =
    omega (
      arith,
      c.requires.length,
      kept-length c.args.links.now c.in-Some.link.now
          (g.S.Unit.unit c.link.inside.unit) c.in-Some.behind.now c.kept_count.result c.in-Some.ensures.cases.0
          c.link.view_is c.kept_count.ensures.count,
    )

pub keep_line-requires : goal.keep_line-requires
keep_line-requires g t c κs within =
    let sizes = kept-length c.args.links.now c.in-Some.link.now (g.S.Unit.unit c.link.inside.unit)
    c.in-Some.behind.now c.kept_count.result c.in-Some.ensures.cases.0 c.link.view_is c.kept_count.ensures.count in
    let runs = behind-runs c.args.links.now c.in-Some.link.now (g.S.Unit.unit c.link.inside.unit) c.in-Some.behind.now
    c.in-Some.ensures.cases.0 c.link.view_is c.requires.running in (
      omega (arith, ap length c.in-Some.ensures.cases.0, c.decreases),
      (within, (runs, omega (arith, sizes, c.split_at_mut-here.ensures.back_len, c.requires.length))),
    )

pub returns : goal.returns
returns g t c =
    (λ i. c.keep.ensures i ++ c.keep_line.ensures i)
    ∙ sym (kept-apart c.args.links.now c.in-Some.link.now (g.S.Unit.unit c.link.inside.unit) c.in-Some.behind.now
    c.in-Some.ensures.cases.0 c.link.view_is)
