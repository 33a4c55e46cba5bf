use Rattle.std.proofs.Common.{◌≡◌, ◌∙◌, ap, sym, arith}
use Rattle.dsp_defs.specs.Bytes.{width}
use Rattle.dsp_defs.specs.Wave.{sampling, u16_at}
use Rattle.dsp_wave.specs.Taking.{format_chunk}
use Rattle.dsp_wave.proofs.FormatLaws as laws
use Rattle.dsp_wave.proofs.format.sample_fault.Goals as goal

pub returns-then-got-channels : goal.returns-then-got-channels
returns-then-got-channels c =
    let first : c.read_u16-got.result ≡ u16_at c.args.body.now 2 = omega (arith, c.read_u16-got.ensures) in
    laws.channels_differ c.args.wanted c.args.offset c.read_u16-got.result c.from-channels.result c.args.body.now
    first c.from-channels.ensures c.if-got-channels.true

pub returns-then-got-bits : goal.returns-then-got-bits
returns-then-got-bits c =
    let first : c.read_u16-got.result ≡ u16_at c.args.body.now 2 = omega (arith, c.read_u16-got.ensures) in
    let second : c.read_u16-got-2.result ≡ u16_at c.args.body.now 14 = omega (arith, c.read_u16-got-2.ensures) in
    let bytes : c.width-width.result ≡ width (sampling c.args.wanted (format_chunk 0 0 c.args.body.now)).coding =
    c.width-width.ensures ∙ ap (λ s. width s.coding) c.sampling.ensures in
    laws.bits_differ c.args.wanted c.args.offset c.read_u16-got.result c.read_u16-got-2.result c.width-width.result
    c.args.body.now
    first (c.if-got-channels.false ∙ c.from-channels.ensures) second bytes c.if-got-bits.true

pub returns-then-got-align : goal.returns-then-got-align
returns-then-got-align c =
    let first : c.read_u16-got.result ≡ u16_at c.args.body.now 2 = omega (arith, c.read_u16-got.ensures) in
    let second : c.read_u16-got-2.result ≡ u16_at c.args.body.now 14 = omega (arith, c.read_u16-got-2.ensures) in
    let third : c.read_u16-got-3.result ≡ u16_at c.args.body.now 12 = omega (arith, c.read_u16-got-3.ensures) in
    let bytes : c.width-width.result ≡ width (sampling c.args.wanted (format_chunk 0 0 c.args.body.now)).coding =
    c.width-width.ensures ∙ ap (λ s. width s.coding) c.sampling.ensures in
    laws.align_differs c.args.wanted c.args.offset c.from-channels.result c.read_u16-got-2.result
    c.read_u16-got-3.result c.width-width.result c.args.body.now
    (sym c.if-got-channels.false ∙ first) c.from-channels.ensures second bytes c.if-got-bits.false third
    c.if-got-align.true

pub returns : goal.returns
returns c =
    let first : c.read_u16-got.result ≡ u16_at c.args.body.now 2 = omega (arith, c.read_u16-got.ensures) in
    let second : c.read_u16-got-2.result ≡ u16_at c.args.body.now 14 = omega (arith, c.read_u16-got-2.ensures) in
    let third : c.read_u16-got-3.result ≡ u16_at c.args.body.now 12 = omega (arith, c.read_u16-got-3.ensures) in
    let bytes : c.width-width.result ≡ width (sampling c.args.wanted (format_chunk 0 0 c.args.body.now)).coding =
    c.width-width.ensures ∙ ap (λ s. width s.coding) c.sampling.ensures in
    laws.samples_fit c.args.wanted c.args.offset c.from-channels.result c.read_u16-got-2.result
    c.read_u16-got-3.result c.width-width.result c.args.body.now
    (sym c.if-got-channels.false ∙ first) c.from-channels.ensures second bytes c.if-got-bits.false third
    c.if-got-align.false
