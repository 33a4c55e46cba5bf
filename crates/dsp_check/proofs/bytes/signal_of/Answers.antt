use Rattle.std.proofs.Common.{◌≡◌, ◌∙◌, ◌*◌, ◌/◌, ap, length, arith}
use Rattle.std.proofs.lemmas.Grind.{common_steps}
use Rattle.dsp_defs.specs.Bytes.{format_in, width}
use Rattle.dsp_defs.specs.Signal.{values}
use Rattle.dsp_defs.proofs.CodingLemmas.{IsValue-fits}
use Rattle.dsp_check.proofs.Signals.{first-frames, first-more, first-none, frame-read, frame_of}
use Rattle.dsp_check.proofs.bytes.signal_of.Goals as goal

pub loop-n-init : goal.loop-n-init
loop-n-init c = rw c.in_ok-signal.ensures.value
    (first-none (format_in c.args.coding) c.args.channels (frame_of c.args.coding c.args.channels c.args.bytes.now))

pub loop-n-preserved : goal.loop-n-preserved
loop-n-preserved c =
    let coding = c.args.coding in
    let channels = c.args.channels in
    let bytes = c.args.bytes.now in
    let new = c.decode.new.samples in
    let count : length c.loop-n.frame ≡ channels = grind (arith, common_steps) in
    let size : c.from-2.result * c.width.result ≡ channels * width coding =
    λ i. c.from-2.ensures i * c.width.ensures i in
    rw c.in_ok-put.ensures.ok
    (first-more c.loop-n.invariant new (c.decode.auto.samples ∙ count)
    (λ k d inside. IsValue-fits coding _ (c.decode.ensures.fits k d inside))
    (rw count at c.decode.ensures.values ∙ frame-read coding channels c.loop-n.n _ bytes size))

pub returns-clause-values : goal.returns-clause-values
returns-clause-values c =
    let all : c.loop-n.n ≡ length c.args.bytes.now / (c.from-2.result * c.width.result) = omega arith in
    first-frames c.loop-n.invariant c.requires.some
    ∙ ap (λ m. values m (frame_of c.args.coding c.args.channels c.args.bytes.now))
    (all ∙ (λ i. length c.args.bytes.now / (c.from-2.ensures i * c.width.ensures i)))
