use Rattle.std.proofs.Common.{◌∙◌, ◌++◌, ap, sym, arith, List}
use Rattle.std.specs.Prelude.{flat_map}
use Rattle.std.proofs.lemmas.List.{flat_map_more}
use Rattle.std.proofs.lemmas.List.FromFn.{map-range_with_len_more}
use Rattle.dsp_defs.specs.Bytes.{bytes_of, coded, coding_of}
use Rattle.dsp_defs.specs.Block.{Frame}
use Rattle.dsp_defs.specs.Signal.{values}
use Rattle.dsp_defs.proofs.CodingLemmas.{IsValue-coding_of}
use Rattle.dsp_check.specs.Channels.{frame_at}
use Rattle.dsp_check.proofs.Signals.{format-at}
use Rattle.dsp_check.proofs.bytes.add_coded.Goals as goal

pub encode-requires-clause-fits : goal.encode-requires-clause-fits
encode-requires-clause-fits c =
    rw (c.write_frame.ensures, c.coding_of-coding.ensures) (λ k d inside. IsValue-coding_of c.args.container
    c.args.format _ (format-at c.args.format c.args.signal.now c.loop-n.n c.requires k d inside))

pub loop-n-preserved : goal.loop-n-preserved
loop-n-preserved c =
    let coding = coding_of c.args.container c.args.format in
    let frame = frame_at c.args.signal.now in
    let n = c.loop-n.n in
    let old = c.args.out.now.items in
    c.in_ok-extend_from_slice.ensures.items
    ∙ (λ i. c.loop-n.invariant i ++ c.encode.ensures i)
    ∙ (λ i. (old ++ coded coding (values n frame)) ++ flat_map (bytes_of (c.coding_of-coding.ensures i))
    (c.write_frame.ensures i))
    ∙ flat_map_more (λ (f : Frame). flat_map (bytes_of coding) f) old (values n frame) (frame n)
    ∙ ap (λ (fs : List Frame). old ++ coded coding fs) (sym (map-range_with_len_more frame 0 n n (omega arith)))
