use Rattle.std.proofs.Common.{◌≡◌, ◌∙◌, ◌+◌, ap, sym, ℕ, ℤ, List, length, map, arith, rules}
use Rattle.std.proofs.lemmas.Grind.{common_steps}
use Rattle.std.proofs.lemmas.List.{length-map, map-id}
use Rattle.dsp_defs.specs.Block.{Frame, channels_after, frames_of, given_frame, whole}
use Rattle.dsp_defs.specs.Cost.{whole_block_cost}
use Rattle.dsp_defs.specs.Signal.{sample, values}
use Rattle.dsp_defs.specs.declared.format.Fmt.{Fmt}
use Rattle.dsp_defs.specs.declared.script.Block.{Block}
use Rattle.dsp_defs.specs.declared.script.Block.TheVariants.{Add, Power}
use Rattle.dsp_framewise.specs.Framewise.{IsFramewise}
use Rattle.dsp_check.specs.Channels.{frame_at, frame_count}
use Rattle.dsp_check.proofs.Signals.{first-frames, first-more, first-none, format-at}
use Rattle.dsp_check.proofs.frames.each_frame.Goals as goal
use Rattle.dsp_defs.proofs.Causal.{map-values}

-- what a block gives of each frame
values-by-frame : (format : Fmt) (c : ℕ) (block : Block) (x : List Frame) → IsFramewise block →
    map (given_frame format block) x ≡ whole format c block x
values-by-frame format c Power x h = map-id x
values-by-frame format c block x h = search (rules, map-id)

-- the products of one frame more
frame-costs : (format : Fmt) (c : ℕ) (block : Block) (n : ℕ) → IsFramewise block →
    whole_block_cost format c block n + whole_block_cost format c block 1 ≡ whole_block_cost format c block (n + 1)
frame-costs format c Add n h = omega arith
frame-costs format c block n h = first_of (omega arith, search rules)

pub loop-n-init : goal.loop-n-init
loop-n-init g c =
    record { first = rw (c.in_ok-y.ensures.value, c.after-behind.ensures) (first-none _ _ _); products = omega arith }

pub given_frame-requires-clause-format : goal.given_frame-requires-clause-format
given_frame-requires-clause-format g c =
    rw c.write_frame.ensures (format-at c.args.flow.format c.args.x.now c.loop-n.n c.requires.format)

pub loop-n-preserved : goal.loop-n-preserved
loop-n-preserved g c =
    let x = c.args.x.now in
    let format = c.args.flow.format in
    let block = c.args.block.now in
    let n = c.loop-n.n in
    let size : length c.given_frame.new.given ≡ channels_after c.args.flow.channels block =
    grind (arith, common_steps) in
    let count = ap length c.write_frame.ensures ∙ length-map x (λ (samples : List ℤ). sample samples n) in
    let price = ap (λ k. whole_block_cost format k block 1) count in
    record {
      first = rw c.in_ok-put.ensures.ok
          (first-more c.loop-n.invariant.first c.given_frame.new.given size c.given_frame.ensures.fits
          (c.given_frame.ensures.value ∙ ap (given_frame format block) c.write_frame.ensures));
      products = omega (arith, frame-costs format (length x) block n c.requires.framewise);
    }

pub returns-clause-given : goal.returns-clause-given
returns-clause-given g c =
    let x = c.args.x.now in
    let given = given_frame c.args.flow.format c.args.block.now in
    let all : c.loop-n.n ≡ frame_count x = omega (arith, c.frames-n-end.ensures) in
    record {
      values =
          first-frames c.loop-n.invariant.first (grind (arith, common_steps))
          ∙ ap (λ n. values n (λ n. given (frame_at x n))) all
          ∙ sym (map-values given 0 (frame_count x) (frame_at x))
          ∙ values-by-frame c.args.flow.format c.args.flow.channels c.args.block.now (frames_of x)
          c.requires.framewise;
      channels_are = c.loop-n.invariant.first.wide;
      in_format = c.loop-n.invariant.first.fits;
    }
