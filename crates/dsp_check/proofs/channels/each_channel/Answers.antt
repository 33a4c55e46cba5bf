use Rattle.std.proofs.Common.{◌≡◌, ◌∙◌, ◌+◌, ◌≤◌, ap, sym, subst, length, [], ◌∷◌, ◌++◌, map, arith}
use Rattle.std.specs.Prelude.{IfSome, All, FitsSigned}
use Rattle.std.proofs.lemmas.List.{map_more, take_all}
use Rattle.std.proofs.lemmas.List.Elements.{All-push}
use Rattle.dsp_defs.specs.Block.{whole_channel}
use Rattle.dsp_defs.specs.Cost.{whole_block_cost}
use Rattle.dsp_defs.specs.Formats.{word}
use Rattle.dsp_check.specs.Channels.{AreChannels, InFormat, frame_count}
use Rattle.dsp_check.specs.Evaluating.{Gives}
use Rattle.dsp_check.proofs.Wholes.{are-by-channel, costs-add, costs-within, gives-by-channel, of_channel, some-is}
use Rattle.dsp_check.proofs.channels.each_channel.Given.{Over}
use Rattle.dsp_check.proofs.channels.each_channel.Goals as goal
use Rattle.dsp_check.proofs.channels.each_channel.Goals.{After-loop-c, After-whole_channel}

-- the products of the channels so far and of one more
spent : (g : Over) (c : After-whole_channel g) → c.whole_channel.new.steps.multiplies ≤ c.args.steps.now.multiplies +
    whole_block_cost c.args.flow.format (length c.args.x.now) c.args.block.now (frame_count c.args.x.now)
spent g c =
    let alike = ap (whole_block_cost c.args.flow.format 1 c.args.block.now) c.channel.ensures.alike in
    let most = costs-within c.args.flow.format c.args.block.now c.loop-c.c (length c.args.x.now)
    (frame_count c.args.x.now) c.requires.channel (omega arith) in
    omega arith

pub returns-in_err-y-clause-products : goal.returns-in_err-y-clause-products
returns-in_err-y-clause-products g c = spent g (goal.at.returns-in_err-y-clause-products g c).After-whole_channel

pub returns-in_err-push-clause-products : goal.returns-in_err-push-clause-products
returns-in_err-push-clause-products g c = spent g (goal.at.returns-in_err-push-clause-products g c).After-whole_channel

pub loop-c-preserved : goal.loop-c-preserved
loop-c-preserved g c =
    let format = c.args.flow.format in
    let x = c.args.x.now in
    let items = c.loop-c.channels.items in
    let given = of_channel (whole_channel format c.args.block.now) in
    let pushed = c.in_ok-push.ensures.items in
    let one = subst (λ o. IfSome o (λ f. c.in_ok-y.y.items ≡ f c.channel.result.now)) (some-is _ c.requires.channel)
    c.in_ok-y.ensures.values in
    let alike = ap (whole_block_cost format 1 c.args.block.now) c.channel.ensures.alike in
    record {
      each = pushed ∙ (λ i. c.loop-c.invariant.each i ++ (c.of.ensures ∙ one ∙ ap given c.channel.ensures.value) i ∷ [])
          ∙ sym (map_more given x c.loop-c.c [] (omega arith));
      format = rw pushed (All-push (All (FitsSigned (word format))) items c.of.result c.loop-c.invariant.format
          (rw c.of.ensures c.in_ok-y.ensures.fits));
      products = omega (arith, costs-add format c.args.block.now c.loop-c.c 1 (frame_count x) c.requires.channel);
    }

-- all channels are there
all : (g : Over) (c : After-loop-c g) → c.loop-c.channels.items ≡ map
    (of_channel (whole_channel c.args.flow.format c.args.block.now)) c.args.x.now
all g c = c.loop-c.invariant.each ∙ ap (map (of_channel (whole_channel c.args.flow.format c.args.block.now)))
    (take_all c.loop-c.c c.args.x.now (omega arith))

pub of-requires-2 : goal.of-requires-2
of-requires-2 g c = subst AreChannels (sym (all g (goal.at.of-requires-2 g c).After-loop-c))
    (are-by-channel c.args.flow c.args.block.now c.requires.channel c.args.x.now c.channels.ensures.are)

pub returns-clause-given : goal.returns-clause-given
returns-clause-given g c =
    let all_is = all g (goal.at.returns-clause-given g c).After-loop-c in
    subst (Gives c.args.flow c.args.block.now c.args.x.now) (sym (c.of-2.ensures ∙ all_is))
    (gives-by-channel c.args.flow c.args.block.now c.requires.channel c.args.x.now c.channels.ensures.are
    c.requires.channels (subst (InFormat c.args.flow.format) all_is c.loop-c.invariant.format))
