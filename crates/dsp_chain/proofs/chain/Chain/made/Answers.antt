use Rattle.std.proofs.Common.{◌≡◌, ◌∙◌, ap, sym, subst, ℕ, ◌+◌, ◌*◌, ◌<◌, ◌≤◌, [], ◌∷◌, ◌++◌, length, take, drop}
use Rattle.std.proofs.Common.{get_or, arith, List}
use Rattle.std.proofs.lemmas.List.{take_more, take_all}
use Rattle.dsp_unit.specs.Line.{Place, place_after, blocks_of, place_behind, place_room}
use Rattle.dsp_defs.specs.declared.limits.TheConstants.{MAX_CHANNELS, MAX_SAMPLES}
use Rattle.dsp_defs.specs.Block.{channels_after}
use Rattle.dsp_defs.specs.declared.script.Block.{Block}
use Rattle.dsp_defs.specs.declared.flow.Flow.{Flow}
use Rattle.dsp_unit.specs.Unit.{UnitState, most_frames, room_of}
use Rattle.dsp_chain.specs.Chain.{input_place}
use Rattle.dsp_unit.proofs.ChainPlaces.{legal_is_open, has_groups, flow_at}
use Rattle.dsp_chain.proofs.Making.{Making, making-none, making-more, next-place, making-open, Next, next-first}
use Rattle.dsp_chain.proofs.Making.{making-next}
use Rattle.dsp_chain.proofs.NewChain.{new-whole, new-chain}
use Rattle.dsp_shape.proofs.FrameRules.{is-rule}
use Rattle.dsp_chain.proofs.Links.{new-link}
use Rattle.dsp_chain.proofs.chain.Chain.made.Goals as goal

same-fits : (a b : ℕ) → a ≡ b → a ≤ b
same-fits a b e = omega arith

pub loop-block-init : goal.loop-block-init
loop-block-init g c =
    let p = input_place c.args.script.now c.args.block in
    subst (λ (us : List UnitState). Making c.args.banked p p c.as_slice-blocks.result.now 0 us)
    (sym (c.in_ok-links.ensures.items))
    (subst (λ (blocks : List Block). Making c.args.banked p p blocks 0 []) (sym c.as_slice-blocks.ensures)
    (making-none c.args.banked p c.args.script.now.blocks c.requires.few_channels
    (legal_is_open p c.args.script.now.blocks c.requires.chain c.requires.channels c.requires.legal)))

pub of_block-requires : goal.of_block-requires
of_block-requires g c =
    let blocks = c.as_slice-blocks.result.now in
    let i = c.loop-block.block-index in
    let b = c.block-item.result in
    let here : Place = record {
      format = c.loop-block.flow.format;
      channels = c.loop-block.flow.channels;
      capacity =
          c.loop-block.frames;
    } in
    let next : Next here b = making-next c.args.banked (input_place c.args.script.now c.args.block) here blocks i
    (i + 1) c.loop-block.links.items b (next-first blocks i b c.loop-block-test.true c.block-item.is)
    c.loop-block.invariant in
    record {
      suits = next.suits;
      channels = next.open_here.channels;
      frames = next.open_here.capacity;
      samples =
          next.open_here.samples;
    }

pub after-flow-requires : goal.after-flow-requires
after-flow-requires g c =
    let blocks = c.as_slice-blocks.result.now in
    let i = c.loop-block.block-index in
    let b = c.block-item.result in
    let here : Place = record {
      format = c.loop-block.flow.format;
      channels = c.loop-block.flow.channels;
      capacity =
          c.loop-block.frames;
    } in
    let next : Next here b = making-next c.args.banked (input_place c.args.script.now c.args.block) here blocks i
    (i + 1) c.loop-block.links.items b (next-first blocks i b c.loop-block-test.true c.block-item.is)
    c.loop-block.invariant in
    let few : channels_after c.loop-block.flow.channels b ≤ MAX_CHANNELS = next.few_channels in
    omega (arith, few)

pub loop-block-preserved : goal.loop-block-preserved
loop-block-preserved g c =
    let blocks = c.as_slice-blocks.result.now in
    let i = c.loop-block.block-index in
    let b = c.block-item.result in
    let p = input_place c.args.script.now c.args.block in
    let here : Place = record {
      format = c.loop-block.flow.format;
      channels = c.loop-block.flow.channels;
      capacity =
          c.loop-block.frames;
    } in
    let next : Place = record {
      format = c.after-flow.result.format;
      channels =
          c.after-flow.result.channels;
      capacity = c.most_frames-frames.result;
    } in
    let within : i < length blocks = c.loop-block-test.true in
    let read : b ≡ get_or blocks i b = c.block-item.is in
    let first : drop i blocks ≡ b ∷ drop (i + 1) blocks = next-first blocks i b within read in
    let more : take (i + 1) blocks ≡ take i blocks ++ b ∷ [] = take_more blocks i b within ∙
    ap (λ (e : Block). take i blocks ++ e ∷ []) (sym read) in
    let pushed : c.push.new.self.items ≡ c.loop-block.links.items ++ g.U.Unit.unit c.in_ok-unit.unit ∷ [] =
    c.in_ok-push.ensures.items ∙ ap (λ (u : UnitState). c.loop-block.links.items ++ u ∷ []) c.in_ok-new.ensures in
    let step : next ≡ place_after here b = next-place here next b c.after-flow.ensures c.most_frames-frames.ensures in
    rw pushed (making-more c.args.banked p here next blocks i (i + 1) c.loop-block.links.items
    (g.U.Unit.unit c.in_ok-unit.unit) b first more step c.in_ok-unit.ensures c.loop-block.invariant)

pub invariant_of-result : goal.invariant_of-result
invariant_of-result g c =
    let p = input_place c.args.script.now c.args.block in
    let us = c.loop-block.links.items in
    let read = c.as_slice-blocks.result.now in
    let so_far = c.loop-block.invariant.blocks_so_far in
    let all : take c.loop-block.block-index read ≡ c.args.script.now.blocks =
    take_all c.loop-block.block-index read (omega arith) ∙ c.as_slice-blocks.ensures in
    let blocks : blocks_of us ≡ c.args.script.now.blocks = so_far ∙ all in
    let room : c.loop-block.frames * c.from-3.result ≡ place_room (place_behind p (blocks_of us)) =
    ap (λ n. c.loop-block.frames * n) c.from-3.ensures ∙
    sym (ap place_room (ap (place_behind p) so_far ∙ c.loop-block.invariant.reached)) in
    let open_all = legal_is_open p c.args.script.now.blocks c.requires.chain c.requires.channels c.requires.legal in
    rw c.from-2.ensures (record {
      is = new-whole c.args.banked p us c.args.script.now.blocks blocks c.loop-block.invariant.line
          c.loop-block.invariant.fresh c.requires.chain c.requires.channels c.requires.few_channels
          c.requires.few_blocks c.requires.one_correlate open_all;
      room_is = room;
    })

pub returns : goal.returns
returns g c =
    let p = input_place c.args.script.now c.args.block in
    let us = c.loop-block.links.items in
    let read = c.as_slice-blocks.result.now in
    let blocks : blocks_of us ≡ c.args.script.now.blocks = c.loop-block.invariant.blocks_so_far ∙
    take_all c.loop-block.block-index read (omega arith) ∙ c.as_slice-blocks.ensures in
    rw c.from-2.ensures (new-chain c.args.banked p us c.args.script.now.blocks blocks c.loop-block.invariant.line
    c.loop-block.invariant.fresh)

pub most_frames-frames-requires : goal.most_frames-frames-requires
most_frames-frames-requires g c =
    let blocks = c.as_slice-blocks.result.now in
    let i = c.loop-block.block-index in
    let b = c.block-item.result in
    let here : Place = record {
      format = c.loop-block.flow.format;
      channels = c.loop-block.flow.channels;
      capacity =
          c.loop-block.frames;
    } in
    let next : Next here b = making-next c.args.banked (input_place c.args.script.now c.args.block) here blocks i
    (i + 1) c.loop-block.links.items b (next-first blocks i b c.loop-block-test.true c.block-item.is)
    c.loop-block.invariant in
    record { groups = (has_groups (flow_at here) (b ∷ []) (next.suits, tt)).0; fits = omega (arith, next.few_frames) }

pub overflow_mul-room : goal.overflow_mul-room
overflow_mul-room g c =
    let blocks = c.as_slice-blocks.result.now in
    let i = c.loop-block.block-index in
    let b = c.block-item.result in
    let here : Place = record {
      format = c.loop-block.flow.format;
      channels = c.loop-block.flow.channels;
      capacity =
          c.loop-block.frames;
    } in
    let behind : Place = record {
      format = c.after-flow.result.format;
      channels =
          c.after-flow.result.channels;
      capacity = c.most_frames-frames.result;
    } in
    let next : Next here b = making-next c.args.banked (input_place c.args.script.now c.args.block) here blocks i
    (i + 1) c.loop-block.links.items b (next-first blocks i b c.loop-block-test.true c.block-item.is)
    c.loop-block.invariant in
    let step : behind ≡ place_after here b = next-place here behind b c.after-flow.ensures
    c.most_frames-frames.ensures in
    let samples : behind.capacity * behind.channels ≤ MAX_SAMPLES =
    subst (λ (p : Place). p.capacity * p.channels ≤ MAX_SAMPLES) (sym step) next.few_samples in
    rw c.from.ensures (omega (arith, samples))

pub overflow_mul-result : goal.overflow_mul-result
overflow_mul-result g c =
    let here : Place = record {
      format = c.loop-block.flow.format;
      channels = c.loop-block.flow.channels;
      capacity =
          c.loop-block.frames;
    } in
    let samples : c.loop-block.frames * c.loop-block.flow.channels ≤ MAX_SAMPLES =
    (making-open c.args.banked (input_place c.args.script.now c.args.block) here c.as_slice-blocks.result.now
    c.loop-block.block-index c.loop-block.links.items c.loop-block.invariant).samples in
    rw c.from-3.ensures (omega (arith, samples))

-- the link has the rules of its unit, and just the room that it needs
pub new-requires : goal.new-requires
new-requires g c =
    let is = c.in_ok-unit.ensures in
    let b = c.block-item.result in
    let here : Place = record {
      format = c.loop-block.flow.format;
      channels = c.loop-block.flow.channels;
      capacity = c.loop-block.frames;
    } in
    let next : Next here b = making-next c.args.banked (input_place c.args.script.now c.args.block) here
    c.as_slice-blocks.result.now c.loop-block.block-index (c.loop-block.block-index + 1) c.loop-block.links.items b
    (next-first c.as_slice-blocks.result.now c.loop-block.block-index b c.loop-block-test.true c.block-item.is)
    c.loop-block.invariant in
    let needs : room_of (g.U.Unit.unit c.in_ok-unit.unit) ≡ most_frames b c.loop-block.frames *
    channels_after c.loop-block.flow.channels b =
    (λ i. most_frames (is.block i) (is.capacity i) * channels_after (is.channels i) (is.block i)) in
    let has : c.most_frames-frames.result * c.from.result ≡ most_frames b c.loop-block.frames *
    channels_after c.loop-block.flow.channels b =
    (λ i. c.most_frames-frames.ensures i * (c.from.ensures ∙ ap (λ (f : Flow). f.channels) c.after-flow.ensures) i)
    in
    new-link c.args.banked b here.format here.channels here.capacity _ _ _ _ _ is c.kept_count.ensures.count
    c.of-rule.ensures c.of_block-kept.ensures (is-rule (flow_at here) b next.suits)
    (same-fits _ _ (needs ∙ sym has))
