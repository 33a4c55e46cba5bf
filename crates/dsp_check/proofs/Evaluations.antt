-- A script's blocks on a whole signal, one after another.
use Rattle.std.proofs.Common.{◌≡◌, ◌∙◌, ap, sym, ℕ, suc, ◌+◌, ◌-◌, ◌≤◌, ℤ, List, ◌∷◌, length, arith}
use Rattle.std.specs.Prelude.{None, fold}
use Rattle.std.proofs.lemmas.List.FromFn.{length-map-range_with_len}
use Rattle.dsp_defs.specs.Block.{channels_after, format_after, frames_of, whole, whole_chain}
use Rattle.dsp_defs.specs.Cost.{cost, whole_block_cost}
use Rattle.dsp_defs.specs.Output.{channels_of, format_of}
use Rattle.dsp_defs.specs.Shape.{given_frames, whole_frames, window_at}
use Rattle.dsp_defs.specs.Table.{flow_after}
use Rattle.dsp_defs.specs.declared.flow.Flow.{Flow}
use Rattle.dsp_defs.specs.declared.script.Block.{Block}
use Rattle.dsp_defs.specs.declared.script.Script.{Script}
use Rattle.dsp_defs.proofs.FrameLaws.{length-whole, whole_frames_are_given, window_cases}
use Rattle.dsp_check.specs.Channels.{InFormat, frame_at, frame_count}
use Rattle.dsp_check.specs.Evaluating.{Gives}
use Rattle.dsp_check.proofs.PlaceSizes.{SizesFrom, few-at, size-step}

-- how many frames a block gives
count-after : (flow : Flow) (block : Block) (y given : List (List ℤ)) → 1 ≤ flow.channels → Gives flow block y given →
    frame_count given ≡ whole_frames block (frame_count y)
count-after flow block y given some gives =
    let more : flow.channels ≡ suc (flow.channels - 1) = omega (arith, some) in
    sym (length-map-range_with_len (frame_at given) 0 (frame_count given))
    ∙ ap length (gives.values ∙ ap (λ c. whole flow.format c block (frames_of y)) more)
    ∙ length-whole flow.format (flow.channels - 1) block (frames_of y)
    ∙ ap (whole_frames block) (length-map-range_with_len (frame_at y) 0 (frame_count y))

-- what is given of the whole signal is what the rest of the blocks gives of the signal here
pub record Evaluates (script : Script) (signal : List (List ℤ)) (before : ℕ) (flow : Flow) (rest : List Block)
    (y : List (List ℤ)) (now : ℕ) : Type 0 where
  pub values : whole_chain flow.format flow.channels rest (frames_of y) ≡ whole_chain script.input.format
      script.input.channels script.blocks (frames_of signal)
  pub wide : flow.channels ≡ length y
  pub channels : fold channels_after flow.channels rest ≡ channels_of script
  pub format : fold format_after flow.format rest ≡ format_of script
  pub in_format : InFormat flow.format y
  pub no_window : window_at rest (frame_count y) ≡ None
  pub sizes : SizesFrom None flow rest (frame_count y)
  pub products : now + cost flow.format flow.channels rest (frame_count y) ≤ before + cost script.input.format
      script.input.channels script.blocks (frame_count signal)

pub goes-on : {script : Script} {signal : List (List ℤ)} {before : ℕ} {flow : Flow} {block : Block}
    {rest : List Block} {y given : List (List ℤ)} {now : ℕ} (after : ℕ)
    → Evaluates script signal before flow (block ∷ rest) y now → Gives flow block y given →
    after ≤ now + whole_block_cost flow.format (length y) block (frame_count y)
    → Evaluates script signal before (flow_after block flow) rest given after
goes-on {flow = flow} {block = block} {rest = rest} {y = y} {given = given} after e gives spent =
    let n = frame_count y in
    let count = count-after flow block y given e.sizes.placed.channels.0 gives in
    let (here, later) = window_cases block rest n e.no_window in
    let as_given : frame_count given ≡ given_frames block n = count ∙ whole_frames_are_given block n here in
    let next = cost (format_after flow.format block) (channels_after flow.channels block) rest in
    record {
      values = ap (whole_chain (format_after flow.format block) (channels_after flow.channels block) rest)
          gives.values ∙ e.values;
      wide = sym gives.channels_are;
      channels = e.channels;
      format = e.format;
      in_format = gives.in_format;
      no_window = ap (window_at rest) count ∙ later;
      sizes = rw count (size-step e.sizes (few-at flow.channels (block ∷ rest) n e.sizes.same)).next;
      products = omega (arith, ap next as_given, ap (λ c. whole_block_cost flow.format c block n) e.wide);
    }
