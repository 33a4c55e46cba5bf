-- What a script is, and what a run of it does, as C sees it.
use Rattle.std.specs.Prelude.{◌≡◌, ℕ, ◌/◌, ◌%◌, ◌^◌, ◌<◌, ◌≤◌, List, IsTrue}
use Rattle.dsp_defs.specs.Grammar.{Reads}
use Rattle.dsp_defs.specs.Output.{channels_of, format_of}
use Rattle.dsp_defs.specs.Shape.{frames_given, is_legal, unit}
use Rattle.dsp_defs.specs.declared.limits.TheConstants.{MAX_INPUT}
use Rattle.dsp_defs.specs.declared.script.Script.{Script}
use Rattle.dsp_defs.specs.KeptOfScript.{kept_count}
use Rattle.dsp_chain.specs.Line.{measure_counts}
use Rattle.dsp_session.specs.Session.{cost_of, frame_bytes, given_bytes, input_coding}
use Rattle.dsp_host.specs.Opening.{FailsToOpen, asked}
use Rattle.dsp_host.specs.Pieces.{piece_room}
use Rattle.dsp_host.specs.declared.refusal.Refusal.{Refusal}
use Rattle.dsp_host.specs.declared.refusal.Refusal.TheVariants as refusal
use Rattle.dsp_c.specs.Answer.{format_number, saturated}
use Rattle.dsp_c.specs.declared.plan.Plan.{Plan}

-- of a script, in blocks of this length, over so many frames
abbrev pub plan_of : Script → ℕ → ℕ → Plan
plan_of script block frames = record {
  block = block;
  unit = unit script.input.channels script.blocks;
  frame_bytes = frame_bytes script (input_coding script);
  given_bytes = given_bytes script;
  room = piece_room script block;
  measures = measure_counts script.input.channels script.blocks;
  frames_given = frames_given script.blocks frames;
  kept = saturated (kept_count script frames);
  cost_low = cost_of script frames % 2 ^ 64;
  cost_high = cost_of script frames / 2 ^ 64;
  format = format_number script.input.format;
  channels = script.input.channels;
  output_format = format_number (format_of script);
  output_channels = channels_of script;
}

-- the text reads as a script that runs in blocks of the length that is asked for, and this is its plan
pub record IsPlanned (text : List ℕ) (block frames : ℕ) (plan : Plan) : Type 0 where
  pub script : Script
  pub reads : Reads text script
  pub legal : IsTrue (is_legal script.input.channels script.blocks (asked block script))
  pub few : frames ≤ MAX_INPUT
  pub plan_is : plan ≡ plan_of script (asked block script) frames

-- why there is no plan
abbrev pub FailsToPlan : Refusal → List ℕ → ℕ → ℕ → Type 0
FailsToPlan (refusal.Open fault) text block frames = FailsToOpen fault text block
FailsToPlan (refusal.Input limit) text block frames = (limit ≡ MAX_INPUT) × (MAX_INPUT < frames)
FailsToPlan why text block frames = ⊥
