-- What a session keeps for an input in the coding that its header says.
use Rattle.std.proofs.Common.{◌≡◌, ◌∙◌, ℕ, ◌≤◌, sym, subst, arith}
use Rattle.std.proofs.Math.Nat.{mul-le-mul_left}
use Rattle.dsp_defs.specs.Bytes.{coding_of, format_in, width}
use Rattle.dsp_defs.specs.Grammar.{container_of}
use Rattle.dsp_defs.specs.declared.format.Container.{Container}
use Rattle.dsp_defs.specs.declared.format.Container.TheVariants.{Raw, Wave, Wavex}
use Rattle.dsp_defs.specs.declared.format.Coding.{Coding}
use Rattle.dsp_defs.specs.declared.format.Coding.TheVariants.{Wave24}
use Rattle.dsp_defs.specs.declared.format.Fmt.{Fmt}
use Rattle.dsp_defs.specs.declared.limits.TheConstants.{MAX_INPUT}
use Rattle.dsp_defs.specs.declared.script.Script.{Script}
use Rattle.dsp_defs.specs.declared.wave.Header.{Header}
use Rattle.dsp_ports.specs.Ports.{SourceState}
use Rattle.dsp_input.specs.Taking.{Opened}
use Rattle.dsp_session.specs.SessionState.{SessionState}
use Rattle.dsp_session.specs.Session.{SameScript, SameSession, block_bytes, input_coding}
use Rattle.dsp_session.specs.Advancing.{Runs}

-- a coding of the script's format is no wider than that of its input, which the room is for
widest : (container : Container) (coding : Coding) → width coding ≤ width (coding_of container (format_in coding))
widest Raw Wave24 = omega arith
widest Wave Wave24 = omega arith
widest Wavex Wave24 = omega arith
widest container coding = omega arith

pub room_for : (script : Script) (coding : Coding) (block room : ℕ) → format_in coding ≡ script.input.format →
    room ≡ block_bytes script (input_coding script) block → block_bytes script coding block ≤ room
room_for script coding block room same room_is =
    let wide : width coding ≤ width (input_coding script) =
    subst (λ (f : Fmt). width coding ≤ width (coding_of (container_of script.input.kind) f)) same
    (widest (container_of script.input.kind) coding) in
    rw room_is (mul-le-mul_left block (mul-le-mul_left script.input.channels wide))

pub opened_limit : (script : Script) (header : Header) (input now : SourceState) → Opened script header input now →
    header.start ≤ MAX_INPUT
opened_limit script header input now opened = rw opened.opens.start opened.opens.in_limit

-- what stays of a session
pub same_script : (old mid new : SessionState) → SameScript old mid → SameSession mid new → SameScript old new
same_script old mid new one two = record {
  script = two.script ∙ one.script;
  banked = two.banked ∙ one.banked;
  block = two.block ∙ one.block;
}

pub room_stays : (old mid new : SessionState) (room : ℕ) → SameScript old mid → SameSession mid new →
    room ≡ block_bytes old.script (input_coding old.script) old.block →
    room ≡ block_bytes new.script (input_coding new.script) new.block
room_stays old mid new room one two room_is =
    let same = same_script old mid new one two in
    room_is ∙ (λ i. block_bytes (sym same.script i) (input_coding (sym same.script i)) (sym same.block i))

-- a session that runs, in another coding
pub runs_coded : (s : SessionState) (coding : Coding) → Runs s → Runs (record s { coding = coding })
runs_coded s coding runs = record {
  holds = record {
    ready = runs.holds.ready;
    input = runs.holds.input;
    blocks = runs.holds.blocks;
    turns = runs.holds.turns;
  };
  running = runs.running;
  works = runs.works;
  live = runs.live;
  not_full = runs.not_full;
}
