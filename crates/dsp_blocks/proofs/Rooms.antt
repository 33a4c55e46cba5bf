-- The room of a unit: a call gives few samples, whatever the block.
use Rattle.std.proofs.Common.{ℕ, ◌+◌, ◌*◌, ◌≤◌, arith}
use Rattle.std.specs.Int.{div_ceil}
use Rattle.std.proofs.Math.Nat.{div-le_self}
use Rattle.std.proofs.lemmas.Nat.{mul-le}
use Rattle.dsp_unit.specs.Unit.{most_frames, most_room}
use Rattle.dsp_defs.specs.Grammar.{Suits}
use Rattle.dsp_blocks.specs.BlockUnit.{HasRoom}
use Rattle.dsp_defs.specs.declared.flow.Flow.{Flow}
use Rattle.dsp_defs.specs.declared.limits.TheConstants.{MAX_FACTOR, MAX_MATRIX_SIDE, MAX_SAMPLES}
use Rattle.dsp_defs.specs.declared.script.Block.{Block}
use Rattle.dsp_defs.specs.declared.script.Block.TheVariants.{Decimate, Interpolate, MatAdd, MatSub, MatScale}
use Rattle.dsp_defs.specs.declared.script.Block.TheVariants.{MatTrans, MatMult}

-- frames that are given in groups
groups-few : (taken given frames channels : ℕ) → given ≤ MAX_MATRIX_SIDE * MAX_MATRIX_SIDE → channels ≤ 255 →
    frames * channels ≤ MAX_SAMPLES →
    div_ceil frames taken * given * channels ≤ most_room
groups-few taken given frames channels less few samples =
    let quotient = div-le_self frames taken in
    let groups : div_ceil frames taken ≤ frames + 1 = omega (arith, quotient) in
    let made = mul-le (div_ceil frames taken) given (frames + 1) (MAX_MATRIX_SIDE * MAX_MATRIX_SIDE) groups less in
    let all = mul-le (div_ceil frames taken * given) channels ((frames + 1) * (MAX_MATRIX_SIDE * MAX_MATRIX_SIDE))
    channels made (omega arith) in
    omega (arith, all, few, samples)

-- a matrix has few elements
elements-few : (rows columns : ℕ) → rows ≤ MAX_MATRIX_SIDE → columns ≤ MAX_MATRIX_SIDE →
    rows * columns ≤ MAX_MATRIX_SIDE * MAX_MATRIX_SIDE
elements-few rows columns short narrow = mul-le rows columns MAX_MATRIX_SIDE MAX_MATRIX_SIDE short narrow

-- a block that suits its place gives few samples of so few frames
room-few : (flow : Flow) (b : Block) (frames : ℕ) → Suits flow b → flow.channels ≤ 255 →
    frames * flow.channels ≤ MAX_SAMPLES →
    most_frames b frames * flow.channels ≤ most_room
room-few flow (Interpolate factor taps) frames suits few samples =
    let within : factor ≤ MAX_FACTOR = suits.parameters.1 in
    let all = mul-le (frames * flow.channels) factor MAX_SAMPLES MAX_FACTOR samples within in
    grind (arith, all)
room-few flow (Decimate factor taps) frames suits few samples =
    groups-few factor 1 frames flow.channels (omega arith) few samples
room-few flow (MatAdd rows columns matrix) frames suits few samples =
    let p = suits.parameters in groups-few (rows * columns) (rows * columns) frames flow.channels
    (elements-few rows columns p.1 p.2.1) few samples
room-few flow (MatSub rows columns matrix) frames suits few samples =
    let p = suits.parameters in groups-few (rows * columns) (rows * columns) frames flow.channels
    (elements-few rows columns p.1 p.2.1) few samples
room-few flow (MatScale rows columns fract shift) frames suits few samples =
    let p = suits.parameters in groups-few (rows * columns) (rows * columns) frames flow.channels
    (elements-few rows columns p.1 p.2.1) few samples
room-few flow (MatTrans rows columns) frames suits few samples =
    let p = suits.parameters in groups-few (rows * columns) (rows * columns) frames flow.channels
    (elements-few rows columns p.1 p.2.1) few samples
room-few flow (MatMult rows columns given matrix) frames suits few samples =
    let p = suits.parameters in groups-few (rows * columns) (rows * given) frames flow.channels
    (elements-few rows given p.1 p.2.2.1) few samples
room-few flow block frames suits few samples = omega (arith, samples)

-- a block that suits its place has room there
pub has-room : (flow : Flow) (b : Block) (frames : ℕ) → Suits flow b → flow.channels ≤ 255 →
    1 ≤ flow.channels → 1 ≤ frames → frames * flow.channels ≤ MAX_SAMPLES → HasRoom b flow.channels frames
has-room flow b frames suits few channels some samples = record {
  channels = channels;
  frames = some;
  samples = samples;
  given = room-few flow b frames suits few samples;
}
