use Rattle.std.proofs.Common.{sym, subst, Bool, arith}
use Rattle.std.proofs.lemmas.Result.{IfOk-weaker}
use Rattle.dsp_unit.specs.Unit.{IsMade, IsNew}
use Rattle.dsp_unit.proofs.NewLine.{plain-made, unbanked-made}
use Rattle.dsp_blocks.specs.BlockUnit.{state_of}
use Rattle.dsp_blocks.proofs.PlainBlocks.{is-plain}
use Rattle.dsp_blocks.proofs.Rooms.{has-room}
use Rattle.dsp_blocks.proofs.of_block.BlockUnitAnyUnit.of_block.Goals as goal
use Rattle.dsp_blocks.proofs.of_block.BlockUnitAnyUnit.of_block.Goals.{in_default-via-in-Biquad+else-banked}
use Rattle.dsp_blocks.proofs.of_block.BlockUnitAnyUnit.of_block.Goals.{in_default-via-in_default}

pub plain-requires-clause-room : goal.plain-requires-clause-room
plain-requires-clause-room c = has-room _ c.args.block.now c.args.frames c.requires.suits
    (omega (arith, c.ranges.channels)) c.requires.channels c.requires.frames c.requires.samples

pub bank-requires-clause-room : goal.bank-requires-clause-room
bank-requires-clause-room c = has-room _ c.args.block.now c.args.frames c.requires.suits
    (omega (arith, c.ranges.channels)) c.requires.channels c.requires.frames c.requires.samples

pub returns-in_default : goal.returns-in_default
returns-in_default c =
    let block = c.args.block.now in
    let format = c.args.format in
    let channels = c.args.channels in
    let frames = c.args.frames in
    IfOk-weaker c.plain.result (λ u. IsNew block format channels frames (state_of u))
    (λ u. IsMade c.args.banked block format channels frames (state_of u))
    (λ u new. elim c.in_default.branch [
      | in_default-via-in-Biquad+else-banked w ↦ subst (λ (b : Bool). IsMade b block format channels frames
          (state_of u)) (sym w.if-banked.false) (unbanked-made block format channels frames (state_of u) new)
      | in_default-via-in_default w ↦ plain-made c.args.banked block format channels frames (state_of u)
          (is-plain block w.in_default.not-Biquad) new
    ]) c.plain.ensures
