use Rattle.std.proofs.Common.{◌≡◌, ◌∙◌, refl, sym, subst, ◌+◌, ◌-◌, ◌<◌, length, take, drop, arith}
use Rattle.dsp_defs.specs.StateFields.{InFrames, frames_in_state, frames_place, numbers_place}
use Rattle.dsp_state.specs.SavedState.{IsLoadFault}
use Rattle.dsp_state.proofs.LoadLaws as laws
use Rattle.dsp_state.proofs.NumberLaws.{from_place, u32_read}
use Rattle.dsp_state.proofs.loading.load.Goals as goal

pub returns-then-bytes-at-clause-err : goal.returns-then-bytes-at-clause-err
returns-then-bytes-at-clause-err g c =
    let bytes = c.args.bytes.now in
    let cut : length bytes < numbers_place bytes = omega (arith, c.if-bytes-at.true, c.in_ok-size.ensures.size) in
    subst (λ fault. IsLoadFault fault bytes) (sym c.state_fault-then-bytes-at.ensures)
    (c.if-bytes-gt-MAX_STATE.false, (InFrames c.in_ok-script.script c.in_ok-script.ensures.ok cut, refl))

pub read_kept-requires-clause-frames : goal.read_kept-requires-clause-frames
read_kept-requires-clause-frames g c =
    let bytes = c.args.bytes.now in
    let at = 16 + c.in_ok-size.size + 4 - 4 in
    let place : at ≡ frames_place bytes = omega (arith, c.in_ok-size.ensures.size) in
    c.read_u32-frames.ensures ∙ u32_read bytes (take (length bytes - at) (drop at bytes)) (frames_place bytes)
    (from_place bytes at (frames_place bytes) place)

pub invariant_of-result : goal.invariant_of-result
invariant_of-result g c =
    let bytes = c.args.bytes.now in
    let at = 16 + c.in_ok-size.size + 4 - 4 in
    let place : at ≡ frames_place bytes = omega (arith, c.in_ok-size.ensures.size) in
    let frames : c.read_u32-frames.result ≡ frames_in_state bytes =
    c.read_u32-frames.ensures ∙ u32_read bytes (take (length bytes - at) (drop at bytes)) (frames_place bytes)
    (from_place bytes at (frames_place bytes) place) in
    laws.saved bytes c.in_ok-script.script c.read_u32-frames.result c.in_ok-numbers.numbers.items
    (laws.loaded bytes c.in_ok-script.script c.read_u32-frames.result c.in_ok-numbers.numbers.items c.type_inv.bytes
    c.if-bytes-gt-MAX_STATE.false
    c.in_ok-numbers.ensures.fields c.in_ok-numbers.ensures.ends frames c.in_ok-numbers.ensures.numbers)

pub returns-clause-ok : goal.returns-clause-ok
returns-clause-ok g c =
    let bytes = c.args.bytes.now in
    let at = 16 + c.in_ok-size.size + 4 - 4 in
    let place : at ≡ frames_place bytes = omega (arith, c.in_ok-size.ensures.size) in
    let frames : c.read_u32-frames.result ≡ frames_in_state bytes =
    c.read_u32-frames.ensures ∙ u32_read bytes (take (length bytes - at) (drop at bytes)) (frames_place bytes)
    (from_place bytes at (frames_place bytes) place) in
    laws.loaded bytes c.in_ok-script.script c.read_u32-frames.result c.in_ok-numbers.numbers.items c.type_inv.bytes
    c.if-bytes-gt-MAX_STATE.false
    c.in_ok-numbers.ensures.fields c.in_ok-numbers.ensures.ends frames c.in_ok-numbers.ensures.numbers
