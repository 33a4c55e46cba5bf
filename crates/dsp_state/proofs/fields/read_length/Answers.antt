use Rattle.std.proofs.Common.{◌≡◌, ◌∙◌, ℕ, ◌-◌, ◌<◌, ◌≤◌, List, false, not, codes, length, take, drop, refl}
use Rattle.std.proofs.Common.{sym, subst}
use Rattle.std.specs.Str.{bytes_eq}
use Rattle.byteorder.specs.Endian.{little_number}
use Rattle.dsp_defs.specs.StateFields.{HasMark, HasVersion, InLength, LongSize, text_size}
use Rattle.dsp_defs.specs.Wave.{u32_at}
use Rattle.dsp_defs.specs.declared.limits.TheConstants.{MAX_SCRIPT}
use Rattle.dsp_state.specs.SavedState.{IsLoadFault}
use Rattle.dsp_state.proofs.NumberLaws.{from_place, same_bytes, u32_read}
use Rattle.dsp_state.proofs.fields.read_length.Goals as goal

read : (bytes : List ℕ) (at : ℕ) → little_number 4 (take (length bytes - at) (drop at bytes)) ≡ u32_at bytes at
read bytes at = u32_read bytes (take (length bytes - at) (drop at bytes)) at (from_place bytes at at refl)

has_mark : (bytes mark : List ℕ) → 8 ≤ length bytes → mark ≡ codes "DSPSTATE" →
    false ≡ not (bytes_eq (take 8 bytes) mark) → HasMark bytes
has_mark bytes mark long is same = record { long = long; mark = same_bytes (take 8 bytes) mark same ∙ is }

pub returns-then-got-ne1-clause-err : goal.returns-then-got-ne1-clause-err
returns-then-got-ne1-clause-err c =
    let bytes = c.args.bytes.now in
    let mark = has_mark bytes _ c.if-bytes-lt-VERSION_PLACE.false c.as_slice.ensures c.if-ne.ensures in
    subst (λ fault. IsLoadFault fault bytes) (sym c.state_fault-then-got-ne1.ensures) (
      c.requires,
      (mark, c.if-bytes-lt-LENGTH_PLACE.false, c.read_u32-got.ensures ∙ read bytes 8, c.if-got-ne1.true, refl),
    )

pub returns-then-bytes-lt-TEXT_PLACE-clause-err : goal.returns-then-bytes-lt-TEXT_PLACE-clause-err
returns-then-bytes-lt-TEXT_PLACE-clause-err c =
    let bytes = c.args.bytes.now in
    let version : HasVersion bytes = record {
      before = has_mark bytes _ c.if-bytes-lt-VERSION_PLACE.false c.as_slice.ensures c.if-ne.ensures;
      long = c.if-bytes-lt-LENGTH_PLACE.false;
      one = sym (c.read_u32-got.ensures ∙ read bytes 8) ∙ c.if-got-ne1.false;
    } in
    subst (λ fault. IsLoadFault fault bytes) (sym c.state_fault-then-bytes-lt-TEXT_PLACE.ensures)
    (c.requires, (InLength version c.if-bytes-lt-TEXT_PLACE.true, refl))

pub returns-then-size-gt-MAX_SCRIPT-clause-err : goal.returns-then-size-gt-MAX_SCRIPT-clause-err
returns-then-size-gt-MAX_SCRIPT-clause-err c =
    let bytes = c.args.bytes.now in
    let version : HasVersion bytes = record {
      before = has_mark bytes _ c.if-bytes-lt-VERSION_PLACE.false c.as_slice.ensures c.if-ne.ensures;
      long = c.if-bytes-lt-LENGTH_PLACE.false;
      one = sym (c.read_u32-got.ensures ∙ read bytes 8) ∙ c.if-got-ne1.false;
    } in
    let over : MAX_SCRIPT < text_size bytes =
    subst (λ n. MAX_SCRIPT < n) (c.read_u32-size.ensures ∙ read bytes 12) c.if-size-gt-MAX_SCRIPT.true in
    subst (λ fault. IsLoadFault fault bytes) (sym c.state_fault-then-size-gt-MAX_SCRIPT.ensures)
    (c.requires, (LongSize version c.if-bytes-lt-TEXT_PLACE.false over, refl))

pub returns-clause-fields : goal.returns-clause-fields
returns-clause-fields c =
    let bytes = c.args.bytes.now in
    record {
      before = record {
        before = has_mark bytes _ c.if-bytes-lt-VERSION_PLACE.false c.as_slice.ensures c.if-ne.ensures;
        long = c.if-bytes-lt-LENGTH_PLACE.false;
        one = sym (c.read_u32-got.ensures ∙ read bytes 8) ∙ c.if-got-ne1.false;
      };
      long = c.if-bytes-lt-TEXT_PLACE.false;
      short = subst (λ n. n ≤ MAX_SCRIPT) (c.read_u32-size.ensures ∙ read bytes 12) c.if-size-gt-MAX_SCRIPT.false;
    }

pub returns-clause-size : goal.returns-clause-size
returns-clause-size c = c.read_u32-size.ensures ∙ read c.args.bytes.now 12
