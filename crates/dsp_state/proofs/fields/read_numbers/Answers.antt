use Rattle.std.proofs.Common.{◌≡◌, ◌∙◌, ◌*◌, pos, length, take, drop, refl, arith}
use Rattle.std.proofs.lemmas.List.{take_at}
use Rattle.std.proofs.lemmas.List.FromFn.{fill_by_all}
use Rattle.dsp_defs.specs.StateBytes.{number_of}
use Rattle.dsp_state.proofs.NumberLaws.{read_number}
use Rattle.dsp_state.proofs.fields.read_numbers.Goals as goal

pub returns : goal.returns
returns c =
    let bytes = c.args.bytes.now in
    let count = c.args.count in
    let read = c.read_i64_into.new.dst in
    let long : length read ≡ count = omega (
      arith,
      c.read_i64_into.auto.dst,
      c.as_mut_slice.ensures.len,
      c.in_ok-numbers.ensures.len,
    ) in
    take_at read (drop (length read) c.in_ok-numbers.numbers.items) c.in_ok-numbers.numbers.len
    (omega (arith, long, c.in_ok-numbers.ensures.len))
    ∙ fill_by_all (λ i. number_of (take 8 (drop (i * 8) bytes))) read count (pos 0) long
    (λ k below. c.read_i64_into.ensures (pos 0) k (omega (arith, long, below)) ∙
    read_number bytes (take (8 * count) bytes) count k below refl)
