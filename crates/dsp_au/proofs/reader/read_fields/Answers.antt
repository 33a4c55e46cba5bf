use Rattle.std.proofs.Common.{◌≡◌, ◌∙◌, ◌≤◌, ◌&&◌, nat_le, true, false, Some, sym, ap, arith}
use Rattle.std.proofs.lemmas.Grind.{common_steps}
use Rattle.dsp_defs.specs.Au.{big_u32_at, coding_of_encoding}
use Rattle.dsp_defs.specs.Wave.{declared_size}
use Rattle.dsp_defs.proofs.AuLaws.{fields_good, fields_bad}
use Rattle.dsp_au.proofs.reader.read_fields.Goals as goal
use Rattle.dsp_au.proofs.reader.read_fields.Goals.{then-size, else-size}

pub returns-after-size-clause-said : goal.returns-after-size-clause-said
returns-after-size-clause-said c =
    let fields = c.args.fields.now in
    let start : c.read_u32-start.result ≡ big_u32_at fields 4 = omega (arith, c.read_u32-start.ensures) in
    let encoding : c.read_u32-encoding.result ≡ big_u32_at fields 12 = omega (arith, c.read_u32-encoding.ensures) in
    let channels : c.read_u32-channels.result ≡ big_u32_at fields 20 = omega (arith, c.read_u32-channels.ensures) in
    let rate : c.read_u32.result ≡ big_u32_at fields 16 = omega (arith, c.read_u32.ensures) in
    let bytes : c.read_u32-size.result ≡ big_u32_at fields 8 = omega (arith, c.read_u32-size.ensures) in
    let enough : 24 ≤ big_u32_at fields 4 = omega (arith, start, c.if-start.false) in
    let coding : coding_of_encoding (big_u32_at fields 12) ≡ Some c.in-Some.coding =
    ap coding_of_encoding (sym encoding) ∙ sym c.coding_of.ensures ∙ c.in-Some.is in
    let test : (nat_le 1 (big_u32_at fields 20) && nat_le (big_u32_at fields 20) 16) ≡ true =
    ap (λ n. nat_le 1 n && nat_le n 16) (sym channels) ∙ sym c.are_channels.ensures ∙ c.if-are_channels.true in
    let size : c.if-size.result ≡ declared_size c.read_u32-size.result = elim c.if-size.branch [
      | then-size w ↦ grind (arith, common_steps, w.result-is, w.if-size.true)
      | else-size w ↦ grind (arith, common_steps, w.result-is, w.if-size.false)
    ] in
    rw (c.from.ensures, size, start, rate, channels, bytes)
    (sym (fields_good fields c.in-Some.coding enough coding test))

pub returns-else-are_channels-clause-said : goal.returns-else-are_channels-clause-said
returns-else-are_channels-clause-said c =
    let fields = c.args.fields.now in
    let start : c.read_u32-start.result ≡ big_u32_at fields 4 = omega (arith, c.read_u32-start.ensures) in
    let encoding : c.read_u32-encoding.result ≡ big_u32_at fields 12 = omega (arith, c.read_u32-encoding.ensures) in
    let channels : c.read_u32-channels.result ≡ big_u32_at fields 20 = omega (arith, c.read_u32-channels.ensures) in
    let enough : 24 ≤ big_u32_at fields 4 = omega (arith, start, c.if-start.false) in
    let coding : coding_of_encoding (big_u32_at fields 12) ≡ Some c.in-Some.coding =
    ap coding_of_encoding (sym encoding) ∙ sym c.coding_of.ensures ∙ c.in-Some.is in
    let test : (nat_le 1 (big_u32_at fields 20) && nat_le (big_u32_at fields 20) 16) ≡ false =
    ap (λ n. nat_le 1 n && nat_le n 16) (sym channels) ∙ sym c.are_channels.ensures ∙ c.if-are_channels.false in
    rw channels (sym (fields_bad fields c.in-Some.coding enough coding test))
