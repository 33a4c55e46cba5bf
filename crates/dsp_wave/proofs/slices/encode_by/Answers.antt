use Rattle.std.proofs.Common.{◌≡◌, ◌∙◌, ap, ℕ, ◌+◌, ◌-◌, ◌*◌, ◌<◌, ◌≤◌, ℤ, pos, List, ◌++◌, length, take, drop}
use Rattle.std.proofs.Common.{get_or, arith, SFits, length-take, length-drop}
use Rattle.std.specs.Int.{w32}
use Rattle.std.specs.List.{flat_map}
use Rattle.std.proofs.lemmas.Int.{to_z-of_z}
use mir.Val.{to_z, of_z}
use Rattle.std.proofs.lemmas.Slice.{take-put_mid}
use Rattle.std.proofs.lemmas.List.Elements.{All-get_or}
use Rattle.dsp_defs.specs.Bytes.{IsValue, bytes_of, width}
use Rattle.dsp_wave.proofs.SampleBytes.{more-bytes, within-bytes, value_fits}
use Rattle.dsp_wave.proofs.slices.encode_by.Goals as goal

pub loop-i-preserved : goal.loop-i-preserved
loop-i-preserved c =
    let coding = c.args.coding in
    let f : ℤ → List ℕ = bytes_of coding in
    let w = c.width-width.result in
    let same : w ≡ width coding = c.width-width.ensures in
    let i = c.loop-i.i in
    let samples = c.args.samples.now in
    let x = get_or samples i (pos 0) in
    let out = c.bytes_of.new.out in
    let old = c.loop-i.bytes in
    let within : i < length samples = omega arith in
    let fits : SFits w32 x = value_fits coding x (All-get_or (IsValue coding) samples i (pos 0) within
    c.requires.fits) in
    let kept : c.in_range-value.result ≡ x = c.in_range-value.ensures ∙ to_z-of_z w32 x fits in
    let made : out ≡ f x = c.bytes_of.ensures ∙ ap (λ z. f (to_z w32 (of_z w32 z))) kept ∙
    ap f (to_z-of_z w32 x fits) in
    let bound : i * w + w ≤ length samples * w = within-bytes i (length samples) w within in
    let all : length samples * w ≡ length samples * width coding = ap (λ v. length samples * v) same in
    let room : i * w + w ≤ length old = omega (arith, bound, all, c.requires.room, c.loop-i.auto.bytes) in
    let size : length out ≡ w = omega (
      arith,
      c.bytes_of.auto.out,
      length-take (i * w + w - i * w) (drop (i * w) old),
      length-drop (i * w) old,
    ) in
    let end : (i + 1) * width coding ≡ i * w + length out = rw (size, ← same) (omega arith) in
    let place : i * w ≡ i * width coding = ap (λ v. i * v) same in
    let before : take (i * width coding) old ≡ flat_map f (take i samples) = c.loop-i.invariant in
    take-put_mid (i * w) (i * w + w - i * w) old out ((i + 1) * width coding) end (omega arith)
    ∙ (λ k. take (place k) old ++ made k)
    ∙ ap (λ l. l ++ f x) before
    ∙ more-bytes f samples i within
