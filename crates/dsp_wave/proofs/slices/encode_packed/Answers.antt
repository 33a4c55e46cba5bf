use Rattle.std.proofs.Common.{◌∙◌, ap, ◌-◌, ◌++◌, length, take, drop, sym, arith, length-drop}
use Rattle.std.specs.List.{flat_map}
use Rattle.std.proofs.lemmas.List.{take-append-drop, take_all, drop_all, append-nil}
use Rattle.std.proofs.lemmas.Grind.{flat_map-append}
use Rattle.dsp_defs.specs.Bytes.{bytes_of}
use Rattle.dsp_wave.proofs.slices.encode_packed.Goals as goal

pub returns : goal.returns
returns c =
    let f = bytes_of c.args.coding in
    let samples = c.args.samples.now in
    let written = c.encode_groups-done.new.bytes in
    let done = c.encode_groups-done.result in
    let rest = drop done samples in
    let none = drop_all (length written - done) (drop done written) (omega (arith, length-drop done written)) in
    (λ k. c.encode_groups-done.ensures.written k ++ (c.encode_by.ensures k ++ none k))
    ∙ ap (λ l. flat_map f (take done samples) ++ l)
    (append-nil (flat_map f (take (length samples - done) rest))
    ∙ ap (flat_map f) (take_all (length samples - done) rest (omega (arith, length-drop done samples))))
    ∙ sym (flat_map-append f (take done samples) rest)
    ∙ ap (flat_map f) (take-append-drop done samples)
