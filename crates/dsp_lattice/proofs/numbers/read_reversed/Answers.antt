use Rattle.std.proofs.Common.{◌≡◌, ◌∙◌, ap, ◌-◌, ◌++◌, length, map, take, drop, reverse, arith, drop_at}
use Rattle.std.proofs.Common.{length-take-le, length-drop}
use Rattle.std.proofs.lemmas.List.{drop-map, drop_all, reverse-reverse, append-nil}
use borrow.Rule.Slice.PartMut.{put_mid}
use Rattle.dsp_lattice.proofs.Sections.{reverse-map}
use Rattle.dsp_lattice.proofs.numbers.read_reversed.Goals as goal

pub returns : goal.returns
returns g c =
    let number = g.T.Sample.number in
    let old = c.args.samples.now in
    let size = length old - 1 in
    let read = c.read_numbers.new.samples in
    let new = c.reverse.new.self in
    let behind : drop 1 (put_mid 1 size old new) ≡ new =
    drop_at (take 1 old) (new ++ drop size (drop 1 old)) 1 (length-take-le 1 old (omega arith))
    ∙ ap (λ l. new ++ l) (drop_all size (drop 1 old) (omega (arith, length-drop 1 old)))
    ∙ append-nil new in
    let turned : reverse new ≡ read = ap reverse c.reverse.ensures.after ∙ reverse-reverse read in
    ap reverse (drop-map number 1 (put_mid 1 size old new) ∙ ap (map number) behind)
    ∙ reverse-map number new
    ∙ ap (map number) turned
    ∙ c.read_numbers.ensures
