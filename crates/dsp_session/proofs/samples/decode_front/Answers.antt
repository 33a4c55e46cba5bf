use Rattle.std.proofs.Common.{◌≡◌, ◌*◌, ◌/◌, ◌≤◌, ◌∙◌, All, length, take, subst, sym}
use Rattle.dsp_defs.specs.Bytes.{IsValue, sample_of, width}
use Rattle.std.proofs.lemmas.List.{length-take-le}
use Rattle.dsp_defs.proofs.CodingLemmas.{width-some}
use Rattle.dsp_session.proofs.Pieces.{whole_pieces, at_front, div_within}
use Rattle.dsp_session.proofs.samples.decode_front.Goals as goal
use Rattle.std.proofs.Math.Nat.{div-mul-le_self}

pub returns-clause-values : goal.returns-clause-values
returns-clause-values c =
    let w = width c.args.coding in
    let count = c.whole_samples-count.result in
    let fits : count ≤ length c.args.samples.now = rw c.whole_samples-count.ensures
    (div_within (length c.args.bytes.now) (length c.args.samples.now) w (width-some c.args.coding) c.requires) in
    let cut : length (take count c.args.samples.now) ≡ count = length-take-le count c.args.samples.now fits in
    at_front count c.decode.new.samples c.args.samples.now (c.decode.auto.samples ∙ cut)
    ∙ rw (cut, c.width.ensures, c.whole_samples-count.ensures) at c.decode.ensures.values
    ∙ whole_pieces (sample_of c.args.coding) w (length c.args.bytes.now / w) c.args.bytes.now

pub returns-clause-within : goal.returns-clause-within
returns-clause-within c =
    rw c.whole_samples-count.ensures
    (div_within (length c.args.bytes.now) (length c.args.samples.now) (width c.args.coding) (width-some c.args.coding)
    c.requires)

pub decode-requires : goal.decode-requires
decode-requires c =
    let w = width c.args.coding in
    let count = c.whole_samples-count.result in
    let cut : length (take count c.args.samples.now) ≡ count =
    length-take-le count c.args.samples.now (returns-within c) in
    length-take-le (count * c.width.result) c.args.bytes.now
    (rw (c.width.ensures, c.whole_samples-count.ensures) (div-mul-le_self (length c.args.bytes.now) w)) ∙
    (λ i. sym cut i * c.width.ensures i)
  where
    returns-within : (c : goal.After-decode-arg-1) → c.whole_samples-count.result ≤ length c.args.samples.now
    returns-within c =
        rw c.whole_samples-count.ensures
        (div_within (length c.args.bytes.now) (length c.args.samples.now) (width c.args.coding)
        (width-some c.args.coding) c.requires)

pub returns-clause-fits : goal.returns-clause-fits
returns-clause-fits c =
    let count = c.whole_samples-count.result in
    let cut : length (take count c.args.samples.now) ≡ count =
    length-take-le count c.args.samples.now (returns-clause-within c) in
    subst (All (IsValue c.args.coding)) (sym (at_front count c.decode.new.samples c.args.samples.now
    (c.decode.auto.samples ∙ cut)))
    c.decode.ensures.fits
