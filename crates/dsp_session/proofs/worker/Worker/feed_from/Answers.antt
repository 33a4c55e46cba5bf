use Rattle.std.proofs.Common.{◌≡◌, ◌∙◌, ◌*◌, ◌/◌, ◌≤◌, ap, ℕ, List, [], length, take, All, FitsSigned, refl, sym, subst}
use Rattle.std.proofs.Common.{arith}
use Rattle.std.specs.Prelude.{IfSome}
use Rattle.std.proofs.lemmas.Nat.{mul-le}
use Rattle.dsp_unit.specs.Line.{Place}
use Rattle.dsp_chain.specs.Chain.{output_of}
use Rattle.dsp_unit.specs.Unit.{frames_in}
use Rattle.dsp_unit.specs.Line.{place_room}
use Rattle.dsp_defs.specs.Bytes.{IsValue, width}
use Rattle.dsp_defs.specs.Formats.{word}
use Rattle.dsp_defs.specs.Output.{output_coding}
use Rattle.dsp_defs.proofs.CodingLemmas.{width-some}
use Rattle.dsp_session.proofs.Pieces.{div_within}
use Rattle.dsp_chain.specs.Line.{given_by}
use Rattle.dsp_chain.proofs.Room.{written-line, passing-room}
use Rattle.dsp_defs.specs.declared.format.Coding.{Coding}
use Rattle.dsp_session.specs.SampleRow.{SampleRow, HasRead}
use Rattle.dsp_session.specs.Working.{row_of}
use Rattle.dsp_session.proofs.WorkerLaws as laws
use Rattle.dsp_session.proofs.worker.Worker.feed_from.Goals as goal

-- the samples of a block have room in the row that they are read to
count-within :
    (old new : SampleRow) (block channels frames size count : ℕ) (now : Coding) {bytes : List ℕ} →
    size ≡ frames * (channels * width old.coding) → frames ≤ block → count ≡ size / width now → now ≡ new.coding →
    HasRead old bytes new → length old.row ≡ block * channels → count ≤ length new.row
count-within old new block channels frames size count now whole few count_is now_is read room =
    let bound = laws.row_room frames block channels (width old.coding) few in
    let value : count ≡ size / width old.coding = count_is ∙ ap (λ k. size / width k) (now_is ∙ read.coding) in
    let within = div_within size (block * channels) (width old.coding) (width-some old.coding)
    (omega (arith, whole, bound)) in
    omega (arith, value, within, read.long, room)

pub lend-requires : goal.lend-requires
lend-requires g c =
    let w = c.self.inside in
    let whole = rw (← c.self.view_is) at c.requires.whole in
    let few = rw (← c.self.view_is) at c.requires.few in
    let bound = laws.row_room c.requires.frames w.block w.script.input.channels (width w.samples.coding) few in
    rw c.self.invariant.samples (omega (arith, whole, bound))

pub front-samples-requires : goal.front-samples-requires
front-samples-requires g c =
    let w = c.self.inside in
    count-within w.samples c.lend.new.taker w.block w.script.input.channels c.requires.frames c.args.size
    c.whole_samples-count.result c.coding.result (rw (← c.self.view_is) at c.requires.whole)
    (rw (← c.self.view_is) at c.requires.few) c.whole_samples-count.ensures c.coding.ensures
    (c.if-not-lend.ensures.lent refl).takes c.self.invariant.samples

pub feed-requires-clause-passes : goal.feed-requires-clause-passes
feed-requires-clause-passes g c =
    let w = c.self.inside in
    let ready = c.self.invariant.holds.ready in
    let lent = c.if-not-lend.ensures.lent refl in
    let came = laws.lent_block w.script w.block ready w.samples c.lend.new.taker lent.bytes c.args.size
    c.requires.frames w.chain.frames c.whole_samples-count.result c.coding.result c.front-samples.result.now
    (rw (← c.self.view_is) at c.requires.whole) (rw (← c.self.view_is) at c.requires.few)
    (rw (← c.self.view_is) at c.requires.in_limit) lent.long lent.takes c.coding.ensures c.whole_samples-count.ensures
    c.front-samples.ensures in
    let fits : All (FitsSigned (word w.script.input.format)) c.front-samples.result.now =
    rw (← c.self.invariant.input) (laws.read_values w.script w.block ready w.samples.coding _ came.fits) in
    rw c.self.invariant.holds.input (laws.passes w.script w.block ready w.samples.coding lent.bytes
    c.front-samples.result.now came.whole came.read fits came.few)

pub feed-requires-clause-count : goal.feed-requires-clause-count
feed-requires-clause-count g c =
    let w = c.self.inside in
    let ready = c.self.invariant.holds.ready in
    let lent = c.if-not-lend.ensures.lent refl in
    let came = laws.lent_block w.script w.block ready w.samples c.lend.new.taker lent.bytes c.args.size
    c.requires.frames w.chain.frames c.whole_samples-count.result c.coding.result c.front-samples.result.now
    (rw (← c.self.view_is) at c.requires.whole) (rw (← c.self.view_is) at c.requires.few)
    (rw (← c.self.view_is) at c.requires.in_limit) lent.long lent.takes c.coding.ensures c.whole_samples-count.ensures
    c.front-samples.ensures in
    let frames = laws.frames_are w.script w.block ready w.samples.coding lent.bytes c.front-samples.result.now
    came.whole came.read in
    rw (c.self.invariant.holds.input, frames) came.in_limit

pub invariant_of-self-in-Ok : goal.invariant_of-self-in-Ok
invariant_of-self-in-Ok g c =
    let w = c.self.inside in
    let given = c.in-Ok.given in
    let count = c.whole_samples-count.result in
    let size = c.unwrap_or-self-inside.result in
    let taken = c.lend.new.taker.row in
    let new = c.feed.new.out in
    let lent = c.if-not-lend.ensures.lent refl in
    let within = count-within w.samples c.lend.new.taker w.block w.script.input.channels c.requires.frames c.args.size
    count c.coding.result (rw (← c.self.view_is) at c.requires.whole)
    (rw (← c.self.view_is) at c.requires.few) c.whole_samples-count.ensures c.coding.ensures lent.takes
    c.self.invariant.samples in
    let fits : IfSome given (λ n. n ≤ length new) = subst (λ k. IfSome given (λ n. n ≤ k)) (sym c.feed.auto.out)
    c.in-Ok.ensures.within in
    let row = laws.given_row given c.is_none-self-inside.result count size taken new c.is_none-self-inside.ensures
    c.unwrap_or-self-inside.ensures within fits in
    let same = written-line w.values.len new w.values.items (c.feed.auto.out ∙ c.as_mut_slice.ensures.len) in
    let ys = given_by given c.front-samples.result.now new in
    let ys_are = ap (λ zs. take size (row_of c.is_none-self-inside.result taken zs)) same ∙ row.0 ∙
    ap (λ xs. given_by given xs new) (sym c.front-samples.ensures) in
    let long = ap (λ zs. length (take size (row_of c.is_none-self-inside.result taken zs))) same ∙ row.1 in
    let most : size ≤ place_room (output_of w.chain) = omega (
      arith,
      long,
      ap length ys_are,
      passing-room (output_of w.chain) ys c.in-Ok.ensures.fed.passes,
    ) in
    let holds = c.self.invariant.holds in
    let fed = c.in-Ok.ensures.fed in
    rw (lent.takes.coding, lent.takes.long) (laws.still_works _ _ _ _ _ _ _ _ _ _ _ c.self.invariant fed.same
    (omega (arith, most, c.self.invariant.values)) long
    (subst (All (IsValue w.output)) (sym ys_are)
    (laws.gives_values w.script w.block holds.ready w.output ys c.self.invariant.output
    (rw (← laws.gives_format w.script w.block holds.ready w.chain c.feed.new.self holds.input holds.blocks)
    fed.passes.signal.in_format))))

pub returns-in-Ok-clause-some : goal.returns-in-Ok-clause-some
returns-in-Ok-clause-some g c =
    let w = c.self.inside in
    let given = c.in-Ok.given in
    let count = c.whole_samples-count.result in
    let size = c.unwrap_or-self-inside.result in
    let taken = c.lend.new.taker.row in
    let new = c.feed.new.out in
    let lent = c.if-not-lend.ensures.lent refl in
    let within = count-within w.samples c.lend.new.taker w.block w.script.input.channels c.requires.frames c.args.size
    count c.coding.result (rw (← c.self.view_is) at c.requires.whole)
    (rw (← c.self.view_is) at c.requires.few) c.whole_samples-count.ensures c.coding.ensures lent.takes
    c.self.invariant.samples in
    let fits : IfSome given (λ n. n ≤ length new) = subst (λ k. IfSome given (λ n. n ≤ k)) (sym c.feed.auto.out)
    c.in-Ok.ensures.within in
    let row = laws.given_row given c.is_none-self-inside.result count size taken new c.is_none-self-inside.ensures
    c.unwrap_or-self-inside.ensures within fits in
    let same = written-line w.values.len new w.values.items (c.feed.auto.out ∙ c.as_mut_slice.ensures.len) in
    let ys = given_by given c.front-samples.result.now new in
    let ys_are = ap (λ zs. take size (row_of c.is_none-self-inside.result taken zs)) same ∙ row.0 ∙
    ap (λ xs. given_by given xs new) (sym c.front-samples.ensures) in
    let long = ap (λ zs. length (take size (row_of c.is_none-self-inside.result taken zs))) same ∙ row.1 in
    let most : size ≤ place_room (output_of w.chain) = omega (
      arith,
      long,
      ap length ys_are,
      passing-room (output_of w.chain) ys c.in-Ok.ensures.fed.passes,
    ) in
    let ready = c.self.invariant.holds.ready in
    let holds = c.self.invariant.holds in
    let xs = c.front-samples.result.now in
    let came = laws.lent_block w.script w.block ready w.samples c.lend.new.taker lent.bytes c.args.size
    c.requires.frames w.chain.frames count c.coding.result xs
    (rw (← c.self.view_is) at c.requires.whole) (rw (← c.self.view_is) at c.requires.few)
    (rw (← c.self.view_is) at c.requires.in_limit) lent.long lent.takes c.coding.ensures c.whole_samples-count.ensures
    c.front-samples.ensures in
    let frames = laws.frames_are w.script w.block ready w.samples.coding lent.bytes xs came.whole came.read in
    let more = ap (λ (p : Place). length (frames_in p.channels xs)) holds.input ∙ ap length frames in
    let width_is = c.width.ensures ∙ ap width c.self.invariant.output in
    rw (← c.self.view_is) (rw lent.takes.coding (record {
      bytes = lent.bytes;
      long = lent.long;
      gave = lent.gave;
      no_fault = lent.no_fault;
      going = lent.going;
      fed = record {
        same = record { script = refl; banked = refl; block = refl; coding = refl };
        given = laws.given_size w.output size c.width.result _ long c.width.ensures;
        within = mul-le size c.width.result (place_room (output_of w.chain)) (width (output_coding w.script)) most
            (omega (arith, width_is));
        fed = laws.feeds w.script w.block ready w.chain c.feed.new.self holds.input holds.blocks w.banked holds.turns
            _ _ _ xs ys lent.bytes frames
            (laws.given_bytes_are w.script w.block ready w.output _ ys c.self.invariant.output ys_are) _ _
            c.in-Ok.ensures.fed;
        full = (
          (λ e. absurd (cc)),
          (λ many. absurd
              (let e = c.in-Ok.ensures.full.1 (laws.chain_much w.script w.block ready w.chain c.feed.new.self
              holds.input holds.blocks w.banked w.samples.coding [] _ _ more many) in cc)),
        );
        numbers = λ works. tt;
        refused = tt;
      };
    }))

pub returns-in-Err-clause-some : goal.returns-in-Err-clause-some
returns-in-Err-clause-some g c =
    let w = c.self.inside in
    let ready = c.self.invariant.holds.ready in
    let lent = c.if-not-lend.ensures.lent refl in
    let came = laws.lent_block w.script w.block ready w.samples c.lend.new.taker lent.bytes c.args.size
    c.requires.frames w.chain.frames c.whole_samples-count.result c.coding.result c.front-samples.result.now
    (rw (← c.self.view_is) at c.requires.whole) (rw (← c.self.view_is) at c.requires.few)
    (rw (← c.self.view_is) at c.requires.in_limit) lent.long lent.takes c.coding.ensures c.whole_samples-count.ensures
    c.front-samples.ensures in
    let holds = c.self.invariant.holds in
    let xs = c.front-samples.result.now in
    let frames = laws.frames_are w.script w.block ready w.samples.coding lent.bytes xs came.whole came.read in
    let count = ap (λ (p : Place). length (frames_in p.channels xs)) holds.input ∙ ap length frames in
    rw (← c.self.view_is) (rw lent.takes.coding (record {
      bytes = lent.bytes;
      long = lent.long;
      gave = lent.gave;
      no_fault = lent.no_fault;
      going = lent.going;
      fed = record {
        same = record { script = refl; banked = refl; block = refl; coding = refl };
        given = tt;
        within = tt;
        fed = tt;
        full = (
          (λ e. laws.too_much w.script w.block ready w.chain c.feed.new.self holds.input holds.blocks w.banked
              w.samples.coding [] _ _ count (c.in-Err.ensures.full.0 refl)),
          (λ many. refl),
        );
        numbers = λ works. laws.numbers w.script w.block ready w.chain c.feed.new.self holds.input holds.blocks _ _ _
            count (c.in-Err.ensures.numbers works);
        refused = laws.fails w.script w.block ready w.chain c.feed.new.self holds.input holds.blocks w.banked _ _ _ _ _
            c.in-Err.ensures.refused;
      };
    }))
