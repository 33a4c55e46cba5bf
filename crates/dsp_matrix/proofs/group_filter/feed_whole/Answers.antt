use Rattle.std.proofs.Common.{◌≡◌, ◌∙◌, ℕ, ◌+◌, ◌-◌, ◌*◌, ◌/◌, ◌%◌, ◌<◌, ◌≤◌, length, length-drop, take_all, map}
use Rattle.std.proofs.Common.{drop, ap, ap₂, sym, subst, refl, div-mul-le_self, arith, rules, length-take-le}
use Rattle.dsp_matrix.specs.Groups.{given_count}
use Rattle.dsp_matrix.proofs.GroupLaws.{left-behind}
use Rattle.dsp_matrix.proofs.RowWrites.{front-written, rest-stays}
use Rattle.dsp_matrix.proofs.group_filter.feed_whole.Goals as goal

pub returns-clause-begun : goal.returns-clause-begun
returns-clause-begun g c =
    let of = g.W.GroupWork.group (g.W.GroupWork.block c.args.work.now) in
    let input = c.args.input.now in
    let place : length input / c.taken.result * c.taken-2.result ≡ length input / of.taken * of.taken =
    ap₂ (λ n m. length input / n * m) c.taken.ensures c.taken-2.ensures in
    let left = left-behind g.T.Sample.number of input (length input / c.taken.result * c.taken-2.result) _ place refl in
    c.start.ensures ∙ (λ i. record { size = c.args.begun.now.size; numbers = left i })

pub overflow_mul-count : goal.overflow_mul-count
overflow_mul-count g c =
    let of = g.W.GroupWork.group (g.W.GroupWork.block c.args.work.now) in
    let count = ap₂ (λ n m. length c.args.input.now / n * m) c.taken.ensures c.given.ensures in
    let room : length c.args.input.now / c.taken.result * c.given.result ≤ length c.args.output.now =
    omega (arith, count, c.requires.room) in
    search rules

pub transform_whole-requires : goal.transform_whole-requires
transform_whole-requires g c =
    let input = c.args.input.now in
    let of = g.W.GroupWork.group (g.W.GroupWork.block c.args.work.now) in
    let n = length input / c.taken.result * c.given.result in
    let count : n ≡ given_count of (length input) = ap₂ (λ n m. length input / n * m) c.taken.ensures c.given.ensures in
    record {
      work = c.requires.work;
      room = length-take-le n c.args.output.now (omega (arith, count, c.requires.room))
          ∙ count;
    }

pub returns-clause-given : goal.returns-clause-given
returns-clause-given g c = ap₂ (λ n m. length c.args.input.now / n * m) c.taken.ensures c.given.ensures

-- the values are as many as their count
long : (g : _) (c : goal.After-start g) → length c.transform_whole.new.output ≡ length c.args.input.now /
    c.taken.result * c.given.result
long g c =
    let input = c.args.input.now in
    let of = g.W.GroupWork.group (g.W.GroupWork.block c.args.work.now) in
    let n = length input / c.taken.result * c.given.result in
    let count : n ≡ given_count of (length input) = ap₂ (λ n m. length input / n * m) c.taken.ensures c.given.ensures in
    c.transform_whole.auto.output ∙ length-take-le n c.args.output.now (omega (arith, count, c.requires.room))

pub returns-clause-out : goal.returns-clause-out
returns-clause-out g c =
    let n = length c.args.input.now / c.taken.result * c.given.result in
    ap (map g.T.Sample.number) (front-written n c.transform_whole.new.output (drop n c.args.output.now) (long g c)) ∙
    c.transform_whole.ensures.out

pub returns-clause-rest : goal.returns-clause-rest
returns-clause-rest g c =
    let n = length c.args.input.now / c.taken.result * c.given.result in
    rest-stays n c.transform_whole.new.output (drop n c.args.output.now) (long g c)

pub returns-clause-steps : goal.returns-clause-steps
returns-clause-steps g c = c.transform_whole.ensures.steps

pub offset_bounds-input-groups : goal.offset_bounds-input-groups
offset_bounds-input-groups g c =
    let all = length c.args.input.now in
    subst (λ n. all / c.taken.result * n ≤ all) (c.taken.ensures ∙ sym c.taken-2.ensures)
    (div-mul-le_self all c.taken.result)

pub slice_bounds-start-count : goal.slice_bounds-start-count
slice_bounds-start-count g c =
    let all = length c.args.input.now in
    subst (λ n. all / c.taken.result * n ≤ all) (c.taken.ensures ∙ sym c.taken-2.ensures)
    (div-mul-le_self all c.taken.result)

pub slice_bounds-start-start : goal.slice_bounds-start-start
slice_bounds-start-start g c =
    let all = length c.args.input.now in
    let inside : all / c.taken.result * c.taken-2.result ≤ all =
    subst (λ n. all / c.taken.result * n ≤ all) (c.taken.ensures ∙ sym c.taken-2.ensures)
    (div-mul-le_self all c.taken.result) in
    search rules

-- what is left behind whole groups is less than one
rest-few : (all size place : ℕ) → 0 < size → place ≡ all / size * size → all - place ≤ size
rest-few all size place some is =
    let split : size * (all / size) + all % size ≡ all = omega (arith, some) in
    let below : all % size < size = omega (arith, some) in
    omega arith

pub start-requires : goal.start-requires
start-requires g c =
    let of = g.W.GroupWork.group (g.W.GroupWork.block c.args.work.now) in
    let input = c.args.input.now in
    let all = length input in
    let place = all / c.taken.result * c.taken-2.result in
    let is : place ≡ all / of.taken * of.taken = ap₂ (λ n m. all / n * m) c.taken.ensures c.taken-2.ensures in
    let some = (g.met.W.GroupWork.grouped (g.W.GroupWork.block c.args.work.now) c.requires.work).some in
    let behind : length (drop place input) ≡ all - place = length-drop place input in
    let cut = ap length (take_all (all - place) (drop place input) (omega (arith, behind))) ∙ behind in
    omega (arith, cut, rest-few all of.taken place some is, c.requires.size)
