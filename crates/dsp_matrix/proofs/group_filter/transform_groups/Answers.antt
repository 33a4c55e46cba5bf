use Rattle.std.proofs.Common.{◌≡◌, ◌∙◌, ◌+◌, ◌*◌, ◌/◌, ◌%◌, ◌<◌, ◌≤◌, ℕ, length, map, take, drop, ap, sym, subst}
use Rattle.std.proofs.Common.{refl, mul-le-mul_right, div-mul-le_self, arith, rules, take_all}
use borrow.Author.Rules.{scaled_fits≤}
use Rattle.std.proofs.lemmas.List.{length-map}
use Rattle.std.proofs.lemmas.Nat.{mul-le}
use Rattle.dsp_defs.specs.Signal.{values}
use Rattle.dsp_lanes.specs.Turns.{RisesWithin}
use Rattle.dsp_matrix.specs.Groups.{Group}
use Rattle.dsp_matrix.proofs.RowWrites.{row-written, piece-length, group-row, rises-more}
use Rattle.dsp_matrix.proofs.group_filter.transform_groups.Goals as goal

-- a group of the input stands in it, and what it becomes in the output
taken-inside : (k n size all : ℕ) → k < n → n ≡ all / size → k * size + size ≤ all
taken-inside k n size all below is =
    let rows : (k + 1) * size ≤ n * size = mul-le-mul_right size (omega (arith, below)) in
    let whole : n * size ≤ all = subst (λ m. m * size ≤ all) (sym is) (div-mul-le_self all size) in
    omega (arith, rows, whole)

given-inside : (of : Group) (j all taken given room out : ℕ) → taken ≡ of.taken → given ≡ of.given → j < all / taken →
    room ≡ all / of.taken * of.given → out ≡ room → j * given + given ≤ out
given-inside of j all taken given room out size gives below is same =
    let less : j < all / of.taken = omega (arith, below, ap (λ n. all / n) size) in
    let rows : (j + 1) * of.given ≤ all / of.taken * of.given =
    mul-le (j + 1) of.given (all / of.taken) of.given (omega (arith, less)) (omega arith) in
    omega (arith, rows, is, same, gives, ap (λ n. j * n) gives)

pub overflow_mul-start : goal.overflow_mul-start
overflow_mul-start g c =
    let all = length c.args.input.now in
    let inside : c.loop-group.group * c.taken-taken.result + c.taken-taken.result ≤ all =
    taken-inside c.loop-group.group (all / c.taken-taken.result) c.taken-taken.result all c.loop-group-test.true
    refl in
    search rules

pub overflow_add-start : goal.overflow_add-start
overflow_add-start g c =
    let all = length c.args.input.now in
    let inside : c.loop-group.group * c.taken-taken.result + c.taken-taken.result ≤ all =
    taken-inside c.loop-group.group (all / c.taken-taken.result) c.taken-taken.result all c.loop-group-test.true
    refl in
    search rules

pub offset_bounds-input-start : goal.offset_bounds-input-start
offset_bounds-input-start g c =
    let all = length c.args.input.now in
    let inside : c.loop-group.group * c.taken-taken.result + c.taken-taken.result ≤ all =
    taken-inside c.loop-group.group (all / c.taken-taken.result) c.taken-taken.result all c.loop-group-test.true
    refl in
    search rules

pub slice_bounds-transform-end : goal.slice_bounds-transform-end
slice_bounds-transform-end g c =
    let all = length c.args.input.now in
    let inside : c.loop-group.group * c.taken-taken.result + c.taken-taken.result ≤ all =
    taken-inside c.loop-group.group (all / c.taken-taken.result) c.taken-taken.result all c.loop-group-test.true
    refl in
    search rules

room : (g : _) (c : goal.In-loop-group g) → c.loop-group.group * c.given-given.result + c.given-given.result ≤ length
    c.loop-group.output
room g c =
    given-inside (g.W.GroupWork.group (g.W.GroupWork.block c.args.work.now)) c.loop-group.group
    (length c.args.input.now) c.taken-taken.result c.given-given.result (length c.args.output.now)
    (length c.loop-group.output)
    c.taken-taken.ensures c.given-given.ensures c.loop-group-test.true c.requires.room c.loop-group.auto.output

pub overflow_mul-at : goal.overflow_mul-at
overflow_mul-at g c =
    let inside : c.loop-group.group * c.given-given.result + c.given-given.result ≤ length c.loop-group.output =
    room g c in
    search rules

pub overflow_add-at : goal.overflow_add-at
overflow_add-at g c =
    let inside : c.loop-group.group * c.given-given.result + c.given-given.result ≤ length c.loop-group.output =
    given-inside (g.W.GroupWork.group (g.W.GroupWork.block c.args.work.now)) c.loop-group.group
    (length c.args.input.now) c.taken-taken.result c.given-given.result (length c.args.output.now)
    (length c.loop-group.output)
    c.taken-taken.ensures c.given-given.ensures c.loop-group-test.true c.requires.room c.loop-group.auto.output in
    search rules

pub slice_bounds-transform-end-in-loop-group : goal.slice_bounds-transform-end-in-loop-group
slice_bounds-transform-end-in-loop-group g c =
    let inside : c.loop-group.group * c.given-given.result + c.given-given.result ≤ length c.loop-group.output =
    given-inside (g.W.GroupWork.group (g.W.GroupWork.block c.args.work.now)) c.loop-group.group
    (length c.args.input.now) c.taken-taken.result c.given-given.result (length c.args.output.now)
    (length c.loop-group.output)
    c.taken-taken.ensures c.given-given.ensures c.loop-group-test.true c.requires.room c.loop-group.auto.output in
    search rules

pub transform-requires-clause-taken : goal.transform-requires-clause-taken
transform-requires-clause-taken g c =
    let j = c.loop-group.group in
    let taken = c.taken-taken.result in
    let all = length c.args.input.now in
    piece-length c.args.input.now (j * taken) taken (taken-inside j (all / taken) taken all c.loop-group-test.true refl)
    ∙ c.taken-taken.ensures

pub transform-requires-clause-given : goal.transform-requires-clause-given
transform-requires-clause-given g c =
    let given = c.given-given.result in
    piece-length c.loop-group.output (c.loop-group.group * given) given
    (given-inside (g.W.GroupWork.group (g.W.GroupWork.block c.args.work.now)) c.loop-group.group
    (length c.args.input.now) c.taken-taken.result given (length c.args.output.now)
    (length c.loop-group.output) c.taken-taken.ensures c.given-given.ensures c.loop-group-test.true c.requires.room
    c.loop-group.auto.output)
    ∙ c.given-given.ensures

pub loop-group-preserved : goal.loop-group-preserved
loop-group-preserved g c =
    let number = g.T.Sample.number in
    let of = g.W.GroupWork.group (g.W.GroupWork.block c.args.work.now) in
    let j = c.loop-group.group in
    let taken = c.taken-taken.result in
    let given = c.given-given.result in
    let out = c.loop-group.output in
    let input = c.args.input.now in
    let size : taken ≡ of.taken = c.taken-taken.ensures in
    let gives : given ≡ of.given = c.given-given.ensures in
    let place : j * given ≡ j * of.given = ap (λ n. j * n) gives in
    let inside : j * given + given ≤ length out = given-inside of j (length input) taken given
    (length c.args.output.now) (length out) size gives c.loop-group-test.true c.requires.room
    c.loop-group.auto.output in
    let written : length c.transform.new.out ≡ of.given = c.transform.auto.out ∙
    piece-length out (j * given) given inside ∙ gives in
    record {
      written =
          row-written number _ j _ of.given (j * given) _ out c.transform.new.out refl place written
          (omega (arith, inside, place)) c.loop-group.invariant.written
          (c.transform.ensures.out ∙ group-row number of j (j * taken) (j * taken + taken) input
          (ap (λ n. j * n) size) (ap (λ n. j * taken + n) size));
      counted = rises-more _ _ _ j _ of.products refl c.loop-group.invariant.counted c.transform.ensures.steps;
    }

-- all groups are done
done : (g : _) (c : goal.After-loop-group g) → c.loop-group.group ≡ length c.args.input.now /
    (g.W.GroupWork.group (g.W.GroupWork.block c.args.work.now)).taken
done g c =
    let all = length c.args.input.now in
    let end : c.loop-group.group ≡ all / c.taken-taken.result = omega arith in
    end ∙ ap (λ n. all / n) c.taken-taken.ensures

pub returns-clause-out : goal.returns-clause-out
returns-clause-out g c =
    let of = g.W.GroupWork.group (g.W.GroupWork.block c.args.work.now) in
    let number = g.T.Sample.number in
    let input = c.args.input.now in
    let out = c.loop-group.output in
    let j = c.loop-group.group in
    let result = λ (i : ℕ). of.result (take of.taken (drop (i / of.given * of.taken) (map number input)))
    (i % of.given) in
    let long : length (map number out) ≡ j * of.given = length-map out number ∙ c.loop-group.auto.output ∙
    c.requires.room ∙ ap (λ n. n * of.given) (sym (done g c)) in
    sym (take_all (j * of.given) (map number out) (omega (arith, long))) ∙ c.loop-group.invariant.written
    ∙ ap (λ n. values (n * of.given) result) (done g c ∙ ap (λ n. n / of.taken) (sym (length-map input number)))

pub returns-clause-steps : goal.returns-clause-steps
returns-clause-steps g c =
    let of = g.W.GroupWork.group (g.W.GroupWork.block c.args.work.now) in
    subst (λ n. RisesWithin c.args.steps.now c.loop-group.steps (n * of.products) (n * of.products)) (done g c)
    c.loop-group.invariant.counted

pub offset_bounds-output-at : goal.offset_bounds-output-at
offset_bounds-output-at g c =
    let room = given-inside (g.W.GroupWork.group (g.W.GroupWork.block c.args.work.now)) c.loop-group.group
    (length c.args.input.now) c.taken-taken.result c.given-given.result (length c.args.output.now)
    (length c.loop-group.output)
    c.taken-taken.ensures c.given-given.ensures c.loop-group-test.true c.requires.room c.loop-group.auto.output in
    let inside : c.loop-group.group * c.given-given.result ≤ length c.args.output.now =
    omega (arith, room, c.loop-group.auto.output) in
    search (rules, scaled_fits≤)
