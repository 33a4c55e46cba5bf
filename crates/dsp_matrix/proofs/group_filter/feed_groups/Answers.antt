use Rattle.std.proofs.Common.{ℕ, ℤ, List, [], ◌∷◌, subst, ◌≡◌, ◌∙◌, ◌+◌, ◌-◌, ◌*◌, ◌/◌, ◌<◌, ◌≤◌, ◌++◌, length, map}
use Rattle.std.proofs.Common.{take, drop, false, true, ap, sym, refl, arith, length-append, length-take-le, take_all}
use Rattle.std.proofs.Common.{rules}
use Rattle.std.proofs.lemmas.List.{length-map}
use Rattle.dsp_lanes.specs.Turns.{RisesWithin}
use Rattle.dsp_matrix.specs.Groups.{OpenState, given_count, given_group, given_groups, left_open, product_count}
use Rattle.dsp_matrix.proofs.Filling.{filled-full, completes, rises-then}
use Rattle.dsp_matrix.proofs.GroupLaws.{fill-short, still-gives, still-open, still-none}
use Rattle.dsp_matrix.proofs.RowWrites.{rest-further}
use Rattle.dsp_matrix.proofs.group_filter.feed_groups.Goals as goal
use Rattle.dsp_matrix.proofs.group_filter.feed_groups.Goals.{Then-not-is_whole}

-- an open group of no samples
no-samples : (numbers : List ℤ) (count : ℕ) → count ≡ length numbers → count ≡ 0 → numbers ≡ []
no-samples [] count is none = refl
no-samples (x ∷ xs) count is none = absurd (omega (arith, is, none))

as-long : (numbers : List ℤ) (count n : ℕ) → count ≡ length numbers → count ≡ 0 → n ≡ length numbers + n
as-long numbers count n is none = omega arith

pub feed_whole-requires-clause-room : goal.feed_whole-requires-clause-room
feed_whole-requires-clause-room g c =
    let of = g.W.GroupWork.group (g.W.GroupWork.block c.args.work.now) in
    subst (λ n. given_count of n ≤ length c.args.output.now)
    (sym (as-long c.args.begun.now.numbers c.len.result (length c.args.input.now) c.len.ensures.count
    c.if-len-eq0.true)) c.requires.room

pub returns-then-len-eq0-clause-given : goal.returns-then-len-eq0-clause-given
returns-then-len-eq0-clause-given g c =
    let of = g.W.GroupWork.group (g.W.GroupWork.block c.args.work.now) in
    c.feed_whole.ensures.given ∙ ap (given_count of) (as-long c.args.begun.now.numbers c.len.result
    (length c.args.input.now) c.len.ensures.count c.if-len-eq0.true)

pub returns-then-len-eq0-clause-out : goal.returns-then-len-eq0-clause-out
returns-then-len-eq0-clause-out g c =
    let of = g.W.GroupWork.group (g.W.GroupWork.block c.args.work.now) in
    c.feed_whole.ensures.out ∙ ap (λ l. given_groups of (l ++ map g.T.Sample.number c.args.input.now))
    (sym (no-samples c.args.begun.now.numbers c.len.result c.len.ensures.count c.if-len-eq0.true))

pub returns-then-len-eq0-clause-begun : goal.returns-then-len-eq0-clause-begun
returns-then-len-eq0-clause-begun g c =
    let of = g.W.GroupWork.group (g.W.GroupWork.block c.args.work.now) in
    let empty = sym (no-samples c.args.begun.now.numbers c.len.result c.len.ensures.count c.if-len-eq0.true) in
    c.feed_whole.ensures.begun ∙ (λ i. record {
      size = c.args.begun.now.size;
      numbers =
          left_open of (empty i ++ map g.T.Sample.number c.args.input.now);
    })

pub returns-then-len-eq0-clause-rest : goal.returns-then-len-eq0-clause-rest
returns-then-len-eq0-clause-rest g c = c.feed_whole.ensures.rest

pub returns-then-len-eq0-clause-steps : goal.returns-then-len-eq0-clause-steps
returns-then-len-eq0-clause-steps g c =
    let of = g.W.GroupWork.group (g.W.GroupWork.block c.args.work.now) in
    subst (λ n. RisesWithin c.args.steps.now c.feed_whole.new.steps (product_count of n) (product_count of n))
    (as-long c.args.begun.now.numbers c.len.result (length c.args.input.now) c.len.ensures.count c.if-len-eq0.true)
    c.feed_whole.ensures.steps

-- the open group has taken all samples, and is not whole
short-is : (g : _) (c : Then-not-is_whole g) → (c.fill-start.result ≡ length c.args.input.now) ×
    (length c.args.begun.now.numbers + length c.args.input.now < c.args.begun.now.size)
short-is g c =
    let number = g.T.Sample.number in
    let input = c.args.input.now in
    let start = c.fill-start.result in
    let within : start ≤ length input = omega (arith, c.fill-start.ensures.count) in
    let long : length c.fill-start.new.self.numbers ≡ length c.args.begun.now.numbers + start =
    ap (λ (o : OpenState). length o.numbers) c.fill-start.ensures.filled ∙
    length-append c.args.begun.now.numbers (map number (take start input))
    ∙ ap (λ n. length c.args.begun.now.numbers + n) (length-map (take start input) number ∙
    length-take-le start input within) in
    let size : c.fill-start.new.self.size ≡ c.args.begun.now.size =
    ap (λ (o : OpenState). o.size) c.fill-start.ensures.filled in
    fill-short c.args.begun.now.size (length c.args.begun.now.numbers) (length input) start c.requires.begun
    c.fill-start.ensures.count
    (λ whole. let no : false ≡ true = sym c.if-not-is_whole.true ∙ c.is_whole.ensures.1 (long ∙ whole ∙ sym size) in cc)

no-group : (g : _) (c : Then-not-is_whole g) → (length c.args.begun.now.numbers + length c.args.input.now) /
    (g.W.GroupWork.group (g.W.GroupWork.block c.args.work.now)).taken ≡ 0
no-group g c =
    let number = g.T.Sample.number in
    let of = g.W.GroupWork.group (g.W.GroupWork.block c.args.work.now) in
    let is = g.met.W.GroupWork.grouped (g.W.GroupWork.block c.args.work.now) c.requires.work in
    let old = c.args.begun.now.numbers in
    let input = c.args.input.now in
    let short = short-is g c in
    let long = length-map input number in
    ap (λ n. (length old + n) / of.taken) (sym long) ∙
    still-none of is.some old (map number input) (omega (arith, short.1, c.requires.size, long))

pub returns-then-not-is_whole-clause-given : goal.returns-then-not-is_whole-clause-given
returns-then-not-is_whole-clause-given g c =
    let of = g.W.GroupWork.group (g.W.GroupWork.block c.args.work.now) in
    sym (ap (λ n. n * of.given) (no-group g c) ∙ omega arith)

pub returns-then-not-is_whole-clause-out : goal.returns-then-not-is_whole-clause-out
returns-then-not-is_whole-clause-out g c =
    let of = g.W.GroupWork.group (g.W.GroupWork.block c.args.work.now) in
    let is = g.met.W.GroupWork.grouped (g.W.GroupWork.block c.args.work.now) c.requires.work in
    let short = short-is g c in
    sym (still-gives of is.some c.args.begun.now.numbers (map g.T.Sample.number c.args.input.now)
    (omega (arith, short.1, c.requires.size, length-map c.args.input.now g.T.Sample.number)))

pub returns-then-not-is_whole-clause-begun : goal.returns-then-not-is_whole-clause-begun
returns-then-not-is_whole-clause-begun g c =
    let number = g.T.Sample.number in
    let of = g.W.GroupWork.group (g.W.GroupWork.block c.args.work.now) in
    let is = g.met.W.GroupWork.grouped (g.W.GroupWork.block c.args.work.now) c.requires.work in
    let old = c.args.begun.now.numbers in
    let input = c.args.input.now in
    let short = short-is g c in
    let all = ap (λ l. old ++ map number l) (take_all c.fill-start.result input (omega (arith, short.0))) in
    let stays = sym (still-open of is.some old (map number input)
    (omega (arith, short.1, c.requires.size, length-map input number))) in
    c.fill-start.ensures.filled ∙ (λ i. record { size = c.args.begun.now.size; numbers = (all ∙ stays) i })

pub returns-then-not-is_whole-clause-steps : goal.returns-then-not-is_whole-clause-steps
returns-then-not-is_whole-clause-steps g c =
    let of = g.W.GroupWork.group (g.W.GroupWork.block c.args.work.now) in
    let products : product_count of (length c.args.begun.now.numbers + length c.args.input.now) ≡ 0 =
    (ap (λ n. n * of.products) (no-group g c) ∙ omega arith) in
    record { multiplies_rise = omega (arith, products); turns_within = omega (arith, products) }

pub complete_group-given-requires-clause-whole : goal.complete_group-given-requires-clause-whole
complete_group-given-requires-clause-whole g c =
    c.is_whole.ensures.0 c.if-not-is_whole.false ∙ ap (λ (o : OpenState). o.size) c.fill-start.ensures.filled ∙
    c.requires.size

pub complete_group-given-requires-clause-room : goal.complete_group-given-requires-clause-room
complete_group-given-requires-clause-room g c =
    let number = g.T.Sample.number in
    let of = g.W.GroupWork.group (g.W.GroupWork.block c.args.work.now) in
    let is = g.met.W.GroupWork.grouped (g.W.GroupWork.block c.args.work.now) c.requires.work in
    let old = c.args.begun.now in
    let input = c.args.input.now in
    let start = c.fill-start.result in
    let within : start ≤ length input = omega (arith, c.fill-start.ensures.count) in
    let full = filled-full number old c.fill-start.new.self input start within c.fill-start.ensures.filled
    (c.is_whole.ensures.0 c.if-not-is_whole.false) in
    let done = completes number of old.numbers input start (length input - start) is.some within refl
    (full ∙ c.requires.size) in
    let rows = done.times of.given in
    omega (arith, rows, c.requires.room)

pub feed_behind-requires-clause-room : goal.feed_behind-requires-clause-room
feed_behind-requires-clause-room g c =
    let number = g.T.Sample.number in
    let of = g.W.GroupWork.group (g.W.GroupWork.block c.args.work.now) in
    let is = g.met.W.GroupWork.grouped (g.W.GroupWork.block c.args.work.now) c.requires.work in
    let old = c.args.begun.now in
    let input = c.args.input.now in
    let start = c.fill-start.result in
    let within : start ≤ length input = omega (arith, c.fill-start.ensures.count) in
    let full = filled-full number old c.fill-start.new.self input start within c.fill-start.ensures.filled
    (c.is_whole.ensures.0 c.if-not-is_whole.false) in
    let done = completes number of old.numbers input start (length input - start) is.some within refl
    (full ∙ c.requires.size) in
    let rows = done.times of.given in
    omega (arith, rows, c.requires.room, c.complete_group-given.ensures.given, c.complete_group-given.auto.output)

pub overflow_add-result : goal.overflow_add-result
overflow_add-result g c =
    let number = g.T.Sample.number in
    let of = g.W.GroupWork.group (g.W.GroupWork.block c.args.work.now) in
    let is = g.met.W.GroupWork.grouped (g.W.GroupWork.block c.args.work.now) c.requires.work in
    let old = c.args.begun.now in
    let input = c.args.input.now in
    let start = c.fill-start.result in
    let within : start ≤ length input = omega (arith, c.fill-start.ensures.count) in
    let full = filled-full number old c.fill-start.new.self input start within c.fill-start.ensures.filled
    (c.is_whole.ensures.0 c.if-not-is_whole.false) in
    let done = completes number of old.numbers input start (length input - start) is.some within refl
    (full ∙ c.requires.size) in
    let rows = done.times of.given in
    let room : c.complete_group-given.result + c.feed_behind.result ≤ length c.args.output.now =
    omega (arith, rows, c.requires.room, c.complete_group-given.ensures.given, c.feed_behind.ensures.given) in
    search (rules, room)

pub returns-clause-given : goal.returns-clause-given
returns-clause-given g c =
    let number = g.T.Sample.number in
    let of = g.W.GroupWork.group (g.W.GroupWork.block c.args.work.now) in
    let is = g.met.W.GroupWork.grouped (g.W.GroupWork.block c.args.work.now) c.requires.work in
    let old = c.args.begun.now in
    let input = c.args.input.now in
    let start = c.fill-start.result in
    let within : start ≤ length input = omega (arith, c.fill-start.ensures.count) in
    let full = filled-full number old c.fill-start.new.self input start within c.fill-start.ensures.filled
    (c.is_whole.ensures.0 c.if-not-is_whole.false) in
    let done = completes number of old.numbers input start (length input - start) is.some within refl
    (full ∙ c.requires.size) in
    let rows = done.times of.given in
    omega (arith, rows, c.complete_group-given.ensures.given, c.feed_behind.ensures.given)

pub returns-clause-out : goal.returns-clause-out
returns-clause-out g c =
    let number = g.T.Sample.number in
    let of = g.W.GroupWork.group (g.W.GroupWork.block c.args.work.now) in
    let is = g.met.W.GroupWork.grouped (g.W.GroupWork.block c.args.work.now) c.requires.work in
    let old = c.args.begun.now in
    let input = c.args.input.now in
    let start = c.fill-start.result in
    let within : start ≤ length input = omega (arith, c.fill-start.ensures.count) in
    let full = filled-full number old c.fill-start.new.self input start within c.fill-start.ensures.filled
    (c.is_whole.ensures.0 c.if-not-is_whole.false) in
    let done = completes number of old.numbers input start (length input - start) is.some within refl
    (full ∙ c.requires.size) in
    let behind = given_groups of (map number (take (length input - start) (drop start input))) in
    c.feed_behind.ensures.out
    ∙ ap (λ l. l ++ behind) (c.complete_group-given.ensures.out ∙
    ap (λ (o : OpenState). given_group of o.numbers) c.fill-start.ensures.filled)
    ∙ sym done.gives

pub returns-clause-begun : goal.returns-clause-begun
returns-clause-begun g c =
    let number = g.T.Sample.number in
    let of = g.W.GroupWork.group (g.W.GroupWork.block c.args.work.now) in
    let is = g.met.W.GroupWork.grouped (g.W.GroupWork.block c.args.work.now) c.requires.work in
    let old = c.args.begun.now in
    let input = c.args.input.now in
    let start = c.fill-start.result in
    let within : start ≤ length input = omega (arith, c.fill-start.ensures.count) in
    let full = filled-full number old c.fill-start.new.self input start within c.fill-start.ensures.filled
    (c.is_whole.ensures.0 c.if-not-is_whole.false) in
    let done = completes number of old.numbers input start (length input - start) is.some within refl
    (full ∙ c.requires.size) in
    let size : c.fill-start.new.self.size ≡ old.size = ap (λ (o : OpenState). o.size) c.fill-start.ensures.filled in
    c.feed_behind.ensures.begun ∙ (λ i. record { size = size i; numbers = (sym done.opens) i })

pub returns-clause-rest : goal.returns-clause-rest
returns-clause-rest g c =
    c.feed_behind.ensures.rest
    ∙ rest-further c.complete_group-given.result c.feed_behind.result c.complete_group-given.new.output
    c.args.output.now c.complete_group-given.ensures.rest

pub returns-clause-steps : goal.returns-clause-steps
returns-clause-steps g c =
    let number = g.T.Sample.number in
    let of = g.W.GroupWork.group (g.W.GroupWork.block c.args.work.now) in
    let is = g.met.W.GroupWork.grouped (g.W.GroupWork.block c.args.work.now) c.requires.work in
    let old = c.args.begun.now in
    let input = c.args.input.now in
    let start = c.fill-start.result in
    let within : start ≤ length input = omega (arith, c.fill-start.ensures.count) in
    let full = filled-full number old c.fill-start.new.self input start within c.fill-start.ensures.filled
    (c.is_whole.ensures.0 c.if-not-is_whole.false) in
    let done = completes number of old.numbers input start (length input - start) is.some within refl
    (full ∙ c.requires.size) in
    rises-then c.args.steps.now c.complete_group-given.new.steps c.feed_behind.new.steps of.products _ _
    c.complete_group-given.ensures.steps c.feed_behind.ensures.steps (done.times of.products)
