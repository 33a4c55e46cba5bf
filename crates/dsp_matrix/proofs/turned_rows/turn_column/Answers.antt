use Rattle.std.proofs.Common.{◌+◌, ◌*◌, ◌<◌, length, map, arith, rules, below_more, add_assoc}
use Rattle.std.proofs.lemmas.Nat.{mul-add-lt}
use Rattle.dsp_defs.proofs.SumLemmas.{sample-map}
use Rattle.dsp_matrix.proofs.Turned.{turned-new, turned-room, turned-stay}
use Rattle.dsp_matrix.proofs.turned_rows.turn_column.Goals as goal

pub offset_bounds-out-at : goal.offset_bounds-out-at
offset_bounds-out-at g c =
    let inside = mul-add-lt c.args.column c.args.rows (c.args.row + c.loop-k.k) c.args.columns c.requires.inside
    (omega arith) in
    let room : c.args.column * c.args.rows + c.args.row + c.loop-k.k < length c.loop-k.out =
    omega (arith, inside, c.requires.out, c.loop-k.auto.out) in
    search (rules, room)

pub bounds-a-row : goal.bounds-a-row
bounds-a-row g c =
    let row = c.args.row + c.loop-k.k in
    let within = turned-room c.args.rows c.args.columns row c.args.column (omega arith) c.requires.inside in
    omega (arith, within, c.requires.a)

pub offset_bounds-a-row : goal.offset_bounds-a-row
offset_bounds-a-row g c =
    let row = c.args.row + c.loop-k.k in
    let within = turned-room c.args.rows c.args.columns row c.args.column (omega arith) c.requires.inside in
    omega (arith, within, c.requires.a)

pub overflow_mul-out : goal.overflow_mul-out
overflow_mul-out g c =
    let row = c.args.row + c.loop-k.k in
    let within = turned-room c.args.rows c.args.columns row c.args.column (omega arith) c.requires.inside in
    let room : row * c.args.columns + c.args.column < length c.args.a.now = omega (arith, within, c.requires.a) in
    search (rules, room)

pub overflow_add-out-in-loop-k : goal.overflow_add-out-in-loop-k
overflow_add-out-in-loop-k g c =
    let row = c.args.row + c.loop-k.k in
    let within = turned-room c.args.rows c.args.columns row c.args.column (omega arith) c.requires.inside in
    let room : row * c.args.columns + c.args.column < length c.args.a.now = omega (arith, within, c.requires.a) in
    search (rules, room)

pub bounds-out-at : goal.bounds-out-at
bounds-out-at g c =
    let inside = mul-add-lt c.args.column c.args.rows (c.args.row + c.loop-k.k) c.args.columns c.requires.inside
    (omega arith) in
    omega (arith, inside, c.requires.out, c.loop-k.auto.out)

pub overflow_add-at-in-loop-k : goal.overflow_add-at-in-loop-k
overflow_add-at-in-loop-k g c =
    let inside = mul-add-lt c.args.column c.args.rows (c.args.row + c.loop-k.k) c.args.columns c.requires.inside
    (omega arith) in
    let room : c.args.column * c.args.rows + c.args.row + c.loop-k.k < length c.loop-k.out =
    omega (arith, inside, c.requires.out, c.loop-k.auto.out) in
    search (rules, room)

pub loop-k-init : goal.loop-k-init
loop-k-init g c = record { kept = λ i j inner stood. stood; turned = λ k h. absurd (omega (arith, h)) }

pub returns-clause-turned : goal.returns-clause-turned
returns-clause-turned g c = λ k h. c.loop-k.invariant.turned k (omega arith)

pub loop-k-preserved : goal.loop-k-preserved
loop-k-preserved g c =
    let number = g.T.Sample.number in
    let rows = c.args.rows in
    let columns = c.args.columns in
    let a = map number c.args.a.now in
    let out = c.loop-k.out in
    let row = c.args.row + c.loop-k.k in
    let at = c.args.column * rows + c.args.row + c.loop-k.k in
    let v = c.index-a-row.result in
    let below : row < rows = omega arith in
    let place = add_assoc (c.args.column * rows) c.args.row c.loop-k.k in
    let inside = mul-add-lt c.args.column rows row columns c.requires.inside below in
    let room : at < length out = omega (arith, inside, c.requires.out, c.loop-k.auto.out) in
    let from : row * columns + c.args.column < length c.args.a.now =
    (let within = turned-room rows columns row c.args.column below c.requires.inside in
    omega (arith, within, c.requires.a)) in
    let right = sample-map number c.args.a.now (row * columns + c.args.column) v from c.index-a-row.is in
    let stays = turned-stay number rows columns a out row c.args.column at v below place room right in
    record {
      kept = λ i j inner stood. stays i j inner (c.loop-k.invariant.kept i j inner stood);
      turned = below_more _ c.loop-k.k
          (λ k before. stays (c.args.row + k) c.args.column (omega arith) (c.loop-k.invariant.turned k before))
          (turned-new number rows columns a out row c.args.column at v below place room right);
    }
