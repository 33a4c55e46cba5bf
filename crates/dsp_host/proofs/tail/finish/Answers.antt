use Rattle.std.proofs.Common.{◌≡◌, ◌∙◌, ◌+◌, ◌≤◌, None, sym, ap, length, arith, rules}
use Rattle.dsp_defs.specs.Shape.{window_at}
use Rattle.dsp_host.proofs.Tails as laws
use Rattle.dsp_host.proofs.tail.finish.Goals as goal

pub returns-then-count-eq0-clause-ok : goal.returns-then-count-eq0-clause-ok
returns-then-count-eq0-clause-ok g c =
    let s = c.args.session.now in
    let runs = c.requires.runs in
    let so_far = c.giving.invariant in
    let ends = c.end-count.ensures.ends in
    let zero = c.if-count-eq0.true in
    let whole = laws.whole_tail _ _ _ runs _ _ _ _ _ so_far _ _ ends c.end-count.ensures.same
    c.end-count.ensures.given zero in
    let none : None ≡ window_at s.script.blocks (s.chain.frames + 0) = rw c.in_default.is at c.window_fault.ensures in
    let last : s.chain.frames + 0 ≡ s.chain.frames = omega arith in
    record {
      no_window = sym (none ∙ ap (window_at s.script.blocks) last);
      given_is = whole;
      room = omega (arith, whole, c.tail_bytes-bytes.ensures, c.if-bytes-room.false);
      same = laws.same_next _ _ _ runs _ _ _ _ _ so_far _ _ ends c.end-count.ensures.same c.end-count.ensures.given;
      ended = ends.ended;
      front = laws.front _ _ _ runs _ _ _ _ _ so_far _ _ ends c.end-count.ensures.same c.end-count.ensures.given;
      tail = laws.tail _ _ _ runs _ _ _ _ _ so_far _ _ ends c.end-count.ensures.same c.end-count.ensures.given zero;
      measures = laws.measures _ _ _ runs _ _ _ _ _ so_far _ _ ends c.end-count.ensures.same c.end-count.ensures.given
          zero;
    }

pub slice_bounds-write_to-end : goal.slice_bounds-write_to-end
slice_bounds-write_to-end g c =
    let within = laws.within _ _ _ c.requires.runs _ _ _ _ _ c.giving.invariant _ _ c.end-count.ensures.ends
    c.end-count.ensures.same c.end-count.ensures.given in
    omega (arith, within, c.tail_bytes-bytes.ensures, c.if-bytes-room.false, c.giving.auto.out)

pub overflow_add-given : goal.overflow_add-given
overflow_add-given g c =
    let within = laws.within _ _ _ c.requires.runs _ _ _ _ _ c.giving.invariant _ _ c.end-count.ensures.ends
    c.end-count.ensures.same c.end-count.ensures.given in
    let room : c.giving.given + c.end-count.result ≤ length c.args.out.now =
    omega (arith, within, c.tail_bytes-bytes.ensures, c.if-bytes-room.false) in
    search rules

pub giving-preserved : goal.giving-preserved
giving-preserved g c =
    let ends = c.end-count.ensures.ends in
    let within = laws.within _ _ _ c.requires.runs _ _ _ _ _ c.giving.invariant _ _ ends c.end-count.ensures.same
    c.end-count.ensures.given in
    let room : c.giving.given + c.end-count.result ≤ length c.giving.out =
    omega (arith, within, c.tail_bytes-bytes.ensures, c.if-bytes-room.false, c.giving.auto.out) in
    laws.goes_on _ _ _ c.requires.runs _ _ _ _ _ c.giving.invariant _ _ ends c.end-count.ensures.same
    c.end-count.ensures.given c.if-count-eq0.false room _ (c.write_to.ensures ∙ c.out.ensures)

pub returns-in-Some-clause-err : goal.returns-in-Some-clause-err
returns-in-Some-clause-err g c = search rules

pub returns-then-bytes-room-clause-err : goal.returns-then-bytes-room-clause-err
returns-then-bytes-room-clause-err g c = search rules
