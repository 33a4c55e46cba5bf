use Rattle.std.proofs.Common.{arith, refl, ap, take, ◌∙◌, inl, inr, length-drop, length-take-le}
use Rattle.dsp_ports.proofs.Asking.{asked-more, asked-last}
use Rattle.dsp_ports.proofs.Moved.{Gave-nil, Gave-read, Gave-end, Gave-failed, gave-nothing}
use Rattle.dsp_ports.proofs.Moved.{Gave-asked, GaveNothing-asked, still_going}
use Rattle.dsp_ports.specs.Fill.{Begun}
use Rattle.dsp_ports.specs.Ports.{one_more}
use Rattle.dsp_ports.proofs.filling.fill.Goals as goal

pub loop-filled-init : goal.loop-filled-init
loop-filled-init g c = record {
  within = omega arith;
  room = omega arith;
  gave = Gave-nil _;
  faults = refl;
  asked =
      Begun;
  going = refl;
  fresh = λ _. refl;
}

pub loop-filled-preserved : goal.loop-filled-preserved
loop-filled-preserved g c =
    let kept = c.loop-filled.invariant in
    let given = c.in-Ok.ensures in
    record {
      within = omega (arith, given.within, c.min-want.ensures, length-drop c.loop-filled.filled c.loop-filled.block);
      room = omega (arith, given.within, c.min-want.ensures);
      gave = Gave-read _ _ _ c.loop-filled.filled _ c.in-Ok.count c.loop-filled.block c.read.new.into (omega arith)
          given.within kept.going kept.gave (Gave-asked _ _ _ _ (omega arith) given.gave);
      going = still_going _ _ c.in-Ok.count (omega arith) given.ended ∙ kept.going;
      faults = given.faults ∙ kept.faults;
      asked = asked-more _ _ _ _ _ _ _ c.loop-filled.filled _ c.in-Ok.count kept.asked given.asks (omega arith)
          (omega arith)
          (omega (arith, given.gave.count, length-take-le c.in-Ok.count c.read.new.into given.within));
      fresh = λ none. absurd (c.in-Ok.count-test.1 (omega (arith, none)));
    }

pub returns-then-want-eq0-clause-err : goal.returns-then-want-eq0-clause-err
returns-then-want-eq0-clause-err g c =
    let kept = c.loop-filled.invariant in
    let long = length-take-le c.loop-filled.filled c.loop-filled.block (omega arith) in
    record {
      bytes = take c.loop-filled.filled c.loop-filled.block;
      gave = kept.gave;
      short = omega (arith, long);
      in_room = omega (arith, long);
      cause = (kept.faults, omega (arith, long, c.min-want.ensures));
    }

pub returns-then-want-eq0-clause-asks : goal.returns-then-want-eq0-clause-asks
returns-then-want-eq0-clause-asks g c =
    record {
      came = c.loop-filled.filled;
      filling = c.loop-filled.input;
      asked = c.loop-filled.invariant.asked;
      last =
          inl refl;
    }

-- nothing was asked for where nothing is missing, or nothing may be taken
pub returns-then-want-eq0-clause-untouched : goal.returns-then-want-eq0-clause-untouched
returns-then-want-eq0-clause-untouched g c (inl empty) = let kept = c.loop-filled.invariant in
    kept.fresh (omega (arith, kept.within, empty))
returns-then-want-eq0-clause-untouched g c (inr none) = let kept = c.loop-filled.invariant in
    kept.fresh (omega (arith, kept.room, none))

pub returns-clause-untouched : goal.returns-clause-untouched
returns-clause-untouched g c (inl empty) = let kept = c.loop-filled.invariant in
    kept.fresh (omega (arith, kept.within, empty))
returns-clause-untouched g c (inr none) = let kept = c.loop-filled.invariant in
    kept.fresh (omega (arith, kept.room, none))

pub returns-in-Ok-eq0-clause-ok : goal.returns-in-Ok-eq0-clause-ok
returns-in-Ok-eq0-clause-ok g c =
    let kept = c.loop-filled.invariant in
    let given = c.in-Ok-eq0.ensures in
    record {
      within = omega arith;
      in_room = kept.room;
      gave = Gave-end _ _ _ c.loop-filled.filled _ c.in-Ok-eq0.field-0 c.loop-filled.block c.read.new.into
          (omega arith) given.within c.in-Ok-eq0.field-0-test kept.going kept.gave
          (Gave-asked _ _ _ _ (omega arith) given.gave);
      end = λ _. given.end c.in-Ok-eq0.field-0-test (omega arith);
      room_left = λ _. omega (arith, c.min-want.ensures);
      no_fault = given.faults ∙ kept.faults;
      going = λ full. absurd (omega (arith, full));
    }

pub returns-in-Ok-eq0-clause-untouched : goal.returns-in-Ok-eq0-clause-untouched
returns-in-Ok-eq0-clause-untouched g c (inl empty) = absurd (omega (arith, empty))
returns-in-Ok-eq0-clause-untouched g c (inr none) = absurd
    (c.if-want-eq0.false (omega (arith, c.min-want.ensures, none)))

pub returns-in-Ok-eq0-clause-asks : goal.returns-in-Ok-eq0-clause-asks
returns-in-Ok-eq0-clause-asks g c =
    let kept = c.loop-filled.invariant in
    let given = c.in-Ok-eq0.ensures in
    asked-last _ _ _ _ _ _ _ c.loop-filled.filled _ kept.asked given.asks (omega arith) (omega arith)
    (gave-nothing _ _ c.in-Ok-eq0.field-0 c.read.new.into c.in-Ok-eq0.field-0-test given.gave).taken

pub returns-in-Err-clause-err : goal.returns-in-Err-clause-err
returns-in-Err-clause-err g c =
    let kept = c.loop-filled.invariant in
    let given = c.in-Err.ensures in
    let long = length-take-le c.loop-filled.filled c.loop-filled.block (omega arith) in
    record {
      bytes = take c.loop-filled.filled c.loop-filled.block;
      gave = Gave-failed _ _ _ _ kept.going kept.gave (GaveNothing-asked _ _ _ (omega arith) given.gave);
      short = omega (arith, long);
      in_room = omega (arith, long);
      cause = (given.faults ∙ ap one_more kept.faults, omega (arith, long, c.min-want.ensures));
    }

pub returns-in-Err-clause-untouched : goal.returns-in-Err-clause-untouched
returns-in-Err-clause-untouched g c (inl empty) = absurd (omega (arith, empty))
returns-in-Err-clause-untouched g c (inr none) = absurd (c.if-want-eq0.false (omega (arith, c.min-want.ensures, none)))

pub returns-in-Err-clause-asks : goal.returns-in-Err-clause-asks
returns-in-Err-clause-asks g c =
    let kept = c.loop-filled.invariant in
    let given = c.in-Err.ensures in
    asked-last _ _ _ _ _ _ _ c.loop-filled.filled _ kept.asked given.asks (omega arith) (omega arith) given.gave.taken

pub returns-clause-ok : goal.returns-clause-ok
returns-clause-ok g c =
    let kept = c.loop-filled.invariant in
    record {
      within = omega arith;
      in_room = kept.room;
      gave = kept.gave;
      end = λ short. absurd (omega (arith, short));
      room_left = λ short. absurd (omega (arith, short));
      no_fault = kept.faults;
      going = λ _. kept.going;
    }

pub returns-clause-asks : goal.returns-clause-asks
returns-clause-asks g c =
    record {
      came = c.loop-filled.filled;
      filling = c.loop-filled.input;
      asked = c.loop-filled.invariant.asked;
      last =
          inl refl;
    }
