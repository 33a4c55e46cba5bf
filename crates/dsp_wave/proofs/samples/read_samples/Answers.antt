use Rattle.std.proofs.Common.{◌≡◌, ◌∙◌, ℕ, ◌+◌, ◌-◌, ◌^◌, ◌<◌, ◌≤◌, min, List, ◌++◌, length, take, drop, Option, Some}
use Rattle.std.proofs.Common.{None, IfSome, ◌⊎◌, inl, inr, refl, sym, ap, subst, arith, length-append, length-drop}
use Rattle.std.proofs.Common.{length-take-le}
use Rattle.std.proofs.lemmas.Bool.{cases_lt}
use Rattle.std.proofs.lemmas.List.{take-append-le}
use Rattle.dsp_defs.specs.declared.limits.TheConstants.{MAX_INPUT}
use Rattle.dsp_ports.specs.Fill.{Filled, Unfilled}
use Rattle.dsp_ports.specs.Ports.{SourceState, Gave}
use Rattle.dsp_ports.specs.declared.filling.FillFault.TheVariants.{Failed, LimitReached}
use Rattle.dsp_wave.specs.declared.samples.Stored.{Stored}
use Rattle.dsp_wave.specs.declared.samples.SampleFault.TheVariants as fault
use Rattle.dsp_wave.specs.Samples.{InDeclared, AreAll, IsUnread, PartRead, PartUnread, declared_bytes, in_whole_frames}
use Rattle.dsp_wave.proofs.samples.read_samples.Goals as goal
use Rattle.dsp_wave.proofs.samples.read_samples.Goals.{in-Some, in-None}

-- the bytes of whole frames, where a size is declared
abbrev whole : Stored → Option ℕ → Option ℕ
whole stored size = elim size [ Some s ↦ Some (in_whole_frames stored.frame s) | None ↦ None ]

-- where the last byte stands that may be taken
abbrev StopsAt : Option ℕ → ℕ → ℕ → Type 0
StopsAt size end stop = elim size [ Some s ↦ stop ≡ min s end | None ↦ stop ≡ end ]

stop-some : (stored : Stored) (end stop size bytes : ℕ) → stored.size ≡ Some size
    → bytes ≡ in_whole_frames stored.frame size → stop ≡ min bytes end → StopsAt (declared_bytes stored) end stop
stop-some stored end stop size bytes is whole_is stop_is =
    subst (λ (size : Option ℕ). StopsAt (whole stored size) end stop) (sym is) (stop_is ∙ ap (λ n. min n end) whole_is)

stop-none : (stored : Stored) (end stop : ℕ) → stored.size ≡ None → stop ≡ end
    → StopsAt (declared_bytes stored) end stop
stop-none stored end stop is stop_is =
    subst (λ (size : Option ℕ). StopsAt (whole stored size) end stop) (sym is) stop_is

module _ (stored : Stored) (end taken stop : ℕ) (declared : InDeclared (declared_bytes stored) taken)
    (part : taken ≤ end)
    (stop_is : StopsAt (declared_bytes stored) end stop) (input now : SourceState) (front old : List ℕ) (want room : ℕ)
    (want_is : want ≡ min (stop - taken) (length old)) (small : length old ≤ 2 ^ 64 - 1)
    (room_is : room + (stored.start + taken) ≡ MAX_INPUT)
    (front_is : length front ≡ length (take want old)) where
  -- the block that was asked for
  long : length front ≡ want
  long = front_is ∙ length-take-le want old (omega (arith, want_is))

  more : (bytes : Option ℕ) → InDeclared bytes taken → StopsAt bytes end stop → (n : ℕ) → n ≤ want →
      InDeclared bytes (taken + n)
  more None within is n few = tt
  more (Some size) within is n few = omega (arith, within, is, few, want_is)

  in_part : (bytes : Option ℕ) → StopsAt bytes end stop → (n : ℕ) → n ≤ want → taken + n ≤ end
  in_part None is n few = omega (arith, part, is, few, want_is)
  in_part (Some size) is n few = omega (arith, part, is, few, want_is)

  before : (bytes : Option ℕ) → StopsAt bytes end stop → (n : ℕ) → n < want → taken + n < end
  before None is n cut = omega (arith, part, is, cut, want_is)
  before (Some size) is n cut = omega (arith, part, is, cut, want_is)

  less : (bytes : Option ℕ) → StopsAt bytes end stop → (n : ℕ) → n < want → IfSome bytes (λ size. taken + n < size)
  less None is n few = tt
  less (Some size) is n few = omega (arith, is, few, want_is)

  module _ (count : ℕ) (filled : Filled input now front room count) where
    few : count ≤ want
    few = omega (arith, filled.within, long)

    all-long : length (front ++ drop want old) ≡ length old
    all-long = omega (arith, length-append front (drop want old), length-drop want old, long, want_is)

    -- where less came than the block holds
    ends : (bytes : Option ℕ) → InDeclared bytes taken → StopsAt bytes end stop →
        ((size : ℕ) → bytes ≡ Some size → want ≤ count)
        → count < length old → (taken + count ≡ end) ⊎ AreAll bytes (taken + count) now
    ends None within is full short = elim (cases_lt count want) [
      | inl cut ↦ inr (filled.end (omega (arith, cut, long)))
      | inr all ↦ inl (omega (arith, part, few, all, short, want_is, is))
    ]
    ends (Some size) within is full short = elim (cases_lt end size) [
      | inl before ↦ inl (omega (arith, part, within, is, full size refl, few, short, want_is, before))
      | inr behind ↦ inr (omega (arith, part, within, is, full size refl, few, short, want_is, behind))
    ]

    read : ((size : ℕ) → stored.size ≡ Some size → want ≤ count)
        → PartRead stored end taken (front ++ drop want old) count input now
    read full = record {
      within = omega (arith, all-long, few, want_is);
      gave = subst (Gave input now) (sym (take-append-le count front (drop want old) filled.within)) filled.gave;
      declared = more (declared_bytes stored) declared stop_is count few;
      in_limit = omega (arith, filled.in_room, room_is);
      in_part = in_part (declared_bytes stored) stop_is count few;
      room_left = λ short none before.
          let open_end : stop ≡ end = subst (λ (size : Option ℕ). StopsAt (whole stored size) end stop) none stop_is in
          omega (
            arith,
            filled.room_left (omega (arith, short, all-long, long, want_is, open_end, before, part)),
            room_is,
          );
      ended = λ short. ends (declared_bytes stored) declared stop_is (by-size stored.size full)
          (omega (arith, short, all-long));
      no_fault = filled.no_fault;
      going = λ part. filled.going (elim (cases_lt count want) [
        | inl cut ↦ absurd (omega
            (arith, part (omega (arith, cut, all-long, want_is)), before (declared_bytes stored) stop_is count cut))
        | inr all ↦ omega (arith, all, long)
      ]);
    }
      where
        by-size : (size : Option ℕ) → ((n : ℕ) → size ≡ Some n → want ≤ count)
            → (n : ℕ) → whole stored size ≡ Some n → want ≤ count
        by-size None full n is = absurd (cc is)
        by-size (Some size) full n is = full size refl

    short-of : count < want → (size : ℕ) → stored.size ≡ Some size
        → PartUnread stored end taken (length old) (λ n. IsUnread
        (fault.Short size (taken + count) (stored.start + (taken + count))) stored n input now) input now
    short-of cut size is =
        let n = length-take-le count front filled.within in
        let few_is = subst (λ (size : Option ℕ). IfSome (whole stored size) (λ size. taken + count < size)) is
        (less (declared_bytes stored) stop_is count cut) in
        record {
          unread = record {
            bytes = take count front;
            gave = filled.gave;
            short = omega (arith, n, cut, want_is);
            in_limit = omega (arith, n, filled.in_room, room_is);
            declared = more (declared_bytes stored) declared stop_is (length (take count front))
                (omega (arith, n, few));
            cause = (
              is,
              ap (λ m. taken + m) (sym n),
              ap (λ m. stored.start + (taken + m)) (sym n),
              filled.end (omega (arith, cut, long)),
              filled.no_fault,
              subst (λ m. taken + m < in_whole_frames stored.frame size) (sym n) few_is,
            );
          };
          in_part = before (declared_bytes stored) stop_is (length (take count front)) (omega (arith, n, cut));
        }

  failed : Unfilled input now (length front) room Failed →
      PartUnread stored end taken (length old) (λ n. IsUnread fault.Failed stored n input now) input now
  failed unfilled = record {
    unread = record {
      bytes = unfilled.bytes;
      gave = unfilled.gave;
      short = omega (arith, unfilled.short, long, want_is);
      in_limit = omega (arith, unfilled.in_room, room_is);
      declared = more (declared_bytes stored) declared stop_is (length unfilled.bytes)
          (omega (arith, unfilled.short, long));
      cause = (
        unfilled.cause.0,
        omega (arith, unfilled.cause.1, room_is),
        less (declared_bytes stored) stop_is (length unfilled.bytes) (omega (arith, unfilled.short, long, want_is)),
      );
    };
    in_part = before (declared_bytes stored) stop_is (length unfilled.bytes) (omega (arith, unfilled.short, long));
  }

  limited : Unfilled input now (length front) room LimitReached
      → PartUnread stored end taken (length old) (λ n. IsUnread fault.LimitReached stored n input now) input now
  limited unfilled = record {
    unread = record {
      bytes = unfilled.bytes;
      gave = unfilled.gave;
      short = omega (arith, unfilled.short, long, want_is);
      in_limit = omega (arith, unfilled.in_room, room_is);
      declared = more (declared_bytes stored) declared stop_is (length unfilled.bytes)
          (omega (arith, unfilled.short, long));
      cause = (
        omega (arith, unfilled.cause.1, room_is),
        unfilled.cause.0,
        less (declared_bytes stored) stop_is (length unfilled.bytes) (omega (arith, unfilled.short, long)),
      );
    };
    in_part = before (declared_bytes stored) stop_is (length unfilled.bytes) (omega (arith, unfilled.short, long));
  }

pub returns-in_default-clause-ok : goal.returns-in_default-clause-ok
returns-in_default-clause-ok g c =
    let stored = c.args.stored in
    let stop : StopsAt (declared_bytes stored) c.args.end c.match-stored.stop = elim c.match-stored.branch [
      | in-Some w ↦ stop-some stored c.args.end _ _ _ w.in-Some.is w.in_whole_frames.ensures.value
          (w.stop-is ∙ w.min-stop.ensures)
      | in-None w ↦ stop-none stored c.args.end _ w.in-None.is w.stop-is
    ] in
    read stored c.args.end c.args.taken _ c.requires.declared c.requires.part stop _ _ _ _ _ _ c.min-want.ensures
    (omega arith) (omega arith) c.fill.auto.block
    c.in-Ok.count c.in-Ok.ensures.ok (λ size is. c.if-count-want.false)

pub returns-in_default-2-clause-ok : goal.returns-in_default-2-clause-ok
returns-in_default-2-clause-ok g c =
    let stored = c.args.stored in
    let stop : StopsAt (declared_bytes stored) c.args.end c.match-stored.stop = elim c.match-stored.branch [
      | in-Some w ↦ stop-some stored c.args.end _ _ _ w.in-Some.is w.in_whole_frames.ensures.value
          (w.stop-is ∙ w.min-stop.ensures)
      | in-None w ↦ stop-none stored c.args.end _ w.in-None.is w.stop-is
    ] in
    read stored c.args.end c.args.taken _ c.requires.declared c.requires.part stop _ _ _ _ _ _ c.min-want.ensures
    (omega arith) (omega arith) c.fill.auto.block
    c.in-Ok.count c.in-Ok.ensures.ok (λ size is. absurd (let not = sym c.in_default.is ∙ is in cc))

pub returns-in-Some-size-clause-err : goal.returns-in-Some-size-clause-err
returns-in-Some-size-clause-err g c =
    let stored = c.args.stored in
    let stop : StopsAt (declared_bytes stored) c.args.end c.match-stored.stop = elim c.match-stored.branch [
      | in-Some w ↦ stop-some stored c.args.end _ _ _ w.in-Some.is w.in_whole_frames.ensures.value
          (w.stop-is ∙ w.min-stop.ensures)
      | in-None w ↦ stop-none stored c.args.end _ w.in-None.is w.stop-is
    ] in
    short-of stored c.args.end c.args.taken _ c.requires.declared c.requires.part stop _ _ _ _ _ _ c.min-want.ensures
    (omega arith) (omega arith) c.fill.auto.block
    c.in-Ok.count c.in-Ok.ensures.ok c.if-count-want.true c.in-Some-size.declared c.in-Some-size.is

pub returns-in-Err-Failed-clause-err : goal.returns-in-Err-Failed-clause-err
returns-in-Err-Failed-clause-err g c =
    let stored = c.args.stored in
    let stop : StopsAt (declared_bytes stored) c.args.end c.match-stored.stop = elim c.match-stored.branch [
      | in-Some w ↦ stop-some stored c.args.end _ _ _ w.in-Some.is w.in_whole_frames.ensures.value
          (w.stop-is ∙ w.min-stop.ensures)
      | in-None w ↦ stop-none stored c.args.end _ w.in-None.is w.stop-is
    ] in
    failed stored c.args.end c.args.taken _ c.requires.declared c.requires.part stop _ _ _ _ _ _ c.min-want.ensures
    (omega arith) (omega arith) c.fill.auto.block
    (rw c.in-Err-Failed.field-0-is at c.in-Err-Failed.ensures.err)

pub returns-in-Err-LimitReached-clause-err : goal.returns-in-Err-LimitReached-clause-err
returns-in-Err-LimitReached-clause-err g c =
    let stored = c.args.stored in
    let stop : StopsAt (declared_bytes stored) c.args.end c.match-stored.stop = elim c.match-stored.branch [
      | in-Some w ↦ stop-some stored c.args.end _ _ _ w.in-Some.is w.in_whole_frames.ensures.value
          (w.stop-is ∙ w.min-stop.ensures)
      | in-None w ↦ stop-none stored c.args.end _ w.in-None.is w.stop-is
    ] in
    limited stored c.args.end c.args.taken _ c.requires.declared c.requires.part stop _ _ _ _ _ _ c.min-want.ensures
    (omega arith) (omega arith) c.fill.auto.block
    (rw c.in-Err-LimitReached.field-0-is at c.in-Err-LimitReached.ensures.err)
