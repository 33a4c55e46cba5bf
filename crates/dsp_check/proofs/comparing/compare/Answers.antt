use Rattle.std.proofs.Common.{◌≡◌, ◌≢◌, ◌∙◌, ◌+◌, ap, refl, sym, subst, ℕ, ◌≤◌, List, [], ◌∷◌, ◌++◌, length, take, inl, arith}
use Rattle.std.specs.Prelude.{Some, slice_get}
use Rattle.std.proofs.lemmas.Option.{get_or_from_slice_get, slice_get_within}
use Rattle.std.proofs.lemmas.List.{take_more}
use Rattle.dsp_ports.specs.Ports.{SourceState, Gave}
use Rattle.dsp_ports.proofs.Moved.{Gave-append}
use Rattle.dsp_check.specs.Comparing.{Mismatches}
use Rattle.dsp_check.specs.declared.comparing.Mismatch.TheVariants.{Differs}
use Rattle.dsp_check.proofs.comparing.compare.Goals as goal

-- a byte came that is not the one wanted, or where none is
differs : (wanted : List ℕ) (old mid new : SourceState) (offset byte : ℕ) → Gave old mid (take offset wanted)
    → mid.ended ≡ old.ended → mid.faults ≡ old.faults → Gave mid new (byte ∷ []) → new.faults ≡ mid.faults →
    offset ≤ length wanted → slice_get wanted offset ≢ Some byte → Mismatches (Differs offset) wanted old new
differs wanted old mid new offset byte gave going same next faults within other = record {
  seen = take offset wanted ++ byte ∷ [];
  gave = Gave-append old mid new (take offset wanted) (byte ∷ []) going gave next;
  cause = (within, inl (byte, refl, other), faults ∙ same);
}

pub returns-in-Ok-clause-err : goal.returns-in-Ok-clause-err
returns-in-Ok-clause-err g c =
    differs c.args.wanted.now _ _ _ c.loop-offset.offset c.in-Ok-Some.byte c.loop-offset.invariant.gave
    c.loop-offset.invariant.going c.loop-offset.invariant.faults
    (rw c.in-Ok-Some.field-0-is at c.in-Ok-Some.ensures.gave)
    c.in-Ok-Some.ensures.faults (omega arith)
    (λ is. c.if-byte-wanted.false (sym (get_or_from_slice_get c.args.wanted.now c.loop-offset.offset _ 0 is)))

pub returns-in-Ok-Some-next_byte-clause-err : goal.returns-in-Ok-Some-next_byte-clause-err
returns-in-Ok-Some-next_byte-clause-err g c =
    let wanted = c.args.wanted.now in
    let last : c.loop-offset.offset ≡ length wanted = omega arith in
    differs wanted _ _ _ (length wanted) c.in-Ok-Some-next_byte.field-0-0
    (rw last at c.loop-offset.invariant.gave) c.loop-offset.invariant.going c.loop-offset.invariant.faults
    (rw c.in-Ok-Some-next_byte.field-0-is at c.in-Ok-Some-next_byte.ensures.gave)
    c.in-Ok-Some-next_byte.ensures.faults (omega arith)
    (λ is. absurd (omega (arith, slice_get_within wanted (length wanted) _ is)))

pub loop-offset-preserved : goal.loop-offset-preserved
loop-offset-preserved g c =
    let kept = c.loop-offset.invariant in
    let next = rw c.in-Ok-Some.field-0-is at c.in-Ok-Some.ensures.gave in
    let going = rw c.in-Ok-Some.field-0-is at c.in-Ok-Some.ensures.going in
    let offset = c.loop-offset.offset in
    let wanted = c.args.wanted.now in
    let longer : take (offset + 1) wanted ≡ take offset wanted ++ c.in-Ok-Some.byte ∷ [] =
    take_more wanted offset 0 (omega arith) ∙
    ap (λ byte. take offset wanted ++ byte ∷ []) (sym c.if-byte-wanted.true) in
    record {
      gave = subst (Gave (g.O.Source.state c.args.other.now) (g.O.Source.state c.next_byte.new.other)) (sym longer)
          (Gave-append _ _ _ (take offset wanted) (c.in-Ok-Some.byte ∷ []) kept.going kept.gave next);
      going = going ∙ kept.going;
      faults = c.in-Ok-Some.ensures.faults ∙ kept.faults;
    }
