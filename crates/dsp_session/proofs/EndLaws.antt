-- The tail of a session, piece by piece.
use Rattle.std.proofs.Common.{◌≡◌, ℕ, ◌+◌, ◌≤◌, List, [], ◌∷◌, ◌++◌, length, take, drop, refl, sym, ap, ◌∙◌, subst}
use Rattle.std.proofs.Common.{arith, append_assoc, append-nil, length-append, Result, Ok, Err}
use Rattle.std.proofs.lemmas.List.{take-append-drop}
use Rattle.dsp_ports.specs.Ports.{append_put}
use Rattle.dsp_ports.specs.Ports.{SinkState, Took, one_more}
use Rattle.dsp_ports.proofs.Moved.{append_put-append}
use Rattle.dsp_defs.specs.Block.{Frame, live_chain, whole_chain}
use Rattle.dsp_defs.specs.Counts.{Counts}
use Rattle.dsp_defs.specs.Measure.{measures}
use Rattle.dsp_defs.specs.Output.{output_coding, live_bytes, whole_bytes}
use Rattle.dsp_unit.specs.Line.{chain_products}
use Rattle.dsp_defs.specs.Streaming.{Begins}
use Rattle.dsp_defs.specs.declared.script.Script.{Script}
use Rattle.dsp_defs.proofs.OutputLaws.{coded_begins}
use Rattle.dsp_defs.proofs.SampleLaws.{coded-append}
use Rattle.dsp_chain.specs.Chain.{IsSpent, live_of, whole_of, made_of}
use Rattle.dsp_session.specs.SessionState.{SessionState}
use Rattle.dsp_session.specs.Session.{Holds, StandsFor, HasGiven, SameSession, Ends, measured, measures_of}
use Rattle.dsp_session.specs.Session.{TurnsByProducts, output_bytes, live_values, whole_values, live_cost_of}
use Rattle.dsp_session.specs.Session.{products_of}
use Rattle.dsp_session.specs.Passing.{WritesRest, WritesTail, WroteTail, TailCosts}
use Rattle.dsp_session.proofs.FeedLaws.{made_live}

-- so much of the tail was given, of which these are the bytes
pub record Tailing (script : Script) (x : List Frame) (frames pieces : ℕ) (session : SessionState) (written : List ℕ)
    (before counts : Counts) : Type 0 where
  pub script_is : session.script ≡ script
  pub ys : List Frame
  pub gave : HasGiven session x ys
  pub many : pieces ≤ length ys
  pub few : length (whole_values script x) ≤ frames
  pub so_far : output_bytes script ys ≡ live_bytes script x ++ written
  pub made : counts.multiplies + live_cost_of script (length x) ≡ before.multiplies + made_of session.chain

-- what the chain of a session gives of a whole signal, and of one that may go on
whole_is : (s : SessionState) (x : List Frame) → Holds s → whole_of s.chain x ≡ whole_values s.script x
whole_is s x holds = λ i. whole_chain (holds.input i).format (holds.input i).channels (holds.blocks i) x

live_is : (s : SessionState) (x : List Frame) → Holds s → live_of s.chain x ≡ live_values s.script x
live_is s x holds = λ i. live_chain (holds.input i).format (holds.input i).channels (holds.blocks i) x

pub tail_starts : (script : Script) (x : List Frame) (frames : ℕ) (session : SessionState) (before : Counts) →
    session.script ≡ script → StandsFor session x → length (whole_values script x) ≤ frames →
    Tailing script x frames 0 session [] before before
tail_starts script x frames session before script_is stands few =
    let live : live_of session.chain x ≡ live_values script x = live_is session x stands.holds ∙
    ap (λ (s : Script). live_values s x) script_is in
    let made : made_of session.chain ≡ live_cost_of script (length x) = made_live session x stands ∙
    ap (λ (s : Script). live_cost_of s (length x)) script_is in
    record {
      script_is = script_is;
      ys = live_of session.chain x;
      gave = record { holds = stands.holds; chain = stands.live.gave x stands.chain };
      many = omega arith;
      few = few;
      so_far = ap (output_bytes script) live ∙ sym (append-nil (live_bytes script x));
      made = omega (arith, made);
    }

module _ (script : Script) (x : List Frame) (frames pieces : ℕ) (session : SessionState) (written : List ℕ)
    (before counts : Counts) (tailing : Tailing script x frames pieces session written before counts)
    (next : SessionState) (answer : ℕ) (counted : Counts) (ends : Ends session next answer counts counted) where
  abbrev zs : List Frame
  zs = tailing.ys ++ ends.given

  gave : HasGiven next x zs
  gave = ends.gave x tailing.ys tailing.gave

  out_is : next.out ≡ output_bytes script ends.given
  out_is = ends.frames.out ∙ ap (λ (s : Script). output_bytes s ends.given) tailing.script_is

  module _ (same : SameSession session next) where
    script_next : next.script ≡ script
    script_next = same.script ∙ tailing.script_is

    whole_next : whole_of next.chain x ≡ whole_values script x
    whole_next = whole_is next x gave.holds ∙ ap (λ (s : Script). whole_values s x) script_next

    so_far_next : output_bytes script zs ≡ live_bytes script x ++ (written ++ next.out)
    so_far_next =
        coded-append (output_coding script) tailing.ys ends.given ∙
        ap (λ bytes. bytes ++ output_bytes script ends.given) tailing.so_far ∙
        ap (λ bytes. (live_bytes script x ++ written) ++ bytes) (sym out_is) ∙
        append_assoc (live_bytes script x) written next.out

    made_next : counted.multiplies + live_cost_of script (length x) ≡ before.multiplies + made_of next.chain
    made_next = omega (arith, ends.multiplies, tailing.made)

    limit_next : counted.multiplies + live_cost_of script (length x) ≤ before.multiplies + products_of script (length x)
    limit_next =
        let within : made_of next.chain ≤ products_of script (length x) =
        subst (λ n. made_of next.chain ≤ n) ((λ i. products_of (script_next i) (gave.chain.counted i))) ends.within
        in
        omega (arith, made_next, within)

    -- what was given is the beginning of the whole output
    begins_next : Begins (output_bytes script zs) (whole_bytes script x)
    begins_next = (let (rest, split) = gave.chain.front in
        coded_begins (output_coding script) zs (whole_values script x) (rest, sym whole_next ∙ split))

    some_given : (answer ≡ 0 → ⊥) → answer ≡ length next.out → 1 ≤ length ends.given
    some_given some is = by ends.given out_is
      where
        by : (given : List Frame) → next.out ≡ output_bytes script given → 1 ≤ length given
        by [] out = absurd (some (is ∙ ap length out))
        by (frame ∷ given) out = omega arith

    -- another piece was given
    pub tail_goes_on : (answer ≡ 0 → ⊥) → answer ≡ length next.out →
        Tailing script x frames (pieces + 1) next (written ++ next.out) before counted
    tail_goes_on some is =
        record {
          script_is = script_next;
          ys = zs;
          gave = gave;
          many = omega (arith, tailing.many, some_given some is, length-append tailing.ys ends.given);
          few = tailing.few;
          so_far = so_far_next;
          made = made_next;
        }

    -- the sink failed within it
    tail_fails : (count : ℕ) → Begins (live_bytes script x ++ (written ++ take count next.out))
        (whole_bytes script x ++ [])
    tail_fails count =
        let (rest, split) = begins_next in (
          drop count next.out ++ rest,
          append-nil (whole_bytes script x) ∙ split
              ∙ ap (λ xs. xs ++ rest) so_far_next
              ∙ ap (λ xs. (live_bytes script x ++ (written ++ xs)) ++ rest) (sym (take-append-drop count next.out))
              ∙ ap (λ xs. (live_bytes script x ++ xs) ++ rest)
              (sym (append_assoc written (take count next.out) (drop count next.out)))
              ∙ ap (λ xs. xs ++ rest) (sym (append_assoc (live_bytes script x) (written ++ take count next.out)
              (drop count next.out)))
              ∙ append_assoc (live_bytes script x ++ (written ++ take count next.out)) (drop count next.out) rest,
        )

    tail_fails_costs : {E : Type 0} (error : E) → TailCosts {T = Unit {0}} (Err error) script (length x) before
        counted
    tail_fails_costs error = record { limit = limit_next; exact = tt }

    -- nothing is left
    spent : answer ≡ 0 → IsSpent next.chain
    spent zero = ends.spent zero tailing.gave.chain.works

    pub tail_ends : answer ≡ 0 → answer ≡ length next.out → live_bytes script x ++ written ≡ whole_bytes script x ++ []
    tail_ends zero is =
        let nothing : next.out ≡ [] = empty next.out (sym is ∙ zero) in
        sym (append-nil (whole_bytes script x) ∙ ap (output_bytes script)
        (sym whole_next ∙ sym ((spent zero).gave x zs gave.chain)) ∙ so_far_next
        ∙ ap (λ xs. live_bytes script x ++ (written ++ xs)) nothing ∙
        ap (λ xs. live_bytes script x ++ xs) (append-nil written))
      where
        empty : (xs : List ℕ) → length xs ≡ 0 → xs ≡ []
        empty [] e = refl
        empty (y ∷ ys) e = absurd (omega (arith, e))

    -- all pieces that there can be were written
    pub tail_spent : frames ≤ pieces → answer ≡ length next.out → answer ≡ 0
    tail_spent all is =
        let (rest, split) = gave.chain.front in
        by ends.given (omega (
          arith,
          tailing.few,
          all,
          tailing.many,
          ap length (sym whole_next ∙ split),
          length-append zs rest,
          length-append tailing.ys ends.given,
        )) out_is
      where
        by : (given : List Frame) → length given ≡ 0 → next.out ≡ output_bytes script given → answer ≡ 0
        by [] none out = is ∙ ap length out
        by (frame ∷ given) none out = absurd (omega (arith, none))

    tail_ends_costs : {E : Type 0} → answer ≡ 0 → TailCosts {T = Unit {0}} {E = E} (Ok tt) script (length x)
        before counted
    tail_ends_costs zero =
        let all : made_of next.chain ≡ products_of script (length x) =
        (spent zero).made ∙ (λ i. chain_products (gave.holds.input i).format (gave.holds.input i).channels
        (gave.holds.blocks i) (gave.chain.counted i)) ∙ ap (λ (s : Script). products_of s (length x)) script_next in
        record { limit = limit_next; exact = omega (arith, made_next, all) }

    -- the measures are those of the whole signal
    pub tail_measured : answer ≡ 0 → measured next ≡ measures_of script x
    tail_measured zero =
        (spent zero).measured x zs gave.chain ∙ (λ i. measures (gave.holds.input i).format
        (gave.holds.input i).channels 1 (gave.holds.blocks i) x) ∙ ap (λ (s : Script). measures_of s x) script_next

-- the multiplies of a tail are at most those of the whole signal, whatever numbers are kept
tail_within : (first session next : SessionState) (answer : ℕ) {counts counted : Counts} →
    Ends session next answer counts counted → next.script ≡ first.script → session.chain.frames ≡ first.chain.frames
    → (start before : ℕ) → counts.multiplies + start ≡ before + made_of session.chain →
    counted.multiplies + start ≤ before + products_of first.script first.chain.frames
tail_within first session next answer {counts} {counted} ends script frames start before so_far =
    let within : made_of next.chain ≤ products_of first.script first.chain.frames =
    subst (λ n. made_of next.chain ≤ n) (λ i. products_of (script i) ((ends.counted ∙ frames) i)) ends.within in
    omega (arith, within, ends.multiplies, so_far)

-- ---- what was written

put_more : (sink mid then : SinkState) (written more : List ℕ) → mid.put ≡ append_put sink.put written →
    then.put ≡ append_put mid.put more → then.put ≡ append_put sink.put (written ++ more)
put_more sink mid then written more first put = put ∙ ap (λ known. append_put known more) first ∙
    sym (append_put-append sink.put written more)

-- so much of the tail was given and written by a session that began so
pub record TailSoFar (old session : SessionState) (frames pieces : ℕ) (sink after : SinkState)
    (before counts : Counts) : Type 0 where
  pub same : SameSession old session
  pub no_fault : after.faults ≡ sink.faults
  pub counted : session.chain.frames ≡ old.chain.frames
  pub made : counts.multiplies + made_of old.chain ≡ before.multiplies + made_of session.chain
  pub turned : TurnsByProducts before counts
  pub written : List ℕ
  pub put : after.put ≡ append_put sink.put written
  pub tailing : (x : List Frame) → StandsFor old x →
      Tailing old.script x frames pieces session written before counts

module _ (old session next : SessionState) (frames pieces : ℕ) (sink mid : SinkState) (before counts : Counts)
    (so_far : TailSoFar old session frames pieces sink mid before counts) (answer : ℕ) (counted : Counts)
    (ends : Ends session next answer counts counted) (same : SameSession session next) where
  still : SameSession old next
  still = record {
    script = same.script ∙ so_far.same.script;
    banked = same.banked ∙ so_far.same.banked;
    block = same.block ∙ so_far.same.block;
    coding = same.coding ∙ so_far.same.coding;
  }

  within : counted.multiplies + made_of old.chain ≤ before.multiplies + products_of old.script old.chain.frames
  within = tail_within old session next answer ends still.script so_far.counted (made_of old.chain) before.multiplies
      so_far.made

  turned : TurnsByProducts before counted
  turned = omega (arith, ends.turns, so_far.turned)

  -- nothing is left of it
  pub tail_all : {E : Type 0} → ((x : List Frame) → StandsFor old x → answer ≡ 0) → answer ≡ length next.out →
      WroteTail {T = Unit {0}} {E = E} (Ok tt) old next sink mid before counted
  tail_all zero is =
      let all = λ (x : List Frame) (stands : StandsFor old x).
      tail_ends _ x _ _ _ _ _ _ (so_far.tailing x stands) _ _ _ ends same (zero x stands) is in
      record {
        same = still;
        written = record {
          written = so_far.written;
          put = so_far.put;
          begins = λ x stands. ([], sym (all x stands) ∙ sym (append-nil _));
          whole = all;
        };
        costs = λ x stands. tail_ends_costs _ x _ _ _ _ _ _ (so_far.tailing x stands) _ _ _ ends same (zero x stands);
        limit = within;
        turned = turned;
        measures = λ x stands. tail_measured _ x _ _ _ _ _ _ (so_far.tailing x stands) _ _ _ ends same (zero x stands);
        faults = so_far.no_fault;
      }

  -- the sink failed within a piece
  pub tail_part : {E : Type 0} (error : E) (count : ℕ) (after : SinkState) →
      after.put ≡ append_put mid.put (take count next.out) → after.faults ≡ one_more mid.faults →
      WroteTail {T = Unit {0}} (Err error) old next sink after before counted
  tail_part error count after put risen = record {
    same = still;
    written = record {
      written = so_far.written ++ take count next.out;
      put = put_more sink mid after so_far.written (take count next.out) so_far.put put;
      begins = λ x stands. tail_fails _ x _ _ _ _ _ _ (so_far.tailing x stands) _ _ _ ends same count;
      whole = λ x stands. tt;
    };
    costs = λ x stands. tail_fails_costs _ x _ _ _ _ _ _ (so_far.tailing x stands) _ _ _ ends same error;
    limit = within;
    turned = turned;
    measures = λ x stands. tt;
    faults = risen ∙ ap one_more so_far.no_fault;
  }

  -- a piece was written
  pub tail_next : (answer ≡ 0 → ⊥) → answer ≡ length next.out → (after : SinkState) →
      after.put ≡ append_put mid.put next.out → after.faults ≡ mid.faults →
      TailSoFar old next frames (pieces + 1) sink after before counted
  tail_next some is after put clean = record {
    same = still;
    no_fault = clean ∙ so_far.no_fault;
    counted = ends.counted ∙ so_far.counted;
    made = omega (arith, ends.multiplies, so_far.made);
    turned = turned;
    written = so_far.written ++ next.out;
    put = put_more sink mid after so_far.written next.out so_far.put put;
    tailing = λ x stands. tail_goes_on _ x _ _ _ _ _ _ (so_far.tailing x stands) _ _ _ ends same some is;
  }

-- of one signal
pub writes_rest : {T E : Type 0} (result : Result T E) (session : SessionState) (behind : List ℕ)
    (sink after : SinkState) → WritesTail result session behind sink after
    → (x : List Frame) → StandsFor session x → WritesRest result (live_bytes session.script x)
    (whole_bytes session.script x ++ behind) sink after
writes_rest result session behind sink after writes x stands =
    record {
      written = writes.written;
      put = writes.put;
      begins = writes.begins x stands;
      whole =
          writes.whole x stands;
    }

-- ---- behind the tail

-- the sink failed before the pad byte
pub tail_cut : {E : Type 0} (error : E) (session : SessionState) (pad : List ℕ) (sink then : SinkState) →
    WritesTail {T = Unit {0}} (Err error) session [] sink then →
    WritesTail {T = Unit {0}} (Err error) session pad sink then
tail_cut error session pad sink then writes = record {
  written = writes.written;
  put = writes.put;
  begins = λ x stands. (let (rest, split) = writes.begins x stands in (
    rest ++ pad,
    ap (λ xs. xs ++ pad) (sym (append-nil (whole_bytes session.script x)) ∙ split) ∙
        append_assoc (live_bytes session.script x ++ writes.written) rest pad,
  ));
  whole = λ x stands. tt;
}

module _ (session : SessionState) (pad : List ℕ) (sink mid then : SinkState) {E : Type 0}
    (tail : WritesTail {T = Unit {0}} {E = E} (Ok tt) session [] sink mid) where
  all_is : (x : List Frame) → StandsFor session x → whole_bytes session.script x ++ pad ≡ live_bytes session.script x
      ++ (tail.written ++ pad)
  all_is x stands =
      ap (λ xs. xs ++ pad) (sym (append-nil (whole_bytes session.script x)) ∙ sym (tail.whole x stands)) ∙
      append_assoc (live_bytes session.script x) tail.written pad

  -- the sink failed within the pad byte
  pub pad_fails : (error : E) (count : ℕ) → Took mid then (take count pad) →
      WritesTail {T = Unit {0}} (Err error) session pad sink then
  pad_fails error count took =
      record {
        written = tail.written ++ take count pad;
        put = put_more sink mid then tail.written (take count pad) tail.put took.put;
        begins = λ x stands. (
          drop count pad,
          all_is x stands ∙ ap (λ xs. live_bytes session.script x ++ (tail.written ++ xs))
              (sym (take-append-drop count pad))
              ∙ ap (λ xs. live_bytes session.script x ++ xs)
              (sym (append_assoc tail.written (take count pad) (drop count pad)))
              ∙ sym (append_assoc (live_bytes session.script x) (tail.written ++ take count pad) (drop count pad)),
        );
        whole = λ x stands. tt;
      }

  all_begins : (x : List Frame) → StandsFor session x →
      Begins (live_bytes session.script x ++ (tail.written ++ pad)) (whole_bytes session.script x ++ pad)
  all_begins x stands = ([], all_is x stands ∙ sym (append-nil (live_bytes session.script x ++ (tail.written ++ pad))))

  -- all was written, but the sink is not sure of it
  pub flush_fails : (error : E) (last : SinkState) → Took mid last pad → then.put ≡ last.put →
      WritesTail {T = Unit {0}} (Err error) session pad sink then
  flush_fails error last took same =
      record {
        written = tail.written ++ pad;
        put = put_more sink mid then
            tail.written pad tail.put (same ∙ took.put);
        begins = all_begins;
        whole = λ x stands. tt;
      }

  pub all_written : (last : SinkState) → Took mid last pad → then.put ≡ last.put →
      WritesTail {T = Unit {0}} {E = E} (Ok tt) session pad sink then
  all_written last took same =
      record {
        written = tail.written ++ pad;
        put = put_more sink mid then
            tail.written pad tail.put (same ∙ took.put);
        begins = all_begins;
        whole = λ x stands. sym (all_is x stands);
      }
