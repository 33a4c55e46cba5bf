-- The report of a run, line by line.
use Rattle.std.proofs.Common.{◌≡◌, ℕ, zero, suc, ◌+◌, ◌<◌, List, [], ◌∷◌, ◌++◌, length, take, drop, get_or, flat_map}
use Rattle.std.proofs.Common.{refl, sym, ap, ◌∙◌, arith, append_assoc, append-nil, length-append, subst, inl, inr}
use Rattle.std.proofs.lemmas.List.{take-append-drop, take-append-le, take_all}
use Rattle.dsp_ports.specs.Ports.{append_put}
use Rattle.std.specs.Prelude.{slice_get, Some}
use Rattle.dsp_ports.specs.Ports.{SinkState, Rose, one_more, Took}
use Rattle.dsp_ports.proofs.Moved.{append_put-append}
use Rattle.dsp_command.specs.Report.{measure_line}
use Rattle.dsp_defs.specs.Streaming.{Begins}
use Rattle.dsp_defs.specs.declared.measure.Measure.{Measure}
use Rattle.dsp_cli.specs.Run.{Wrote, Tells, ReportsText}

abbrev pub lines : List Measure → List ℕ
lines ms = flat_map measure_line ms

-- the lines before one, that line, and those behind it
lines-split : (ms : List Measure) (i : ℕ) (d : Measure) → i < length ms →
    lines ms ≡ (lines (take i ms) ++ measure_line (get_or ms i d)) ++ lines (drop (suc i) ms)
lines-split [] i d within = absurd (omega (arith, within))
lines-split (x ∷ ms) zero d within = refl
lines-split (x ∷ ms) (suc i) d within =
    ap (λ l. measure_line x ++ l) (lines-split ms i d (omega (arith, within)))
    ∙ sym (append_assoc (measure_line x) (lines (take i ms) ++ measure_line (get_or ms i d)) (lines (drop (suc i) ms)))
    ∙ ap (λ l. l ++ lines (drop (suc i) ms)) (sym (append_assoc (measure_line x) (lines (take i ms))
    (measure_line (get_or ms i d))))

lines-next : (ms : List Measure) (i : ℕ) (d : Measure) → i < length ms →
    lines (take (suc i) ms) ≡ lines (take i ms) ++ measure_line (get_or ms i d)
lines-next [] i d within = absurd (omega (arith, within))
lines-next (x ∷ ms) zero d within = append-nil (measure_line x)
lines-next (x ∷ ms) (suc i) d within =
    ap (λ l. measure_line x ++ l) (lines-next ms i d (omega (arith, within))) ∙
    sym (append_assoc (measure_line x) (lines (take i ms)) (measure_line (get_or ms i d)))

pub lines-more : (ms : List Measure) (i j : ℕ) (d : Measure) → j ≡ i + 1 → i < length ms →
    lines (take i ms) ++ measure_line (get_or ms i d) ≡ lines (take j ms)
lines-more ms i j d next within = let step : j ≡ suc i = omega (arith, next) in
    sym (ap (λ k. lines (take k ms)) step ∙ lines-next ms i d within)

-- what was written before, and a piece behind it
pub wrote-behind : (old mid new : SinkState) (so_far piece : List ℕ) → Wrote so_far old mid → Wrote piece mid new →
    Wrote (so_far ++ piece) old new
wrote-behind old mid new so_far piece wrote more = more ∙ ap (λ known. append_put known piece) wrote ∙
    sym (append_put-append old.put so_far piece)

pub wrote-more : (old mid new : SinkState) (so_far piece : List ℕ) → Wrote so_far old mid → Took mid new piece →
    Wrote (so_far ++ piece) old new
wrote-more old mid new so_far piece wrote took = wrote-behind old mid new so_far piece wrote took.put

-- a count that is one more has risen
pub rose : (before now : ℕ) → now ≡ one_more before → Rose before now
rose before now is = omega (arith, is)

-- what was done has status 0, where the report has not failed
pub reported_zero : {text : List ℕ} {status : ℕ} {report told : SinkState} → ReportsText text status report told →
    (Rose report.faults told.faults → ⊥) → status ≡ 0
reported_zero (inl way) kept = way.0
reported_zero (inr way) kept = absurd (kept (rose _ _ way.1))

-- a front of the text was written, and the report has failed
pub tells-front : (old new : SinkState) (text written : List ℕ) → Begins written text → Wrote written old new →
    new.faults ≡ one_more old.faults → Tells text old new
tells-front old new text written begins wrote risen = record {
  count = length written;
  put = wrote ∙ ap (append_put old.put) (sym (ap (take (length written)) begins.1 ∙
      take-append-le (length written) written begins.0 (omega arith) ∙
      take_all (length written) written (omega arith)));
  all = λ none. absurd (none (rose _ _ risen));
}

-- it was written whole
pub tells-all : (old new : SinkState) (text : List ℕ) → Wrote text old new → Tells text old new
tells-all old new text wrote = record {
  count = length text;
  put = wrote ∙ ap (append_put old.put) (sym (take_all (length text) text (omega arith)));
  all = λ _. omega arith;
}

-- the head was written whole, and of the rest what the report takes
take-behind : (head rest : List ℕ) (count n : ℕ) → n ≡ length head + count →
    take n (head ++ rest) ≡ head ++ take count rest
take-behind [] rest count n is = (let same : n ≡ count = omega (arith, is) in ap (λ k. take k rest) same)
take-behind (x ∷ head) rest count n is =
    let next : n ≡ suc (length head + count) = omega (arith, is) in
    ap (λ k. take k (x ∷ (head ++ rest))) next ∙ ap (λ l. x ∷ l)
    (take-behind head rest count (length head + count) refl)

pub tells-behind : (old mid new : SinkState) (head rest : List ℕ) → Wrote head old mid → mid.faults ≡ old.faults →
    Tells rest mid new → Tells (head ++ rest) old new
tells-behind old mid new head rest wrote faults tells = record {
  count = length head + tells.count;
  put = wrote-behind old mid new head (take tells.count rest) wrote tells.put ∙
      ap (append_put old.put) (sym (take-behind head rest tells.count (length head + tells.count) refl));
  all = λ none. let all = tells.all (λ risen. none (subst (λ n. Rose n new.faults) faults risen)) in
      omega (arith, all, length-append head rest);
}

-- a front of the head
pub head-begins : (head rest : List ℕ) (count : ℕ) → Begins (take count head) (head ++ rest)
head-begins head rest count = (
  drop count head ++ rest,
  ap (λ l. l ++ rest) (sym (take-append-drop count head)) ∙
      append_assoc (take count head) (drop count head) rest,
)

-- a front of a line behind the lines before it
pub line-begins : (ms : List Measure) (i count : ℕ) (d : Measure) → i < length ms →
    Begins (lines (take i ms) ++ take count (measure_line (get_or ms i d))) (lines ms)
line-begins ms i count d within =
    let line = measure_line (get_or ms i d) in (
      drop count line ++ lines (drop (suc i) ms),
      lines-split ms i d within
          ∙ ap (λ l. (lines (take i ms) ++ l) ++ lines (drop (suc i) ms)) (sym (take-append-drop count line))
          ∙ ap (λ l. l ++ lines (drop (suc i) ms)) (sym (append_assoc (lines (take i ms)) (take count line)
          (drop count line)))
          ∙ append_assoc (lines (take i ms) ++ take count line) (drop count line) (lines (drop (suc i) ms)),
    )

-- ---- the measures of a session in a list

pub found-more : (ms : List Measure) (i j : ℕ) (m : Measure) → j ≡ i + 1 → slice_get ms i ≡ Some m →
    take i ms ++ m ∷ [] ≡ take j ms
found-more ms i j m next is = let step : j ≡ suc i = omega (arith, next) in by ms i is ∙ ap (λ k. take k ms) (sym step)
  where
    by : (ms : List Measure) (i : ℕ) → slice_get ms i ≡ Some m → take i ms ++ m ∷ [] ≡ take (suc i) ms
    by [] i e = absurd (cc)
    by (x ∷ ms) zero e = (let same : x ≡ m = cc in ap (λ a. a ∷ []) (sym same))
    by (x ∷ ms) (suc i) e = ap (λ l. x ∷ l) (by ms i e)
