-- The begin and the end of a conversion.
use Rattle.std.proofs.Common.{length-append, length-take-le, ◌<◌, ◌≡◌, ◌⊎◌, ℕ, ◌+◌, ◌*◌, ◌≤◌, List, [], ◌++◌}
use Rattle.std.proofs.Common.{length, take, drop, Option, Some, None, IfSome, refl, sym, ap, ◌∙◌, subst, arith}
use Rattle.std.proofs.Common.{append_assoc, append-nil, inl, inr}
use Rattle.std.specs.Option.{unwrap_or}
use Rattle.dsp_ports.specs.Ports.{append_put}
use Rattle.std.proofs.lemmas.List.{take-append-drop}
use Rattle.dsp_ports.specs.Ports.{SourceState, SinkState, Gave, Took, IsSettled, one_more}
use Rattle.dsp_ports.proofs.Moved.{Took-nil, append_put-nil, append_put-append}
use Rattle.dsp_defs.specs.Bytes.{width}
use Rattle.dsp_defs.specs.Streaming.{Begins}
use Rattle.dsp_defs.specs.Au.{form_coded, form_header, form_pad, source_signal, target, target_form, target_of_signal}
use Rattle.dsp_defs.specs.Au.{target_with}
use Rattle.dsp_defs.specs.declared.au.Direction.{Direction}
use Rattle.dsp_defs.specs.declared.limits.TheConstants.{MAX_INPUT}
use Rattle.dsp_defs.specs.declared.wave.OpenHeader.{OpenHeader}
use Rattle.dsp_au.specs.declared.conversion.Converted.{Converted}
use Rattle.dsp_au.specs.declared.fault.ConvertFault.{ConvertFault}
use Rattle.dsp_au.specs.declared.fault.ConvertFault.TheVariants as fault
use Rattle.dsp_au.proofs.ConvertLaws.{IsTakenAll}
use Rattle.dsp_au.proofs.ToldLaws.{always_fails, hindered, unflushed_by}
use Rattle.dsp_au.proofs.WholeLaws.{target_is, target_told}
use Rattle.dsp_au.specs.Convert.{CountsFault, Done, HasWritten, IsCause, IsFree, IsSource, IsUnheaded, LagsByOne}
use Rattle.dsp_au.specs.Convert.{Opened, Passed, Stopped, TooLong, Unopened, Nothing, declared_bytes}

-- ---- no header came

module _ (direction : Direction) (input now : SourceState) (sink : SinkState) where
  unheaded_none : {A : Type 0} (given : List ℕ) (header : OpenHeader) → IsUnheaded direction given →
      IsSource direction given header → A
  unheaded_none given header none is = absurd (let same = sym none ∙ is in cc)

  module _ (given : List ℕ) (gave : Gave input now given) (limit : length given ≤ MAX_INPUT)
      (none : IsUnheaded direction given) where
    -- nothing was written
    stops : (error : ConvertFault) → IsCause error direction given now →
        HasWritten error direction given [] now sink sink → CountsFault error input now sink sink →
        Stopped direction error input now sink sink
    stops error cause wrote faults =
        record {
          given = given;
          written = [];
          gave = gave;
          in_limit = limit;
          put = sym (append_put-nil sink.put);
          unflushed = unflushed_by error sink sink [] refl;
          cause = cause;
          wrote = wrote;
          faults = faults;
          in_declared = λ header is. unheaded_none given header none is;
          lag = λ header is. unheaded_none given header none is;
          hinders = hindered direction error given input now gave cause;
        }

  pub stops_unopened : (error : ConvertFault) → Unopened direction error input now →
      Stopped direction error input now sink sink
  stops_unopened fault.Read u = let (faulty, limit, none) = u.cause in
      stops u.given u.gave u.in_limit none fault.Read limit (Nothing none refl) (faulty, refl)
  stops_unopened (fault.Input taken limit) u =
      let (full, taken_is, limit_is, clean, none, wants) = u.cause in
      stops u.given u.gave u.in_limit none (fault.Input taken limit) (full, taken_is, limit_is, inl (none, wants))
      (Nothing none refl) (clean, refl)
  stops_unopened (fault.Wave said offset) u = let (has, clean, none) = u.cause in
      stops u.given u.gave u.in_limit none (fault.Wave said offset) has (Nothing none refl) (clean, refl)
  stops_unopened (fault.Au said offset) u = let (has, clean, none) = u.cause in
      stops u.given u.gave u.in_limit none (fault.Au said offset) has (Nothing none refl) (clean, refl)
  stops_unopened (fault.Riff size limit) u = absurd u.cause
  stops_unopened fault.Write u = absurd u.cause

-- ---- the header came, and no sample

nothing_in : (declared : Option ℕ) (start n : ℕ) → n ≡ start → IfSome declared (λ size. n ≤ start + size)
nothing_in None start n is = tt
nothing_in (Some size) start n is = omega (arith, is)

module _ (direction : Direction) (header : OpenHeader) (input now : SourceState) (sink : SinkState)
    (opened : Opened direction header input now) where
  has : IsSource direction opened.first header
  has = subst (λ bytes. IsSource direction bytes header) (append-nil opened.first) (opened.said [])

  same : (other : OpenHeader) → IsSource direction opened.first other → header ≡ other
  same other is = ap (λ (o : Option OpenHeader). unwrap_or o header) (sym has ∙ is)

  lags : (written : List ℕ) → LagsByOne direction header opened.first written
  lags written =
      record {
        blocks = 0;
        taken = omega (arith, opened.start);
        wrote = inl refl;
        one = omega (arith, opened.start);
      }

  stops_opened : (error : ConvertFault) (after : SinkState) (written : List ℕ) → Took sink after written →
      IsCause error direction opened.first now
      → HasWritten error direction opened.first written now sink after → CountsFault error input now sink after →
      Stopped direction error input now sink after
  stops_opened error after written took cause wrote faults =
      record {
        given = opened.first;
        written = written;
        gave = opened.gave;
        in_limit = opened.in_limit;
        put = took.put;
        unflushed = unflushed_by error sink after written took.settled;
        cause = cause;
        wrote = wrote;
        faults = faults;
        in_declared = λ other is. subst (λ (h : OpenHeader). IfSome (declared_bytes h)
            (λ size. length opened.first ≤ h.start + size)) (same other is)
            (nothing_in (declared_bytes header) header.start (length opened.first) (sym opened.start));
        lag = λ other is. subst (λ (h : OpenHeader). LagsByOne direction h opened.first written) (same other is)
            (lags written);
        hinders = hindered direction error opened.first input now opened.gave cause;
      }

  -- the target would be too long
  pub stops_too_long : (error : ConvertFault) → TooLong direction header error →
      Stopped direction error input now sink sink
  stops_too_long (fault.Riff size limit) (long, limit_is) =
      stops_opened (fault.Riff size limit) sink [] (Took-nil sink)
      (header, opened.said, sym opened.start, long, limit_is) refl (opened.no_fault, refl)
  stops_too_long fault.Read h = absurd h
  stops_too_long fault.Write h = absurd h
  stops_too_long (fault.Input taken limit) h = absurd h
  stops_too_long (fault.Wave said offset) h = absurd h
  stops_too_long (fault.Au said offset) h = absurd h

  -- its header was not written
  pub stops_unwritten : (k : ℕ) → k < length (form_header (target_form direction) header) → (after : SinkState) →
      Took sink after (take k (form_header (target_form direction) header)) → after.faults ≡ one_more sink.faults →
      Stopped direction fault.Write input now sink after
  stops_unwritten k less after took faulty =
      let head = form_header (target_form direction) header in
      let samples = form_coded (target_form direction) header.coding (source_signal direction header opened.first) in
      let whole : head ++ samples ≡ take k head ++ (drop k head ++ samples) =
      ap (λ xs. xs ++ samples) (sym (take-append-drop k head)) ∙ append_assoc (take k head) (drop k head) samples in
      let fewer : length (take k head) < length (head ++ samples) =
      omega (arith, less, length-take-le k head (omega (arith, less)), length-append head samples) in
      stops_opened fault.Write after (take k head) took (header, has)
      (header, has, inl ((drop k head ++ samples, whole), fewer)) (opened.no_fault, faulty)

-- ---- all samples were written

module _ (direction : Direction) (header : OpenHeader) (count : ℕ) (input now : SourceState)
    (sink between after : SinkState) (passed : Passed direction header count input now sink between) where
  abbrev samples : List ℕ
  samples = target_of_signal direction header (source_signal direction header passed.given)

  abbrev last : List ℕ
  last = form_pad (target_form direction) header

  further : (written : List ℕ) → Begins samples written → LagsByOne direction header passed.given written
  further written (rest, is) =
      record {
        blocks = passed.lag.blocks;
        taken = passed.lag.taken;
        wrote = by_wrote _ passed.lag.wrote;
        one = passed.lag.one;
      }
    where
      by_wrote : {P : Type 0} (front : List ℕ) → P ⊎ Begins front samples → P ⊎ Begins front written
      by_wrote front (inl none) = inl none
      by_wrote front (inr (more, e)) = inr (more ++ rest, is ∙ ap (λ xs. xs ++ rest) e ∙ append_assoc front more rest)

  pub done : (converted : Converted) → after.put ≡ append_put between.put last → IsSettled after →
      after.faults ≡ between.faults
      → converted.frames ≡ length (source_signal direction header passed.given) →
      converted.channels ≡ header.channels → converted.bits ≡ 8 * width header.coding
      → Done direction converted input now sink after
  done converted put settled clean frames channels bits =
      let is = target_is direction passed.given header passed.has in
      record {
        given = passed.given;
        header = header;
        gave = passed.gave;
        has = passed.has;
        in_limit = passed.in_limit;
        room_left = passed.room_left;
        whole = passed.whole;
        fits = passed.fits;
        put = put ∙ ap (λ known. append_put known last) passed.took.put ∙
            sym (append_put-append sink.put samples last) ∙ ap (append_put sink.put) (sym is);
        told = target_told direction header passed.good passed.given input now passed.stays passed.gave passed.whole;
        lag = further (target direction passed.given) (last, is);
        settled = settled;
        no_input_fault = passed.no_input_fault;
        no_output_fault = clean ∙ passed.no_output_fault;
        frames = frames;
        channels = channels;
        bits = bits;
      }

  pub unclosed : (written : List ℕ) → Begins written last → after.put ≡ append_put between.put written →
      after.faults ≡ one_more between.faults → Stopped direction fault.Write input now sink after
  unclosed written (rest, begins) put faulty =
      let all : target_with direction header passed.given ≡ (samples ++ written) ++ rest =
      ap (λ xs. samples ++ xs) begins ∙ sym (append_assoc samples written rest) in
      record {
        given = passed.given;
        written = samples ++ written;
        gave = passed.gave;
        in_limit = passed.in_limit;
        unflushed = tt;
        put = put ∙ ap (λ known. append_put known written) passed.took.put ∙
            sym (append_put-append sink.put samples written);
        cause = (header, passed.has);
        wrote = (header, passed.has, inr ((rest, all), passed.whole));
        faults = (passed.no_input_fault, faulty ∙ ap one_more passed.no_output_fault);
        in_declared = λ other is. subst (λ (h : OpenHeader). IfSome (declared_bytes h)
            (λ size. length passed.given ≤ h.start + size)) (same other is)
            (by_size (declared_bytes header) passed.whole);
        lag = λ other is. subst (λ (h : OpenHeader). LagsByOne direction h passed.given (samples ++ written))
            (same other is) (further (samples ++ written) (written, refl));
        hinders = always_fails input.left (IsFree direction) fault.Write tt;
      }
    where
      same : (other : OpenHeader) → IsSource direction passed.given other → header ≡ other
      same other is = ap (λ (o : Option OpenHeader). unwrap_or o header) (sym passed.has ∙ is)

      by_size : (size : Option ℕ) → IsTakenAll size header.start (length passed.given) now →
          IfSome size (λ size. length passed.given ≤ header.start + size)
      by_size None whole = tt
      by_size (Some size) whole = omega (arith, whole)
