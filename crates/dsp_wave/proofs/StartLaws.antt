-- The first twelve bytes of a WAVE file, and a header read from a sooner place.
use Rattle.std.proofs.Common.{◌≡◌, ◌⊎◌, ℕ, ◌+◌, ◌<◌, ◌≤◌, Bool, true, false, not, List, [], ◌∷◌, ◌++◌, length, take}
use Rattle.std.proofs.Common.{drop, codes, Result, Err, refl, sym, ap, ◌∙◌, arith, length-append, append_assoc, subst}
use Rattle.std.proofs.Common.{inl, inr, ⊎_elim}
use Rattle.std.proofs.lemmas.Grind.{common_steps}
use Rattle.std.proofs.lemmas.List.{take-append-le, drop-append-le, take-take, take_all, length-take-le, length-drop}
use Rattle.std.proofs.lemmas.List.{append-nil}
use Rattle.std.proofs.lemmas.Bool.{cases_lt}
use Rattle.std.specs.Str.{bytes_eq}
use Rattle.dsp_ports.specs.Ports.{SourceState, one_more}
use Rattle.dsp_ports.specs.Fill.{Filled, Unfilled}
use Rattle.dsp_ports.specs.declared.filling.FillFault.{FillFault}
use Rattle.dsp_ports.specs.declared.filling.FillFault.TheVariants.{Failed, LimitReached}
use Rattle.std.specs.Result.{IsErr}
use Rattle.dsp_ports.proofs.Moved.{Gave-append}
use Rattle.dsp_defs.specs.Wave.{header_of}
use Rattle.dsp_defs.specs.declared.limits.TheConstants.{MAX_INPUT}
use Rattle.dsp_defs.specs.declared.wave.Wanted.{Wanted}
use Rattle.dsp_defs.specs.declared.wave.Header.{Header}
use Rattle.dsp_defs.specs.declared.wave.HeaderFault.{HeaderFault}
use Rattle.dsp_defs.specs.declared.wave.HeaderFault.TheVariants.{NotRiff, NotWave, NoSamples}
use Rattle.dsp_wave.specs.declared.reader.HeaderOr.{HeaderOr}
use Rattle.dsp_wave.specs.declared.reader.HeaderOr.TheVariants.{Fault, Read, Long}
use Rattle.dsp_wave.specs.Reading.{Says, IsHeaderOf, HasCause, Stopped, Headed, IsCut}
use Rattle.dsp_wave.specs.Taking.{Came}
use Rattle.dsp_wave.proofs.ReaderLaws.{take-no_longer}
use Rattle.dsp_defs.proofs.WaveCuts.{short_is_other}

-- ---- the first twelve bytes

module _ (wanted : Wanted) where
  not_riff : (bytes : List ℕ) → bytes_eq (take 4 bytes) (codes "RIFF") ≡ false →
      header_of bytes wanted ≡ Err (NotRiff, 0)
  not_riff bytes h = grind (arith, common_steps, h)

  not_wave : (bytes : List ℕ) → bytes_eq (take 4 bytes) (codes "RIFF") ≡ true →
      bytes_eq (take 4 (drop 8 bytes)) (codes "WAVE") ≡ false → header_of bytes wanted ≡ Err (NotWave, 8)
  not_wave bytes h k = grind (arith, common_steps, h, k)

-- a test that bytes are not the same
pub not_same : (differ : Bool) (xs ys zs : List ℕ) → ys ≡ zs → differ ≡ not (bytes_eq xs ys) → differ ≡ true →
    bytes_eq xs zs ≡ false
not_same differ xs ys zs same is so = ap (bytes_eq xs) (sym same) ∙ flipped (bytes_eq xs ys) (sym is ∙ so)
  where
    flipped : (b : Bool) → not b ≡ true → b ≡ false
    flipped false e = refl
    flipped true e = absurd cc

-- fewer than twelve bytes head no file
short_file : (wanted : Wanted) (bytes : List ℕ) → length bytes < 12 → IsErr (header_of bytes wanted)
short_file wanted bytes short = by_riff (bytes_eq (take 4 bytes) (codes "RIFF")) refl
  where
    few : length (take 4 (drop 8 bytes)) < 4
    few = omega (arith, take-no_longer 4 (drop 8 bytes), length-drop 8 bytes, short)

    by_riff : (riff : Bool) → bytes_eq (take 4 bytes) (codes "RIFF") ≡ riff → IsErr (header_of bytes wanted)
    by_riff false is = subst IsErr (sym (not_riff wanted bytes is)) refl
    by_riff true is = subst IsErr (sym (not_wave wanted bytes is
        (short_is_other (take 4 (drop 8 bytes)) (codes "WAVE") few))) refl

-- the source has failed within them
fails_riff : (says : Says) → IsHeaderOf says → (old now : SourceState) → Unfilled old now 12 MAX_INPUT Failed →
    Stopped says 0 old now Read
fails_riff says by_header old now u =
    record {
      bytes = u.bytes;
      gave = u.gave;
      in_limit = omega (arith, u.in_room);
      cause = (
        u.cause.0,
        omega (arith, u.cause.1),
        (let (wanted, is) = by_header u.bytes in
            subst IsErr (sym is) (short_file wanted u.bytes u.short)),
        inl (omega (arith, u.short)),
      );
    }

pub fails_any : (says : Says) → IsHeaderOf says → (old now : SourceState) (size room : ℕ) (fault : FillFault) →
    size ≡ 12 → room ≡ MAX_INPUT → Unfilled old now size room fault → Stopped says 0 old now Read
fails_any says by_header old now size room Failed twelve all u =
    fails_riff says by_header old now (rw (twelve, all) at u)
fails_any says by_header old now size room LimitReached twelve all u =
    absurd (omega (arith, twelve, all, u.short, u.cause.1))

module _ (says : Says) (by_header : IsHeaderOf says) (old now : SourceState) (block : List ℕ) (count : ℕ)
    (twelve : length block ≡ 12) (filled : Filled old now block MAX_INPUT count) where
  abbrev first : List ℕ
  first = take count block

  first_long : length first ≡ count
  first_long = length-take-le count block filled.within

  -- a fault that the first bytes have, where nothing comes behind them or there are twelve
  stops_with : (fault : HeaderFault) (offset : ℕ) → ((more : List ℕ) → (count ≡ 12) ⊎ (more ≡ []) →
      says (first ++ more) ≡ Err (fault, offset)) → Stopped says 0 old now (Fault fault offset)
  stops_with fault offset said =
      record {
        bytes = first;
        gave = filled.gave;
        in_limit = omega (arith, first_long, filled.in_room);
        cause = (
          ⊎_elim (λ less. inr (
            filled.end (omega (arith, less, twelve)),
            ap says (sym (append-nil first)) ∙
                said [] (inr refl),
          ))
              (λ all. inl (λ more. said more (inl (omega (arith, all, filled.within, twelve))))) (cases_lt count 12),
          filled.no_fault,
        );
      }

  alone : (less : count < 12) (more : List ℕ) → (count ≡ 12) ⊎ (more ≡ []) → first ++ more ≡ first
  alone less more (inl all) = absurd (omega (arith, less, all))
  alone less more (inr none) = ap (λ xs. first ++ xs) none ∙ append-nil first

  same_begin : 4 ≤ count → (more : List ℕ) → take 4 (first ++ more) ≡ take 4 block
  same_begin enough more = take-append-le 4 first more (omega (arith, enough, first_long)) ∙
      take-take 4 count block enough

  pub short_riff : count < 4 → Stopped says 0 old now (Fault NotRiff 0)
  short_riff less = stops_with NotRiff 0 (λ more h. let (wanted, is) = by_header first in
      ap says (alone (omega (arith, less)) more h) ∙ is ∙
      not_riff wanted first (short_is_other (take 4 first) (codes "RIFF")
      (omega (arith, take-no_longer 4 first, first_long, less))))

  pub other_riff : 4 ≤ count → bytes_eq (take 4 block) (codes "RIFF") ≡ false → Stopped says 0 old now (Fault NotRiff 0)
  other_riff enough other = stops_with NotRiff 0 (λ more h. let (wanted, is) = by_header (first ++ more) in is ∙
      not_riff wanted (first ++ more) (ap (λ xs. bytes_eq xs (codes "RIFF")) (same_begin enough more) ∙ other))

  module _ (enough : 4 ≤ count) (riff : bytes_eq (take 4 block) (codes "RIFF") ≡ true) where
    is_riff : (more : List ℕ) → bytes_eq (take 4 (first ++ more)) (codes "RIFF") ≡ true
    is_riff more = ap (λ xs. bytes_eq xs (codes "RIFF")) (same_begin enough more) ∙ riff

    pub short_wave : count < 12 → Stopped says 0 old now (Fault NotWave 8)
    short_wave less =
        let few : length (take 4 (drop 8 first)) < 4 = omega
        (arith, take-no_longer 4 (drop 8 first), length-drop 8 first, first_long, less, enough) in
        stops_with NotWave 8 (λ more h. let (wanted, is) = by_header first in ap says (alone less more h) ∙ is ∙
        not_wave wanted first (ap (λ xs. bytes_eq (take 4 xs) (codes "RIFF")) (sym (append-nil first)) ∙ is_riff [])
        (short_is_other (take 4 (drop 8 first)) (codes "WAVE") few))

    module _ (all : 12 ≤ count) where
      whole_first : first ≡ block
      whole_first = take_all count block (omega (arith, all, twelve))

      behind_riff : (more : List ℕ) → take 4 (drop 8 (first ++ more)) ≡ take 4 (drop 8 block)
      behind_riff more =
          ap (λ xs. take 4 (drop 8 (xs ++ more))) whole_first
          ∙ ap (take 4) (drop-append-le 8 block more (omega (arith, twelve)))
          ∙ take-append-le 4 (drop 8 block) more (omega (arith, length-drop 8 block, twelve))

      pub other_wave : bytes_eq (take 4 (drop 8 block)) (codes "WAVE") ≡ false →
          Stopped says 0 old now (Fault NotWave 8)
      other_wave other = stops_with NotWave 8 (λ more h. let (wanted, is) = by_header (first ++ more) in is ∙
          not_wave wanted (first ++ more) (is_riff more) (ap (λ xs. bytes_eq xs (codes "WAVE")) (behind_riff more) ∙
          other))

-- ---- from a sooner place

module _ (says later : Says) (begin count place : ℕ) (here : place ≡ begin + count) (old mid now : SourceState)
    (front : List ℕ) (came : Came begin count old mid front)
    (said : (more : List ℕ) → says (front ++ more) ≡ later more) where
  said_sooner : (bytes more : List ℕ) → says ((front ++ bytes) ++ more) ≡ later (bytes ++ more)
  said_sooner bytes more = ap says (append_assoc front bytes more) ∙ said (bytes ++ more)

  -- both pieces end where the second does
  end : (bytes : List ℕ) → begin + length (front ++ bytes) ≡ place + length bytes
  end bytes = omega (arith, here, came.long, length-append front bytes)

  cause_sooner : (error : HeaderOr) (bytes : List ℕ) → HasCause error later place mid now bytes →
      HasCause error says begin old now (front ++ bytes)
  cause_sooner (Fault fault offset) bytes (inl sure, clean) =
      (inl (λ more. said_sooner bytes more ∙ sure more), clean ∙ came.no_fault)
  cause_sooner (Fault fault offset) bytes (inr (end, sure), clean) =
      (inr (end, said bytes ∙ sure), clean ∙ came.no_fault)
  cause_sooner Read bytes (rose, few, bad, cut) = (
    rose ∙ ap one_more came.no_fault,
    omega (arith, few, end bytes),
    subst IsErr (sym (said bytes)) bad,
    cut_sooner cut,
  )
    where
      cut_sooner : IsCut later place bytes → IsCut says begin (front ++ bytes)
      cut_sooner (inl less) = inl (omega (arith, less, end bytes))
      cut_sooner (inr is) = inr (said bytes ∙ is ∙ ap {B = Result Header (HeaderFault × ℕ)}
          (λ (o : ℕ). Err (NoSamples, o)) (sym (end bytes)))
  cause_sooner Long bytes cause = (omega (arith, cause.0, end bytes), said bytes ∙ cause.1, cause.2 ∙ came.no_fault)

  pub stopped_sooner : (error : HeaderOr) → Stopped later place mid now error → Stopped says begin old now error
  stopped_sooner error s =
      record {
        bytes = front ++ s.bytes;
        gave = Gave-append old mid now front s.bytes came.going came.gave s.gave;
        in_limit = omega (arith, s.in_limit, end s.bytes);
        cause = cause_sooner error s.bytes s.cause;
      }

  pub headed_sooner : (header : Header) → Headed later place mid now header → Headed says begin old now header
  headed_sooner header h =
      record {
        bytes = front ++ h.bytes;
        gave = Gave-append old mid now front h.bytes came.going came.gave h.gave;
        in_limit = omega (arith, h.in_limit, end h.bytes);
        said = λ more. said_sooner h.bytes more ∙ h.said more;
        start = omega (arith, h.start, end h.bytes);
        no_fault = h.no_fault ∙ came.no_fault;
        going = h.going ∙ came.going;
      }
