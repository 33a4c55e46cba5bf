-- Reading the header of an AU file.
use Rattle.std.proofs.Common.{◌≡◌, ◌⊎◌, ℕ, ◌+◌, ◌-◌, ◌<◌, ◌≤◌, ◌^◌, Bool, true, false, List, [], ◌∷◌, ◌++◌}
use Rattle.std.proofs.Common.{length, take, codes, Result, Ok, Err, refl, sym, ap, ap₂, ◌∙◌, arith, length-append}
use Rattle.std.proofs.Common.{append_assoc, append-nil, subst, inl, inr, ⊎_elim}
use Rattle.std.proofs.lemmas.Grind.{common_steps}
use Rattle.std.proofs.lemmas.List.{take-append-le, take-take, take_all, take_at, length-take-le}
use Rattle.std.proofs.lemmas.Bool.{cases_lt}
use Rattle.std.specs.Result.{IsErr}
use Rattle.std.specs.Str.{bytes_eq}
use Rattle.dsp_ports.specs.Ports.{SourceState, Gave, one_more}
use Rattle.dsp_ports.specs.Fill.{Filled, Unfilled}
use Rattle.dsp_ports.specs.declared.filling.FillFault.{FillFault}
use Rattle.dsp_ports.specs.declared.filling.FillFault.TheVariants.{Failed, LimitReached}
use Rattle.dsp_ports.proofs.Moved.{Gave-append}
use Rattle.dsp_defs.specs.Au.{au_header_of, au_said, au_whole}
use Rattle.dsp_defs.specs.Open.{IsOpenGood}
use Rattle.dsp_defs.specs.declared.limits.TheConstants.{MAX_INPUT}
use Rattle.dsp_defs.specs.declared.wave.OpenHeader.{OpenHeader}
use Rattle.dsp_defs.specs.declared.au.AuFault.{AuFault}
use Rattle.dsp_defs.specs.declared.au.AuFault.TheVariants.{NotAu, Ended}
use Rattle.dsp_au.specs.declared.fault.AuOr.{AuOr}
use Rattle.dsp_au.specs.declared.fault.AuOr.TheVariants.{Fault, Read, Long}
use Rattle.dsp_au.specs.Reading.{AuCame, AuHeaded, AuMissing, AuStopped, HasAuCause, IsAuMissed}
use Rattle.dsp_defs.proofs.WaveCuts.{short_is_other}
use Rattle.dsp_defs.proofs.AuLaws.{au_is_whole}
use Rattle.dsp_wave.proofs.ReaderLaws.{take-no_longer}

-- ---- what the bytes say

not_au : (bytes : List ℕ) → bytes_eq (take 4 bytes) (codes ".snd") ≡ false → au_header_of bytes ≡ Err (NotAu, 0)
not_au bytes h = grind (arith, common_steps, h)

fields_cut : (bytes : List ℕ) → bytes_eq (take 4 bytes) (codes ".snd") ≡ true → length bytes < 24 →
    au_header_of bytes ≡ Err (Ended, length bytes)
fields_cut bytes h short = grind (arith, common_steps, h, short)

fields_said : (bytes : List ℕ) → bytes_eq (take 4 bytes) (codes ".snd") ≡ true → 24 ≤ length bytes →
    au_header_of bytes ≡ au_whole (length bytes) (au_said (take 24 bytes))
fields_said bytes h enough = grind (arith, common_steps, h, enough)

whole_short : (total : ℕ) (header : OpenHeader) → total < header.start →
    au_whole total (Ok header) ≡ Err (Ended, total)
whole_short total header h = grind (arith, common_steps, h)

-- fewer than the fields head no file
short_file : (bytes : List ℕ) → length bytes < 24 → IsErr (au_header_of bytes)
short_file bytes short = by_begin (bytes_eq (take 4 bytes) (codes ".snd")) refl
  where
    by_begin : (is : Bool) → bytes_eq (take 4 bytes) (codes ".snd") ≡ is → IsErr (au_header_of bytes)
    by_begin false e = subst IsErr (sym (not_au bytes e)) refl
    by_begin true e = subst IsErr (sym (fields_cut bytes e short)) refl

-- the source has failed within the fields
fails_fields : (old now : SourceState) → Unfilled old now 24 MAX_INPUT Failed → AuStopped old now Read
fails_fields old now u =
    record {
      bytes = u.bytes;
      gave = u.gave;
      in_limit = omega (arith, u.in_room);
      cause = (u.cause.0, omega (arith, u.cause.1), short_file u.bytes u.short);
    }

pub fails_any : (old now : SourceState) (size room : ℕ) (fault : FillFault) → size ≡ 24 → room ≡ MAX_INPUT →
    Unfilled old now size room fault → AuStopped old now Read
fails_any old now size room Failed all_size all u = fails_fields old now (rw (all_size, all) at u)
fails_any old now size room LimitReached all_size all u = absurd (omega (arith, all_size, all, u.short, u.cause.1))

module _ (old now : SourceState) (block : List ℕ) (count : ℕ) (size : length block ≡ 24)
    (filled : Filled old now block MAX_INPUT count) where
  abbrev first : List ℕ
  first = take count block

  first_long : length first ≡ count
  first_long = length-take-le count block filled.within

  -- a fault that the first bytes have, where nothing comes behind them or there are 24
  stops_with : (fault : AuFault) (offset : ℕ) → ((more : List ℕ) → (count ≡ 24) ⊎ (more ≡ []) →
      au_header_of (first ++ more) ≡ Err (fault, offset)) → AuStopped old now (Fault fault offset)
  stops_with fault offset said =
      record {
        bytes = first;
        gave = filled.gave;
        in_limit = omega (arith, first_long, filled.in_room);
        cause = (
          ⊎_elim (λ less. inr (
            filled.end (omega (arith, less, size)),
            ap au_header_of (sym (append-nil first)) ∙
                said [] (inr refl),
          ))
              (λ all. inl (λ more. said more (inl (omega (arith, all, filled.within, size))))) (cases_lt count 24),
          filled.no_fault,
        );
      }

  alone : (less : count < 24) (more : List ℕ) → (count ≡ 24) ⊎ (more ≡ []) → first ++ more ≡ first
  alone less more (inl all) = absurd (omega (arith, less, all))
  alone less more (inr none) = ap (λ xs. first ++ xs) none ∙ append-nil first

  same_begin : 4 ≤ count → (more : List ℕ) → take 4 (first ++ more) ≡ take 4 block
  same_begin enough more = take-append-le 4 first more (omega (arith, enough, first_long)) ∙
      take-take 4 count block enough

  pub begin_cut : count < 4 → AuStopped old now (Fault NotAu 0)
  begin_cut less = stops_with NotAu 0 (λ more h. ap au_header_of (alone (omega (arith, less)) more h) ∙
      not_au first (short_is_other (take 4 first) (codes ".snd")
      (omega (arith, take-no_longer 4 first, first_long, less))))

  pub begin_other : 4 ≤ count → bytes_eq (take 4 block) (codes ".snd") ≡ false → AuStopped old now (Fault NotAu 0)
  begin_other enough other = stops_with NotAu 0 (λ more h. not_au (first ++ more)
      (ap (λ xs. bytes_eq xs (codes ".snd")) (same_begin enough more) ∙ other))

  module _ (enough : 4 ≤ count) (begins : bytes_eq (take 4 block) (codes ".snd") ≡ true) where
    is_au : (more : List ℕ) → bytes_eq (take 4 (first ++ more)) (codes ".snd") ≡ true
    is_au more = ap (λ xs. bytes_eq xs (codes ".snd")) (same_begin enough more) ∙ begins

    module _ (all : 24 ≤ count) where
      whole_first : first ≡ block
      whole_first = take_all count block (omega (arith, all, size))

      -- what all that begins with the fields says
      said_by : (more : List ℕ) → au_header_of (block ++ more) ≡ au_whole (24 + length more) (au_said block)
      said_by more =
          let total : length (block ++ more) ≡ 24 + length more = omega (arith, size, length-append block more) in
          fields_said (block ++ more) (ap (λ xs. bytes_eq (take 4 (xs ++ more)) (codes ".snd")) (sym whole_first) ∙
          is_au more) (omega (arith, total))
          ∙ ap₂ (λ n xs. au_whole n (au_said xs)) total (take_at block more 24 size)

      fields_came : AuCame 0 24 old now block
      fields_came = record {
        long = size;
        gave = subst (λ xs. Gave old now xs) whole_first filled.gave;
        no_fault =
            filled.no_fault;
        going = filled.going (omega (arith, all, size));
      }

      pub wrong_fields : (fault : AuFault) (offset : ℕ) → au_said block ≡ Err (fault, offset) →
          AuStopped old now (Fault fault offset)
      wrong_fields fault offset is =
          stops_with fault offset (λ more h. ap (λ xs. au_header_of (xs ++ more)) whole_first ∙ said_by more ∙
          ap (au_whole (24 + length more)) is)

-- ---- behind the fields

-- what is missing before the samples, and where they begin
module _ (old mid now : SourceState) (block : List ℕ) (came : AuCame 0 24 old mid block) (header : OpenHeader)
    (good : IsOpenGood header) (start : 24 ≤ header.start) (few : header.start < 2 ^ 32)
    (said : (more : List ℕ) → au_header_of (block ++ more) ≡ au_whole (24 + length more) (Ok header)) where
  headed : (rest : List ℕ) → AuCame 24 (header.start - 24) mid now rest → AuHeaded old now header
  headed rest second =
      let total : length (block ++ rest) ≡ header.start =
      omega (arith, length-append block rest, came.long, second.long, start) in
      record {
        bytes = block ++ rest;
        gave = Gave-append old mid now block rest came.going came.gave second.gave;
        in_limit = omega (arith, total, few);
        said = λ more.
            ap au_header_of (append_assoc block rest more) ∙ said (rest ++ more)
            ∙ au_is_whole (24 + length (rest ++ more)) header
            (omega (arith, length-append rest more, second.long, start));
        start = sym total;
        good = good;
        no_fault = second.no_fault ∙ came.no_fault;
        going = second.going ∙ came.going;
      }

  cut : (rest : List ℕ) → length rest < header.start - 24 → au_header_of (block ++ rest) ≡ Err (Ended, 24 + length rest)
  cut rest short = said rest ∙ whole_short (24 + length rest) header (omega (arith, short))

  missed : (error : AuOr) (rest : List ℕ) → length rest < header.start - 24 → IsAuMissed error 24 mid now rest →
      HasAuCause error old now (block ++ rest)
  missed (Fault fault offset) rest short m = (
    inr (
      m.2,
      cut rest short ∙ ap₂ {C = Result OpenHeader (AuFault × ℕ)} (λ (f : AuFault) (o : ℕ). Err (f, o))
          (sym m.0) (sym m.1),
    ),
    m.3 ∙ came.no_fault,
  )
  missed Read rest short m = (
    m ∙ ap one_more came.no_fault,
    omega (arith, length-append block rest, came.long, short, few),
    subst IsErr (sym (cut rest short)) refl,
  )
  missed Long rest short m = absurd m

  stopped : (error : AuOr) → AuMissing 24 (header.start - 24) mid now error → AuStopped old now error
  stopped error m =
      record {
        bytes = block ++ m.bytes;
        gave = Gave-append old mid now block m.bytes came.going came.gave m.gave;
        in_limit = omega (arith, length-append block m.bytes, came.long, m.short, few);
        cause = missed error m.bytes m.short m.missed;
      }

-- ---- the whole header

module _ (old mid now : SourceState) (block : List ℕ) (count : ℕ) (size : length block ≡ 24)
    (filled : Filled old mid block MAX_INPUT count)
    (enough : 4 ≤ count) (begins : bytes_eq (take 4 block) (codes ".snd") ≡ true) (all : 24 ≤ count)
    (header : OpenHeader) (good : IsOpenGood header) (start : 24 ≤ header.start) (few : header.start < 2 ^ 32)
    (is : au_said block ≡ Ok header) where
  says : (more : List ℕ) → au_header_of (block ++ more) ≡ au_whole (24 + length more) (Ok header)
  says more = said_by old mid block count size filled enough begins all more ∙ ap (au_whole (24 + length more)) is

  pub headed_behind : (rest : List ℕ) → AuCame 24 (header.start - 24) mid now rest → AuHeaded old now header
  headed_behind rest came = headed old mid now block (fields_came old mid block count size filled enough begins all)
      header good start few says rest came

  pub stopped_behind : (error : AuOr) → AuMissing 24 (header.start - 24) mid now error → AuStopped old now error
  stopped_behind error missing = stopped old mid now block
      (fields_came old mid block count size filled enough begins all) header good start few says error missing
