-- Reading a header chunk by chunk.
use Rattle.std.proofs.Common.{◌≡◌, ◌⊎◌, ℕ, zero, suc, ◌+◌, ◌-◌, ◌<◌, ◌≤◌, Bool, true, false, not, nat_eq, nat_le}
use Rattle.std.proofs.Common.{if◌then◌else◌, List, [], ◌∷◌, ◌++◌, length, take, drop, Option, Some, Result, Err, refl}
use Rattle.std.proofs.Common.{sym, ap, ap₂, ◌∙◌, arith, length-append, subst, inl, inr, ◌||◌}
use Rattle.std.proofs.lemmas.Grind.{common_steps}
use Rattle.std.proofs.lemmas.Slice.Eq.{bytes_eq-Decides}
use Rattle.std.proofs.Math.Seq.{take-append-add}
use Rattle.std.specs.Str.{bytes_eq}
use Rattle.dsp_ports.specs.Ports.{SourceState, one_more}
use Rattle.std.specs.Result.{IsErr}
use Rattle.dsp_ports.proofs.Moved.{Gave-append, Gave-nil}
use Rattle.dsp_defs.specs.Wave.{Chunk, Test, first_failed, pcm_tests, sample_tests, extensible_tag, u16_at}
use Rattle.dsp_defs.specs.Wave.{format_fault}
use Rattle.dsp_defs.proofs.WaveLemmas.{piece-append, u16_at-append}
use Rattle.dsp_defs.specs.declared.limits.TheConstants.{MAX_INPUT}
use Rattle.dsp_defs.specs.declared.wave.Wanted.{Wanted}
use Rattle.dsp_defs.specs.declared.wave.Header.{Header}
use Rattle.dsp_defs.specs.declared.wave.HeaderFault.{HeaderFault}
use Rattle.dsp_defs.specs.declared.wave.HeaderFault.TheVariants.{NoSamples}
use Rattle.dsp_wave.specs.declared.reader.HeaderOr.{HeaderOr}
use Rattle.dsp_wave.specs.declared.reader.HeaderOr.TheVariants.{Fault, Read, Long}
use Rattle.dsp_wave.specs.Reading.{Says, HasCause, Stopped}
use Rattle.dsp_wave.specs.Taking.{Came, IsMissed, Missing, IsEnough, format_chunk}

-- ---- pieces, one after another

pub nothing_came : (place : ℕ) (now : SourceState) → place ≤ MAX_INPUT → Came place 0 now now []
nothing_came place now in_limit = record {
  long = refl;
  gave = Gave-nil now;
  in_limit =
      omega (arith, in_limit);
  no_fault = refl;
  going = refl;
}

pub both_came : (place first second : ℕ) (old mid now : SourceState) (front back : List ℕ) →
    Came place first old mid front → Came (place + first) second mid now back →
    Came place (first + second) old now (front ++ back)
both_came place first second old mid now front back a b =
    record {
      long = omega (arith, length-append front back, a.long, b.long);
      gave = Gave-append old mid now front back a.going a.gave b.gave;
      in_limit = omega (arith, b.in_limit);
      no_fault = b.no_fault ∙ a.no_fault;
      going = b.going ∙ a.going;
    }

missed_later : (error : HeaderOr) (place first : ℕ) (old mid now : SourceState) (front bytes : List ℕ) →
    length front ≡ first → mid.faults ≡ old.faults → IsMissed error (place + first) mid now bytes →
    IsMissed error place old now (front ++ bytes)
missed_later (Fault fault offset) place first old mid now front bytes long clean missed =
    (missed.0, omega (arith, missed.1, long, length-append front bytes), missed.2, missed.3 ∙ clean)
missed_later Read place first old mid now front bytes long clean missed =
    (missed.0 ∙ ap one_more clean, omega (arith, missed.1, long, length-append front bytes))
missed_later Long place first old mid now front bytes long clean missed =
    (omega (arith, missed.0, long, length-append front bytes), missed.1 ∙ clean)

-- ---- ends

module _ (says : Says) (place : ℕ) (old now : SourceState) where
  caused : (error : HeaderOr) (bytes : List ℕ) → says bytes ≡ Err (NoSamples, place + length bytes) →
      IsMissed error place old now bytes → HasCause error says place old now bytes
  caused (Fault fault offset) bytes said missed = (
    inr (
      missed.2,
      said ∙ ap₂ {C = Result Header (HeaderFault × ℕ)} (λ (f : HeaderFault) (o : ℕ). Err (f, o))
          (sym missed.0) (sym missed.1),
    ),
    missed.3,
  )
  caused Read bytes said missed = (missed.0, missed.1, subst IsErr (sym said) refl, inr said)
  caused Long bytes said missed = (
    missed.0,
    said ∙ ap {B = Result Header (HeaderFault × ℕ)}
        (λ (o : ℕ). Err (NoSamples, o)) missed.0,
    missed.1,
  )

  -- fewer bytes came than any header needs
  pub stops_missing : (count : ℕ) (error : HeaderOr) →
      ((bytes : List ℕ) → length bytes < count → says bytes ≡ Err (NoSamples, place + length bytes)) →
      Missing place count old now error → Stopped says place old now error
  stops_missing count error needs missing =
      record {
        bytes = missing.bytes;
        gave = missing.gave;
        in_limit = missing.in_limit;
        cause =
            caused error missing.bytes (needs missing.bytes missing.short) missing.missed;
      }

  -- fewer came behind a front than it needs
  pub stops_later : (first count : ℕ) (mid : SourceState) (front : List ℕ) (error : HeaderOr) →
      ((more : List ℕ) → length more < count → says (front ++ more) ≡ Err (NoSamples, place + length (front ++ more)))
      → Came place first old mid front → Missing (place + first) count mid now error → Stopped says place old now error
  stops_later first count mid front error needs a m =
      record {
        bytes = front ++ m.bytes;
        gave = Gave-append old mid now front m.bytes a.going a.gave m.gave;
        in_limit = omega (arith, length-append front m.bytes, a.long, m.in_limit);
        cause = caused error (front ++ m.bytes) (needs m.bytes m.short)
            (missed_later error place first old mid now front m.bytes a.long a.no_fault m.missed);
      }

  -- what came has this fault, whatever comes behind it
  pub stops_sure : (count : ℕ) (bytes : List ℕ) (fault : HeaderFault) (offset : ℕ) → Came place count old now bytes →
      ((more : List ℕ) → says (bytes ++ more) ≡ Err (fault, offset)) → Stopped says place old now (Fault fault offset)
  stops_sure count bytes fault offset came said = record {
    bytes = bytes;
    gave = came.gave;
    in_limit = omega (arith, came.long, came.in_limit);
    cause =
        (inl said, came.no_fault);
  }

pub take-no_longer : {A : Type 0} (n : ℕ) (xs : List A) → length (take n xs) ≤ length xs
take-no_longer zero xs = omega arith
take-no_longer (suc n) [] = omega arith
take-no_longer (suc n) (x ∷ xs) = omega (arith, take-no_longer n xs)

pub bytes_eq-same : (xs ys : List ℕ) → bytes_eq xs ys ≡ true → xs ≡ ys
bytes_eq-same xs ys e = grind (arith, common_steps, bytes_eq-Decides xs ys, e)

-- ---- as much of a `fmt ` chunk as is judged

-- of a body that goes on, as much as a chunk has begins with it
pub longer_piece : (size : ℕ) (body more : List ℕ) → length body ≤ size → (rest : List ℕ) ×
    (take size (body ++ more) ≡ body ++ rest)
longer_piece size body more within =
    let parts : size ≡ length body + (size - length body) = omega (arith, within) in (
      take (size - length body) more,
      ap (λ n. take n (body ++ more)) parts ∙
          take-append-add body more (size - length body),
    )

-- an extension that is cut
pub cut_extension : (wanted : Wanted) (total : ℕ) (c : Chunk) → 40 ≤ c.size → 16 ≤ length c.body → length c.body < 40 →
    u16_at c.body 0 ≡ extensible_tag → format_fault wanted total c ≡ Some (NoSamples, total)
cut_extension wanted total c size long short tag = grind (arith, common_steps, size, long, short, tag)

-- the first test that fails is the same
abbrev SameTests : List Test → List Test → Type 0
SameTests [] [] = Unit {0}
SameTests (t ∷ ts) (u ∷ us) = ((t ≡ u) ⊎ ((t.holds ≡ true) × (u.holds ≡ true))) × (t.holds ≡ true → SameTests ts us)
SameTests _ _ = ⊥

by_first : (t u : Test) (rest rest' : Option (HeaderFault × ℕ)) → (t ≡ u) ⊎ ((t.holds ≡ true) × (u.holds ≡ true)) →
    (t.holds ≡ true → rest ≡ rest')
    → (if t.holds then rest else Some (t.fault, t.offset)) ≡ (if u.holds then rest' else Some (u.fault, u.offset))
by_first t u rest rest' (inl same) later = by_test t.holds refl ∙
    ap (λ v. if v.holds then rest' else Some (v.fault, v.offset)) same
  where
    by_test : (b : Bool) → t.holds ≡ b → (if t.holds then rest else Some (t.fault, t.offset)) ≡
        (if t.holds then rest' else Some (t.fault, t.offset))
    by_test true e = ap (λ h. if h then rest else Some (t.fault, t.offset)) e ∙ later e ∙
        ap (λ h. if h then rest' else Some (t.fault, t.offset)) (sym e)
    by_test false e = ap (λ h. if h then rest else Some (t.fault, t.offset)) e ∙
        ap (λ h. if h then rest' else Some (t.fault, t.offset)) (sym e)
by_first t u rest rest' (inr (first, second)) later =
    ap (λ h. if h then rest else Some (t.fault, t.offset)) first ∙ later first ∙
    ap (λ h. if h then rest' else Some (u.fault, u.offset)) (sym second)

same_tests : (ts us : List Test) → SameTests ts us → first_failed ts ≡ first_failed us
same_tests [] [] h = refl
same_tests [] (u ∷ us) h = absurd h
same_tests (t ∷ ts) [] h = absurd h
same_tests (t ∷ ts) (u ∷ us) (here, later) = by_first t u (first_failed ts) (first_failed us) here
    (λ holds. same_tests ts us (later holds))

-- the bytes behind it change no fault
module _ (wanted : Wanted) (place size : ℕ) (body rest : List ℕ) (enough : IsEnough size body) (total : ℕ) where
  abbrev tests : List Test
  tests = pcm_tests 0 (format_chunk place size body) ++ sample_tests wanted (format_chunk place size body)

  abbrev more_tests : List Test
  more_tests = pcm_tests total (format_chunk place size (body ++ rest)) ++ sample_tests wanted
      (format_chunk place size (body ++ rest))

  pub tag : u16_at (body ++ rest) 0 ≡ u16_at body 0
  tag = u16_at-append body rest 0 (omega (arith, enough.plain))

  longer : length body ≤ length (body ++ rest)
  longer = omega (arith, length-append body rest)

  same_samples : SameTests (drop 6 more_tests) (drop 6 tests)
  same_samples =
      let channels = u16_at-append body rest 2 (omega (arith, enough.plain)) in
      let align = u16_at-append body rest 12 (omega (arith, enough.plain)) in
      let bits = u16_at-append body rest 14 (omega (arith, enough.plain)) in
      (inl (rw channels refl), λ _. (inl (rw bits refl), λ _. (inl (rw (bits, align) refl), λ _. tt)))

  by_tag : (extended : Bool) → nat_eq (u16_at body 0) extensible_tag ≡ extended →
      SameTests (drop 3 more_tests) (drop 3 tests)
  by_tag false plain =
      let both : (b : Bool) → (not (nat_eq (u16_at (body ++ rest) 0) extensible_tag) || b) ≡ true =
      λ b. ap (λ t. not (nat_eq t extensible_tag) || b) tag ∙ ap (λ e. not e || b) plain in
      let one : (b : Bool) → (not (nat_eq (u16_at body 0) extensible_tag) || b) ≡ true =
      λ b. ap (λ e. not e || b) plain in
      (inr (both _, one _), λ _. (inr (both _, one _), λ _. (inr (both _, one _), λ _. same_samples)))
  by_tag true extended = (inl (rw tag refl), λ holds. in_extension (long holds))
    where
      long : (not (nat_eq (u16_at (body ++ rest) 0) extensible_tag) || nat_le 40 size) ≡ true → 40 ≤ size
      long holds = grind (arith, common_steps, holds, tag, extended)

      in_extension : 40 ≤ size → SameTests (drop 4 more_tests) (drop 4 tests)
      in_extension enough_bytes =
          let is : u16_at body 0 ≡ extensible_tag = grind (arith, common_steps, extended) in
          let there : 40 ≤ length body = enough.extended is enough_bytes in
          let subformat = u16_at-append body rest 24 (omega (arith, there)) in
          let piece = piece-append 16 24 body rest (omega (arith, there)) in (
            inr (grind (arith, common_steps, longer, there), grind (arith, common_steps, there)),
            λ _. (inl (rw (tag, subformat, piece) refl), λ _. same_samples),
          )

  pub same_fault : format_fault wanted total (format_chunk place size (body ++ rest)) ≡ format_fault wanted 0
      (format_chunk place size body)
  same_fault =
      same_tests more_tests tests (
        inl refl,
        λ _. (
          inr (grind (arith, common_steps, longer, enough.plain), grind (arith, common_steps, enough.plain)),
          λ _. (inl (rw tag refl), λ _. by_tag (nat_eq (u16_at body 0) extensible_tag) refl),
        ),
      )
