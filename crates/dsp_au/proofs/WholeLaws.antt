-- The file in the other form of an input whose samples were all taken, where it tells what stands behind them.
use Rattle.std.proofs.Common.{◌≡◌, ℕ, ◌+◌, ◌-◌, ◌*◌, ◌/◌, ◌<◌, ◌≤◌, List, [], ◌++◌, length, take, drop, Option, Some}
use Rattle.std.proofs.Common.{None, IfSome, refl, sym, ap, ◌∙◌, subst, arith, append-nil, length-append, take-take}
use Rattle.std.proofs.lemmas.List.{take_all, take_at, drop-append-le, length-take, length-drop}
use Rattle.std.proofs.lemmas.Nat.{div-mul-add}
use Rattle.std.specs.Option.{option_map}
use Rattle.std.specs.Io.KnownBytes.{IsAtEnd, prepend_known}
use Rattle.dsp_ports.specs.Ports.{SourceState, Gave}
use Rattle.dsp_defs.specs.Block.{Frame}
use Rattle.dsp_defs.specs.Open.{IsOpenGood}
use Rattle.dsp_defs.specs.Output.{sample_bytes_at}
use Rattle.dsp_defs.specs.Au.{form_pad, open_frame_bytes, source_signal, target, target_form, target_of_signal}
use Rattle.dsp_defs.specs.Au.{target_with}
use Rattle.dsp_defs.specs.declared.au.Direction.{Direction}
use Rattle.dsp_defs.specs.declared.wave.OpenHeader.{OpenHeader}
use Rattle.dsp_au.specs.Convert.{IsSource, IsTakenWhole, in_whole_frames}
use Rattle.dsp_au.proofs.ConvertLaws.{IsTakenAll}
use Rattle.dsp_au.proofs.FrameLaws.{signal, signal-whole, some_frame}

pub target_is : (direction : Direction) (given : List ℕ) (header : OpenHeader) → IsSource direction given header →
    target direction given ≡ target_with direction header given
target_is direction given header is = ap (λ (h : Option OpenHeader). elim h
    [ Some header ↦ target_with direction header given | None ↦ [] ]) is

quotient_is : (n f m : ℕ) → 0 < f → n * f ≤ m → m < n * f + f → m / f ≡ n
quotient_is n f m some low high =
    let split : m ≡ n * f + (m - n * f) = omega (arith, low) in
    ap (λ k. k / f) split ∙ div-mul-add n f (m - n * f) (omega (arith, low, high))

floor_below : (n f : ℕ) → 0 < f → (n / f * f ≤ n) × (n < n / f * f + f)
floor_below n f some = grind (arith)

module _ (direction : Direction) (header : OpenHeader) (good : IsOpenGood header) (given : List ℕ)
    (input now : SourceState) (stays : (more : List ℕ) → IsSource direction (given ++ more) header)
    (gave : Gave input now given) (whole : IsTakenWhole header (length given) now) where
  abbrev frame : ℕ
  frame = open_frame_bytes header

  abbrev x : List ℕ → List Frame
  x bytes = signal direction header good bytes

  has : IsSource direction given header
  has = subst (λ bytes. IsSource direction bytes header) (append-nil given) (stays [])

  -- less than a frame behind the declared ones gives none
  declared_stay : (more : List ℕ) (size : ℕ) → length given ≡ header.start + in_whole_frames header size
      → x (take size (drop header.start (given ++ more))) ≡ x (take size (drop header.start given))
  declared_stay more size count =
      let d = drop header.start given in
      let floor = floor_below size frame (some_frame header good) in
      let long : length d ≡ size / frame * frame = omega (arith, count, length-drop header.start given) in
      let split : drop header.start (given ++ more) ≡ d ++ more =
      drop-append-le header.start given more (omega (arith, count)) in
      let all : length (take size (d ++ more)) / frame ≡ size / frame =
      quotient_is (size / frame) frame (length (take size (d ++ more))) (some_frame header good)
      (omega (arith, length-take size (d ++ more), length-append d more, long, floor.0))
      (omega (arith, length-take size (d ++ more), floor.1)) in
      let front : take (size / frame * frame) (take size (d ++ more)) ≡ d =
      take-take (size / frame * frame) size (d ++ more) floor.0 ∙ take_at d more (size / frame * frame) long in
      ap (λ l. x (take size l)) split
      ∙ sym (signal-whole direction header good (take size (d ++ more)))
      ∙ ap (λ n. x (take (n * frame) (take size (d ++ more)))) all
      ∙ ap x front ∙ sym (ap x (take_all size d (omega (arith, long, floor.0))))

  signal_stays : (more : List ℕ) → now.left ≡ Some more →
      source_signal direction header (given ++ more) ≡ source_signal direction header given
  signal_stays more left = by header.size whole
    where
      by : (size : Option ℕ) → IsTakenAll (option_map (in_whole_frames header) size) header.start (length given) now
          → x (sample_bytes_at header.start size (given ++ more)) ≡ x (sample_bytes_at header.start size given)
      by None ended =
          let nothing : more ≡ [] = subst IsAtEnd left ended in
          ap (λ l. x (drop header.start (given ++ l))) nothing ∙ ap (λ l. x (drop header.start l)) (append-nil given)
      by (Some size) count = declared_stay more size count

  target_stays : (more : List ℕ) → now.left ≡ Some more → target direction (given ++ more) ≡ target direction given
  target_stays more left =
      target_is direction (given ++ more) header (stays more)
      ∙ ap (λ (y : List Frame). target_of_signal direction header y ++ form_pad (target_form direction) header)
      (signal_stays more left)
      ∙ sym (target_is direction given header has)

  by_left : (left : Option (List ℕ)) → now.left ≡ left →
      IfSome (prepend_known given left) (λ bytes. target direction bytes ≡ target direction given)
  by_left None is = tt
  by_left (Some more) is = target_stays more is

  pub target_told : IfSome input.left (λ bytes. target direction bytes ≡ target direction given)
  target_told = subst (λ left. IfSome left (λ bytes. target direction bytes ≡ target direction given))
      (sym gave.front) (by_left now.left refl)
