-- What a chain of a script says of the frames and the numbers of a state.
use Rattle.std.proofs.Common.{◌≡◌, ◌∙◌, ap, sym, subst, true, false, Bool, ℕ, ◌<◌, ◌≤◌, ℤ, List, length, get_or}
use Rattle.std.proofs.Common.{Fits as FitsWidth, w8}
use Rattle.std.specs.Prelude.{IsTrue, ◌↔◌}
use Rattle.std.proofs.lemmas.List.Elements.{All-from_get_or}
use Rattle.dsp_defs.specs.Kept.{FitsBlocks, kept_count_of_chain}
use Rattle.dsp_defs.specs.KeptOfScript.{Fits, kept_count}
use Rattle.dsp_defs.specs.Shape.{gathered}
use Rattle.dsp_defs.specs.StateBytes.{IsState}
use Rattle.dsp_defs.specs.StateFields.{HasText, HasFrames, HasNumbers, count_in, frames_in_state, numbers_in}
use Rattle.dsp_defs.specs.StateFields.{numbers_place, state_end}
use Rattle.dsp_defs.specs.declared.limits.TheConstants.{MAX_GATHERED, MAX_INPUT, MAX_STATE}
use Rattle.dsp_defs.specs.declared.script.Block.{Block}
use Rattle.dsp_defs.specs.declared.script.Script.{Script}
use Rattle.dsp_unit.specs.Line.{Place, blocks_of}
use Rattle.dsp_chain.specs.Chain.{ChainState, IsNewChain, input_place}
use Rattle.dsp_chain.specs.Restored.{FitsChain}
use Rattle.dsp_state.specs.SavedState.{SavedState, IsSaved}
use Rattle.dsp_state.proofs.NumberLaws.{AreBytes}
use Rattle.dsp_state.proofs.StateParts.{is_state}

module _ (script : Script) (block : ℕ) (c : ChainState)
    (new : IsNewChain false (input_place script block) script.blocks c) where
  pub gathers_as : (n r : ℕ) → r ≡ gathered (blocks_of c.units) n → r ≡ gathered script.blocks n
  gathers_as n r is = is ∙ ap (λ (blocks : List Block). gathered blocks n) new.blocks_are

  counts_as : (n r : ℕ) → r ≡ kept_count_of_chain c.input.format c.input.channels (blocks_of c.units) n →
      r ≡ kept_count script n
  counts_as n r is =
      is ∙ ap (λ (blocks : List Block). kept_count_of_chain c.input.format c.input.channels blocks n) new.blocks_are
      ∙ ap (λ (p : Place). kept_count_of_chain p.format p.channels script.blocks n) new.input

  fits_as : (n : ℕ) (numbers : List ℤ) → FitsChain c n numbers → Fits script n numbers
  fits_as n numbers f = record {
    gathers = subst (λ (blocks : List Block). gathered blocks n ≤ MAX_GATHERED) new.blocks_are f.gathers;
    fits = subst (λ (p : Place). FitsBlocks p.format p.channels script.blocks n numbers) new.input
        (subst (λ (blocks : List Block). FitsBlocks c.input.format c.input.channels blocks n numbers) new.blocks_are
        f.fits);
  }

  as_fits : (n : ℕ) (numbers : List ℤ) → n ≤ MAX_INPUT → Fits script n numbers → FitsChain c n numbers
  as_fits n numbers limit f = record {
    limit = limit;
    gathers = subst (λ (blocks : List Block). gathered blocks n ≤ MAX_GATHERED) (sym new.blocks_are) f.gathers;
    fits = subst (λ (blocks : List Block). FitsBlocks c.input.format c.input.channels blocks n numbers)
        (sym new.blocks_are) (subst (λ (p : Place). FitsBlocks p.format p.channels script.blocks n numbers)
        (sym new.input) f.fits);
  }

  pub count_is : (bytes : List ℕ) (n r : ℕ) → r ≡ kept_count_of_chain c.input.format c.input.channels
      (blocks_of c.units) n → n ≡ frames_in_state bytes → r ≡ count_in bytes script
  count_is bytes n r is frames = counts_as n r is ∙ ap (kept_count script) frames

  pub has_frames : (bytes : List ℕ) → HasText bytes script → numbers_place bytes ≤ length bytes → (n r : ℕ) →
      r ≡ gathered (blocks_of c.units) n → n ≡ frames_in_state bytes → r ≤ MAX_GATHERED → HasFrames bytes script
  has_frames bytes text long n r is frames few = record {
    before = text;
    long = long;
    few = subst (λ m. m ≤ MAX_GATHERED) (gathers_as n r is ∙ ap (gathered script.blocks) frames) few;
  }

  module _ (bytes : List ℕ) (n : ℕ) (numbers : List ℤ) (answer : Bool) (told : IsTrue answer ↔ FitsChain c n numbers)
      (frames : n ≡ frames_in_state bytes) (are : numbers ≡ numbers_in bytes (count_in bytes script)) where
    pub fit : answer ≡ true → Fits script (frames_in_state bytes) (numbers_in bytes (count_in bytes script))
    fit is =
        subst (λ m. Fits script m (numbers_in bytes (count_in bytes script))) frames
        (subst (λ (ns : List ℤ). Fits script n ns) are (fits_as n numbers (told.0 is)))

    pub unfit : n ≤ MAX_INPUT → answer ≡ false → Fits script (frames_in_state bytes)
        (numbers_in bytes (count_in bytes script)) → ⊥
    unfit few is f =
        let here : Fits script n numbers =
        subst (λ (ns : List ℤ). Fits script n ns) (sym are)
        (subst (λ m. Fits script m (numbers_in bytes (count_in bytes script))) (sym frames) f) in
        let there : answer ≡ true = told.1 (as_fits n numbers few here) in
        let other : false ≡ true = sym is ∙ there in
        cc

-- ---- what was loaded

pub loaded : (bytes : List ℕ) (script : Script) (frames : ℕ) (numbers : List ℤ) →
    ((i : ℕ) → FitsWidth w8 (get_or bytes i 0)) → length bytes ≤ MAX_STATE → HasNumbers bytes script
    → length bytes ≡ state_end bytes script → frames ≡ frames_in_state bytes →
    numbers ≡ numbers_in bytes (count_in bytes script) → IsState bytes script frames numbers
loaded bytes script frames numbers bounds short has ends frames_are numbers_are =
    let are : AreBytes bytes = All-from_get_or (λ b. b < 256) bytes 0 (λ i within. (bounds i).fits) in
    subst (λ n. IsState bytes script n numbers) (sym frames_are)
    (subst (λ (ns : List ℤ). IsState bytes script (frames_in_state bytes) ns) (sym numbers_are)
    (is_state bytes script are short has ends))

pub saved : (bytes : List ℕ) (script : Script) (frames : ℕ) (numbers : List ℤ) → IsState bytes script frames numbers
    → (let state : SavedState = record { script = script; frames = frames; numbers = numbers } in IsSaved state)
saved bytes script frames numbers is = record {
  script = is.runs;
  short = is.short_text;
  frames = is.few;
  fits =
      is.fits;
}
