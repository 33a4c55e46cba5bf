-- Where the first fault of a text stands, and what can follow the tokens before it.
use Rattle.std.specs.Prelude.{◌≡◌, ◌+◌, ◌*◌, ◌<◌, ◌≤◌, ℕ, pos, false, List, ◌∷◌, ◌++◌, length, map, Some, codes}
use Rattle.dsp_defs.specs.declared.limits.TheConstants.{MAX_FACTOR, MAX_SCRIPT, MAX_TAPS}
use Rattle.dsp_defs.specs.declared.list_rule.Count.TheVariants.{MultipleOf}
use Rattle.dsp_defs.specs.Numeral.{value_of}
use Rattle.dsp_defs.specs.Parameters.{is_complete}
use Rattle.dsp_defs.specs.declared.script.Script.{Script}
use Rattle.dsp_defs.specs.declared.script_fault.ScriptFault.{ScriptFault}
use Rattle.dsp_defs.specs.declared.script_fault.ScriptKind.TheVariants.{TooLong, Missing}
use Rattle.dsp_defs.specs.Token.{Token, Open, Run, Item, items}
use Rattle.dsp_defs.specs.Grammar.{Reads}
use Rattle.dsp_defs.specs.Reading.{first_fault}
use Rattle.dsp_script.specs.Plain.{tokens}

-- the first fault of a text is this one, at the item that stands behind these
pub record IsFaultAt (text : List ℕ) (front : List Item) (item : Item) (fault : ScriptFault) : Type 0 where
  pub first : first_fault text ≡ Some fault
  pub short : length text ≤ MAX_SCRIPT
  pub back : List Item
  pub stands : items text ≡ front ++ item ∷ back
  pub here : item.offset ≡ fault.offset

-- a text that begins with these tokens reads as a script
pub record CanGoOn (front : List Token) : Type 0 where
  pub text : List ℕ
  pub script : Script
  pub back : List Token
  pub begins : tokens (items text) ≡ front ++ back
  pub reads : Reads text script

-- where the first fault of a text stands: at one of its items, or at its end, where something is missing; where the
-- text is too long, at the limit
pub data Place (text : List ℕ) (fault : ScriptFault) : Type 0 where
  AtItem : (front : List Item) (item : Item) → IsFaultAt text front item fault → Place text fault
  AtEnd : fault.offset ≡ length text → fault.kind ≡ Missing → Place text fault
  AtLimit : MAX_SCRIPT < length text → fault.offset ≡ MAX_SCRIPT → fault.kind ≡ TooLong → Place text fault

-- the tokens end within the taps of an `interpolate`, behind so many that no number of taps that its factor divides is
-- left within the limit
pub record IsFull (ts : List Token) : Type 0 where
  pub before : List Token
  pub numeral : List ℕ
  pub taps : List (List ℕ)
  pub factor : ℕ
  pub ends : ts ≡ before ++ Run (codes "interpolate") ∷ Run numeral ∷ Open ∷ map Run taps
  pub value : value_of numeral ≡ Some (pos factor)
  pub small : (1 ≤ factor) × (factor ≤ MAX_FACTOR)
  pub few : length taps ≤ MAX_TAPS
  pub none : (n : ℕ) → length taps ≤ n → n ≤ MAX_TAPS → is_complete (MultipleOf factor) n ≡ false

-- how many bytes are enough to end a text: those of two lists of taps, and some words
abbrev pub room : ℕ
room = 4 * MAX_TAPS + 22

-- bytes that end these, so that they read as a script
pub record CanBeEnded (front : List ℕ) : Type 0 where
  pub more : List ℕ
  pub few : length more ≤ room
  pub script : Script
  pub reads : Reads (front ++ more) script
