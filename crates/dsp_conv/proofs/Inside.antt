-- What the invariant of a convolution says of what a contract sees, and what keeps it.
use Rattle.std.proofs.Common.{◌≡◌, ◌∙◌, ap, sym, subst, ℕ, ◌+◌, ◌-◌, ◌<◌, ◌≤◌, ◌^◌, ℤ, Bool, List, ◌++◌, length}
use Rattle.std.proofs.Common.{map, drop, reverse, Vec, arith, length-append}
use Rattle.std.proofs.lemmas.List.{length-map, length-reverse}
use Rattle.dsp_window.specs.Rolling.{Rolling, last_samples}
use Rattle.dsp_window.proofs.Pushed.{past-after, window-long}
use Rattle.dsp_window.proofs.Rolls.{length-last_samples, zeros_long}
use Rattle.dsp_conv.specs.declared.extent.Extent.{Extent}
use Rattle.dsp_conv.specs.ConvState.{ConvState, IsSound}

-- a call takes a sample and more, and it keeps as many samples as its taps reach back
pub record IsConvolution (c : ConvState) : Type 0 where
  pub some : 1 ≤ c.block
  pub taps : 1 ≤ length c.taps
  pub long : length c.past ≡ length c.taps - 1

-- and its lists are as long as that
pub record IsInside (c : ConvState) (reversed zeros held past : ℕ) : Type 0 where
  pub is : IsConvolution c
  reversed_long : reversed ≡ length c.taps
  pub zeros_long : zeros ≡ length c.past
  held_long : held ≡ length c.past
  pub past_long : past ≡ length c.past

pub inside :
    {X Z : Type 0} → (number : X → ℤ) (reversed zeros : Vec X Z) {block place skip left greatest : ℕ}
    {window : Rolling} {e : Extent} {tail : List ℤ} {ended : Bool} {c : ConvState} →
    IsSound reversed.len block window (map number zeros.items) skip left place greatest →
    record {
      extent = e;
      taps = reverse (map number reversed.items);
      past = last_samples window.past window.samples;
      place = place;
      tail = tail;
      block = block;
      ended = ended;
    } ≡ c → IsInside c reversed.len zeros.len (length zeros.items) window.past
inside number reversed zeros {window = window} sound view_is =
    let taps : length (reverse (map number reversed.items)) ≡ reversed.len =
    length-reverse (map number reversed.items) ∙ length-map reversed.items number ∙ sym reversed.ok.0 in
    let past = length-last_samples window.past window.samples sound.filled in
    let held = zeros_long number window.past zeros.items sound.zeros_are in
    subst (λ (c : ConvState). IsInside c reversed.len zeros.len (length zeros.items) window.past) view_is
    (record {
      is = record {
        some = sound.some;
        taps = omega (arith, taps, sound.past);
        long = omega (arith, taps, past, sound.past);
      };
      reversed_long = sym taps;
      zeros_long = zeros.ok.0 ∙ held ∙ sym past;
      held_long = held ∙ sym past;
      past_long = sym past;
    })

-- a window that shows other samples, no fewer than it keeps, is as sound
pub moved-sound :
    (samples : List ℤ) {taps block skip left skip' left' place place' greatest : ℕ} {old new : Rolling}
    {zeros : List ℤ} →
    IsSound taps block old zeros skip left place greatest → new ≡ record old { samples = samples } →
    old.past ≤ length samples → skip' + left' ≤ old.past → place' ≤ greatest → place' < 2 ^ 63 →
    IsSound taps block new zeros skip' left' place' greatest
moved-sound samples {taps = taps} {block = block} {skip' = skip} {left' = left} {place' = place} {greatest = greatest}
    {zeros = zeros} sound moved filled tail within fits =
    subst (λ (w : Rolling). IsSound taps block w zeros skip left place greatest) (sym moved)
    (record {
      past = sound.past;
      few = sound.few;
      some = sound.some;
      room = sound.room;
      room_behind = sound.room_behind;
      filled = filled;
      zeros_are = sound.zeros_are;
      left_within = tail;
      place_within = within;
      place_fits = fits;
    })

-- a window that took a block
pub record IsPushed (old new : Rolling) (block : List ℤ) : Type 0 where
  pub past : new.past ≡ old.past
  pub room : new.room ≡ old.room
  pub samples : new.samples ≡ last_samples old.past old.samples ++ block
  pub long : length new.samples ≡ old.past + length block
  pub filled : old.past ≤ length (last_samples old.past old.samples ++ block)
  pub keeps : last_samples new.past new.samples ≡ drop (length block) (last_samples old.past old.samples ++ block)
  pub kept : length (last_samples new.past new.samples) ≡ old.past

pub pushed : {X : Type 0} (number : X → ℤ) (block : List X) {old new : Rolling} →
    new ≡ record old { samples = last_samples old.past old.samples ++ map number block } →
    old.past ≤ length old.samples → IsPushed old new (map number block)
pushed number block {old = old} {new = new} rolls filled =
    let past = length-last_samples old.past old.samples filled in
    let whole = length-append (last_samples old.past old.samples) (map number block) in
    let same : new.past ≡ old.past = ap (λ (w : Rolling). w.past) rolls in
    let samples : new.samples ≡ last_samples old.past old.samples ++ map number block =
    ap (λ (w : Rolling). w.samples) rolls in
    let long : length new.samples ≡ old.past + length (map number block) =
    ap length samples ∙ whole ∙ ap (λ k. k + length (map number block)) past in
    record {
      past = same;
      room = ap (λ (w : Rolling). w.room) rolls;
      samples = samples;
      long = long;
      filled = omega (arith, past, whole);
      keeps = past-after old new (map number block) rolls filled;
      kept = length-last_samples new.past new.samples (omega (arith, same, long)) ∙ same;
    }

-- the length of a window that was lent with it
pub lent-long : {X : Type 0} (number : X → ℤ) (old new : Rolling) (block lent : List X) →
    new ≡ record old { samples = last_samples old.past old.samples ++ map number block } →
    map number lent ≡ new.samples → old.past ≤ length old.samples → length lent ≡ old.past + length block
lent-long number old new block lent rolls shows filled =
    window-long number old new (map number block) lent rolls shows filled ∙
    ap (λ k. old.past + k) (length-map block number)
