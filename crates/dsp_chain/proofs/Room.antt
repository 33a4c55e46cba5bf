-- The room that a line of units needs.
use Rattle.std.proofs.Common.{◌≡◌, ◌∙◌, ap, refl, sym, subst, false, ℕ, ◌*◌, ◌≤◌, ℤ, List, [], ◌∷◌, ◌++◌, length}
use Rattle.std.proofs.Common.{take, drop, arith}
use Rattle.std.proofs.lemmas.List.{length-map, take-append-le, take_all}
use Rattle.dsp_defs.specs.declared.limits.TheConstants.{MAX_BLOCKS}
use Rattle.dsp_unit.specs.Unit.{UnitState, frames_in, most_frames, IsOutput, Feeds}
use Rattle.dsp_defs.specs.Block.{channels_after}
use Rattle.dsp_unit.specs.Line.{Place, place_after, place_behind, place_room, Passes, blocks_of, InLine, AllRun}
use Rattle.dsp_unit.specs.Line.{AllAccept, IsFed}
use Rattle.dsp_defs.specs.Counts.{Counts}
use Rattle.dsp_unit.proofs.LineLaws.{fed-none, fed-then, output-passes, accepts-behind}
use Rattle.dsp_chain.specs.Line.{MayTake}

-- the samples that pass a place have room there
pub passing-room : (p : Place) (samples : List ℤ) → Passes p samples → length samples ≤ place_room p
passing-room p samples h =
    let bound : length (frames_in p.channels samples) * p.channels ≤ p.capacity * p.channels =
    grind (arith, h.at_most) in
    omega (arith, bound, h.signal.whole_frames)

pub no-units : (us : List UnitState) → length us ≡ 0 → us ≡ []
no-units [] e = refl
no-units (u ∷ us) e = absurd (omega (arith, e))

-- what a line gave of samples that it may be fed with has room
pub fed-room : (us news : List UnitState) (frames given : List ℤ) (size : ℕ) (before after : Counts)
    (may : MayTake us frames size) →
    ((p : Place) → InLine p us → Passes p frames → IsFed p us news frames given before after) → length given ≤ size
fed-room us news frames given size before after may fed =
    let last = place_behind may.place (blocks_of us) in
    omega (arith, passing-room last given (fed may.place may.line may.passes).passes, may.room)

pub last-fed : (us : List UnitState) (p : Place) (frames : List ℤ) (counts : Counts) → length us ≡ 0 →
    Passes p frames → IsFed p us us frames frames counts counts
last-fed us p frames counts none passes = rw (no-units us none) (fed-none p frames counts passes)

-- a unit at the front of the links, and the line behind it
pub first-fed :
    (p : Place) (links : List UnitState) (link u v : UnitState) (behind after : List UnitState)
    (frames piece given : List ℤ) (before between later : Counts) →
    links ≡ link ∷ behind → u ≡ link → v.ended ≡ false → IsOutput u (most_frames u.block u.capacity) piece →
    Feeds u v (frames_in u.channels frames) (frames_in (channels_after u.channels u.block) piece) before between →
    ((q : Place) → InLine q behind → Passes q piece → IsFed q behind after piece given between later) →
    InLine p links → IsFed p links (v ∷ after) frames given before later
first-fed p links link u v behind after frames piece given before between later is_first same runs output one rest
    line =
    let e : links ≡ u ∷ behind = is_first ∙ ap (λ f. f ∷ behind) (sym same) in
    let here : InLine p (u ∷ behind) = subst (InLine p) e line in
    subst (λ us. IsFed p us (v ∷ after) frames given before later) (sym e)
    (fed-then p u v behind after frames piece given before between later here.0 runs one
    (rest (place_after p u.block) here.1 (output-passes p u piece here.0 output)))

-- the line behind the first unit may be fed with what that gives
pub behind-takes :
    (links : List UnitState) (link u v : UnitState) (behind : List UnitState) (frames piece : List ℤ) (size : ℕ)
    (before between : Counts) → links ≡ link ∷ behind → u ≡ link →
    IsOutput u (most_frames u.block u.capacity) piece →
    Feeds u v (frames_in u.channels frames) (frames_in (channels_after u.channels u.block) piece) before between →
    MayTake links frames size → MayTake behind piece size
behind-takes links link u v behind frames piece size before between is_first same output one may =
    let e : links ≡ u ∷ behind = is_first ∙ ap (λ f. f ∷ behind) (sym same) in
    let p = may.place in
    let here : InLine p (u ∷ behind) = subst (InLine p) e may.line in
    let one' = subst (λ c. Feeds u v (frames_in c frames) (frames_in (channels_after c u.block) piece) before between)
    here.0.channels one in
    record {
      place = place_after p u.block;
      line = here.1;
      passes = output-passes p u piece here.0 output;
      accepts = accepts-behind u v behind (frames_in p.channels frames)
          (frames_in (channels_after p.channels u.block) piece) before between one'
          (subst (λ us. AllAccept us (length (frames_in p.channels frames))) e may.accepts);
      room = subst (λ us. place_room (place_behind p (blocks_of us)) ≤ size) e may.room;
    }

pub behind-runs : (links : List UnitState) (link u : UnitState) (behind : List UnitState) → links ≡ link ∷ behind →
    u ≡ link → AllRun links → AllRun behind
behind-runs links link u behind is_first same runs = (subst AllRun is_first runs).1

-- a line that was written whole
pub written-line : {X : Type 0} → (size : ℕ) (new old : List X) → length new ≡ size →
    take size (new ++ drop (length new) old) ≡ new
written-line size new old e =
    let fits : size ≤ length new = omega arith in
    let full : length new ≤ size = omega arith in
    take-append-le size new (drop (length new) old) fits ∙ take_all size new full

-- and its front
pub written-front : {X : Type 0} → (count size : ℕ) (new old read : List X) →
    read ≡ take size (new ++ drop (length new) old) → length new ≡ size → take count read ≡ take count new
written-front count size new old read is e = ap (take count) (is ∙ written-line size new old e)

-- a line has few units
pub few-units : (us : List UnitState) → length (blocks_of us) ≤ MAX_BLOCKS → length us ≤ MAX_BLOCKS
few-units us few = omega (arith, few, length-map us (λ (u : UnitState). u.block))
