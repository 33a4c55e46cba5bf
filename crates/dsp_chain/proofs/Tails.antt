-- The steps of a line's tail, over samples.
use Rattle.std.proofs.Common.{◌≡◌, ◌∙◌, ap, refl, sym, subst, ℕ, ◌+◌, ◌*◌, ◌≤◌, ◌<◌, ℤ, List, [], ◌∷◌, ◌++◌, length}
use Rattle.std.proofs.Common.{take, arith, length-append}
use Rattle.dsp_unit.specs.Unit.{UnitState, frames_in, given_so_far, most_frames, IsSignal, IsOutput, Finishes}
use Rattle.dsp_defs.specs.Block.{Frame, channels_after}
use Rattle.dsp_unit.specs.Line.{Place, place_after, place_behind, place_room, Passes, blocks_of, InLine, AllRun}
use Rattle.dsp_unit.specs.Line.{AllTaken, AllSpent, FirstSpent, IsFed, IsFinished, FinishesLine, first_tail}
use Rattle.dsp_defs.specs.Counts.{Counts}
use Rattle.dsp_defs.specs.declared.format.Fmt.{Fmt}
use Rattle.dsp_unit.proofs.LineLaws.{output-passes}
use Rattle.dsp_unit.proofs.MemorylessLaws.{no-frames}
use Rattle.dsp_unit.proofs.TailLaws.{nothing-passes, finishes-none, finishes-idle, finishes-piece, finishes-then}
use Rattle.dsp_unit.proofs.TailLaws.{finishes-behind, tail-accepts, spent-took, given-whole}
use Rattle.dsp_chain.specs.Line.{MayTake, MayFinish}
use Rattle.dsp_chain.proofs.Room.{no-units}
use Rattle.std.proofs.lemmas.List.{nil_from_length}

-- samples that are some are frames that are some
some-frames : (format : Fmt) (channels : ℕ) (samples : List ℤ) → IsSignal format channels samples →
    0 < length samples → frames_in channels samples ≡ [] → ⊥
some-frames format channels samples signal some none =
    let size : length samples ≡ length (frames_in channels samples) * channels = signal.whole_frames in
    let nothing : length (frames_in channels samples) * channels ≡ 0 =
    ap (λ (f : List Frame). length f * channels) none ∙ omega arith in
    omega (arith, size, nothing, some)

pub nil-take : {A : Type 0} (n : ℕ) (xs : List A) → n ≡ 0 → take n xs ≡ []
nil-take n xs e = rw e refl

pub none-finished : (p : Place) (links : List UnitState) (counts : Counts) → length links ≡ 0 →
    IsFinished p links links [] counts counts
none-finished p links counts none =
    rw (no-units links none) (record {
      passes = nothing-passes p;
      finishes =
          rw (no-frames p.channels) (finishes-none p counts);
    })

pub none-spent : (links : List UnitState) → length links ≡ 0 → AllSpent links × FirstSpent links
none-spent links none = rw (no-units links none) (tt, tt)

module _ (p : Place) (links : List UnitState) (link u v : UnitState) (behind : List UnitState)
    (is_first : links ≡ link ∷ behind) (same : u ≡ link)
    (piece : List ℤ) (before between : Counts) (one : Finishes u v
    (frames_in (channels_after u.channels u.block) piece) before between) where
  links-is : links ≡ u ∷ behind
  links-is = is_first ∙ ap (λ f. f ∷ behind) (sym same)

  -- the unit gave nothing
  nothing : piece ≡ [] → frames_in (channels_after u.channels u.block) piece ≡ []
  nothing none = ap (frames_in (channels_after u.channels u.block)) none ∙ no-frames (channels_after u.channels u.block)

  pub spent-finished : piece ≡ [] → InLine p links → IsFinished p links (v ∷ behind) [] before between
  spent-finished none line =
      subst (λ us. IsFinished p us (v ∷ behind) [] before between) (sym links-is)
      (record {
        passes = nothing-passes (place_behind p (blocks_of (u ∷ behind)));
        finishes = rw (no-frames (place_behind p (blocks_of (u ∷ behind))).channels)
            (finishes-idle p u v behind (subst (InLine p) links-is line) _ before between one (nothing none));
      })

  pub spent-now : piece ≡ [] → FirstSpent (v ∷ behind)
  spent-now none = sym (one.tail ∙ ap (λ g. g ++ v.tail) (nothing none)) ∙ one.spent (nothing none)

  -- it gave something
  module _ (output : IsOutput u (most_frames u.block u.capacity) piece) (some : 0 < length piece) where
    longer : length u.tail ≡ length (frames_in (channels_after u.channels u.block) piece) + length v.tail
    longer = ap length one.tail ∙ length-append (frames_in (channels_after u.channels u.block) piece) v.tail

    filled : frames_in (channels_after u.channels u.block) piece ≡ [] → ⊥
    filled = some-frames _ (channels_after u.channels u.block) piece output.signal some

    full : u.tail ≡ [] → ⊥
    full none = filled (nil_from_length (frames_in (channels_after u.channels u.block) piece)
        (omega (arith, longer, ap length none)))

    -- and the line behind it may be fed with that
    pub tail-takes : (size : ℕ) → MayFinish links size → MayTake behind piece size
    tail-takes size may =
        let q = may.place in
        let here : InLine q (u ∷ behind) = subst (InLine q) links-is may.line in
        let accepts = tail-accepts u behind may.frames (length (frames_in (channels_after u.channels u.block) piece))
        (rw links-is at may.took) (rw links-is at may.taken) full (omega (arith, longer)) in
        record {
          place = place_after q u.block;
          line = here.1;
          passes = output-passes q u piece here.0 output;
          accepts = rw here.0.channels at accepts.0;
          room = subst (λ us. place_room (place_behind q (blocks_of us)) ≤ size) links-is may.room;
        }

    pub tail-runs : (size : ℕ) → MayFinish links size → AllRun behind
    tail-runs size may = (tail-accepts u behind may.frames 0 (rw links-is at may.took) (rw links-is at may.taken) full
        (omega arith)).1

    module _ (after : List UnitState) (given : List ℤ) (later : Counts)
        (rest : (q : Place) → InLine q behind → Passes q piece → IsFed q behind after piece given between later)
        (line : InLine p links) where
      here : InLine p (u ∷ behind)
      here = subst (InLine p) links-is line

      fed : IsFed (place_after p u.block) behind after piece given between later
      fed = rest (place_after p u.block) here.1 (output-passes p u piece here.0 output)

      step : FinishesLine p (u ∷ behind) (v ∷ after) (frames_in
          (place_behind (place_after p u.block) (blocks_of behind)).channels given) before later
      step =
          let one' = subst (λ c. Finishes u v (frames_in (channels_after c u.block) piece) before between)
          here.0.channels one in
          let filled' = subst (λ c. frames_in (channels_after c u.block) piece ≡ [] → ⊥) here.0.channels filled in
          finishes-piece p u v behind here _ before between one' after _ later fed.feeds filled'

      pub given-finished : IsFinished p links (v ∷ after) given before later
      given-finished = subst (λ us. IsFinished p us (v ∷ after) given before later) (sym links-is)
          (record { passes = fed.passes; finishes = step })

      line-after : InLine p (v ∷ after)
      line-after = step.in_line

      pub shorter : length v.tail < first_tail links
      shorter =
          let some_frames : 0 < length (frames_in (channels_after u.channels u.block) piece) =
          positive (frames_in (channels_after u.channels u.block) piece) filled in
          rw links-is (omega (arith, longer, some_frames))
        where
          positive : (x : List Frame) → (x ≡ [] → ⊥) → 0 < length x
          positive [] full = absurd (full refl)
          positive (f ∷ x) full = omega arith

      -- the line behind it gave nothing, so that the call goes on
      pub more-finished : (new : List UnitState) (last : List ℤ) (end : Counts) → given ≡ [] →
          ((q : Place) → InLine q (v ∷ after) → IsFinished q (v ∷ after) new last later end) →
          IsFinished p links new last before end
      more-finished new last end none next =
          let then = next p line-after in
          let same_blocks : blocks_of (v ∷ after) ≡ blocks_of links = step.blocks ∙ ap blocks_of (sym links-is) in
          let channels = (place_behind p (blocks_of links)).channels in
          let no_frames : frames_in channels given ≡ [] = ap (frames_in channels) none ∙ no-frames channels in
          record {
            passes = subst (λ bs. Passes (place_behind p bs) last) same_blocks then.passes;
            finishes =
                finishes-then p links (v ∷ after) new [] (frames_in channels last) before later end
                (subst (λ g. FinishesLine p links (v ∷ after) g before later) no_frames given-finished.finishes)
                (subst (λ bs. FinishesLine p (v ∷ after) new (frames_in (place_behind p bs).channels last) later end)
                same_blocks then.finishes);
          }

-- the call went on with a line that may finish
pub goes-on : (p : Place) (links news : List UnitState) (given : List ℤ) (before after : Counts) (size : ℕ)
    (may : MayFinish links size) → p ≡ may.place → IsFinished p links news given before after → MayFinish news size
goes-on p links news given before after size may is finished =
    let done = subst (λ q. IsFinished q links news given before after) is finished in
    record {
      place = may.place;
      line = done.finishes.in_line;
      room = rw done.finishes.blocks may.room;
      frames = may.frames;
      took = done.finishes.took may.frames may.took;
      taken = rw done.finishes.blocks may.taken;
    }

-- ---- the whole line

-- the first unit is spent, and the line behind it goes on
module _ (p : Place) (old mid behind new : List UnitState) (v : UnitState) (none given : List ℤ)
    (before between after : Counts) (nothing : none ≡ []) (is_first : mid ≡ v ∷ behind) where
  pub behind-gave : InLine p old → IsFinished p old mid none before between → FirstSpent mid →
      ((q : Place) → InLine q behind → IsFinished q behind new given between after) →
      IsFinished p old (v ∷ new) given before after
  behind-gave line one spent next =
      let last = (place_behind p (blocks_of old)).channels in
      let no_frames : frames_in last none ≡ [] = ap (frames_in last) nothing ∙ no-frames last in
      let one' : FinishesLine p old (v ∷ behind) [] before between =
      subst (λ us. FinishesLine p old us [] before between) is_first
      (subst (λ f. FinishesLine p old mid f before between) no_frames one.finishes) in
      let then = next (place_after p v.block) one'.in_line.1 in
      let second = finishes-behind p v behind new _ between after one'.in_line (subst FirstSpent is_first spent)
      then.finishes in
      record {
        passes = subst (λ bs. Passes (place_behind p bs) given) one'.blocks then.passes;
        finishes = finishes-then p old (v ∷ behind) (v ∷ new) [] (frames_in last given) before between after one'
            (subst (λ bs. FinishesLine p (v ∷ behind) (v ∷ new) (frames_in (place_behind p bs).channels given) between
            after) one'.blocks second);
      }

pub behind-may : (old mid behind : List UnitState) (v : UnitState) (none : List ℤ) (before between : Counts)
    (size : ℕ) (may : MayFinish old size) → mid ≡ v ∷ behind → IsFinished may.place old mid none before between →
    FirstSpent mid → MayFinish behind size
behind-may old mid behind v none before between size may is_first one spent =
    let blocks : blocks_of (v ∷ behind) ≡ blocks_of old = sym (ap blocks_of is_first) ∙ one.finishes.blocks in
    let line : InLine may.place (v ∷ behind) = rw is_first at one.finishes.in_line in
    let took = rw is_first at (one.finishes.took may.frames may.took) in
    let taken : AllTaken (blocks_of (v ∷ behind)) may.frames =
    subst (λ bs. AllTaken bs may.frames) (sym blocks) may.taken in
    let spent' : v.tail ≡ [] = subst FirstSpent is_first spent in
    record {
      place = place_after may.place v.block;
      line = line.1;
      room = subst (λ bs. place_room (place_behind may.place bs) ≤ size) (sym blocks) may.room;
      frames = given_so_far v may.frames;
      took = spent-took v behind (given_so_far v may.frames) took.1;
      taken = subst (AllTaken (blocks_of behind)) (sym (given-whole v may.frames spent')) taken.1;
    }
