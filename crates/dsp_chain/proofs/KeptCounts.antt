-- How many numbers a chain keeps of so many frames, and which of a signal.
use Rattle.std.proofs.Common.{◌≡◌, ◌∙◌, ap₂, refl, ℕ, ◌+◌, ℤ, List, [], ◌∷◌, ◌++◌, length, length-append}
use Rattle.dsp_defs.specs.Block.{Frame, live}
use Rattle.dsp_defs.specs.Shape.{live_frames}
use Rattle.dsp_defs.specs.Kept.{IsPlace, kept_count, kept_kinds, kept_numbers, kept_of_chain, kept_count_of_chain}
use Rattle.dsp_unit.specs.Unit.{UnitState}
use Rattle.dsp_unit.specs.Line.{Place, place_after, blocks_of, InLine, AllCount, AllStand}
use Rattle.dsp_unit.proofs.ChannelKept.{each-length}
use Rattle.dsp_chain.specs.Restored.{kept_by}

-- the numbers of the first block, and of those behind it
pub counts-more : (p : Place) (u : UnitState) (us : List UnitState) (n here later : ℕ) → InLine p (u ∷ us) →
    here ≡ kept_count u.format u.channels u.block n → ((q : Place) → InLine q us → later ≡
    kept_count_of_chain q.format q.channels (blocks_of us) (live_frames u.block n)) → here + later ≡
    kept_count_of_chain p.format p.channels (blocks_of (u ∷ us)) n
counts-more p u us n here later line is behind =
    let count : here ≡ kept_count p.format p.channels u.block n =
    is ∙ (λ i. kept_count (line.0.format i) (line.0.channels i) u.block n) in
    let rest = behind (place_after p u.block) line.1 in
    λ i. count i + rest i

-- a line that counts the frames keeps so many
pub counted-kept : (p : Place) (us : List UnitState) (n : ℕ) → InLine p us → AllCount us n →
    length (kept_by us) ≡ kept_count_of_chain p.format p.channels (blocks_of us) n
counted-kept p [] n line counts = refl
counted-kept p (u ∷ us) n line counts =
    let here : length u.kept ≡ kept_count p.format p.channels u.block n =
    each-length IsPlace (kept_kinds u.format u.channels u.block n) u.kept counts.0.place ∙
    (λ i. kept_count (line.0.format i) (line.0.channels i) u.block n) in
    length-append u.kept (kept_by us) ∙ ap₂ (λ a b. a + b) here
    (counted-kept (place_after p u.block) us (live_frames u.block n) line.1 counts.1)

-- a line that stands for a signal keeps the numbers of it
pub stands-kept : (p : Place) (us : List UnitState) (x : List Frame) → InLine p us →
    AllStand p.format p.channels us x → kept_by us ≡ kept_of_chain p.format p.channels (blocks_of us) x
stands-kept p [] x line stands = refl
stands-kept p (u ∷ us) x line stands =
    let here : u.kept ≡ kept_numbers p.format p.channels u.block x = stands.0.keeps ∙
    (λ i. kept_numbers (line.0.format i) (line.0.channels i) u.block x) in
    ap₂ {C = List ℤ} (λ a b. a ++ b) here (stands-kept (place_after p u.block) us (live p.format p.channels u.block x)
    line.1 stands.1)
