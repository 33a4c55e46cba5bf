-- A line whose units keep numbers that they can keep counts the frames, and stands for each signal that gives the
-- numbers.
use Rattle.std.proofs.Common.{◌≡◌, ◌∙◌, ap, ap₂, refl, sym, subst, ℕ, zero, suc, ◌+◌, ◌≤◌, ℤ, List, [], ◌∷◌}
use Rattle.std.proofs.Common.{◌++◌, length, arith}
use Rattle.dsp_defs.specs.Block.{Frame, live}
use Rattle.dsp_defs.specs.Shape.{live_frames, HasChannels}
use Rattle.dsp_defs.proofs.FrameLaws.{length-live}
use Rattle.dsp_defs.specs.Kept.{Each, IsPlace, IsOfKind, kept_kinds, kept_numbers, kept_of_chain}
use Rattle.dsp_defs.specs.Kept.{FitsBlocks}
use Rattle.dsp_unit.specs.Unit.{UnitState, turns_of}
use Rattle.dsp_unit.specs.Line.{Place, place_after, blocks_of, InLine, AllCount, AllStand, line_turns}
use Rattle.dsp_unit.proofs.ChannelKept.{append-apart, each-length, kinds-place}
use Rattle.dsp_defs.proofs.KeptLaws.{kept_numbers-place}
use Rattle.dsp_chain.specs.Restored.{kept_by, FitsUnits, AllRestores}

-- ---- units in their places

pub fits-blocks : (p : Place) (us : List UnitState) (n : ℕ) (numbers : List ℤ) → InLine p us →
    FitsUnits us n numbers → FitsBlocks p.format p.channels (blocks_of us) n numbers
fits-blocks p [] n numbers line fits = fits
fits-blocks p (u ∷ us) n numbers line (here, later, split, fits, rest) = (
  here,
  later,
  split,
  rw (line.0.format, line.0.channels) at fits,
  fits-blocks (place_after p u.block) us (live_frames u.block n) later line.1 rest,
)

pub fits-units : (p : Place) (us : List UnitState) (n : ℕ) (numbers : List ℤ) → InLine p us →
    FitsBlocks p.format p.channels (blocks_of us) n numbers → FitsUnits us n numbers
fits-units p [] n numbers line fits = fits
fits-units p (u ∷ us) n numbers line (here, later, split, fits, rest) = (
  here,
  later,
  split,
  rw (line.0.format, line.0.channels) fits,
  fits-units (place_after p u.block) us (live_frames u.block n) later line.1 rest,
)

-- ---- units that were restored

-- each unit counts the live frames at its place
pub restored-counts : (us vs : List UnitState) (n : ℕ) (numbers : List ℤ) → AllRestores us vs n numbers → AllCount vs n
restored-counts [] [] n numbers restored = tt
restored-counts [] (v ∷ vs) n numbers restored = absurd restored
restored-counts (u ∷ us) [] n numbers restored = absurd restored
restored-counts (u ∷ us) (v ∷ vs) n numbers (here, later, cut, fits, one, rest) =
    let place : Each IsPlace (kept_kinds u.format u.channels u.block n) here = kinds-place _ here fits.1 in (
      one.counts n place,
      subst (λ b. AllCount vs (live_frames b n)) (sym one.made.block)
          (restored-counts us vs (live_frames u.block n) later rest),
    )

-- the line keeps the numbers, is in its places and has the same blocks
pub restored-line : (p : Place) (us vs : List UnitState) (n : ℕ) (numbers : List ℤ) → InLine p us →
    AllRestores us vs n numbers → InLine p vs × (blocks_of vs ≡ blocks_of us) × (kept_by vs ≡ numbers)
restored-line p [] [] n numbers line restored = (tt, refl, sym restored)
restored-line p [] (v ∷ vs) n numbers line restored = absurd restored
restored-line p (u ∷ us) [] n numbers line restored = absurd restored
restored-line p (u ∷ us) (v ∷ vs) n numbers line (here, later, cut, fits, one, rest) =
    let behind = restored-line (place_after p u.block) us vs (live_frames u.block n) later line.1 rest in (
      (
        record {
          format = one.made.format ∙ line.0.format;
          channels = one.made.channels ∙ line.0.channels;
          capacity =
              one.made.capacity ∙ line.0.capacity;
        },
        rw one.made.block behind.0,
      ),
      ap₂ (λ b bs. b ∷ bs) one.made.block behind.1,
      ap₂ {C = List ℤ} (λ xs ys. xs ++ ys) one.kept behind.2 ∙ sym cut,
    )

-- its bound on turns stays
pub restored-turns : (us vs : List UnitState) (n : ℕ) (numbers : List ℤ) → AllRestores us vs n numbers →
    (from to : ℕ) → line_turns vs from to ≡ line_turns us from to
restored-turns [] [] n numbers restored from to = refl
restored-turns [] (v ∷ vs) n numbers restored from to = absurd restored
restored-turns (u ∷ us) [] n numbers restored from to = absurd restored
restored-turns (u ∷ us) (v ∷ vs) n numbers (here, later, cut, fits, one, rest) from to =
    rw (one.made.block, one.made.format, one.made.channels, one.made.banked)
    (ap (λ turns. turns_of u from to + turns) (restored-turns us vs (live_frames u.block n) later rest
    (live_frames u.block from) (live_frames u.block to)))

-- the live frames of a signal on at least one channel
some-live : (channels : ℕ) (u : UnitState) (x : List Frame) → 1 ≤ channels → u.channels ≡ channels →
    length (live u.format u.channels u.block x) ≡ live_frames u.block (length x)
some-live (suc channels) u x some is = rw is (length-live u.format channels u.block x)
some-live zero u x some is = absurd (omega (arith, some))

-- the line stands for each signal whose numbers they are
pub restored-stand : (p : Place) (us vs : List UnitState) (n : ℕ) (numbers : List ℤ) (x : List Frame) → InLine p us →
    HasChannels p.channels (blocks_of us) → AllRestores us vs n numbers → length x ≡ n
    → numbers ≡ kept_of_chain p.format p.channels (blocks_of us) x → AllStand p.format p.channels vs x
restored-stand p [] [] n numbers x line some restored long is = tt
restored-stand p [] (v ∷ vs) n numbers x line some restored long is = absurd restored
restored-stand p (u ∷ us) [] n numbers x line some restored long is = absurd restored
restored-stand p (u ∷ us) (v ∷ vs) n numbers x line some (here, later, cut, fits, one, rest) long is =
    let q = place_after p u.block in
    let kept = kept_numbers u.format u.channels u.block x in
    let behind = kept_of_chain q.format q.channels (blocks_of us) (live u.format u.channels u.block x) in
    let whole : numbers ≡ kept ++ behind = rw (line.0.format, line.0.channels) is in
    let place : Each IsPlace (kept_kinds u.format u.channels u.block n) kept =
    subst (λ k. Each IsPlace (kept_kinds u.format u.channels u.block k) kept) long
    (kept_numbers-place u.format u.channels u.block x) in
    let size : length here ≡ length kept = each-length IsOfKind _ here fits.1 ∙
    sym (each-length IsPlace _ kept place) in
    let apart = append-apart here kept later behind size (sym cut ∙ whole) in
    let live_long = some-live p.channels u x some.0 line.0.channels ∙ ap (live_frames u.block) long in
    let stand = restored-stand q us vs (live_frames u.block n) later (live u.format u.channels u.block x) line.1
    some.1 rest live_long apart.1 in
    (one.stands x apart.0, rw one.made.block (rw (line.0.format, line.0.channels) at stand))
