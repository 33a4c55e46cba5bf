-- Units of blocks without memory.
use Rattle.std.proofs.Common.{◌≡◌, ◌∙◌, ap, refl, sym, subst, ℕ, zero, suc, ◌+◌, ◌-◌, ◌*◌, ◌≤◌, ℤ, List, [], ◌∷◌}
use Rattle.std.proofs.Common.{◌++◌, map, length, arith, true, false}
use Rattle.std.specs.List.{range_with_len, flat_map}
use Rattle.std.proofs.lemmas.List.{map-append, length-map, append-nil}
use Rattle.dsp_defs.specs.Block.{Frame, channel, whole, live}
use Rattle.dsp_defs.specs.Shape.{whole_frames, live_frames}
use Rattle.dsp_defs.specs.Cost.{live_block_cost, cost_so_far, block_turns}
use Rattle.dsp_defs.specs.Kept.{kept_measures}
use Rattle.dsp_defs.specs.Counts.{Counts}
use Rattle.dsp_defs.proofs.FrameLemmas.{length-frames_in}
use Rattle.dsp_defs.specs.Block.{channels_after}
use Rattle.dsp_unit.specs.Memoryless.{IsMemoryless}
use Rattle.dsp_unit.specs.Unit.{UnitState, MadeAs, StandsFor, CountsFrames, made_so_far, Feeds, Finishes, Restores}
use Rattle.dsp_unit.specs.Unit.{IsNew, IsOutput, frames_in}
use Rattle.dsp_defs.specs.Kept.{kept_of_channel, kept_numbers, kinds_by, kept_kinds, Kind, Each, IsPlace, IsOfKind}
use Rattle.dsp_defs.specs.Kept.{IsTaken, Fits, FitsAfter, place_of}
use Rattle.dsp_defs.specs.declared.format.Fmt.{Fmt}
use Rattle.dsp_defs.specs.declared.script.Block.{Block}

-- a unit that keeps nothing and owes nothing
pub record IsIdle (u : UnitState) : Type 0 where
  pub running : u.ended ≡ false
  pub kept : u.kept ≡ []
  pub tail : u.tail ≡ []
  pub plain : u.banked ≡ false

-- nothing from each is nothing
nothing-flat : {A : Type 0} (f : ℕ → List A) (a n : ℕ) → ((c : ℕ) → f c ≡ []) → flat_map f (range_with_len a n) ≡ []
nothing-flat f a zero none = refl
nothing-flat f a (suc n) none = ap (λ l. l ++ flat_map f (range_with_len (a + 1) n)) (none a) ∙
    nothing-flat f (a + 1) n none

-- what n + t of a price are more than n
price-more : (n t price : ℕ) → (n + t) * price - n * price ≡ t * price
price-more n t price = omega arith

-- numbers for no kinds are none
no-kinds : (ks : List Kind) (numbers : List ℤ) → ks ≡ [] → Each IsOfKind ks numbers → numbers ≡ []
no-kinds [] [] e h = refl
no-kinds [] (n ∷ numbers) e h = absurd h
no-kinds (k ∷ ks) numbers e h = cc

module _ (format : Fmt) (channels : ℕ) (block : Block) (price : ℕ) (f : Frame → Frame)
    (m : IsMemoryless format channels block price f) where
  no-kept-kinds : (n : ℕ) → kept_kinds format channels block n ≡ []
  no-kept-kinds n = m.kinds_are n ∙ nothing-flat (λ (_ : ℕ). kinds_by format block n) 0 channels (λ _. m.kinds n)

  -- no numbers, and no others, can be those that it keeps
  pub memoryless-fits : (numbers : List ℤ) → numbers ≡ [] → Fits format channels block numbers
  memoryless-fits numbers none = (0, (m.taken 0, rw (no-kept-kinds 0, none) tt))

  pub memoryless-fits-after : FitsAfter format channels block 0 []
  memoryless-fits-after = (m.taken 0, rw (no-kept-kinds 0) tt)

  pub memoryless-fit-none : (numbers : List ℤ) → Fits format channels block numbers → numbers ≡ []
  memoryless-fit-none numbers fits = no-kinds (kept_kinds format channels block fits.0) numbers (no-kept-kinds fits.0)
      fits.1.1

module _ (u : UnitState) (price : ℕ) (f : Frame → Frame) (idle : IsIdle u)
    (m : IsMemoryless u.format u.channels u.block price f) where
  memoryless-stands : (x : List Frame) → StandsFor u x
  memoryless-stands x = record {
    running = idle.running;
    keeps = idle.kept ∙ sym (nothing-flat (λ c. kept_of_channel u.format u.block (channel c x)) 0 u.channels
        (λ c. m.keeps_nothing (channel c x))) ∙ sym (m.keeps_is x);
    tail_follows = m.whole_is x ∙ sym (m.live_is x) ∙ sym (append-nil (live u.format u.channels u.block x)) ∙
        ap (λ t. live u.format u.channels u.block x ++ t) (sym idle.tail);
  }

  memoryless-counts : (n : ℕ) → CountsFrames u n
  memoryless-counts n = record {
    running = idle.running;
    place = rw (
      idle.kept,
      m.kinds_are n,
      nothing-flat (λ (_ : ℕ). kinds_by u.format u.block n) 0 u.channels
          (λ _. m.kinds n),
    ) tt;
    tail_frames = rw (m.live_frames n, m.whole_frames n, idle.tail) (omega arith);
  }

  -- fed with frames it gives one for each, and stays as it is
  pub memoryless-feeds : (taken : List Frame) (before after : Counts) →
      after.multiplies ≡ before.multiplies + length taken * price → after.turns ≤ before.turns + length taken * price →
      Feeds u u taken (map f taken) before after
  memoryless-feeds taken before after counted turned = record {
    made = record { block = refl; format = refl; channels = refl; capacity = refl; banked = refl };
    values = λ x _. m.live_is (x ++ taken) ∙ map-append f x taken ∙ ap (λ y. y ++ map f taken) (sym (m.live_is x));
    stands = λ x _. memoryless-stands (x ++ taken);
    frames = λ n _. rw (m.live_frames (n + length taken), m.live_frames n, length-map taken f) refl;
    counts = λ n _. memoryless-counts (n + length taken);
    multiplies = λ n _. rw (m.live_cost (n + length taken), m.live_cost n) (omega (arith, counted));
    turns = λ n _. rw (
      idle.plain,
      m.turns n (n + length taken),
      m.live_cost (n + length taken),
      m.live_cost n,
      price-more n (length taken) price,
    ) turned;
  }

  -- and with them it is as it was
  pub memoryless-restores : (numbers : List ℤ) → Fits u.format u.channels u.block numbers → Restores u u numbers
  memoryless-restores numbers fits = record {
    made = record { block = refl; format = refl; channels = refl; capacity = refl; banked = refl };
    running = idle.running;
    kept = idle.kept ∙ sym (memoryless-fit-none u.format u.channels u.block price f m numbers fits);
    stands = λ x _. memoryless-stands x;
    counts = λ n _. memoryless-counts n;
  }

  pub memoryless-new : IsNew u.block u.format u.channels u.capacity u
  memoryless-new = record {
    block = refl;
    format = refl;
    channels = refl;
    capacity = refl;
    plain =
        idle.plain;
    stands = memoryless-stands [];
    counts = memoryless-counts 0;
  }

-- ---- calls that give nothing

pub no-frames : (channels : ℕ) → frames_in channels [] ≡ []
no-frames channels = nil (frames_in channels []) (length-frames_in channels [] ∙ omega arith)
  where
    nil : (x : List Frame) → length x ≡ 0 → x ≡ []
    nil [] e = refl
    nil (f ∷ x) e = absurd (omega (arith, e))

pub no-output : (u : UnitState) (most : ℕ) → IsOutput u most []
no-output u most = record {
  signal = record {
    whole_frames = rw (no-frames (channels_after u.channels u.block)) (omega arith);
    in_format = λ k d h. absurd (omega (arith, h));
  };
  at_most = rw (no-frames (channels_after u.channels u.block)) (omega arith);
}

-- a unit without a tail ends
pub idle-finishes : (u v : UnitState) (counts : Counts) → MadeAs u v → v.ended ≡ true → u.tail ≡ [] → v.tail ≡ [] →
    v.kept ≡ u.kept → Finishes u v (frames_in (channels_after u.channels u.block) []) counts counts
idle-finishes u v counts made ended tail tail' kept = record {
  made = made;
  ended = ended;
  tail = tail ∙ sym tail' ∙ ap (λ f. f ++ v.tail) (sym (no-frames (channels_after u.channels u.block)));
  spent = λ _. tail;
  took = λ n took. record {
    place = subst (λ ks. Each IsPlace ks v.kept) (sym (λ i. kept_kinds (made.format i) (made.channels i)
        (made.block i) n)) (subst (λ xs. Each IsPlace (kept_kinds u.format u.channels u.block n) xs) (sym kept)
        took.place);
    tail_within = rw tail' (omega arith);
  };
  multiplies = λ n _. ap (λ k. k + counts.multiplies) (same n);
  turns = λ n _. omega (arith, same n);
  measures = λ number i. kept_measures (made.format i) (made.channels i) number (made.block i) (kept i);
}
  where
    same : (n : ℕ) → made_so_far v n ≡ made_so_far u n
    same n = λ i. cost_so_far (made.format i) (made.channels i) (made.block i) n n
        (whole_frames (made.block i) n - length ((tail' ∙ sym tail) i))
