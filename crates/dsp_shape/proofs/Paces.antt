-- The pace of a chain: what its unit and its frames are, block by block.
use Rattle.std.proofs.Common.{◌≡◌, ℕ, zero, suc, ◌*◌, ◌/◌, ◌%◌, ◌^◌, ◌<◌, ◌≤◌, Bool, true, false, ◌&&◌, List, []}
use Rattle.std.proofs.Common.{◌∷◌, Some, refl, sym, ap, ◌∙◌, arith, subst}
use Rattle.std.specs.Prelude.{fold, nat_le, nat_eq, if◌then◌else◌}
use Rattle.std.proofs.lemmas.Bool.Decides.{nat_tests}
use Rattle.std.proofs.lemmas.Nat.{div-add-mod', mul-le}
use Rattle.std.proofs.Math.Nat.{div-mul_cancel, mul-div_cancel, mul_assoc, mul_comm}
use Rattle.std.proofs.Math.Nat.{le-mul_of_pos_right, mul-le-mul_right, div-le_self}
use Rattle.dsp_defs.specs.declared.limits.TheConstants.{MAX_BLOCK_LENGTH, MAX_SAMPLES}
use Rattle.dsp_defs.specs.declared.flow.Flow.{Flow}
use Rattle.dsp_defs.specs.declared.script.Block.{Block}
use Rattle.dsp_defs.specs.declared.script.Script.{Script}
use Rattle.dsp_defs.specs.Block.{channels_after}
use Rattle.dsp_defs.specs.Grammar.{Suits, IsSound, input_flow}
use Rattle.dsp_defs.specs.Table.{flow_after}
use Rattle.dsp_defs.specs.Shape.{gcd, Pace, steady_frames, grouped_pace, pace_after}
use Rattle.dsp_defs.specs.Shape.{whole_unit, fits_everywhere, is_legal, unit}
use Rattle.dsp_defs.proofs.GcdLaws.{gcd-IsGcd}
use Rattle.dsp_defs.proofs.UnitLaws.{whole_unit-positive}
use Rattle.dsp_unit.proofs.ChainPlaces.{has_groups}
use Rattle.dsp_unit.proofs.CostLaws.{quotient_more}
use Rattle.dsp_shape.specs.FrameRule.{rule_of, groups_by, IsRule}
use Rattle.dsp_shape.specs.declared.frame_rule.FrameRule.{FrameRule}
use Rattle.dsp_shape.specs.Lengths.{is_small, IsSmall}
use Rattle.dsp_shape.proofs.FrameRules.{is-rule, rule-groups, steady-rule, pace-rule}
use Rattle.dsp_shape.proofs.Placed.{IsPlaced, placed_after, placed_sound}

pub both_true : (a b : Bool) → (a && b) ≡ true → (a ≡ true) × (b ≡ true)
both_true true b e = (refl, e)
both_true false b e = absurd cc

-- ---- one group

-- f frames, k times, make whole groups of g
record IsTimes (f g k : ℕ) : Type 0 where
  some : 0 < k
  groups : ℕ
  whole : f * k ≡ groups * g

factor_some : (a b : ℕ) → 0 < a * b → 0 < a
factor_some zero b h = absurd (omega arith)
factor_some (suc a) b h = omega arith

times_of : (f g : ℕ) → 0 < g → IsTimes f g (g / gcd f g)
times_of f g some =
    let d = gcd f g in
    let k = g / d in
    let whole : k * d ≡ g = div-mul_cancel d (gcd-IsGcd f g).1 in
    let parts : f / d * d ≡ f = div-mul_cancel d (gcd-IsGcd f g).0 in
    record {
      some = factor_some k d (omega arith);
      groups = f / d;
      whole = ap (λ (n : ℕ). n * k) (sym parts) ∙ mul_assoc (f / d) d k ∙
          ap (λ (n : ℕ). f / d * n) (mul_comm d k ∙ whole);
    }

cancel : (a b c : ℕ) → 0 < c → a * c ≡ b * c → a ≡ b
cancel a b c some e = sym (mul-div_cancel a some) ∙ ap (λ (n : ℕ). n / c) e ∙ mul-div_cancel b some

-- the input is so many units, and so many of the frames of a unit are here
record IsPaced (pace : Pace) (input frames : ℕ) : Type 0 where
  times : ℕ
  input_is : input ≡ times * pace.unit
  frames_is : frames ≡ times * pace.frames

group_step : (pace : Pace) (g : ℕ × ℕ) (input frames q : ℕ) → 0 < g.0 → 0 < pace.unit → IsPaced pace input frames →
    input ≡ q * (grouped_pace pace (Some g)).unit → frames / g.0 * g.1 ≡ q * (grouped_pace pace (Some g)).frames
group_step pace g input frames q is some p e =
    let f = pace.frames in
    let k = g.0 / gcd f g.0 in
    let t = times_of f g.0 is in
    let same : p.times ≡ q * k = cancel p.times (q * k) pace.unit some
    (sym p.input_is ∙ e ∙ ap (λ (n : ℕ). q * n) (mul_comm pace.unit k) ∙ sym (mul_assoc q k pace.unit)) in
    let whole : frames ≡ (q * t.groups) * g.0 = p.frames_is ∙ ap (λ (m : ℕ). m * f) same ∙ mul_assoc q k f ∙
    ap (λ (n : ℕ). q * n) (mul_comm k f ∙ t.whole) ∙ sym (mul_assoc q t.groups g.0) in
    let count : frames / g.0 ≡ q * t.groups = ap (λ (n : ℕ). n / g.0) whole ∙ mul-div_cancel (q * t.groups) is in
    let groups : f * k / g.0 ≡ t.groups = ap (λ (n : ℕ). n / g.0) t.whole ∙ mul-div_cancel t.groups is in
    ap (λ (n : ℕ). n * g.1) count ∙ mul_assoc q t.groups g.1 ∙ ap (λ (n : ℕ). q * (n * g.1)) (sym groups)

product_some : (a b : ℕ) → 0 < a → 0 < b → 0 < a * b
product_some a b h k = mul-le 1 1 a b h k

times_le : (q n : ℕ) → 0 < q → n ≤ q * n
times_le q n h = omega (arith, mul-le 1 n q n h (omega arith))

-- a pace has frames, and its unit is a multiple of the one before
record IsAfter (before after : Pace) : Type 0 where
  unit : ℕ
  unit_is : after.unit ≡ before.unit * unit
  unit_some : 0 < unit
  frames_some : 0 < after.frames

group_after : (pace : Pace) (g : ℕ × ℕ) → 0 < g.0 → 0 < g.1 → 0 < pace.frames →
    IsAfter pace (grouped_pace pace (Some g))
group_after pace g taken given some =
    let f = pace.frames in
    let k = g.0 / gcd f g.0 in
    let t = times_of f g.0 taken in
    let groups : f * k / g.0 ≡ t.groups = ap (λ (n : ℕ). n / g.0) t.whole ∙ mul-div_cancel t.groups taken in
    let whole : 0 < t.groups * g.0 = rw (← t.whole) (product_some f k some t.some) in
    record {
      unit = k;
      unit_is = refl;
      unit_some = t.some;
      frames_some = rw groups (product_some t.groups g.1 (factor_some t.groups g.0 whole) given);
    }

-- ---- one block

block_after : (flow : Flow) (pace : Pace) (b : Block) → Suits flow b → 0 < pace.frames →
    IsAfter pace (pace_after pace b)
block_after flow pace b s some =
    let is = rule-groups (rule_of b) (is-rule flow b s) in
    subst (IsAfter pace) (pace-rule pace b) (group_after pace (groups_by (rule_of b)) is.0 is.1 some)

block_step : (flow : Flow) (pace : Pace) (b : Block) (input frames q : ℕ) → Suits flow b → 0 < pace.unit →
    IsPaced pace input frames → input ≡ q * (pace_after pace b).unit → steady_frames b frames ≡ q *
    (pace_after pace b).frames
block_step flow pace b input frames q s some p e =
    let is = rule-groups (rule_of b) (is-rule flow b s) in
    let same = pace-rule pace b in
    sym (steady-rule b frames) ∙ group_step pace (groups_by (rule_of b)) input frames q is.0 some p
    (e ∙ ap (λ (next : Pace). q * next.unit) (sym same)) ∙ ap (λ (next : Pace). q * next.frames) same

-- what the next pace multiplies fits its type
pub pace_few : (r : FrameRule) (frames d : ℕ) → IsRule r → frames ≤ MAX_SAMPLES →
    frames * ((groups_by r).0 / d) / (groups_by r).0 * (groups_by r).1 < 2 ^ 64
pace_few r frames d is few =
    let (taken, given) = groups_by r in
    let g = rule-groups r is in
    let times : taken / d ≤ 2 ^ 16 = omega (arith, div-le_self taken d, g.2) in
    let all = mul-le frames (taken / d) MAX_SAMPLES (2 ^ 16) few times in
    let groups = div-le_self (frames * (taken / d)) taken in
    omega (
      arith,
      mul-le (frames * (taken / d) / taken) given (MAX_SAMPLES * 2 ^ 16) (2 ^ 16) (omega (arith, all, groups))
          (omega (arith, g.3)),
    )

-- ---- a chain

fits_both : (channels : ℕ) (b : Block) (blocks : List Block) (n : ℕ) →
    fits_everywhere channels (b ∷ blocks) n ≡ true → (n * channels ≤ MAX_SAMPLES) ×
    (fits_everywhere (channels_after channels b) blocks (steady_frames b n) ≡ true)
fits_both channels b blocks n h =
    let both = both_true (nat_le (n * channels) MAX_SAMPLES)
    (fits_everywhere (channels_after channels b) blocks (steady_frames b n)) h in
    (grind (arith, nat_tests, both.0), both.1)

fits_here : (channels : ℕ) (blocks : List Block) (n : ℕ) → fits_everywhere channels blocks n ≡ true →
    n * channels ≤ MAX_SAMPLES
fits_here channels [] n h = grind (arith, nat_tests)
fits_here channels (b ∷ blocks) n h = (fits_both channels b blocks n h).0

-- the unit of the whole chain is a multiple of the one here
unit_total : (flow : Flow) (blocks : List Block) (pace : Pace) → IsPlaced flow blocks → 0 < pace.frames →
    (t : ℕ) × ((fold pace_after pace blocks).unit ≡ pace.unit * t) × (0 < t)
unit_total flow [] pace p some = (1, omega arith, omega arith)
unit_total flow (b ∷ blocks) pace p some =
    let a = block_after flow pace b p.chain.0 some in
    let more = unit_total (flow_after b flow) blocks (pace_after pace b) (placed_after flow b blocks p)
    a.frames_some in (
      a.unit * more.0,
      more.1 ∙ ap (λ (n : ℕ). n * more.0) a.unit_is ∙ mul_assoc pace.unit a.unit more.0,
      product_some a.unit more.0 a.unit_some more.2,
    )

-- what a legal block length is
pub record IsLegal (channels : ℕ) (blocks : List Block) (n : ℕ) : Type 0 where
  pub some : 1 ≤ n
  pub few : n ≤ MAX_BLOCK_LENGTH
  pub whole : n % whole_unit blocks ≡ 0
  pub fits : fits_everywhere channels blocks n ≡ true

pub legal_parts : (channels : ℕ) (blocks : List Block) (n : ℕ) → is_legal channels blocks n ≡ true →
    IsLegal channels blocks n
legal_parts channels blocks n h =
    let c = both_true (nat_le 1 n && nat_le n MAX_BLOCK_LENGTH && nat_eq (n % whole_unit blocks) 0)
    (fits_everywhere channels blocks n) h in
    let b = both_true (nat_le 1 n && nat_le n MAX_BLOCK_LENGTH) (nat_eq (n % whole_unit blocks) 0) c.0 in
    let a = both_true (nat_le 1 n) (nat_le n MAX_BLOCK_LENGTH) b.0 in
    record {
      some = grind (arith, nat_tests, a.0);
      few = grind (arith, nat_tests, a.1);
      whole = grind (arith, nat_tests, b.1);
      fits = c.1;
    }

-- a block of so many frames is legal here, at so many frames
record MayRun (flow : Flow) (items : List Block) (pace : Pace) (input : ℕ) : Type 0 where
  frames : ℕ
  paced : IsPaced pace input frames
  fits : fits_everywhere flow.channels items frames ≡ true

-- so far the pace is small, and each legal block length leads to these blocks
pub record IsPacing (channels : ℕ) (blocks : List Block) (pace : Pace) (items : List Block) : Type 0 where
  flow : Flow
  placed : IsPlaced flow items
  pub small : IsSmall pace
  pub whole : (fold pace_after pace items).unit ≡ whole_unit blocks
  runs : (n : ℕ) → IsLegal channels blocks n → MayRun flow items pace n

pub pacing_begins : (s : Script) → IsSound s →
    IsPacing s.input.channels s.blocks (record { unit = 1; frames = 1 }) s.blocks
pacing_begins s sound = record {
  flow = input_flow s.input;
  placed = placed_sound s sound;
  small = record { unit = (omega arith, omega arith); frames = (omega arith, omega arith) };
  whole = refl;
  runs = λ n legal. record {
    frames = n;
    paced = record { times = n; input_is = omega arith; frames_is = omega arith };
    fits = legal.fits;
  };
}

module _ {channels : ℕ} {blocks items : List Block} {pace : Pace} (b : Block)
    (p : IsPacing channels blocks pace (b ∷ items)) where
  pub block_is : (flow : Flow) × Suits flow b
  block_is = (p.flow, p.placed.chain.0)

  abbrev next : Pace
  next = pace_after pace b

  later : IsPlaced (flow_after b p.flow) items
  later = placed_after p.flow b items p.placed

  after : IsAfter pace next
  after = block_after p.flow pace b p.placed.chain.0 p.small.frames.0

  run_on : (n : ℕ) → IsLegal channels blocks n → MayRun (flow_after b p.flow) items next n × (is_small next ≡ true)
  run_on n legal =
      let r = p.runs n legal in
      let total = unit_total (flow_after b p.flow) items next later after.frames_some in
      let w = whole_unit blocks in
      let q = n / w * total.0 in
      let units : n ≡ n / w * w = omega (arith, div-add-mod' n w, legal.whole) in
      let input_is : n ≡ q * next.unit = units ∙ ap (λ (u : ℕ). n / w * u)
      (sym p.whole ∙ total.1 ∙ mul_comm next.unit total.0) ∙ sym (mul_assoc (n / w) total.0 next.unit) in
      let steady = block_step p.flow pace b n r.frames q p.placed.chain.0 p.small.unit.0 r.paced input_is in
      let q_some : 0 < q = factor_some q next.unit (rw (← input_is) legal.some) in
      let fits = (fits_both p.flow.channels b items r.frames r.fits).1 in
      let unit_few : next.unit ≤ n = rw input_is (times_le q next.unit q_some) in
      let frames_few : next.frames ≤ steady_frames b r.frames = rw steady (times_le q next.frames q_some) in
      let few = fits_here (flow_after b p.flow).channels items (steady_frames b r.frames) fits in
      let samples = le-mul_of_pos_right (steady_frames b r.frames) later.channels.0 in
      let one : nat_le next.unit MAX_BLOCK_LENGTH ≡ true = grind (arith, nat_tests, unit_few, legal.few) in
      let most : next.frames ≤ MAX_SAMPLES = omega (arith, frames_few, few, samples) in
      let two : nat_le next.frames MAX_SAMPLES ≡ true = grind (arith, nat_tests, most) in (
        record {
          frames = steady_frames b r.frames;
          paced = record { times = q; input_is = input_is; frames_is = steady };
          fits = fits;
        },
        rw (one, two) refl,
      )

  -- the pace stays small, or no block length is legal
  pub pacing_goes_on : is_small next ≡ true → IsPacing channels blocks next items
  pacing_goes_on h =
      let both = both_true (nat_le next.unit MAX_BLOCK_LENGTH) (nat_le next.frames MAX_SAMPLES) h in
      record {
        flow = flow_after b p.flow;
        placed = later;
        small = record {
          unit = (
            rw after.unit_is (product_some pace.unit after.unit p.small.unit.0 after.unit_some),
            grind (arith, nat_tests, both.0),
          );
          frames = (after.frames_some, grind (arith, nat_tests, both.1));
        };
        whole = p.whole;
        runs = λ n legal. (run_on n legal).0;
      }

  pub pacing_ends : is_small next ≡ false → (n : ℕ) → is_legal channels blocks n ≡ false
  pacing_ends h n = tested (is_legal channels blocks n) refl
    where
      tested : (t : Bool) → is_legal channels blocks n ≡ t → t ≡ false
      tested true legal = let small = (run_on n (legal_parts channels blocks n legal)).1 in cc
      tested false legal = refl

-- ---- the unit

-- fewer frames fit where more do
steady_fewer : (b : Block) (m n : ℕ) → m ≤ n → steady_frames b m ≤ steady_frames b n
steady_fewer b m n h =
    let g = groups_by (rule_of b) in
    rw (← steady-rule b m, ← steady-rule b n) (mul-le-mul_right g.1 (quotient_more m n g.0 h))

fits_fewer : (channels : ℕ) (blocks : List Block) (m n : ℕ) → m ≤ n → fits_everywhere channels blocks n ≡ true →
    fits_everywhere channels blocks m ≡ true
fits_fewer channels [] m n order h =
    let most : n * channels ≤ MAX_SAMPLES = grind (arith, nat_tests, h) in
    let less = mul-le-mul_right channels order in
    grind (arith, nat_tests, most, less)
fits_fewer channels (b ∷ blocks) m n order h =
    let both = fits_both channels b blocks n h in
    let less : m * channels ≤ MAX_SAMPLES = omega (arith, both.0, mul-le-mul_right channels order) in
    let here : nat_le (m * channels) MAX_SAMPLES ≡ true = grind (arith, nat_tests, less) in
    let later = fits_fewer (channels_after channels b) blocks (steady_frames b m) (steady_frames b n)
    (steady_fewer b m n order) both.1 in
    rw (here, later) refl

factor_le : (q w n : ℕ) → n ≡ q * w → 1 ≤ n → w ≤ n
factor_le zero w n is some = absurd (omega (arith, is, some))
factor_le (suc q) w n is some = omega (arith, is)

-- the unit divides each legal block length
pub unit_divides : (s : Script) → IsSound s → (n : ℕ) → is_legal s.input.channels s.blocks n ≡ true →
    (1 ≤ unit s.input.channels s.blocks) × (n % unit s.input.channels s.blocks ≡ 0)
unit_divides s sound n h =
    let placed = placed_sound s sound in
    let l = legal_parts s.input.channels s.blocks n h in
    let w = whole_unit s.blocks in
    let some = whole_unit-positive s.blocks (has_groups (input_flow s.input) s.blocks placed.chain) in
    let fewer : w ≤ n = factor_le (n / w) w n (omega (arith, div-add-mod' n w, l.whole)) l.some in
    let self : w % w ≡ 0 = grind (arith, some) in
    let one : nat_le 1 w ≡ true = grind (arith, nat_tests, some) in
    let two : nat_le w MAX_BLOCK_LENGTH ≡ true = grind (arith, nat_tests, fewer, l.few) in
    let three : nat_eq (w % w) 0 ≡ true = grind (arith, nat_tests, self) in
    let four = fits_fewer s.input.channels s.blocks w n fewer l.fits in
    let legal : is_legal s.input.channels s.blocks w ≡ true = rw (one, two, three, four) refl in
    let is : unit s.input.channels s.blocks ≡ w = rw legal refl in
    rw is (some, l.whole)

-- a unit that is not 0 is legal itself
pub unit_legal : (s : Script) → 1 ≤ unit s.input.channels s.blocks →
    is_legal s.input.channels s.blocks (unit s.input.channels s.blocks) ≡ true
unit_legal s = tested (is_legal s.input.channels s.blocks (whole_unit s.blocks)) refl
  where
    tested : (legal : Bool) → is_legal s.input.channels s.blocks (whole_unit s.blocks) ≡ legal →
        1 ≤ (if legal then whole_unit s.blocks else 0) →
        is_legal s.input.channels s.blocks (if legal then whole_unit s.blocks else 0) ≡ true
    tested true is some = is
    tested false is some = absurd (omega (arith, some))
