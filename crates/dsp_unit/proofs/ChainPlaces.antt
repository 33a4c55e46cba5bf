-- What holds at each place of a chain whose blocks may stand there.
use Rattle.std.proofs.Common.{◌≡◌, ℕ, ◌*◌, ◌/◌, ◌%◌, ◌<◌, ◌≤◌, min, Bool, List, [], ◌∷◌, length, Option, Some, None}
use Rattle.std.proofs.Common.{IfSome, refl, sym, ap, ◌∙◌, arith, subst}
use Rattle.std.specs.Prelude.{IsTrue, nat_le, nat_eq, ◌&&◌, ◌==◌}
use Rattle.std.specs.Int.{div_ceil}
use Rattle.std.proofs.lemmas.Bool.Decides.{nat_tests}
use Rattle.std.proofs.Math.Nat.{mul-le-mul}
use Rattle.dsp_defs.specs.declared.limits.TheConstants.{MAX_CHANNELS, MAX_SAMPLES, MAX_BLOCK_LENGTH}
use Rattle.dsp_defs.specs.declared.flow.Flow.{Flow}
use Rattle.dsp_defs.specs.declared.format.Fmt.{Fmt}
use Rattle.dsp_defs.specs.declared.script.Block.{Block}
use Rattle.dsp_defs.specs.declared.script.Block.TheVariants.{Add, Sub, Mult, CmplxMult, CmplxMultReal, MagSquared}
use Rattle.dsp_defs.specs.declared.script.Block.TheVariants.{Decimate, Interpolate, MatAdd, MatSub, MatScale}
use Rattle.dsp_defs.specs.declared.script.Block.TheVariants.{MatTrans, MatMult, Route}
use Rattle.dsp_defs.specs.Block.{live_chain, format_after, channels_after}
use Rattle.dsp_defs.specs.Grammar.{Suits, IsChain}
use Rattle.dsp_defs.specs.Table.{flow_after}
use Rattle.dsp_defs.specs.Shape.{group_of, groups_after, steady_frames, AreWholeGroups, GroupsAreWhole, HasChannels}
use Rattle.dsp_defs.specs.Shape.{HasGroups, fits_everywhere, whole_unit, is_legal}
use Rattle.dsp_unit.specs.Unit.{most_groups, most_frames}
use Rattle.dsp_unit.specs.Line.{Place, place_after, place_behind, place_room}
use Rattle.dsp_unit.proofs.NewLine.{live-nothing}
use Rattle.dsp_defs.proofs.UnitLaws.{whole_groups-back}

-- a chain has given nothing of no frames
pub live_chain-nil : (format : Fmt) (channels : ℕ) (blocks : List Block) → live_chain format channels blocks [] ≡ []
live_chain-nil format channels [] = refl
live_chain-nil format channels (block ∷ blocks) =
    ap (live_chain (format_after format block) (channels_after channels block) blocks)
    (live-nothing format channels block)
    ∙ live_chain-nil (format_after format block) (channels_after channels block) blocks

-- ---- one block

pub product_some : (a b : ℕ) → 1 ≤ a → 1 ≤ b → 1 ≤ a * b
product_some a b h k = mul-le-mul h k

complete_some : (n : ℕ) → IsTrue (nat_le 1 n && n % 1 == 0) → 1 ≤ n
complete_some n h = grind (arith, nat_tests)

-- channels come out of a block that has some
pub some_channels_after : (flow : Flow) (b : Block) → Suits flow b → 1 ≤ flow.channels →
    1 ≤ channels_after flow.channels b
some_channels_after flow Add s c = omega arith
some_channels_after flow Sub s c = omega arith
some_channels_after flow Mult s c = omega arith
some_channels_after flow CmplxMult s c = omega arith
some_channels_after flow CmplxMultReal s c = omega arith
some_channels_after flow MagSquared s c = omega arith
some_channels_after flow (Route channels) s c = complete_some (length channels) s.parameters.0.count
some_channels_after flow b s c = c

-- and no more than there may be
pub few_channels_after : (flow : Flow) (b : Block) → Suits flow b → flow.channels ≤ MAX_CHANNELS →
    channels_after flow.channels b ≤ MAX_CHANNELS
few_channels_after flow Add s c = omega arith
few_channels_after flow Sub s c = omega arith
few_channels_after flow Mult s c = omega arith
few_channels_after flow CmplxMult s c = omega arith
few_channels_after flow CmplxMultReal s c = omega arith
few_channels_after flow MagSquared s c = omega arith
few_channels_after flow (Route channels) s c = s.parameters.0.limit
few_channels_after flow b s c = c

-- a group takes some frames and gives some
abbrev pub TakesAndGives : Option (ℕ × ℕ) → Type 0
TakesAndGives group = IfSome group (λ g. (0 < g.0) × (0 < g.1))

pub takes_and_gives : (flow : Flow) (b : Block) → Suits flow b → TakesAndGives (group_of b)
takes_and_gives flow (Decimate factor taps) s = (s.parameters.0, omega arith)
takes_and_gives flow (MatAdd rows columns matrix) s = let some =
    product_some rows columns s.parameters.0 s.parameters.2.0 in (some, some)
takes_and_gives flow (MatSub rows columns matrix) s = let some =
    product_some rows columns s.parameters.0 s.parameters.2.0 in (some, some)
takes_and_gives flow (MatScale rows columns fract shift) s = let some =
    product_some rows columns s.parameters.0 s.parameters.2.0 in (some, some)
takes_and_gives flow (MatTrans rows columns) s = let some =
    product_some rows columns s.parameters.0 s.parameters.2.0 in (some, some)
takes_and_gives flow (MatMult rows columns given matrix) s = (
  product_some rows columns s.parameters.0 s.parameters.2.0,
  product_some rows given s.parameters.0 s.parameters.2.2.0,
)
takes_and_gives flow b s = tt

takes_some : (group : Option (ℕ × ℕ)) → TakesAndGives group → IfSome group (λ g. 0 < g.0)
takes_some None h = tt
takes_some (Some g) h = h.0

-- ---- a chain

pub has_channels : (flow : Flow) (blocks : List Block) → IsChain flow blocks → 1 ≤ flow.channels →
    HasChannels flow.channels blocks
has_channels flow [] chain some = some
has_channels flow (b ∷ blocks) chain some = (
  some,
  has_channels (flow_after b flow) blocks chain.1
      (some_channels_after flow b chain.0 some),
)

pub has_groups : (flow : Flow) (blocks : List Block) → IsChain flow blocks → HasGroups blocks
has_groups flow [] chain = tt
has_groups flow (b ∷ blocks) chain = (
  takes_some (group_of b) (takes_and_gives flow b chain.0),
  has_groups (flow_after b flow) blocks chain.1,
)

-- ---- a legal block length

-- what flows at a place
abbrev pub flow_at : Place → Flow
flow_at p = record { format = p.format; channels = p.channels }

-- some frames of some channels pass the place in one call, and their samples are within the limit
pub record IsOpen (p : Place) : Type 0 where
  pub channels : 1 ≤ p.channels
  pub capacity : 1 ≤ p.capacity
  pub samples : place_room p ≤ MAX_SAMPLES

-- each place is open, and each block suits its place
abbrev pub AllOpen : Place → List Block → Type 0
AllOpen p [] = IsOpen p
AllOpen p (b ∷ blocks) = IsOpen p × Suits (flow_at p) b × AllOpen (place_after p b) blocks

-- of whole groups a call gives as many frames as it gives of them after any others
most_of_groups : (group : Option (ℕ × ℕ)) (n : ℕ) → AreWholeGroups group n → most_groups group n ≡ groups_after group n
most_of_groups None n whole = refl
most_of_groups (Some g) n whole =
    let exact : min 1 (n % g.0) ≡ 0 = omega (arith, whole) in
    let count : div_ceil n g.0 ≡ n / g.0 = omega (arith, exact) in
    ap (λ (k : ℕ). k * g.1) count

most_is_steady : (b : Block) (n : ℕ) → AreWholeGroups (group_of b) n → most_frames b n ≡ steady_frames b n
most_is_steady (Interpolate factor taps) n whole = refl
most_is_steady b n whole = most_of_groups (group_of b) n whole

some_quotient : (n k : ℕ) → 1 ≤ n → 0 < k → n % k ≡ 0 → 1 ≤ n / k
some_quotient n k some positive whole = grind arith

some_of_groups : (group : Option (ℕ × ℕ)) (n : ℕ) → TakesAndGives group → AreWholeGroups group n → 1 ≤ n →
    1 ≤ groups_after group n
some_of_groups None n both whole some = some
some_of_groups (Some g) n both whole some = product_some (n / g.0) g.1 (some_quotient n g.0 some both.0 whole) both.1

some_steady : (flow : Flow) (b : Block) (n : ℕ) → Suits flow b → AreWholeGroups (group_of b) n → 1 ≤ n →
    1 ≤ steady_frames b n
some_steady flow (Interpolate factor taps) n s whole some = product_some n factor some s.parameters.0
some_steady flow b n s whole some = some_of_groups (group_of b) n (takes_and_gives flow b s) whole some

within : (n limit : ℕ) → IsTrue (nat_le n limit) → n ≤ limit
within n limit h = grind (arith, nat_tests)

and_left : (a b : Bool) → IsTrue (a && b) → IsTrue a
and_left a b h = grind (arith, nat_tests)

and_right : (a b : Bool) → IsTrue (a && b) → IsTrue b
and_right a b h = grind (arith, nat_tests)

all_open : (p : Place) (blocks : List Block) → IsChain (flow_at p) blocks → 1 ≤ p.channels → 1 ≤ p.capacity →
    GroupsAreWhole blocks p.capacity → IsTrue (fits_everywhere p.channels blocks p.capacity) → AllOpen p blocks
all_open p [] chain channels capacity whole fits = record
    { channels = channels; capacity = capacity; samples = within (place_room p) MAX_SAMPLES fits }
all_open p (b ∷ blocks) chain channels capacity whole fits =
    let steady : most_frames b p.capacity ≡ steady_frames b p.capacity = most_is_steady b p.capacity whole.0 in
    let later = fits_everywhere (channels_after p.channels b) blocks (steady_frames b p.capacity) in (
      record {
        channels = channels;
        capacity = capacity;
        samples =
            within (place_room p) MAX_SAMPLES (and_left (nat_le (place_room p) MAX_SAMPLES) later fits);
      },
      chain.0,
      all_open (place_after p b) blocks chain.1 (some_channels_after (flow_at p) b chain.0 channels)
          (subst (λ (n : ℕ). 1 ≤ n) (sym steady) (some_steady (flow_at p) b p.capacity chain.0 whole.0 capacity))
          (subst (GroupsAreWhole blocks) (sym steady) whole.1)
          (subst (λ (n : ℕ). IsTrue (fits_everywhere (channels_after p.channels b) blocks n)) (sym steady)
          (and_right (nat_le (place_room p) MAX_SAMPLES) later fits)),
    )

-- what a legal block length says
pub record IsBlockLength (channels : ℕ) (blocks : List Block) (length : ℕ) : Type 0 where
  pub some : 1 ≤ length
  pub limit : length ≤ MAX_BLOCK_LENGTH
  pub multiple : length % whole_unit blocks ≡ 0
  pub fits : IsTrue (fits_everywhere channels blocks length)

is_block_length : (channels : ℕ) (blocks : List Block) (length : ℕ) → IsTrue (is_legal channels blocks length) →
    IsBlockLength channels blocks length
is_block_length channels blocks length legal =
    let low = nat_le 1 length in
    let high = nat_le length MAX_BLOCK_LENGTH in
    let multiple = nat_eq (length % whole_unit blocks) 0 in
    let fits = fits_everywhere channels blocks length in
    let front = and_left (low && high && multiple) fits legal in
    let ends = and_left (low && high) multiple front in
    record {
      some = within 1 length (and_left low high ends);
      limit = within length MAX_BLOCK_LENGTH (and_right low high ends);
      multiple = same (length % whole_unit blocks) 0 (and_right (low && high) multiple front);
      fits = and_right (low && high && multiple) fits legal;
    }
  where
    same : (n k : ℕ) → IsTrue (nat_eq n k) → n ≡ k
    same n k h = grind (arith, nat_tests)

-- in blocks of a legal length each place is open
pub legal_is_open : (p : Place) (blocks : List Block) → IsChain (flow_at p) blocks → 1 ≤ p.channels →
    IsTrue (is_legal p.channels blocks p.capacity) → AllOpen p blocks
legal_is_open p blocks chain channels legal =
    let is = is_block_length p.channels blocks p.capacity legal in
    all_open p blocks chain channels is.some (whole_groups-back blocks p.capacity
    (has_groups (flow_at p) blocks chain) is.multiple) is.fits

-- so it is behind the last block
pub open_behind : (p : Place) (blocks : List Block) → AllOpen p blocks → IsOpen (place_behind p blocks)
open_behind p [] h = h
open_behind p (b ∷ blocks) h = open_behind (place_after p b) blocks h.2
