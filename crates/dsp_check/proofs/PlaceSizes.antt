-- The frames and the samples at each place of a script, for a whole signal.
use Rattle.std.proofs.Common.{◌≡◌, ◌∙◌, ap, sym, ℕ, ◌*◌, ◌/◌, ◌<◌, ◌≤◌, ◌^◌, true, List, [], ◌∷◌, arith}
use Rattle.std.specs.Prelude.{nat_le, Option, Some, None}
use Rattle.std.proofs.lemmas.Bool.Decides.{nat_tests}
use Rattle.std.proofs.lemmas.Grind.{common_steps}
use Rattle.std.proofs.lemmas.Nat.{mul-le}
use Rattle.std.proofs.Math.Nat.{div-le_self, le-mul_of_pos_right}
use Rattle.dsp_defs.specs.Grammar.{Suits}
use Rattle.dsp_defs.specs.Shape.{given_frames, steady_frames, whole_frames, window_at, window_end}
use Rattle.dsp_defs.specs.Sizes.{size_at}
use Rattle.dsp_defs.specs.Table.{flow_after}
use Rattle.dsp_defs.specs.declared.flow.Flow.{Flow}
use Rattle.dsp_defs.specs.declared.limits.TheConstants.{MAX_CHECKED, MAX_INPUT}
use Rattle.dsp_defs.specs.declared.script.Block.{Block}
use Rattle.dsp_defs.specs.declared.script.Block.TheVariants.{Conv, ConvPartial, Correlate}
use Rattle.dsp_defs.proofs.FrameLaws.{whole_frames_are_given}
use Rattle.dsp_shape.specs.FrameRule.{IsRule, groups_by, rule_of}
use Rattle.dsp_shape.proofs.FewFrames.{FewBy, few-by-first}
use Rattle.dsp_shape.proofs.FrameRules.{is-rule, rule-groups, steady-rule}
use Rattle.dsp_shape.proofs.Placed.{IsPlaced, MayStand, placed_after, stand_behind}

-- ---- one block

steady-few : (flow : Flow) (b : Block) (n : ℕ) → Suits flow b → n ≤ MAX_CHECKED → steady_frames b n ≤ MAX_INPUT
steady-few flow b n s h =
    let g = groups_by (rule_of b) in
    let is = rule-groups (rule_of b) (is-rule flow b s) in
    let product = mul-le (n / g.0) g.1 MAX_CHECKED (2 ^ 16) (omega (arith, div-le_self n g.0)) (omega (arith, is.3)) in
    rw (← steady-rule b n) (omega (arith, product))

-- a block gives few frames of few
whole-few : (flow : Flow) (b : Block) (n : ℕ) → Suits flow b → n ≤ MAX_CHECKED → whole_frames b n ≤ MAX_INPUT
whole-few flow (Conv taps) n s h = let few = s.parameters.0.limit in grind (arith, common_steps)
whole-few flow (ConvPartial first count taps) n s h = omega (arith, s.parameters.2.1)
whole-few flow (Correlate taps) n s h = let few = s.parameters.0.limit in grind (arith, common_steps)
whole-few flow b n s h = steady-few flow b n s h

-- ---- the first place with too many samples

-- that of the blocks that are left is that of all
pub record SizesFrom (whole : Option ℕ) (flow : Flow) (rest : List Block) (n : ℕ) : Type 0 where
  pub same : size_at flow.channels rest n ≡ whole
  pub placed : IsPlaced flow rest

-- where it is not here
pub record SizeStep (whole : Option ℕ) (flow : Flow) (b : Block) (more : List Block) (n : ℕ) : Type 0 where
  pub rule : IsRule (rule_of b)
  pub few : whole_frames b n ≤ MAX_INPUT
  pub next : SizesFrom whole (flow_after b flow) more (whole_frames b n)

pub size-step : {whole : Option ℕ} {flow : Flow} {b : Block} {more : List Block} {n : ℕ} →
    SizesFrom whole flow (b ∷ more) n → n * flow.channels ≤ MAX_CHECKED → SizeStep whole flow b more n
size-step {flow = flow} {b = b} {more = more} {n = n} sizes few =
    let p = sizes.placed in
    let test : nat_le (n * flow.channels) MAX_CHECKED ≡ true = grind (arith, nat_tests) in
    record {
      rule = is-rule flow b p.chain.0;
      few = whole-few flow b n p.chain.0 (omega (arith, le-mul_of_pos_right n p.channels.0, few));
      next = record { same = rw test at sizes.same; placed = placed_after flow b more p };
    }

pub few-at : (channels : ℕ) (blocks : List Block) (n : ℕ) → size_at channels blocks n ≡ None →
    n * channels ≤ MAX_CHECKED
few-at channels [] n h = grind (arith, nat_tests)
few-at channels (block ∷ blocks) n h = grind (arith, nat_tests)

-- ---- the first window that ends past its convolution

-- that of the blocks that are left is that of all
pub record WindowsFrom (whole : Option (ℕ × ℕ)) (rest : List Block) (n : ℕ) : Type 0 where
  pub same : window_at rest n ≡ whole
  pub placed : MayStand rest
  pub few : FewBy given_frames rest n
  pub taken : n < 2 ^ 62

-- where it is not here
pub window-step : {whole : Option (ℕ × ℕ)} {b : Block} {more : List Block} {n : ℕ} → WindowsFrom whole (b ∷ more) n →
    window_end b n ≡ None → WindowsFrom whole more (whole_frames b n)
window-step {b = b} {more = more} {n = n} windows none =
    let is = whole_frames_are_given b n none in
    record {
      same = sym (ap (λ (o : Option (ℕ × ℕ)). elim o [ Some w ↦ Some w | None ↦ window_at more (whole_frames b n) ])
          none) ∙ windows.same;
      placed = stand_behind b more windows.placed;
      few = rw is windows.few.1;
      taken = rw is (few-by-first given_frames more (given_frames b n) windows.few.1);
    }
