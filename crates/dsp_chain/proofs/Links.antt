-- The rules of a link count what its unit counts.
use Rattle.std.proofs.Common.{◌≡◌, ◌∙◌, ap, sym, subst, ℕ, ◌*◌, ◌^◌, ◌<◌, ◌≤◌, Bool, length, arith}
use Rattle.dsp_defs.specs.Block.{channels_after}
use Rattle.dsp_defs.specs.Kept.{IsPlace, kept_count, kept_kinds, place_of}
use Rattle.dsp_defs.specs.Shape.{whole_frames, live_frames, window_end}
use Rattle.dsp_defs.specs.declared.script.Block.{Block}
use Rattle.dsp_defs.specs.declared.script.Block.TheVariants.{Decimate, MatAdd, MatSub, MatScale, MatTrans, MatMult}
use Rattle.dsp_unit.specs.Unit.{UnitState, MadeAs, IsMade, most_frames, room_of}
use Rattle.dsp_unit.proofs.ChannelKept.{each-length}
use Rattle.dsp_defs.specs.declared.format.Fmt.{Fmt}
use Rattle.dsp_shape.specs.FrameRule.{rule_of, whole_by, live_by, gathers, window_of, IsRule}
use Rattle.dsp_shape.specs.KeptRule.{kept_rule, count_by, place_by}
use Rattle.dsp_shape.specs.declared.frame_rule.FrameRule.{FrameRule}
use Rattle.dsp_shape.specs.declared.kept_rule.KeptRule.{KeptRule}
use Rattle.dsp_shape.proofs.FrameRules.{whole-rule, live-rule, window-rule}
use Rattle.dsp_shape.proofs.KeptRules.{count-rule, place-rule}
use Rattle.dsp_chain.specs.Link.{unit_rule, IsLink}

some-group : (fixed channels : ℕ) (b : Block) → IsRule (rule_of b) → 0 < (kept_rule fixed channels b).period
some-group fixed channels (Decimate factor taps) is = is.0
some-group fixed channels (MatAdd rows columns matrix) is = is.0
some-group fixed channels (MatSub rows columns matrix) is = is.0
some-group fixed channels (MatScale rows columns fract shift) is = is.0
some-group fixed channels (MatTrans rows columns) is = is.0
some-group fixed channels (MatMult rows columns given matrix) is = is.0
some-group fixed channels b is = omega arith

module _ {rule : FrameRule} {kept : KeptRule} {room : ℕ} {u v : UnitState} (is : IsLink rule kept room u)
    (same : u ≡ v) where
  link : IsLink rule kept room v
  link = subst (IsLink rule kept room) same is

  pub link-whole : (n : ℕ) → whole_by rule n ≡ whole_frames v.block n
  link-whole n = ap (λ r. whole_by r n) link.frames_are ∙ whole-rule v.block n

  pub link-live : (n : ℕ) → live_by rule n ≡ live_frames v.block n
  link-live n = ap (λ r. live_by r n) link.frames_are ∙ live-rule v.block n

  pub link-gathers : gathers rule ≡ gathers (rule_of v.block)
  link-gathers = ap gathers link.frames_are

  pub link-window : (n : ℕ) → window_of rule n ≡ window_end v.block n
  link-window n = ap (λ r. window_of r n) link.frames_are ∙ window-rule v.block n

  pub link-period : 0 < kept.period
  link-period = subst (λ (k : KeptRule). 0 < k.period) (sym link.numbers_are)
      (some-group (kept_count v.format v.channels v.block 0) v.channels v.block
      (subst IsRule link.frames_are link.is_rule))

  pub link-count : (n : ℕ) → n < 2 ^ 62 → count_by kept n ≡ kept_count v.format v.channels v.block n
  link-count n few = ap (λ r. count_by r n) link.numbers_are ∙ sym (count-rule v.format v.channels v.block n few)

  pub link-place : (n : ℕ) → n < 2 ^ 62 → place_by kept n ≡ place_of v.block n
  link-place n few = ap (λ r. place_by r n) link.numbers_are ∙
      sym (place-rule (kept_count v.format v.channels v.block 0) v.channels v.block n few)

-- it stays a link where its unit is made as before
pub link-again : (rule : FrameRule) (kept : KeptRule) (room : ℕ) (u v : UnitState) → MadeAs u v →
    IsLink rule kept room u → IsLink rule kept room v
link-again rule kept room u v made is =
    let same : room_of v ≡ room_of u = λ i. most_frames (made.block i) (made.capacity i) *
    channels_after (made.channels i) (made.block i) in
    let numbers : unit_rule v ≡ unit_rule u = λ i. kept_rule (kept_count (made.format i) (made.channels i)
    (made.block i) 0) (made.channels i) (made.block i) in
    record {
      fits = omega (arith, same, is.fits);
      frames_are = is.frames_are ∙ ap rule_of (sym made.block);
      numbers_are = is.numbers_are ∙ sym numbers;
      is_rule = is.is_rule;
    }

-- a new unit with the rules of its block is one
pub new-link : (banked : Bool) (b : Block) (f : Fmt) (c n fixed : ℕ) (rule : FrameRule) (kept : KeptRule) (room : ℕ)
    (u : UnitState) → IsMade banked b f c n u → fixed ≡ length u.kept → rule ≡ rule_of b → kept ≡ kept_rule fixed c b →
    IsRule (rule_of b) → room_of u ≤ room → IsLink rule kept room u
new-link banked b f c n fixed rule kept room u new is frames numbers is_rule fits =
    let count : fixed ≡ kept_count u.format u.channels u.block 0 = is ∙
    each-length IsPlace (kept_kinds u.format u.channels u.block 0) u.kept new.counts.place in
    let same : kept_rule fixed c b ≡ unit_rule u = λ i. kept_rule (count i) (sym new.channels i) (sym new.block i) in
    record {
      fits = fits;
      frames_are = frames ∙ ap rule_of (sym new.block);
      numbers_are = numbers ∙ same;
      is_rule = subst IsRule (sym frames) is_rule;
    }
