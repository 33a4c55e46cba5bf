use Rattle.std.proofs.Common.{◌≡◌, ◌+◌, ◌-◌, ◌*◌, ◌<◌, ◌≤◌, ℕ, length, map}
use Rattle.dsp_defs.specs.declared.format.Fmt.TheVariants.{Q31}
use Rattle.dsp_sections.specs.Sections.{five_of, Follows, Stays}
use Rattle.dsp_lanes.specs.Turns.{RisesWithin}
use Rattle.dsp_sections.proofs.sections.I32SectionSample.section_rows.Given as goal

abbrev pub invariant-fours : goal.invariant-fours
invariant-fours g l = record {
  within : l.first ≤ l.row;
  size : length l.outputs ≡ length l.fn.outputs;
  follows : (i : ℕ) → i < l.first → Follows Q31 l.post_shift (five_of (map (λ x. x) l.numbers)) l.row
      (map (λ x. x) l.inputs) (map (λ x. x) l.outputs) l.count i;
  past : (i : ℕ) → i < l.row → Stays l.row (map (λ x. x) l.fn.outputs) (map (λ x. x) l.outputs) 2 i;
  counted : (k : ℕ) × (l.first ≡ 4 * k) × RisesWithin l.fn.steps l.steps (l.count * (5 * l.first)) (l.count * (5 * k));
}

abbrev pub decreases-fours : goal.decreases-fours
decreases-fours g l = l.row - l.first

abbrev pub invariant-twos : goal.invariant-twos
invariant-twos g l = record {
  within : l.first ≤ l.row;
  size : length l.outputs ≡ length l.fn.outputs;
  follows : (i : ℕ) → i < l.first → Follows Q31 l.post_shift (five_of (map (λ x. x) l.numbers)) l.row
      (map (λ x. x) l.inputs) (map (λ x. x) l.outputs) l.count i;
  past : (i : ℕ) → i < l.row → Stays l.row (map (λ x. x) l.fn.outputs) (map (λ x. x) l.outputs) 2 i;
  counted : (k m : ℕ) × (l.first ≡ 4 * k + 2 * m) × (l.row < 4 * k + 4)
      × RisesWithin l.fn.steps l.steps (l.count * (5 * l.first)) (l.count * (5 * (k + m)));
}

abbrev pub decreases-twos : goal.decreases-twos
decreases-twos g l = l.row - l.first

abbrev pub invariant-rest : goal.invariant-rest
invariant-rest g l = record {
  within : l.first ≤ l.row;
  size : length l.outputs ≡ length l.fn.outputs;
  follows : (i : ℕ) → i < l.first → Follows Q31 l.post_shift (five_of (map (λ x. x) l.numbers)) l.row
      (map (λ x. x) l.inputs) (map (λ x. x) l.outputs) l.count i;
  past : (i : ℕ) → i < l.row → Stays l.row (map (λ x. x) l.fn.outputs) (map (λ x. x) l.outputs) 2 i;
  counted : (k m r : ℕ) × (l.first ≡ 4 * k + 2 * m + r) × (l.row < 4 * k + 4)
      × RisesWithin l.fn.steps l.steps (l.count * (5 * l.first)) (l.count * (5 * (k + m + r)));
}

abbrev pub decreases-rest : goal.decreases-rest
decreases-rest g l = l.row - l.first
