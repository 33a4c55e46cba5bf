use Rattle.std.proofs.Common.{refl, arith, map, w32, w64}
use Rattle.std.specs.Int.{int_wrap}
use Rattle.std.proofs.lemmas.Simd.{shifts_fit_splat}
use Rattle.dsp_lanes.proofs.LaneOps.{bits_of}
use Rattle.dsp_lanes.proofs.LaneClosings.{stored, low_lanes_are, words_fit}
use Rattle.dsp_lanes.proofs.HighProducts.{casts_down}
use Rattle.dsp_sections.proofs.sections.I32SectionKernels.store.Goals as goal

pub overflow_shl-samples : goal.overflow_shl-samples
overflow_shl-samples g c = shifts_fit_splat 64 _ g.row.L 32 (omega arith)

pub overflow_shr-samples : goal.overflow_shr-samples
overflow_shr-samples g c = shifts_fit_splat 64 _ g.row.L 32 (omega arith)

pub overflow_cast-samples : goal.overflow_cast-samples
overflow_cast-samples g c =
    let xs = c.args.numbers in
    (casts_down _ (map (int_wrap w32) xs) (low_lanes_are g.row.L (bits_of w64 xs) xs refl (omega arith) c.requires.fit)
    (words_fit xs)).0

pub returns : goal.returns
returns g c =
    let xs = c.args.numbers in
    stored c.args.at c.args.samples.now _ _
    (casts_down _ (map (int_wrap w32) xs) (low_lanes_are g.row.L (bits_of w64 xs) xs refl (omega arith) c.requires.fit)
    (words_fit xs)).1
