use Rattle.std.proofs.Common.{◌≡◌, ◌∙◌, ◌<◌, ◌*◌, ◌+◌, length, arith, rules}
use Rattle.dsp_rate.proofs.InterpolateLemmas.{phase-apart, place-within, place-written}
use Rattle.dsp_defs.proofs.SumLemmas.{sample-map-set_other}
use Rattle.dsp_rate.proofs.phases.write_phase.Goals as goal

pub offset_bounds-out-i : goal.offset_bounds-out-i
offset_bounds-out-i g c =
    let within = place-within (length c.args.row.now) c.args.factor c.loop-i.i c.args.phase c.loop-i-test.true
    c.requires.phase in
    let below : c.loop-i.i * c.args.factor + c.args.phase < length c.loop-i.out =
    omega (arith, within, c.requires.room, c.loop-i.auto.out) in
    search rules

pub loop-i-preserved : goal.loop-i-preserved
loop-i-preserved g c =
    let number = g.T.Sample.number in
    let i = c.loop-i.i in
    let out = c.loop-i.out in
    let factor = c.args.factor in
    let phase = c.args.phase in
    let value = c.index-row-i.result in
    let size : length out ≡ length c.args.row.now * factor = c.loop-i.auto.out ∙ c.requires.room in
    record {
      written = place-written number c.args.row.now out factor phase i value c.requires.phase c.loop-i-test.true size
          c.index-row-i.is c.loop-i.invariant.written;
      others = λ k other. sample-map-set_other number out (i * factor + phase) k value
          (phase-apart factor i k phase c.requires.phase other) ∙ c.loop-i.invariant.others k other;
    }
