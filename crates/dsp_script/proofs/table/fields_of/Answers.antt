use Rattle.std.proofs.Common.{refl}
use Rattle.dsp_script.proofs.table.fields_of.Goals as goal

pub returns-in-Offset : goal.returns-in-Offset
returns-in-Offset c = rw c.in-Offset.is (refl, refl, refl)

pub returns-in-Negate : goal.returns-in-Negate
returns-in-Negate c = rw c.in-Negate.is (refl, refl, refl)

pub returns-in-Abs : goal.returns-in-Abs
returns-in-Abs c = rw c.in-Abs.is (refl, refl, refl)

pub returns-in-Scale : goal.returns-in-Scale
returns-in-Scale c = rw c.in-Scale.is (refl, refl, refl)

pub returns-in-Shift : goal.returns-in-Shift
returns-in-Shift c = rw c.in-Shift.is (refl, refl, refl)

pub returns-in-Clip : goal.returns-in-Clip
returns-in-Clip c = rw c.in-Clip.is (refl, refl, refl)

pub returns-in-To : goal.returns-in-To
returns-in-To c = rw c.in-To.is (refl, refl, refl)

pub returns-in-Add : goal.returns-in-Add
returns-in-Add c = rw c.in-Add.is (refl, refl, refl)

pub returns-in-Sub : goal.returns-in-Sub
returns-in-Sub c = rw c.in-Sub.is (refl, refl, refl)

pub returns-in-Mult : goal.returns-in-Mult
returns-in-Mult c = rw c.in-Mult.is (refl, refl, refl)

pub returns-in-Conj : goal.returns-in-Conj
returns-in-Conj c = rw c.in-Conj.is (refl, refl, refl)

pub returns-in-CmplxMult : goal.returns-in-CmplxMult
returns-in-CmplxMult c = rw c.in-CmplxMult.is (refl, refl, refl)

pub returns-in-CmplxMultReal : goal.returns-in-CmplxMultReal
returns-in-CmplxMultReal c = rw c.in-CmplxMultReal.is (refl, refl, refl)

pub returns-in-MagSquared : goal.returns-in-MagSquared
returns-in-MagSquared c = rw c.in-MagSquared.is (refl, refl, refl)

pub returns-in-Fir : goal.returns-in-Fir
returns-in-Fir c = rw c.in-Fir.is (refl, refl, refl)

pub returns-in-Sparse : goal.returns-in-Sparse
returns-in-Sparse c = rw c.in-Sparse.is (refl, refl, refl)

pub returns-in-Decimate : goal.returns-in-Decimate
returns-in-Decimate c = rw c.in-Decimate.is (refl, refl, refl)

pub returns-in-Interpolate : goal.returns-in-Interpolate
returns-in-Interpolate c = rw c.in-Interpolate.is (refl, refl, refl)

pub returns-in-LatticeFir : goal.returns-in-LatticeFir
returns-in-LatticeFir c = rw c.in-LatticeFir.is (refl, refl, refl)

pub returns-in-LatticeIir : goal.returns-in-LatticeIir
returns-in-LatticeIir c = rw c.in-LatticeIir.is (refl, refl, refl)

pub returns-in-Biquad : goal.returns-in-Biquad
returns-in-Biquad c = rw c.in-Biquad.is (refl, refl, refl)

pub returns-in-Biquad64 : goal.returns-in-Biquad64
returns-in-Biquad64 c = rw c.in-Biquad64.is (refl, refl, refl)

pub returns-in-Conv : goal.returns-in-Conv
returns-in-Conv c = rw c.in-Conv.is (refl, refl, refl)

pub returns-in-ConvPartial : goal.returns-in-ConvPartial
returns-in-ConvPartial c = rw c.in-ConvPartial.is (refl, refl, refl)

pub returns-in-Correlate : goal.returns-in-Correlate
returns-in-Correlate c = rw c.in-Correlate.is (refl, refl, refl)

pub returns-in-Lms : goal.returns-in-Lms
returns-in-Lms c = rw c.in-Lms.is (refl, refl, refl)

pub returns-in-Pid : goal.returns-in-Pid
returns-in-Pid c = rw c.in-Pid.is (refl, refl, refl)

pub returns-in-MatAdd : goal.returns-in-MatAdd
returns-in-MatAdd c = rw c.in-MatAdd.is (refl, refl, refl)

pub returns-in-MatSub : goal.returns-in-MatSub
returns-in-MatSub c = rw c.in-MatSub.is (refl, refl, refl)

pub returns-in-MatScale : goal.returns-in-MatScale
returns-in-MatScale c = rw c.in-MatScale.is (refl, refl, refl)

pub returns-in-MatTrans : goal.returns-in-MatTrans
returns-in-MatTrans c = rw c.in-MatTrans.is (refl, refl, refl)

pub returns-in-MatMult : goal.returns-in-MatMult
returns-in-MatMult c = rw c.in-MatMult.is (refl, refl, refl)

pub returns-in-Power : goal.returns-in-Power
returns-in-Power c = rw c.in-Power.is (refl, refl, refl)

pub returns-in-Dot : goal.returns-in-Dot
returns-in-Dot c = rw c.in-Dot.is (refl, refl, refl)

pub returns-in-CmplxDot : goal.returns-in-CmplxDot
returns-in-CmplxDot c = rw c.in-CmplxDot.is (refl, refl, refl)

pub returns-in-Max : goal.returns-in-Max
returns-in-Max c = rw c.in-Max.is (refl, refl, refl)

pub returns-in-Min : goal.returns-in-Min
returns-in-Min c = rw c.in-Min.is (refl, refl, refl)

pub returns-in-Route : goal.returns-in-Route
returns-in-Route c = rw c.in-Route.is (refl, refl, refl)
