use Rattle.std.proofs.Common.{rules}
use Rattle.dsp_channelwise.proofs.channel.whole_channel.Goals as goal

pub returns-in-Fir : goal.returns-in-Fir
returns-in-Fir g c = search rules

pub returns-in-Sparse : goal.returns-in-Sparse
returns-in-Sparse g c = search rules

pub returns-in-Decimate : goal.returns-in-Decimate
returns-in-Decimate g c = search rules

pub returns-in-Interpolate : goal.returns-in-Interpolate
returns-in-Interpolate g c = search rules

pub returns-in-LatticeFir : goal.returns-in-LatticeFir
returns-in-LatticeFir g c = search rules

pub returns-in-LatticeIir : goal.returns-in-LatticeIir
returns-in-LatticeIir g c = search rules

pub returns-in-Biquad : goal.returns-in-Biquad
returns-in-Biquad g c = search rules

pub returns-in-Biquad64 : goal.returns-in-Biquad64
returns-in-Biquad64 g c = search rules

pub returns-in-Conv : goal.returns-in-Conv
returns-in-Conv g c = search rules

pub returns-in-ConvPartial : goal.returns-in-ConvPartial
returns-in-ConvPartial g c = search rules

pub returns-in-Correlate : goal.returns-in-Correlate
returns-in-Correlate g c = search rules

pub returns-in-Pid : goal.returns-in-Pid
returns-in-Pid g c = search rules

pub returns-in_default : goal.returns-in_default
returns-in_default g c = search rules
