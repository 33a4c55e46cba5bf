use Rattle.dsp_shape.proofs.Paces.{unit_divides, unit_legal}
use Rattle.dsp_script.proofs.laws.unit_divides_legal_lengths.Goals as goal

pub returns-clause-divides : goal.returns-clause-divides
returns-clause-divides c s length sound legal = unit_divides s sound length legal

pub returns-clause-legal : goal.returns-clause-legal
returns-clause-legal c = unit_legal
