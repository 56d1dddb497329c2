use Rattle.circuit_model.proofs.Loads.{loads_grow}
use Rattle.circuit_model.proofs.laws.fewer_assumptions_have_no_larger_load.Goals as goal

pub returns : goal.returns
returns g c = loads_grow _
