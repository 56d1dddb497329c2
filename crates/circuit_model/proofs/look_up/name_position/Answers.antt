use Rattle.std.proofs.Common.{◌∙◌}
use Rattle.indexmap.specs.IndexMap.{keys}
use Rattle.circuit_model.proofs.Tables.{position-key}
use Rattle.circuit_model.proofs.look_up.name_position.Goals as goal

pub returns-clause-place : goal.returns-clause-place
returns-clause-place g c = c.get_index_of.ensures.index ∙ position-key c.args.name.now (keys c.args.table.now)
