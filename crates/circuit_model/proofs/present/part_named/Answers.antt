use Rattle.std.proofs.Common.{◌∙◌}
use Rattle.circuit_model.specs.declared.present.Component.{Component}
use Rattle.circuit_model.proofs.Tables.{position-by_name}
use Rattle.circuit_model.proofs.present.part_named.Goals as goal

pub returns : goal.returns
returns c = c.place_of_name.ensures ∙ position-by_name (λ (p : Component). p.name) c.args.parts.now.entries c.requires.names c.args.name.now
