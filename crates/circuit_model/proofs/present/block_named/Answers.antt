use Rattle.std.proofs.Common.{◌∙◌}
use Rattle.circuit_model.specs.Blocks.{BlockView}
use Rattle.circuit_model.proofs.Tables.{position-by_name}
use Rattle.circuit_model.proofs.present.block_named.Goals as goal

pub returns : goal.returns
returns c = c.place_of_name.ensures ∙ position-by_name (λ (b : BlockView). b.name) c.args.blocks.now.entries c.requires.names c.args.name.now
