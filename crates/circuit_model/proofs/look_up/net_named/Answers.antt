use Rattle.std.proofs.Common.{◌∙◌}
use Rattle.circuit_model.proofs.Tables.{position-nets_of}
use Rattle.circuit_model.proofs.look_up.net_named.Goals as goal

pub returns : goal.returns
returns c = c.place_of_name.ensures ∙ position-nets_of c.args.nets.now.entries c.args.name.now
