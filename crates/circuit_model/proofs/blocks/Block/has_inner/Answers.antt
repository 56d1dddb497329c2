use Rattle.std.proofs.Common.{is_some, ap, ◌∙◌}
use Rattle.circuit_model.specs.declared.blocks.Inner.{Inner}
use Rattle.circuit_model.specs.Blocks.{BlockView, inner_named}
use Rattle.circuit_model.proofs.Tables.{position-by_name}
use Rattle.circuit_model.proofs.blocks.Block.has_inner.Goals as goal

pub returns : goal.returns
returns c = c.is_some.ensures ∙ ap is_some (c.name_position.ensures.place ∙ (position-by_name (λ (i : Inner). i.name) c.self.inside.inners.entries c.self.invariant c.args.name.now ∙ ap (λ (b : BlockView). inner_named b c.args.name.now) c.self.view_is))
