use Rattle.std.proofs.Common.{◌-◌, List, ap, sym, subst, ◌∙◌}
use Rattle.std.specs.Map.{values_of}
use Rattle.circuit_model.specs.declared.blocks.Inner.{Inner}
use Rattle.circuit_model.specs.Blocks.{BlockView}
use Rattle.circuit_model.specs.Present.{without_last}
use Rattle.circuit_model.specs.Tables.{nets_of, StandByName}
use Rattle.circuit_model.proofs.Tables.{values_of-without_last, StandByName-take}
use Rattle.circuit_model.proofs.blocks.Block.drop_inner.Goals as goal

pub invariant_of-self : goal.invariant_of-self
invariant_of-self c = subst (λ es. StandByName (λ (i : Inner). i.name) es) (sym c.truncate.ensures.entries) (StandByName-take (λ (i : Inner). i.name) c.self.inside.inners.entries c.self.invariant (c.len.result - 1))

pub returns : goal.returns
returns c =
    let p = c.self.inside in
    let items = ap values_of c.truncate.ensures.entries ∙ values_of-without_last p.inners.entries c.len.result c.len.ensures.len in
    ap (λ (inners : List Inner). record { name = p.name; pins = nets_of p.pins.entries; inners = inners }) items ∙ ap (λ (b : BlockView). record b { inners = without_last b.inners }) c.self.view_is
