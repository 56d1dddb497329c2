use Rattle.std.proofs.Common.{List, ap, ◌∙◌}
use Rattle.std.specs.Map.{values_of}
use Rattle.circuit_model.specs.declared.present.Net.{Net}
use Rattle.circuit_model.specs.Blocks.{BlockView}
use Rattle.circuit_model.specs.Present.{without_last}
use Rattle.circuit_model.specs.Tables.{nets_of}
use Rattle.circuit_model.proofs.Tables.{nets_of-without_last}
use Rattle.circuit_model.proofs.blocks.Block.drop_pin.Goals as goal

pub returns : goal.returns
returns c =
    let p = c.self.inside in
    let items = ap nets_of c.truncate.ensures.entries ∙ nets_of-without_last p.pins.entries c.len.result c.len.ensures.len in
    ap (λ (pins : List Net). record { name = p.name; pins = pins; inners = values_of p.inners.entries }) items ∙ ap (λ (b : BlockView). record b { pins = without_last b.pins }) c.self.view_is
