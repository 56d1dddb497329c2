use Rattle.std.proofs.Common.{◌≡◌, ◌++◌, [], ◌∷◌, List, None, ap, sym, subst, ◌∙◌}
use Rattle.std.specs.Map.{values_of}
use Rattle.circuit_model.specs.declared.present.Net.{Net}
use Rattle.circuit_model.specs.Blocks.{BlockView, pin_named}
use Rattle.circuit_model.specs.Tables.{nets_of}
use Rattle.circuit_model.proofs.Tables.{nets_of-insert}
use Rattle.circuit_model.proofs.blocks.Block.add_pin.Goals as goal

pub returns-clause-ok : goal.returns-clause-ok
returns-clause-ok c =
    let p = c.self.inside in
    let none = subst (λ (b : BlockView). pin_named b c.args.pin.name ≡ None) (sym c.self.view_is) c.requires in
    let items = ap nets_of c.in_ok-insert.ensures.entries ∙ nets_of-insert p.pins c.args.pin.name c.args.pin.width none in
    ap (λ (pins : List Net). record { name = p.name; pins = pins; inners = values_of p.inners.entries }) items ∙ ap (λ (b : BlockView). record b { pins = b.pins ++ c.args.pin ∷ [] }) c.self.view_is
