use Rattle.std.proofs.Common.{◌≡◌, ◌++◌, [], ◌∷◌, List, None, sym, ap, ◌∙◌, subst}
use Rattle.circuit_model.specs.declared.present.Net.{Net}
use Rattle.circuit_model.specs.Present.{PresentView, IsLawful, net_named, with_net}
use Rattle.circuit_model.specs.Tables.{nets_of}
use Rattle.circuit_model.specs.Kept.{view_of}
use Rattle.circuit_model.proofs.Presents.{no_net, IsLawful-with_net}
use Rattle.circuit_model.proofs.Tables.{nets_of-insert}
use Rattle.circuit_model.proofs.present.Present.add_net.Goals as goal

pub invariant_of-self-2 : goal.invariant_of-self-2
invariant_of-self-2 c =
    let s = view_of c.self.inside in
    let n : Net = record { name = c.args.name; width = c.args.width } in
    let none : net_named s c.args.name ≡ None = subst (λ (t : PresentView). net_named t c.args.name ≡ None) (sym c.self.view_is) (no_net c.args.self.now c.args.name c.requires.free) in
    let items : nets_of c.insert.new.self.entries ≡ s.nets ++ n ∷ [] = ap nets_of c.in_ok-insert.ensures.entries ∙ nets_of-insert c.self.inside.nets c.args.name c.args.width none in
    let lawful = subst (λ (t : PresentView). IsLawful t → IsLawful (with_net n t)) (sym c.self.view_is) (λ h. IsLawful-with_net n c.args.self.now h c.requires.free c.requires.room c.requires.cells c.new-net.ensures.name c.new-net.ensures.low c.new-net.ensures.high) c.self.invariant.lawful in
    record {
      lawful = subst (λ (nets : List Net). IsLawful (record s { nets = nets })) (sym items) lawful;
      part_names = c.self.invariant.part_names;
      block_names = c.self.invariant.block_names;
      room = c.self.invariant.room;
    }

pub returns-clause-ok : goal.returns-clause-ok
returns-clause-ok c =
    let s = view_of c.self.inside in
    let n : Net = record { name = c.args.name; width = c.args.width } in
    let none : net_named s c.args.name ≡ None = subst (λ (t : PresentView). net_named t c.args.name ≡ None) (sym c.self.view_is) (no_net c.args.self.now c.args.name c.requires.free) in
    let items : nets_of c.insert.new.self.entries ≡ s.nets ++ n ∷ [] = ap nets_of c.in_ok-insert.ensures.entries ∙ nets_of-insert c.self.inside.nets c.args.name c.args.width none in
    ap (λ (nets : List Net). record s { nets = nets }) items ∙ ap (with_net n) c.self.view_is
