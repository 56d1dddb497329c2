use Rattle.std.proofs.Common.{◌≡◌, List, sym, ap, subst, ◌∙◌}
use Rattle.circuit_model.specs.declared.present.Net.{Net}
use Rattle.circuit_model.specs.Present.{PresentView, IsLawful, without_last, without_last_net}
use Rattle.circuit_model.specs.Tables.{nets_of}
use Rattle.circuit_model.specs.Kept.{view_of}
use Rattle.circuit_model.proofs.PresentChanges.{IsLawful-without_last_net}
use Rattle.circuit_model.proofs.Tables.{nets_of-without_last}
use Rattle.circuit_model.proofs.present.Present.drop_net.Goals as goal

pub invariant_of-self : goal.invariant_of-self
invariant_of-self c =
    let s : PresentView = view_of c.self.inside in
    let items : nets_of c.truncate.new.self.entries ≡ without_last s.nets = ap nets_of c.truncate.ensures.entries ∙ nets_of-without_last c.self.inside.nets.entries c.len.result c.len.ensures.len in
    let lawful = subst (λ (t : PresentView). IsLawful t → IsLawful (without_last_net t)) (sym c.self.view_is) (λ h. IsLawful-without_last_net c.args.self.now h c.requires.some c.requires.unused) c.self.invariant.lawful in
    record {
      lawful = subst (λ (nets : List Net). IsLawful (record s { nets = nets })) (sym items) lawful;
      part_names = c.self.invariant.part_names;
      block_names = c.self.invariant.block_names;
      room = c.self.invariant.room;
    }

pub returns : goal.returns
returns c =
    let s : PresentView = view_of c.self.inside in
    let items : nets_of c.truncate.new.self.entries ≡ without_last s.nets = ap nets_of c.truncate.ensures.entries ∙ nets_of-without_last c.self.inside.nets.entries c.len.result c.len.ensures.len in
    ap (λ (nets : List Net). record s { nets = nets }) items ∙ ap without_last_net c.self.view_is
