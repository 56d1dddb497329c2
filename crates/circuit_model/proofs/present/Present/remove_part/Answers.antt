use Rattle.std.proofs.Common.{◌≡◌, List, sym, ap, subst, ◌∙◌}
use Rattle.std.specs.List.{remove}
use Rattle.std.specs.Map.{values_of}
use Rattle.circuit_model.specs.declared.present.Component.{Component}
use Rattle.circuit_model.specs.Present.{PresentView, IsLawful, without_part}
use Rattle.circuit_model.specs.Tables.{StandByName}
use Rattle.circuit_model.specs.Kept.{view_of}
use Rattle.circuit_model.proofs.Presents.{IsLawful-without_part}
use Rattle.circuit_model.proofs.Tables.{values_of-remove, StandByName-remove}
use Rattle.circuit_model.proofs.present.Present.remove_part.Goals as goal

pub invariant_of-self : goal.invariant_of-self
invariant_of-self c =
    let s : PresentView = view_of c.self.inside in
    let items : values_of c.shift_remove_index.new.self.entries ≡ remove s.parts c.args.part = ap values_of c.shift_remove_index.ensures.entries ∙ values_of-remove c.self.inside.parts.entries c.args.part in
    let lawful = subst (λ (t : PresentView). IsLawful t → IsLawful (without_part c.args.part t)) (sym c.self.view_is) (λ h. IsLawful-without_part c.args.self.now c.args.part h c.requires.unused) c.self.invariant.lawful in
    record {
      lawful = subst (λ (parts : List Component). IsLawful (record s { parts = parts })) (sym items) lawful;
      part_names = subst (λ es. StandByName (λ (p : Component). p.name) es) (sym c.shift_remove_index.ensures.entries) (StandByName-remove (λ (p : Component). p.name) c.self.inside.parts.entries c.self.invariant.part_names c.args.part);
      block_names = c.self.invariant.block_names;
      room = c.self.invariant.room;
    }

pub returns : goal.returns
returns c =
    let s : PresentView = view_of c.self.inside in
    let items : values_of c.shift_remove_index.new.self.entries ≡ remove s.parts c.args.part = ap values_of c.shift_remove_index.ensures.entries ∙ values_of-remove c.self.inside.parts.entries c.args.part in
    ap (λ (parts : List Component). record s { parts = parts }) items ∙ ap (without_part c.args.part) c.self.view_is
