use Rattle.std.proofs.Common.{◌≡◌, ◌-◌, List, length, sym, ap, subst, ◌∙◌}
use Rattle.std.specs.Map.{values_of}
use Rattle.circuit_model.specs.declared.present.Component.{Component}
use Rattle.circuit_model.specs.Present.{PresentView, IsLawful, IsUnusedPart, without_last, without_last_part}
use Rattle.circuit_model.specs.Tables.{StandByName}
use Rattle.circuit_model.specs.Kept.{view_of}
use Rattle.circuit_model.proofs.Presents.{IsLawful-without_last}
use Rattle.circuit_model.proofs.Tables.{values_of-without_last, StandByName-take}
use Rattle.circuit_model.proofs.present.Present.drop_part.Goals as goal

pub invariant_of-self : goal.invariant_of-self
invariant_of-self c =
    let s : PresentView = view_of c.self.inside in
    let items : values_of c.truncate.new.self.entries ≡ without_last s.parts = ap values_of c.truncate.ensures.entries ∙ values_of-without_last c.self.inside.parts.entries c.len.result c.len.ensures.len in
    record {
      lawful = subst (λ (parts : List Component). IsLawful (record s { parts = parts })) (sym items) (IsLawful-without_last s c.self.invariant.lawful (subst (λ (t : PresentView). IsUnusedPart t (length t.parts - 1)) (sym c.self.view_is) c.requires.unused));
      part_names = subst (λ es. StandByName (λ (p : Component). p.name) es) (sym c.truncate.ensures.entries) (StandByName-take (λ (p : Component). p.name) c.self.inside.parts.entries c.self.invariant.part_names (c.len.result - 1));
      block_names = c.self.invariant.block_names;
      room = c.self.invariant.room;
    }

pub returns : goal.returns
returns c =
    let s : PresentView = view_of c.self.inside in
    let items : values_of c.truncate.new.self.entries ≡ without_last s.parts = ap values_of c.truncate.ensures.entries ∙ values_of-without_last c.self.inside.parts.entries c.len.result c.len.ensures.len in
    ap (λ (parts : List Component). record s { parts = parts }) items ∙ ap without_last_part c.self.view_is
