use Rattle.std.proofs.Common.{◌≡◌, ◌-◌, ◌++◌, [], ◌∷◌, List, length, None, sym, ap, subst, ◌∙◌}
use Rattle.std.specs.Map.{values_of}
use Rattle.circuit_model.specs.declared.present.Component.{Component}
use Rattle.circuit_model.specs.Present.{PresentView, IsLawful, part_named, with_part, IsUnusedPart}
use Rattle.circuit_model.specs.Tables.{StandByName}
use Rattle.circuit_model.specs.Kept.{view_of}
use Rattle.circuit_model.proofs.Presents.{no_part, IsLawful-with_part, IsUnusedPart-with_part}
use Rattle.circuit_model.proofs.Tables.{values_of-insert, StandByName-insert}
use Rattle.circuit_model.proofs.present.Present.add_part.Goals as goal

pub invariant_of-self-2 : goal.invariant_of-self-2
invariant_of-self-2 c =
    let s = view_of c.self.inside in
    let part = c.args.component in
    let none : part_named s part.name ≡ None = subst (λ (t : PresentView). part_named t part.name ≡ None) (sym c.self.view_is) (no_part c.args.self.now part.name c.requires.free) in
    let items : values_of c.insert.new.self.entries ≡ s.parts ++ part ∷ [] = ap values_of c.in_ok-insert.ensures.entries ∙ values_of-insert (λ (p : Component). p.name) c.self.inside.parts c.self.invariant.part_names part none in
    let lawful = subst (λ (t : PresentView). IsLawful t → IsLawful (with_part part t)) (sym c.self.view_is) (λ h. IsLawful-with_part part c.args.self.now h c.requires.free c.requires.room c.requires.lawful c.bytes-name.ensures.name) c.self.invariant.lawful in
    record {
      lawful = subst (λ (parts : List Component). IsLawful (record s { parts = parts })) (sym items) lawful;
      part_names = subst (λ es. StandByName (λ (p : Component). p.name) es) (sym c.in_ok-insert.ensures.entries) (StandByName-insert (λ (p : Component). p.name) c.self.inside.parts c.self.invariant.part_names part none);
      block_names = c.self.invariant.block_names;
      room = c.self.invariant.room;
    }

pub returns-clause-ok : goal.returns-clause-ok
returns-clause-ok c =
    let s = view_of c.self.inside in
    let part = c.args.component in
    let none : part_named s part.name ≡ None = subst (λ (t : PresentView). part_named t part.name ≡ None) (sym c.self.view_is) (no_part c.args.self.now part.name c.requires.free) in
    let items : values_of c.insert.new.self.entries ≡ s.parts ++ part ∷ [] = ap values_of c.in_ok-insert.ensures.entries ∙ values_of-insert (λ (p : Component). p.name) c.self.inside.parts c.self.invariant.part_names part none in
    ap (λ (parts : List Component). record s { parts = parts }) items ∙ ap (with_part part) c.self.view_is

pub returns-clause-unused : goal.returns-clause-unused
returns-clause-unused c =
    let s = view_of c.self.inside in
    let part = c.args.component in
    let none : part_named s part.name ≡ None = subst (λ (t : PresentView). part_named t part.name ≡ None) (sym c.self.view_is) (no_part c.args.self.now part.name c.requires.free) in
    let items : values_of c.insert.new.self.entries ≡ s.parts ++ part ∷ [] = ap values_of c.in_ok-insert.ensures.entries ∙ values_of-insert (λ (p : Component). p.name) c.self.inside.parts c.self.invariant.part_names part none in
    let unused = subst (λ (t : PresentView). IsLawful t → IsUnusedPart (with_part part t) (length (with_part part t).parts - 1)) (sym c.self.view_is) (λ h. IsUnusedPart-with_part part c.args.self.now h c.requires.free) c.self.invariant.lawful in
    subst (λ (parts : List Component). IsUnusedPart (record s { parts = parts }) (length parts - 1)) (sym items) unused
