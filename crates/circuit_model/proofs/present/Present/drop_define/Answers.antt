use Rattle.std.proofs.Common.{◌≡◌, ◌-◌, List, sym, ap, subst, ◌∙◌}
use Rattle.std.specs.Map.{values_of}
use Rattle.circuit_model.specs.Blocks.{BlockView}
use Rattle.circuit_model.specs.Present.{PresentView, IsLawful, without_last, without_last_block}
use Rattle.circuit_model.specs.Tables.{StandByName}
use Rattle.circuit_model.specs.Kept.{view_of}
use Rattle.circuit_model.proofs.PresentChanges.{IsLawful-without_last_block}
use Rattle.circuit_model.proofs.Tables.{values_of-without_last, StandByName-take}
use Rattle.circuit_model.proofs.present.Present.drop_define.Goals as goal

pub invariant_of-self : goal.invariant_of-self
invariant_of-self c =
    let s : PresentView = view_of c.self.inside in
    let items : values_of c.truncate.new.self.entries ≡ without_last s.blocks = ap values_of c.truncate.ensures.entries ∙ values_of-without_last c.self.inside.blocks.entries c.len.result c.len.ensures.len in
    let lawful = subst (λ (t : PresentView). IsLawful t → IsLawful (without_last_block t)) (sym c.self.view_is) (λ h. IsLawful-without_last_block c.args.self.now h c.requires.unused) c.self.invariant.lawful in
    record {
      lawful = subst (λ (blocks : List BlockView). IsLawful (record s { blocks = blocks })) (sym items) lawful;
      part_names = c.self.invariant.part_names;
      block_names = subst (λ es. StandByName (λ (b : BlockView). b.name) es) (sym c.truncate.ensures.entries) (StandByName-take (λ (b : BlockView). b.name) c.self.inside.blocks.entries c.self.invariant.block_names (c.len.result - 1));
      room = c.self.invariant.room;
    }

pub returns : goal.returns
returns c =
    let s : PresentView = view_of c.self.inside in
    let items : values_of c.truncate.new.self.entries ≡ without_last s.blocks = ap values_of c.truncate.ensures.entries ∙ values_of-without_last c.self.inside.blocks.entries c.len.result c.len.ensures.len in
    ap (λ (blocks : List BlockView). record s { blocks = blocks }) items ∙ ap without_last_block c.self.view_is
