use Rattle.std.proofs.Common.{◌≡◌, ℕ, ◌++◌, [], ◌∷◌, List, None, sym, ap, subst, ◌∙◌}
use Rattle.std.specs.Map.{values_of}
use Rattle.indexmap.specs.IndexMap.{insert_entry}
use Rattle.circuit_model.specs.Blocks.{BlockView, empty_block}
use Rattle.circuit_model.specs.Present.{PresentView, IsLawful, block_named, with_block}
use Rattle.circuit_model.specs.Tables.{StandByName}
use Rattle.circuit_model.specs.Kept.{view_of}
use Rattle.circuit_model.proofs.PresentChanges.{IsLawful-with_block}
use Rattle.circuit_model.proofs.Tables.{is_key, values_of-insert, StandByName-insert}
use Rattle.circuit_model.proofs.present.Present.define.Goals as goal

pub invariant_of-self-2 : goal.invariant_of-self-2
invariant_of-self-2 c =
    let s = view_of c.self.inside in
    let named : BlockView → List ℕ = λ b. b.name in
    let new : BlockView = empty_block c.args.name in
    let none : block_named s c.args.name ≡ None = subst (λ (t : PresentView). block_named t c.args.name ≡ None) (sym c.self.view_is) c.requires.free in
    let entries : c.insert.new.self.entries ≡ insert_entry is_key c.self.inside.blocks.entries c.args.name new = c.in_ok-insert.ensures.entries ∙ ap (λ b. insert_entry is_key c.self.inside.blocks.entries c.args.name b) c.new-block.ensures in
    let items : values_of c.insert.new.self.entries ≡ s.blocks ++ new ∷ [] = ap values_of entries ∙ values_of-insert named c.self.inside.blocks c.self.invariant.block_names new none in
    let lawful = subst (λ (t : PresentView). IsLawful t → IsLawful (with_block c.args.name t)) (sym c.self.view_is) (λ h. IsLawful-with_block c.args.self.now h c.args.name c.bytes-name.ensures.name c.requires.free c.requires.room) c.self.invariant.lawful in
    record {
      lawful = subst (λ (blocks : List BlockView). IsLawful (record s { blocks = blocks })) (sym items) lawful;
      part_names = c.self.invariant.part_names;
      block_names = subst (λ es. StandByName named es) (sym entries) (StandByName-insert named c.self.inside.blocks c.self.invariant.block_names new none);
      room = c.self.invariant.room;
    }

pub returns-clause-ok : goal.returns-clause-ok
returns-clause-ok c =
    let s = view_of c.self.inside in
    let named : BlockView → List ℕ = λ b. b.name in
    let new : BlockView = empty_block c.args.name in
    let none : block_named s c.args.name ≡ None = subst (λ (t : PresentView). block_named t c.args.name ≡ None) (sym c.self.view_is) c.requires.free in
    let entries : c.insert.new.self.entries ≡ insert_entry is_key c.self.inside.blocks.entries c.args.name new = c.in_ok-insert.ensures.entries ∙ ap (λ b. insert_entry is_key c.self.inside.blocks.entries c.args.name b) c.new-block.ensures in
    let items : values_of c.insert.new.self.entries ≡ s.blocks ++ new ∷ [] = ap values_of entries ∙ values_of-insert named c.self.inside.blocks c.self.invariant.block_names new none in
    ap (λ (blocks : List BlockView). record s { blocks = blocks }) items ∙ ap (with_block c.args.name) c.self.view_is
