use Rattle.std.proofs.Common.{◌≡◌, ◌-◌, ℕ, List, length, take, sym, ap, subst, ◌∙◌, rules}
use Rattle.circuit_model.specs.declared.present.DeclaredMode.{DeclaredMode}
use Rattle.circuit_model.specs.Present.{PresentView, IsLawful, without_last}
use Rattle.circuit_model.specs.Kept.{view_of}
use Rattle.circuit_model.proofs.PresentChanges.{IsLawful-without_last_mode}
use Rattle.circuit_model.proofs.present.Present.drop_mode.Goals as goal

pub invariant_of-self : goal.invariant_of-self
invariant_of-self c =
    let s : PresentView = view_of c.self.inside in
    let count : c.len.result ≡ length c.self.inside.modes.items = search (rules, c.len.ensures) in
    let items : c.truncate.new.self.items ≡ without_last s.modes = c.truncate.ensures.items ∙ ap (λ (n : ℕ). take (n - 1) c.self.inside.modes.items) count in
    record {
      lawful = subst (λ (modes : List DeclaredMode). IsLawful (record s { modes = modes })) (sym items) (IsLawful-without_last_mode s c.self.invariant.lawful);
      part_names = c.self.invariant.part_names;
      block_names = c.self.invariant.block_names;
      room = c.self.invariant.room;
    }
