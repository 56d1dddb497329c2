use Rattle.std.proofs.Common.{List, sym, subst}
use Rattle.circuit_model.specs.declared.present.DeclaredMode.{DeclaredMode}
use Rattle.circuit_model.specs.Present.{PresentView, IsLawful, with_mode}
use Rattle.circuit_model.specs.Kept.{view_of}
use Rattle.circuit_model.proofs.PresentChanges.{IsLawful-with_mode}
use Rattle.circuit_model.proofs.present.Present.add_mode.Goals as goal

pub invariant_of-self-2 : goal.invariant_of-self-2
invariant_of-self-2 c =
    let s = view_of c.self.inside in
    let m : DeclaredMode = record { name = c.args.name; mode = c.args.mode; cost = c.args.cost } in
    let lawful = subst (λ (t : PresentView). IsLawful t → IsLawful (with_mode m t)) (sym c.self.view_is) (λ h. IsLawful-with_mode c.args.self.now h m c.requires.lawful c.requires.room) c.self.invariant.lawful in
    record {
      lawful = subst (λ (modes : List DeclaredMode). IsLawful (record s { modes = modes })) (sym c.in_ok-push.ensures.items) lawful;
      part_names = c.self.invariant.part_names;
      block_names = c.self.invariant.block_names;
      room = c.self.invariant.room;
    }
