use Rattle.std.proofs.Common.{sym, subst}
use Rattle.circuit_model.specs.Present.{PresentView, IsLawful, with_cycles}
use Rattle.circuit_model.proofs.Presents.{IsLawful-with_cycles}
use Rattle.circuit_model.proofs.present.Present.set_cycles.Goals as goal

pub invariant_of-self : goal.invariant_of-self
invariant_of-self c =
    let lawful = subst (λ (t : PresentView). IsLawful t → IsLawful (with_cycles c.args.cycles t)) (sym c.self.view_is) (λ h. IsLawful-with_cycles c.args.cycles c.args.self.now c.requires.empty h c.requires.some_cycle c.requires.most) c.self.invariant.lawful in
    record { lawful = lawful; part_names = c.self.invariant.part_names; block_names = c.self.invariant.block_names; room = c.self.invariant.room }
