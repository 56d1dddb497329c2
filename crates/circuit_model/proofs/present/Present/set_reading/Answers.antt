use Rattle.std.proofs.Common.{◌≡◌, List, sym, subst, ◌∙◌, arith}
use Rattle.std.specs.List.{insert}
use Rattle.circuit_model.specs.declared.model.Fact.{Fact}
use Rattle.circuit_model.specs.Present.{PresentView, IsLawful, with_reading, with_standing}
use Rattle.circuit_model.specs.Kept.{view_of}
use Rattle.circuit_model.proofs.Readings.{IsLawful-with_standing}
use Rattle.circuit_model.proofs.present.Present.set_reading.Goals as goal

pub invariant_of-self : goal.invariant_of-self
invariant_of-self c =
    let s = view_of c.self.inside in
    let fact = c.args.fact in
    let lawful = subst (λ (t : PresentView). IsLawful t → IsLawful (with_standing fact t)) (sym c.self.view_is) (λ h. IsLawful-with_standing fact c.args.self.now h c.requires.fact c.requires.free c.requires.room) c.self.invariant.lawful in
    let items = c.in-Ok.ensures.items ∙ subst (λ (readings : List Fact). insert readings c.place_for-place.result fact ≡ with_reading fact readings) c.deref.ensures.value c.place_for-place.ensures.place in
    record {
      lawful = subst (λ (readings : List Fact). IsLawful (record s { readings = readings })) (sym items) lawful;
      part_names = c.self.invariant.part_names;
      block_names = c.self.invariant.block_names;
      room = omega arith;
    }
