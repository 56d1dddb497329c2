use Rattle.std.proofs.Common.{◌≡◌, List, sym, ap, subst, ◌∙◌, arith}
use Rattle.std.specs.List.{remove}
use Rattle.circuit_model.specs.declared.model.Fact.{Fact}
use Rattle.circuit_model.specs.Present.{PresentView, IsLawful, without_reading, without_standing}
use Rattle.circuit_model.specs.Kept.{view_of}
use Rattle.circuit_model.proofs.Readings.{IsLawful-without_standing}
use Rattle.circuit_model.proofs.present.Present.clear_reading.Goals as goal

pub invariant_of-self : goal.invariant_of-self
invariant_of-self c =
    let s : PresentView = view_of c.self.inside in
    let items : c.remove.new.self.items ≡ without_reading c.args.cell s.readings = c.remove.ensures.items ∙ subst (λ (readings : List Fact). remove readings c.place_at-place.result ≡ without_reading c.args.cell readings) c.deref.ensures.value c.place_at-place.ensures.place in
    record {
      lawful = subst (λ (readings : List Fact). IsLawful (record s { readings = readings })) (sym items) (IsLawful-without_standing c.args.cell s c.self.invariant.lawful);
      part_names = c.self.invariant.part_names;
      block_names = c.self.invariant.block_names;
      room = omega (arith, c.self.invariant.room, c.remove.ensures.capacity);
    }

pub returns : goal.returns
returns c =
    let s : PresentView = view_of c.self.inside in
    let items : c.remove.new.self.items ≡ without_reading c.args.cell s.readings = c.remove.ensures.items ∙ subst (λ (readings : List Fact). remove readings c.place_at-place.result ≡ without_reading c.args.cell readings) c.deref.ensures.value c.place_at-place.ensures.place in
    ap (λ (readings : List Fact). record s { readings = readings }) items ∙ ap (without_standing c.args.cell) c.self.view_is
