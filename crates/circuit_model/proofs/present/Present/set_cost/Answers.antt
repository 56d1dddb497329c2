use Rattle.std.proofs.Common.{◌≡◌, ◌<◌, List, length, refl, sym, ap, subst, ◌∙◌, arith}
use Rattle.std.specs.Map.{values_of}
use Rattle.indexmap.specs.IndexMap.{set_value_at}
use Rattle.circuit_model.specs.declared.present.Component.{Component}
use Rattle.circuit_model.specs.Present.{PresentView, IsLawful, change_at, with_cost}
use Rattle.circuit_model.specs.Kept.{view_of}
use Rattle.circuit_model.proofs.PresentChanges.{IsLawful-with_cost}
use Rattle.circuit_model.proofs.Tables.{values_of-change, StandByName-change}
use Rattle.circuit_model.proofs.present.Present.set_cost.Goals as goal

pub invariant_of-self : goal.invariant_of-self
invariant_of-self c =
    let s : PresentView = view_of c.self.inside in
    let f : Component → Component = λ p. record p { cost = c.args.cost } in
    let items : values_of (set_value_at c.self.inside.parts.entries c.args.part (f c.index_mut.result.now)) ≡ change_at c.args.part f s.parts = values_of-change f c.self.inside.parts.entries c.args.part c.index_mut.result.now c.index_mut.ensures.value in
    let there : c.args.part < length s.parts = omega (arith, c.requires.part, ap (λ (t : PresentView). length t.parts) c.self.view_is) in
    record {
      lawful = subst (λ (parts : List Component). IsLawful (record s { parts = parts })) (sym items) (IsLawful-with_cost s c.self.invariant.lawful c.args.part c.args.cost there c.requires.low c.requires.high);
      part_names = StandByName-change (λ (p : Component). p.name) c.self.inside.parts c.self.invariant.part_names f (λ p. refl) c.args.part c.index_mut.result.now c.index_mut.ensures.value;
      block_names = c.self.invariant.block_names;
      room = c.self.invariant.room;
    }

pub returns : goal.returns
returns c =
    let s : PresentView = view_of c.self.inside in
    let f : Component → Component = λ p. record p { cost = c.args.cost } in
    let items : values_of (set_value_at c.self.inside.parts.entries c.args.part (f c.index_mut.result.now)) ≡ change_at c.args.part f s.parts = values_of-change f c.self.inside.parts.entries c.args.part c.index_mut.result.now c.index_mut.ensures.value in
    ap (λ (parts : List Component). record s { parts = parts }) items ∙ ap (with_cost c.args.part c.args.cost) c.self.view_is
