use Rattle.std.proofs.Common.{◌≡◌, ◌<◌, length, true≢false, sym, ap, ◌∙◌, arith}
use Rattle.std.specs.Option.{option_map}
use Rattle.std.proofs.lemmas.Option.{slice_get-map, slice_get_within}
use Rattle.environment_sets.proofs.Membership.{IsIn-slice_get}
use Rattle.circuit_model.specs.declared.present.Component.{Component}
use Rattle.proof_check.proofs.Assumed.{position_chosen}
use Rattle.proof_check.proofs.Fitting.{IsAtPosition, component_at}
use Rattle.proof_check.proofs.Instances.{placed}
use Rattle.proof_check.proofs.premises.instance_of.Goals as goal

pub returns-then-not-has_place : goal.returns-then-not-has_place
returns-then-not-has_place c i h = true≢false (sym (c.has_place.ensures.1 ((position_chosen c.args.chosen.now.parts c.args.position).1 h.chosen)) ∙ c.if-not-has_place.true)

pub returns-then-position-parts : goal.returns-then-position-parts
returns-then-position-parts c i h =
    let at : IsAtPosition c.args.present.now c.args.position h.part = component_at c.args.present.now c.args.position h.part h.at_position in
    let inside : c.args.position < length c.args.present.now.parts = slice_get_within c.args.present.now.parts c.args.position at.component at.there in
    omega (arith, c.parts.ensures.value, c.if-position-parts.true)

pub returns-then-place-len : goal.returns-then-place-len
returns-then-place-len c i h =
    let at : IsAtPosition c.args.present.now c.args.position h.part = component_at c.args.present.now c.args.position h.part h.at_position in
    let there = at.there in
    let here = c.part_at.ensures in
    let component : at.component ≡ c.part_at.result.now = cc in
    let same : c.part_at.result.now.part ≡ h.part = ap (λ (d : Component). d.part) (sym component) ∙ at.part in
    let inside : c.args.place < length h.part = slice_get_within h.part c.args.place i h.at_place in
    omega (arith, c.len.ensures, ap length same, c.if-place-len.true)

pub returns : goal.returns
returns c = (
  record {
    chosen = (position_chosen c.args.chosen.now.parts c.args.position).0 (c.has_place.ensures.0 c.if-not-has_place.false);
    part = c.part_at.result.now.part;
    at_position = slice_get-map (λ (d : Component). d.part) c.args.present.now.parts c.args.position ∙ ap (option_map (λ (d : Component). d.part)) c.part_at.ensures;
    at_place = c.at.ensures.instance;
  },
  placed c.args.present.now c.parts.ensures.lawful c.args.position c.part_at.result.now c.part_at.ensures c.at.result.now (IsIn-slice_get c.part_at.result.now.part c.args.place c.at.result.now c.at.ensures.instance) c.at.ensures.lawful,
)
