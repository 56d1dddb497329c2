use Rattle.std.proofs.Common.{true≢false, sym, ap, ◌∙◌, arith}
use Rattle.std.specs.Option.{option_map}
use Rattle.std.proofs.lemmas.Option.{slice_get-map}
use Rattle.environment_sets.proofs.Membership.{IsIn-slice_get}
use Rattle.circuit_model.specs.declared.present.Component.{Component}
use Rattle.circuit_model.specs.Chosen.{chosen_places}
use Rattle.proof_check.proofs.Assumed.{position_chosen}
use Rattle.proof_check.proofs.Instances.{placed}
use Rattle.proof_check.proofs.Lengths.{length-part}
use Rattle.proof_check.proofs.Looks.{look_past, look_end}
use Rattle.proof_check.proofs.looking.look_at_part.Goals as goal

pub returns-then-not-has_place : goal.returns-then-not-has_place
returns-then-not-has_place c =
    look_past c.args.round.now.present.now (chosen_places c.args.round.now.chosen.now) c.args.round.now.held.now c.args.part c.args.found.now
    (λ t. true≢false (sym (c.has_place.ensures.1 ((position_chosen c.args.round.now.chosen.now.parts c.args.part).1 t)) ∙ c.if-not-has_place.true)) c.requires.looked

pub overflow_cast-count : goal.overflow_cast-count
overflow_cast-count c = omega (arith, c.len-count.ensures, length-part c.args.round.now.present.now c.requires.calm.lawful c.args.part c.part_at-component.result.now c.part_at-component.ensures)

pub look_at_instance-requires-clause-there : goal.look_at_instance-requires-clause-there
look_at_instance-requires-clause-there c = record {
  chosen = (position_chosen c.args.round.now.chosen.now.parts c.args.part).0 (c.has_place.ensures.0 c.if-not-has_place.false);
  part = c.part_at-component.result.now.part;
  at_position = slice_get-map (λ (d : Component). d.part) c.args.round.now.present.now.parts c.args.part ∙ ap (option_map (λ (d : Component). d.part)) c.part_at-component.ensures;
  at_place = c.at-instance.ensures.instance;
}

pub look_at_instance-requires-clause-placed : goal.look_at_instance-requires-clause-placed
look_at_instance-requires-clause-placed c =
    placed c.args.round.now.present.now c.requires.calm.lawful c.args.part c.part_at-component.result.now c.part_at-component.ensures c.at-instance.result.now (IsIn-slice_get c.part_at-component.result.now.part c.loop-place.place c.at-instance.result.now c.at-instance.ensures.instance) c.at-instance.ensures.lawful

pub returns : goal.returns
returns c =
    look_end c.args.round.now.present.now (chosen_places c.args.round.now.chosen.now) c.args.round.now.held.now c.args.part c.loop-place.place c.part_at-component.result.now.part c.loop-place.found
    (slice_get-map (λ (d : Component). d.part) c.args.round.now.present.now.parts c.args.part ∙ ap (option_map (λ (d : Component). d.part)) c.part_at-component.ensures) (omega (arith, c.len-count.ensures)) c.loop-place.invariant
