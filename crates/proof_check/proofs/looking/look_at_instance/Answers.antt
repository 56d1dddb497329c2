use Rattle.circuit_model.specs.Chosen.{chosen_places}
use Rattle.proof_check.proofs.Looks.{look_past_instance}
use Rattle.proof_check.proofs.looking.look_at_instance.Goals as goal

pub returns-then-not-are_at_some : goal.returns-then-not-are_at_some
returns-then-not-are_at_some c =
    look_past_instance c.args.round.now.present.now (chosen_places c.args.round.now.chosen.now) c.args.round.now.held.now c.args.part c.args.place c.args.instance.now c.requires.there c.args.round.now.fresh.now c.args.found.now
    (c.requires.quiet c.if-not-round.true) (c.are_at_some.ensures.none c.if-not-are_at_some.true) c.requires.looked
