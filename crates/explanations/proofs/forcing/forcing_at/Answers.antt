use Rattle.std.proofs.Common.{ap, ◌∙◌}
use Rattle.std.specs.Option.{option_map}
use Rattle.std.proofs.lemmas.Option.{slice_get-map}
use Rattle.circuit_model.specs.declared.present.Component.{Component}
use Rattle.circuit_model.specs.Present.{circuit_of}
use Rattle.explanations.proofs.Short.{few_of_part}
use Rattle.explanations.proofs.Forced.{words_fit, forcing_at_position}
use Rattle.explanations.proofs.forcing.forcing_at.Goals as goal

pub forcing_in-requires-clause-few : goal.forcing_in-requires-clause-few
forcing_in-requires-clause-few c = few_of_part c.args.present.now c.parts.ensures.lawful c.args.position c.part_at.result.now c.part_at.ensures

pub forcing_in-requires-clause-fit : goal.forcing_in-requires-clause-fit
forcing_in-requires-clause-fit c = words_fit c.args.present.now c.parts.ensures.lawful c.args.closed.now.facts c.args.round c.requires.fit c.args.position c.part_at.result.now c.part_at.ensures

pub returns : goal.returns
returns c =
    forcing_at_position (circuit_of c.args.present.now) c.args.closed.now.facts c.args.round c.args.fact c.args.position c.part_at.result.now.part
    (slice_get-map (λ (d : Component). d.part) c.args.present.now.parts c.args.position ∙ ap (option_map (λ (d : Component). d.part)) c.part_at.ensures)
    c.forcing_in.result c.forcing_in.ensures
