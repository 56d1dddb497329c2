use Rattle.justifications.proofs.links.head_in.Goals as goal

pub place_of_target-requires : goal.place_of_target-requires
place_of_target-requires c = c.requires.low 2
