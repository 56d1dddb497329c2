use Rattle.environment_sets.specs.Members.{members}
use Rattle.standing_view.specs.Positions.{positions}
use Rattle.standing_diagnoses.proofs.Gathered.{AreBelow}
use Rattle.standing_diagnoses.proofs.sets.positions_of.Given as goal

abbrev pub invariant-loop-place : goal.invariant-loop-place
invariant-loop-place l = AreBelow (positions l.standing (members l.environment)) l.place (members l.found)
