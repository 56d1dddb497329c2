use Rattle.label_engine.specs.Questions.{values_left}
use Rattle.standing_view.specs.Standing.{mask_of}
use Rattle.probe_planner.proofs.Weighed.{Weighs}
use Rattle.probe_planner.proofs.scores.word_weights.Given as goal

abbrev pub invariant-words : goal.invariant-words
invariant-words l = Weighs l.engine l.standing l.weighed l.cell l.last l.weights.items

abbrev pub decreases-words : goal.decreases-words
decreases-words l = values_left l.engine.kept l.cell (mask_of l.standing) l.last
