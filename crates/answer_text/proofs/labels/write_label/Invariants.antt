use Rattle.std.proofs.Common.{false}
use Rattle.label_engine.specs.Questions.{values_left}
use Rattle.standing_view.specs.Standing.{mask_of}
use Rattle.answer_text.proofs.LabelLines.{PutsWords}
use Rattle.answer_text.proofs.labels.write_label.Given as goal

abbrev pub invariant-words : goal.invariant-words
invariant-words g l = PutsWords l.present l.cell l.last false l.failed (g.K.Sink.told l.initial.sink) (g.K.Sink.told l.sink)

abbrev pub decreases-words : goal.decreases-words
decreases-words g l = values_left l.engine.kept l.cell (mask_of l.standing) l.last
