use Rattle.standing_view.specs.Asking.{label_left}
use Rattle.answer_text.proofs.LabelLines.{PutsTo}
use Rattle.answer_text.proofs.labels.put_label.Given as goal

abbrev pub invariant-environments : goal.invariant-environments
invariant-environments g l = PutsTo l.present l.standing l.fact l.last l.initial.failed l.failed (g.K.Sink.told l.initial.sink) (g.K.Sink.told l.sink)

abbrev pub decreases-environments : goal.decreases-environments
decreases-environments g l = label_left l.engine l.standing l.fact l.last
