use Rattle.std.proofs.Common.{take}
use Rattle.environment_sets.specs.Members.{members}
use Rattle.answer_text.specs.Texts.{component_names}
use Rattle.answer_text.proofs.Joining.{PutsPieces}
use Rattle.answer_text.proofs.sets.put_components.Given as goal

abbrev pub invariant-loop-place : goal.invariant-loop-place
invariant-loop-place g l = PutsPieces l.initial.failed l.failed (g.K.Sink.told l.initial.sink) (g.K.Sink.told l.sink) l.is_first (component_names (members l.positions) 0 (take l.place l.present.parts))
