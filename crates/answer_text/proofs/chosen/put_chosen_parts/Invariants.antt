use Rattle.std.proofs.Common.{take}
use Rattle.circuit_model.specs.Chosen.{chosen_places}
use Rattle.answer_text.specs.Texts.{component_names, parts_in}
use Rattle.answer_text.proofs.Joining.{PutsPieces}
use Rattle.answer_text.proofs.chosen.put_chosen_parts.Given as goal

abbrev pub invariant-loop-place : goal.invariant-loop-place
invariant-loop-place g l = PutsPieces l.initial.failed l.failed (g.K.Sink.told l.initial.sink) (g.K.Sink.told l.sink) l.is_first
    (component_names (parts_in (chosen_places l.chosen)) 0 (take l.place l.present.parts))
