use Rattle.std.proofs.Common.{take}
use Rattle.circuit_model.specs.Chosen.{chosen_places}
use Rattle.answer_text.specs.Texts.{cells_in}
use Rattle.answer_text.proofs.Joining.{PutsPieces}
use Rattle.answer_text.proofs.chosen.put_chosen_cells.Given as goal

abbrev pub invariant-loop-place : goal.invariant-loop-place
invariant-loop-place g l = PutsPieces l.initial.failed l.failed (g.K.Sink.told l.initial.sink) (g.K.Sink.told l.sink) l.is_first
    (cells_in l.present (chosen_places l.chosen) (take l.place l.present.readings))
