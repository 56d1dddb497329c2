use Rattle.std.proofs.Common.{◌≡◌, false, take}
use Rattle.std.specs.List.{list_any}
use Rattle.circuit_model.specs.Present.{is_cell}
use Rattle.answer_text.proofs.chosen.has_cell.Given as goal

abbrev pub invariant-loop-i : goal.invariant-loop-i
invariant-loop-i l = list_any (λ d. is_cell d l.cell) (take l.i l.cells) ≡ false
