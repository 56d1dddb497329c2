use Rattle.std.proofs.Common.{◌≡◌}
use Rattle.inference_search.specs.Near.{AreAdded}
use Rattle.inference_search.proofs.Adding.{HasBefore}
use Rattle.circuit_model.specs.declared.model.Cell.{Cell}
use Rattle.inference_search.proofs.near.add_cells.Given as goal

abbrev pub invariant-loop-cell : goal.invariant-loop-cell
invariant-loop-cell l = AreAdded (HasBefore l.more (λ (c d : Cell). d ≡ c) l.cell-index) l.fn.cells.items l.cells.items
