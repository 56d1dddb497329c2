use Rattle.circuit_model.specs.declared.model.Cell.{Cell}
use Rattle.circuit_model.specs.declared.model.Instance.{Instance}
use Rattle.inference_search.specs.Near.{AreAdded, HasBoth}
use Rattle.inference_search.proofs.Adding.{HasBefore}
use Rattle.inference_search.proofs.near.add_joined.Given as goal

abbrev pub invariant-loop-index : goal.invariant-loop-index
invariant-loop-index l = AreAdded (HasBefore l.part (λ (i : Instance) (d : Cell). HasBoth i.cells l.fn.cell d) l.index) l.fn.cells.items l.cells.items
