use Rattle.std.proofs.Common.{◌≡◌, ℕ, ◌<◌, Some, slice_get}
use Rattle.circuit_model.specs.declared.model.Instance.{Instance}
use Rattle.inference_search.specs.Choices.{Finds, IsMadeOf, IsDoneFrom}
use Rattle.inference_search.proofs.components.add_part.Given as goal

abbrev pub invariant-loop-index : goal.invariant-loop-index
invariant-loop-index l =
    Finds (IsMadeOf l.slot l.part l.search.must)
    (λ found. (k : ℕ) → k < l.index → (instance : Instance) → slice_get l.part k ≡ Some instance → IsDoneFrom l.slot l.search.facts.now l.search.must instance found)
    l.fn.found.items l.found.items
