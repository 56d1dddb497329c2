use Rattle.std.proofs.Common.{◌≡◌, ℕ, ◌<◌, ◌⊎◌, Some, slice_get}
use Rattle.circuit_model.specs.declared.model.Fact.{Fact}
use Rattle.environment_sets.specs.Lists.{IsIn}
use Rattle.inference_search.proofs.search.add_others.Given as goal

abbrev pub invariant-loop-other : goal.invariant-loop-other
invariant-loop-other l = record {
  stays : (g : Fact) → IsIn l.fn.facts.items g → IsIn l.facts.items g;
  others : (k : ℕ) → k < l.other-index → (g : Fact) → slice_get l.met k ≡ Some g → (g.cell ≡ l.fact.cell) ⊎ IsIn l.facts.items g;
}
