use Rattle.std.proofs.Common.{◌≡◌, ℕ, ◌<◌, Option, Some, slice_get}
use Rattle.circuit_model.specs.declared.model.Fact.{Fact}
use Rattle.environment_sets.specs.Lists.{IsIn}
use Rattle.inference_search.proofs.choices.add_words.Given as goal

abbrev pub invariant-loop-fact : goal.invariant-loop-fact
invariant-loop-fact l = record {
  stays : (o : Option ℕ) → IsIn l.fn.choices.items o → IsIn l.choices.items o;
  words : (k : ℕ) → k < l.fact-index → (f : Fact) → slice_get l.facts k ≡ Some f → f.cell ≡ l.cell → IsIn l.choices.items (Some f.value);
}
