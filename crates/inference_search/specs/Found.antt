-- What a search for inferences finds.
use Rattle.std.specs.Prelude.{◌≡◌, ◌⊎◌, ℕ, List, Option, Some}
use Rattle.circuit_model.specs.declared.model.Fact.{Fact}
use Rattle.circuit_model.specs.declared.model.Assumption.{Assumption}
use Rattle.environment_sets.specs.Lists.{IsIn}
use Rattle.propagation.specs.Propagating.{Using, MadeAt, AreRecorded}
use Rattle.assumption_slots.specs.Slots.{stock}
use Rattle.inference_search.specs.declared.inferred.Inferred.{Inferred}
use Rattle.inference_search.specs.Inferences.{facts, RecordedIn}

-- the found inferences are exactly those, of instances and of two words, that use the fact, from it and from facts that were met
pub record AreFound (slots : List (Option Assumption)) (met : List Fact) (f : Fact) (found : List Inferred) : Type 0 where
  pub uses : (i : Inferred) → IsIn found i → IsIn (facts i.first i.second) f
  pub are : AreRecorded (stock slots) (λ g. IsIn met g ⊎ (g ≡ f)) (Using f) (RecordedIn found)

-- the found inferences are exactly those that the component at the slot makes from facts that were met
pub record AreMadeBy (slots : List (Option Assumption)) (met : List Fact) (slot : ℕ) (found : List Inferred) : Type 0 where
  pub maker : (i : Inferred) → IsIn found i → i.maker ≡ Some slot
  pub are : AreRecorded (stock slots) (IsIn met) (MadeAt slot) (RecordedIn found)
