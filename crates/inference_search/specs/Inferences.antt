-- Recorded inferences.
use Rattle.std.specs.Prelude.{◌≡◌, List, [], ◌∷◌, Option, Some, None}
use Rattle.circuit_model.specs.declared.model.Fact.{Fact}
use Rattle.environment_sets.specs.Lists.{IsIn}
use Rattle.propagation.specs.Propagating.{RecordedInference}
use Rattle.inference_search.specs.declared.inferred.Inferred.{Inferred}

-- the facts of the two that are there, in their order
abbrev pub facts : Option Fact → Option Fact → List Fact
facts None None = []
facts (Some f) None = f ∷ []
facts None (Some g) = g ∷ []
facts (Some f) (Some g) = f ∷ g ∷ []

-- the inference that is recorded
abbrev pub inference : Inferred → RecordedInference
inference i = record { from = facts i.first i.second; to = i.to; maker = i.maker }

-- the family of the inferences of a list
abbrev pub RecordedIn : List Inferred → RecordedInference → Type 0
RecordedIn is j = (i : Inferred) × IsIn is i × (inference i ≡ j)

-- the two facts that the inference goes from, where there are two, differ
abbrev pub IsOnce : Inferred → Type 0
IsOnce i = (f : Fact) → i.first ≡ Some f → i.second ≡ Some f → ⊥
