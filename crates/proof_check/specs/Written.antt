-- What steps, endings and derivations say.
use Rattle.std.specs.Prelude.{List, [], ◌∷◌, map, Option, Some, None}
use Rattle.circuit_model.specs.declared.model.Fact.{Fact}
use Rattle.circuit_model.specs.Derivation as derivations
use Rattle.circuit_model.specs.Derivation.{Justification, by_instance, fact_of}
use Rattle.proof_check.specs.declared.derivation.Step.{Step}
use Rattle.proof_check.specs.declared.derivation.Step.TheVariants.{Measured, Inferred}
use Rattle.proof_check.specs.declared.derivation.Ending.{Ending}
use Rattle.proof_check.specs.declared.derivation.Ending.TheVariants.{Holds, TwoValues, Refuted}
use Rattle.proof_check.specs.declared.derivation.Goal.{Goal}
use Rattle.proof_check.specs.declared.derivation.Goal.TheVariants.{Value, Clash}
use Rattle.proof_check.specs.declared.derivation.Derivation.{Derivation}

-- the facts that stand at some places, in order
abbrev pub given : List (Option Fact) → List Fact
given [] = []
given (None ∷ places) = given places
given (Some f ∷ places) = f ∷ given places

-- the first two of some facts at two places, which are filled from the first on
abbrev pub at_two_places : List Fact → List (Option Fact)
at_two_places [] = None ∷ None ∷ []
at_two_places (f ∷ []) = Some f ∷ None ∷ []
at_two_places (f ∷ g ∷ _) = Some f ∷ Some g ∷ []

-- the step of a derivation that it is
abbrev pub step_of : Step → derivations.Step
step_of (Measured f) = derivations.Measured f
step_of (Inferred f part instance ports from) = derivations.Inferred f part instance ports (given from)

-- the ending of a derivation that it is
abbrev pub ending_of : Ending → derivations.Ending
ending_of Holds = derivations.Holds
ending_of (TwoValues c low high) = derivations.TwoValues c low high
ending_of (Refuted part instance ports from) = derivations.Refuted part instance ports (given from)

-- what is to be derived
abbrev pub goal_of : Goal → derivations.Goal
goal_of (Value f) = derivations.Value f
goal_of Clash = derivations.Clash

-- the derivation that it is
abbrev pub derivation_of : Derivation → derivations.Derivation
derivation_of d = record { steps = map step_of d.steps; ending = ending_of d.ending }

-- the facts of the steps
abbrev pub facts_of : List Step → List Fact
facts_of steps = map fact_of (map step_of steps)
