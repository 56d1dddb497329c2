-- What a derivation names: facts, components and instances of the present.
use Rattle.std.specs.Prelude.{◌≡◌, ℕ, ◌<◌, List, length, Some, slice_get}
use Rattle.environment_sets.specs.Lists.{IsIn}
use Rattle.circuit_model.specs.declared.model.Fact.{Fact}
use Rattle.circuit_model.specs.declared.present.Component.{Component}
use Rattle.circuit_model.specs.Closure.{fact}
use Rattle.circuit_model.specs.Derivation.{Step, Measured, Inferred, Ending, Holds, TwoValues, Refuted, Derivation}
use Rattle.circuit_model.specs.Present.{PresentView, IsFactOf}

-- the present has the component and its instance, and the facts are of the present
pub record IsInferenceOf (s : PresentView) (position place : ℕ) (facts : List Fact) : Type 0 where
  pub part : position < length s.parts
  pub instance : (c : Component) → slice_get s.parts position ≡ Some c → place < length c.part
  pub from : (f : Fact) → IsIn facts f → IsFactOf s f

-- the step shows a fact of the present, and infers it so
abbrev pub IsStepOf : PresentView → Step → Type 0
IsStepOf s (Measured f) = IsFactOf s f
IsStepOf s (Inferred f part instance ports from) = IsFactOf s f × IsInferenceOf s part instance from

-- the ending is of facts of the present, and refutes so
abbrev pub IsEndingOf : PresentView → Ending → Type 0
IsEndingOf s Holds = Unit {0}
IsEndingOf s (TwoValues c low high) = IsFactOf s (fact c low) × IsFactOf s (fact c high)
IsEndingOf s (Refuted part instance ports from) = IsInferenceOf s part instance from

-- so for each step, and for the ending
pub record IsDerivationOf (s : PresentView) (d : Derivation) : Type 0 where
  pub steps : (st : Step) → IsIn d.steps st → IsStepOf s st
  pub ending : IsEndingOf s d.ending
