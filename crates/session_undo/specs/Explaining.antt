-- A derivation under an environment.
use Rattle.std.specs.Prelude.{◌≡◌}
use Rattle.circuit_model.specs.Derivation.{Derivation, Goal, IsCanonical}
use Rattle.circuit_model.specs.Diagnoses.{Place}
use Rattle.circuit_model.specs.Present.{PresentView, circuit_of}
use Rattle.environment_sets.specs.Sets.{Set}
use Rattle.answer_text.specs.Derivations.{CanBeWritten}

-- the environment is told as `under`, and the derivation is the canonical one of the goal under it
pub record Explains (s : PresentView) (E : Set Place) (goal : Goal) (under : Set Place) (d : Derivation) : Type 0 where
  pub same : under ≡ E
  pub canonical : IsCanonical (circuit_of s) E goal d
  pub named : CanBeWritten s d
