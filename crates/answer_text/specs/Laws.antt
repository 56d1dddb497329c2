-- Laws of what is written.
use Rattle.environment_sets.specs.Sets.{Set}
use Rattle.circuit_model.specs.Derivation.{Goal, Derivation, IsValid}
use Rattle.circuit_model.specs.Diagnoses.{Place}
use Rattle.circuit_model.specs.Present.{PresentView, IsLawful, circuit_of}
use Rattle.answer_text.specs.Derivations.{CanBeWritten}

-- what a valid derivation names is in the present
abbrev pub ValidDerivationsCanBeWritten : Type 0
ValidDerivationsCanBeWritten = (s : PresentView) → IsLawful s → (E : Set Place) (goal : Goal) (d : Derivation) → IsValid (circuit_of s) E goal d → CanBeWritten s d
