-- Laws of listed diagnoses.
use Rattle.std.specs.Prelude.{ℕ, ◌≤◌, List, length}
use Rattle.circuit_model.specs.declared.limits.TheConstants.{MOST_DIAGNOSES}
use Rattle.circuit_model.specs.Diagnoses.{Circuit}
use Rattle.circuit_model.specs.Probe.{AreDiagnoses, HasMoreDiagnosesThan}
use Rattle.environment_sets.specs.Sets.{Set}

-- where there are no more diagnoses than are listed, a list of all of them is no longer
abbrev pub FewDiagnosesAreListed : Type 0
FewDiagnosesAreListed = (P : Circuit) (Ds : List (Set ℕ)) → AreDiagnoses P Ds → (HasMoreDiagnosesThan MOST_DIAGNOSES P → ⊥) → length Ds ≤ MOST_DIAGNOSES
