-- Conflicts and diagnoses of a circuit with its measurements.
use Rattle.std.specs.Prelude.{ℕ, IsTrue, is_some, ◌↔◌, List, length, Option, slice_get}
use Rattle.std.specs.Option.{option_map}
use Rattle.circuit_model.specs.declared.model.Cell.{Cell}
use Rattle.circuit_model.specs.declared.model.Instance.{Instance}
use Rattle.circuit_model.specs.declared.model.Assumption.TheVariants.{Part, Reading}
use Rattle.circuit_model.specs.Closure.{fact}
use Rattle.environment_sets.specs.Sets.{Set, IsMinimal, IsBelow, others, IsMinimalHittingSet}
use Rattle.environment_sets.specs.Lists.{IsIn}
use Rattle.circuit_model.specs.Stock.{Stock, IsRefutedBy}

-- the components' parts and costs in order, and the measured word of each measured cell
pub record Circuit : Type 0 where
  pub parts : List (List Instance)
  pub costs : List ℕ
  pub reading_at : Cell → Option ℕ

-- the names of a circuit's assumptions: positions of components, and measured cells
pub data Place : Type 0 where
  AtPart : ℕ → Place
  AtCell : Cell → Place

-- each position is its component's part, each measured cell its measurement
abbrev pub stock_of : Circuit → Stock Place
stock_of P (AtPart i) = option_map Part (slice_get P.parts i)
stock_of P (AtCell c) = option_map (λ v. Reading (fact c v)) (P.reading_at c)

-- these components, with all measured cells
abbrev pub with_readings : Circuit → Set ℕ → Set Place
with_readings P C (AtPart i) = C i
with_readings P C (AtCell c) = is_some (P.reading_at c)

-- these components clash with the measurements
abbrev pub AreRefuted : Circuit → Set ℕ → Type 0
AreRefuted P C = IsRefutedBy (stock_of P) (with_readings P C)

-- components that clash with the measurements, and fewer of them do not
pub record IsConflict (P : Circuit) (C : Set ℕ) : Type 0 where
  pub positions : IsBelow (length P.parts) C
  pub minimal : IsMinimal (AreRefuted P) C

-- without these components the measurements are consistent, and without fewer they are not
pub record IsDiagnosis (P : Circuit) (D : Set ℕ) : Type 0 where
  pub positions : IsBelow (length P.parts) D
  pub minimal : IsMinimal (λ D. AreRefuted P (others (length P.parts) D) → ⊥) D

-- the diagnoses are the minimal sets that share an element with each conflict
abbrev pub DiagnosesAreHittingSets : Type 0
DiagnosesAreHittingSets = (P : Circuit) (D : Set ℕ) → IsDiagnosis P D ↔ (IsBelow (length P.parts) D × IsMinimalHittingSet (IsConflict P) D)

-- the measurements alone do not clash
abbrev pub ReadingsAreConsistent : Type 0
ReadingsAreConsistent = (P : Circuit) (C : Set ℕ) → ((k : ℕ) → IsTrue (C k) → ⊥) → AreRefuted P C → ⊥

-- no conflict is empty
abbrev pub NoConflictIsEmpty : Type 0
NoConflictIsEmpty = (P : Circuit) (C : Set ℕ) → IsConflict P C → ((k : ℕ) → IsTrue (C k) → ⊥) → ⊥

-- where the conflicts can be listed there is a diagnosis
abbrev pub SomeDiagnosis : Type 0
SomeDiagnosis = (P : Circuit) (xs : List (Set ℕ)) → ((C : Set ℕ) → IsIn xs C ↔ IsConflict P C) → (D : Set ℕ) × IsDiagnosis P D

-- that a circuit has no diagnosis is impossible, with or without a listing
abbrev pub NoCircuitLacksADiagnosis : Type 0
NoCircuitLacksADiagnosis = (P : Circuit) → ((D : Set ℕ) → IsDiagnosis P D → ⊥) → ⊥
