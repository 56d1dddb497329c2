-- Conflicts and diagnoses, as sets of positions.
use Rattle.std.specs.Prelude.{ℕ, List}
use Rattle.circuit_model.specs.declared.limits.TheConstants.{MOST_DIAGNOSES}
use Rattle.circuit_model.specs.declared.model.Fact.{Fact}
use Rattle.circuit_model.specs.Diagnoses.{Circuit}
use Rattle.circuit_model.specs.Present.{PresentView, circuit_of}
use Rattle.circuit_model.specs.Probe.{positions_in, AreConflicts, HasMoreDiagnosesThan}
use Rattle.environment_sets.specs.Costs.{ComesBeforeByCost}
use Rattle.environment_sets.specs.Sets.{Set}
use Rattle.assumption_slots.specs.Slots as slots
use Rattle.diagnosis_order.specs.declared.listing.DiagnosisStop.{DiagnosisStop}
use Rattle.diagnosis_order.specs.declared.listing.DiagnosisStop.TheVariants.{TooMany, OutOfMemory}
use Rattle.label_engine.specs.Engine.{Seen}
use Rattle.standing_view.specs.Standing.{Stands}
use Rattle.standing_view.specs.View.{StandsFor}

-- of whatever present the slots stand for, these are the conflicts, in order
abbrev pub AreConflictsAt : Seen → Stands → List (Set ℕ) → Type 0
AreConflictsAt seen st Cs = (P : PresentView) (parked : List Fact) → StandsFor (slots.stock seen.slots) st P parked → AreConflicts (circuit_of P) Cs

-- the one costs less, or as much as the other, and comes before it in the order of sets
abbrev pub IsBeforeByCost : Circuit → Set ℕ → Set ℕ → Type 0
IsBeforeByCost P = ComesBeforeByCost (positions_in P) P.costs

-- there are no more diagnoses than are listed
abbrev pub HasFewDiagnoses : Circuit → Type 0
HasFewDiagnoses P = HasMoreDiagnosesThan MOST_DIAGNOSES P → ⊥

-- there are more diagnoses than are listed, or memory ran out
abbrev pub IsStopAt : Circuit → DiagnosisStop → Type 0
IsStopAt P (TooMany count) = HasMoreDiagnosesThan MOST_DIAGNOSES P
IsStopAt P OutOfMemory = Unit {0}
