-- The load of a present, against the largest that is kept.
use Rattle.std.specs.Prelude.{◌≡◌, ℕ, ◌<◌, List}
use Rattle.circuit_model.specs.declared.limits.TheConstants.{MOST_LOAD}
use Rattle.circuit_model.specs.declared.model.Fact.{Fact}
use Rattle.circuit_model.specs.Diagnoses.{Place}
use Rattle.circuit_model.specs.Load.{IsLoad}
use Rattle.circuit_model.specs.Present.{PresentView}
use Rattle.circuit_model.specs.Stock.{Stock, within}
use Rattle.circuit_model.specs.Whole.{stock}
use Rattle.standing_view.specs.Standing.{Stands, mask_of}
use Rattle.standing_view.specs.View.{StandsFor}

-- the load of the present is above the largest that is kept
pub record IsOverloaded (s : PresentView) : Type 0 where
  pub n : ℕ
  pub is : IsLoad (stock s) n
  pub above : MOST_LOAD < n

-- the load of the present is not above the largest that is kept
abbrev pub IsWithinLoad : PresentView → Type 0
IsWithinLoad s = IsOverloaded s → ⊥

-- the load over the slots that stand is that of the present
abbrev pub LoadsAreThePresents : Type 0
LoadsAreThePresents = (S : Stock ℕ) (st : Stands) (P : PresentView) (parked : List Fact) → StandsFor S st P parked → (n : ℕ) → IsLoad (within (mask_of st) S) n → IsLoad (stock P) n

-- there is no more than one load
abbrev pub LoadsAreUnique : Type 0
LoadsAreUnique = (S : Stock Place) (m n : ℕ) → IsLoad S m → IsLoad S n → m ≡ n
