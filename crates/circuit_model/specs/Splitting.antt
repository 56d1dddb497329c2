-- Where a measurement would tell diagnoses apart.
use Rattle.std.specs.Prelude.{◌≡◌, ◌≢◌, ℕ, ◌*◌, ◌<◌, ◌≤◌, ◌↔◌, List, Some}
use Rattle.circuit_model.specs.declared.model.Cell.{Cell}
use Rattle.environment_sets.specs.Sets.{Set}
use Rattle.environment_sets.specs.Lists.{IsIn}
use Rattle.circuit_model.specs.Diagnoses.{Circuit, IsDiagnosis}
use Rattle.circuit_model.specs.Probe.{Prediction, Predicts, total_weight, score, IsScore, IsTotal}

-- each prediction has some weight
abbrev pub AreWeighty : List Prediction → Type 0
AreWeighty predictions = (p : Prediction) → IsIn predictions p → 1 ≤ p.weight

-- two of the predictions are different words
pub record HasTwoWords (predictions : List Prediction) : Type 0 where
  pub one : Prediction
  pub is_one : IsIn predictions one
  pub word : ℕ
  pub predicts : one.word ≡ Some word
  pub other : Prediction
  pub is_other : IsIn predictions other
  pub other_word : ℕ
  pub other_predicts : other.word ≡ Some other_word
  pub differ : word ≢ other_word

-- the score is less than that of a cell that tells none apart exactly where two words are predicted
abbrev pub TwoWordsSplit : Type 0
TwoWordsSplit = (predictions : List Prediction) → AreWeighty predictions → score predictions < total_weight predictions * total_weight predictions ↔ HasTwoWords predictions

-- two diagnoses predict different words at the cell
pub record HasTwoPredictions (P : Circuit) (c : Cell) : Type 0 where
  pub diagnosis : Set ℕ
  pub is_diagnosis : IsDiagnosis P diagnosis
  pub word : ℕ
  pub predicts : Predicts P c diagnosis word
  pub other : Set ℕ
  pub is_other : IsDiagnosis P other
  pub other_word : ℕ
  pub other_predicts : Predicts P c other other_word
  pub differ : word ≢ other_word

-- a cell splits, its score being below the squared weight of all diagnoses, exactly where two words are predicted there
abbrev pub TwoPredictionsSplit : Type 0
TwoPredictionsSplit = (P : Circuit) (c : Cell) (n total : ℕ) → IsScore P c n → IsTotal P total → n < total ↔ HasTwoPredictions P c
