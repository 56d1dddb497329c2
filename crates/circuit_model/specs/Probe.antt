-- The best next measurement.
use Rattle.std.specs.Prelude.{◌≡◌, ℕ, ◌+◌, ◌-◌, ◌^◌, min, ◌==◌, Bool, true, false, if◌then◌else◌, List, length, Option, Some, None, MatchOption, ◌*◌, ◌<◌, ◌≤◌, IsTrue}
use Rattle.std.specs.List.{range_with_len, sum_by, AllZip}
use Rattle.circuit_model.specs.declared.limits.TheConstants.{MOST_COST}
use Rattle.circuit_model.specs.declared.model.Cell.{Cell}
use Rattle.circuit_model.specs.Closure.{fact}
use Rattle.environment_sets.specs.Sets.{Set, others}
use Rattle.environment_sets.specs.Lists.{IsListing}
use Rattle.environment_sets.specs.Orders.{ComesBefore}
use Rattle.environment_sets.specs.Costs.{cost_in, ComesBeforeByCost}
use Rattle.environment_sets.specs.Counts.{AreSoMany}
use Rattle.circuit_model.specs.Stock.{Has}
use Rattle.circuit_model.specs.Present.{PresentView, is_cell_before, reading_in, circuit_of}
use Rattle.circuit_model.specs.Diagnoses.{Circuit, stock_of, with_readings, IsConflict, IsDiagnosis}

-- the positions of the components, in order
abbrev pub positions_in : Circuit → List ℕ
positions_in P = range_with_len 0 (length P.parts)

-- all diagnoses, by cost, and those of one cost in the order of sets
abbrev pub AreDiagnoses : Circuit → List (Set ℕ) → Type 0
AreDiagnoses P = IsListing (ComesBeforeByCost (positions_in P) P.costs) (IsDiagnosis P)

-- all conflicts, in order
abbrev pub AreConflicts : Circuit → List (Set ℕ) → Type 0
AreConflicts P = IsListing (ComesBefore (positions_in P)) (IsConflict P)

-- there are more diagnoses than so many
pub record HasMoreDiagnosesThan (limit : ℕ) (P : Circuit) : Type 0 where
  pub count : ℕ
  pub counted : AreSoMany (IsDiagnosis P) count
  pub more : limit < count

-- the weight that goes with a cost: the largest cost and all above it weigh 1, and each cost less doubles the weight
unfoldable pub weight_for_cost : ℕ → ℕ
weight_for_cost cost = 2 ^ (MOST_COST - min cost MOST_COST)

-- the weight of a set of components: the likelier its components are to fail, the less it costs and the more it weighs
abbrev pub weight_of : Circuit → Set ℕ → ℕ
weight_of P D = weight_for_cost (cost_in (positions_in P) P.costs D)

-- without the parts of D the word follows at the cell
abbrev pub Predicts : Circuit → Cell → Set ℕ → ℕ → Type 0
Predicts P c D v = Has (stock_of P) (fact c v) (with_readings P (others (length P.parts) D))

-- what D predicts at the cell, if anything
abbrev pub IsPrediction : Circuit → Cell → Set ℕ → Option ℕ → Type 0
IsPrediction P c D o = MatchOption o ((v : ℕ) → Predicts P c D v → ⊥) (Predicts P c D)

-- a predicted word, if any, and the weight of what predicts it
pub record Prediction : Type 0 where
  pub weight : ℕ
  pub word : Option ℕ

-- the diagnosis has the weight, and predicts this at the cell
pub record Gives (P : Circuit) (c : Cell) (D : Set ℕ) (p : Prediction) : Type 0 where
  pub weight : p.weight ≡ weight_of P D
  pub word : IsPrediction P c D p.word

-- the prediction is the word
abbrev pub is_word : ℕ → Option ℕ → Bool
is_word v None = false
is_word v (Some w) = v == w

-- nothing is predicted
abbrev pub is_silent : Option ℕ → Bool
is_silent None = true
is_silent (Some w) = false

-- the weight of all predictions
abbrev pub total_weight : List Prediction → ℕ
total_weight predictions = sum_by (λ p. p.weight) predictions

-- the weight of those that predict the word
abbrev pub word_weight : ℕ → List Prediction → ℕ
word_weight v predictions = sum_by (λ p. if is_word v p.word then p.weight else 0) predictions

-- the weight of those that predict nothing
abbrev pub silent_weight : List Prediction → ℕ
silent_weight predictions = sum_by (λ p. if is_silent p.word then p.weight else 0) predictions

-- the weight of those that go with a prediction: with v, those that predict v or nothing, and with nothing, all
abbrev pub agreeing_weight : List Prediction → Option ℕ → ℕ
agreeing_weight predictions None = total_weight predictions
agreeing_weight predictions (Some v) = word_weight v predictions + silent_weight predictions

-- each weight times the weight of those that go with it, added
abbrev pub score : List Prediction → ℕ
score predictions = sum_by (λ p. p.weight * agreeing_weight predictions p.word) predictions

-- the score of the cell, of exactly the diagnoses
pub record IsScore (P : Circuit) (c : Cell) (n : ℕ) : Type 0 where
  pub diagnoses : List (Set ℕ)
  pub exact : AreDiagnoses P diagnoses
  pub predictions : List Prediction
  pub each : AllZip (Gives P c) diagnoses predictions
  pub total : n ≡ score predictions

-- the weight of all diagnoses, squared
pub record IsTotal (P : Circuit) (n : ℕ) : Type 0 where
  pub diagnoses : List (Set ℕ)
  pub exact : AreDiagnoses P diagnoses
  pub squared : n ≡ sum_by (weight_of P) diagnoses * sum_by (weight_of P) diagnoses

-- the score of the cell is below the squared weight of all diagnoses
pub record Splits (P : Circuit) (c : Cell) : Type 0 where
  pub low : ℕ
  pub high : ℕ
  pub scored : IsScore P c low
  pub totalled : IsTotal P high
  pub below : low < high

-- a cell of the present at which nothing is measured
pub record IsUnmeasured (s : PresentView) (c : Cell) : Type 0 where
  pub net : c.net < length s.nets
  pub cycle : c.cycle < s.cycles
  pub open_cell : reading_in s.readings c ≡ None

-- The best probe: an unmeasured cell that splits with the least score, the earlier one at a tie.
pub record IsBestProbe (s : PresentView) (c : Cell) (n total : ℕ) : Type 0 where
  pub unmeasured : IsUnmeasured s c
  pub scored : IsScore (circuit_of s) c n
  pub totalled : IsTotal (circuit_of s) total
  pub splits : n < total
  pub least : (d : Cell) (m : ℕ) → IsUnmeasured s d → IsScore (circuit_of s) d m → n ≤ m
  pub first : (d : Cell) → IsUnmeasured s d → IsScore (circuit_of s) d n → IsTrue (is_cell_before d c) → ⊥

-- no unmeasured cell splits
abbrev pub HasNoProbe : PresentView → Type 0
HasNoProbe s = (c : Cell) → IsUnmeasured s c → Splits (circuit_of s) c → ⊥

-- the diagnoses have one listing
abbrev pub DiagnosesHaveOneListing : Type 0
DiagnosesHaveOneListing = (P : Circuit) (xs ys : List (Set ℕ)) → AreDiagnoses P xs → AreDiagnoses P ys → xs ≡ ys

-- the conflicts have one listing
abbrev pub ConflictsHaveOneListing : Type 0
ConflictsHaveOneListing = (P : Circuit) (xs ys : List (Set ℕ)) → AreConflicts P xs → AreConflicts P ys → xs ≡ ys

-- a cell has one score
abbrev pub CellsHaveOneScore : Type 0
CellsHaveOneScore = (P : Circuit) (c : Cell) (m n : ℕ) → IsScore P c m → IsScore P c n → m ≡ n
