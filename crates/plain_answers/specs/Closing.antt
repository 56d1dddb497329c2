-- What follows from an environment of a present.
use Rattle.std.specs.Prelude.{◌≡◌, ℕ, ◌<◌, ◌↔◌, IsTrue, List, Some, IsSome}
use Rattle.environment_sets.specs.Sets.{Set}
use Rattle.environment_sets.specs.Lists.{IsIn}
use Rattle.circuit_model.specs.declared.model.Cell.{Cell}
use Rattle.circuit_model.specs.Closure.{fact}
use Rattle.circuit_model.specs.Stock.{Has, IsRefutedBy}
use Rattle.circuit_model.specs.Diagnoses.{Place, AtPart, AtCell}
use Rattle.circuit_model.specs.Present.{PresentView}
use Rattle.circuit_model.specs.Whole.{stock}
use Rattle.proof_check.specs.Closing.{Timed}
use Rattle.plain_answers.specs.declared.closing.Closed.{Closed}
use Rattle.plain_answers.specs.declared.closing.Closed.TheVariants.{Clash, Facts}
use Rattle.plain_answers.specs.Subsets.{IsPartOrCell}
use Rattle.plain_answers.specs.Words.{word_in}

-- E is consistent, and the words are exactly those that follow from E
pub record AreFacts (s : PresentView) (E : Set Place) (facts : List Timed) : Type 0 where
  pub consistent : IsRefutedBy (stock s) E → ⊥
  pub exact : (c : Cell) (v : ℕ) → word_in facts c ≡ Some v ↔ Has (stock s) (fact c v) E

-- a clash of E, or its facts
abbrev pub Closes : PresentView → Set Place → Closed → Type 0
Closes s E Clash = IsRefutedBy (stock s) E
Closes s E (Facts closure) = AreFacts s E closure

-- exactly those of the first n components that E has
abbrev pub ArePartsOf : ℕ → Set Place → List ℕ → Type 0
ArePartsOf n E places = (k : ℕ) → IsIn places k ↔ ((k < n) × IsTrue (E (AtPart k)))

-- exactly the cells of those of the first n measurements that E has
abbrev pub AreCellsOf : PresentView → ℕ → Set Place → List Cell → Type 0
AreCellsOf s n E cells = (c : Cell) → IsIn cells c ↔ (IsPartOrCell s n (AtCell c) × IsTrue (E (AtCell c)))

-- F has exactly what E has of the present
abbrev pub IsOfPresent : PresentView → Set Place → Set Place → Type 0
IsOfPresent s E F = (name : Place) → IsTrue (F name) ↔ (IsSome (stock s name) × IsTrue (E name))
