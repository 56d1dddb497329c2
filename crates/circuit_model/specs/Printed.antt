-- The printed label of a cell.
use Rattle.std.specs.Prelude.{◌≡◌, ◌⊎◌, ℕ, ◌<◌, List}
use Rattle.circuit_model.specs.declared.model.Cell.{Cell}
use Rattle.circuit_model.specs.Closure.{fact}
use Rattle.environment_sets.specs.Sets.{Set}
use Rattle.environment_sets.specs.Lists.{IsListing}
use Rattle.environment_sets.specs.Orders.{ComesBefore}
use Rattle.circuit_model.specs.Stock.{IsInLabel}
use Rattle.circuit_model.specs.Diagnoses.{Place}
use Rattle.circuit_model.specs.Present.{PresentView}
use Rattle.circuit_model.specs.Whole.{stock, order_of_present}

-- a word, and an environment of its label
pub record Labelled : Type 0 where
  pub word : ℕ
  pub environment : Set Place

-- words rise, and the environments of a word go by the order of sets
abbrev pub IsPrintedBefore : PresentView → Labelled → Labelled → Type 0
IsPrintedBefore s k l = (k.word < l.word) ⊎ ((k.word ≡ l.word) × ComesBefore (order_of_present s) k.environment l.environment)

-- each word at the cell with each environment of its label, in order, none twice
abbrev pub IsPrintedLabel : PresentView → Cell → List Labelled → Type 0
IsPrintedLabel s c = IsListing (IsPrintedBefore s) (λ l. IsInLabel (stock s) (fact c l.word) l.environment)

-- a cell has one printed label
abbrev pub PrintedLabelsAreUnique : Type 0
PrintedLabelsAreUnique = (s : PresentView) (c : Cell) (ls ms : List Labelled) → IsPrintedLabel s c ls → IsPrintedLabel s c ms → ls ≡ ms
