-- What is written of a label.
use Rattle.std.specs.Prelude.{ℕ, Bool, List, map}
use Rattle.bench_io.specs.Streams.{Telling}
use Rattle.circuit_model.specs.declared.model.Fact.{Fact}
use Rattle.environment_sets.specs.Sets.{Set}
use Rattle.environment_sets.specs.Lists.{IsListing}
use Rattle.environment_sets.specs.Orders.{ComesBefore}
use Rattle.circuit_model.specs.Diagnoses.{Place}
use Rattle.circuit_model.specs.Present.{PresentView}
use Rattle.circuit_model.specs.Whole.{order_of_present, stock}
use Rattle.circuit_model.specs.Printed.{Labelled}
use Rattle.circuit_model.specs.Stock.{Stock, IsInLabel}
use Rattle.standing_view.specs.Standing.{Stands}
use Rattle.standing_view.specs.View.{StandsFor}
use Rattle.bench_io.specs.Puts.{Puts}
use Rattle.answer_text.specs.Texts.{label_lines}

-- the word with the environment
abbrev pub labelled : ℕ → Set Place → Labelled
labelled v E = record { word = v; environment = E }

-- a line was put for each environment of the fact's label, in order
pub record PutsLabel (s : PresentView) (f : Fact) (failed_before failed_now : Bool) (before now : Telling) : Type 0 where
  pub environments : List (Set Place)
  pub exact : IsListing (ComesBefore (order_of_present s)) (IsInLabel (stock s) f) environments
  pub puts : Puts failed_before failed_now before now (label_lines s f.cell (map (labelled f.value) environments))

-- the slots stand for the present, with some readings remembered besides
pub record StandsIn (remembered : Stock ℕ) (st : Stands) (s : PresentView) : Type 0 where
  pub parked : List Fact
  pub stands : StandsFor remembered st s parked

-- the slots stand for the present, whatever is remembered
pub record StandsForPresent (st : Stands) (s : PresentView) : Type 0 where
  pub remembered : Stock ℕ
  pub parked : List Fact
  pub stands : StandsFor remembered st s parked
