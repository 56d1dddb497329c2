-- Laws of what stands for a present.
use Rattle.std.specs.Prelude.{◌≡◌, ◌↔◌, ℕ, ◌-◌, ◌≤◌, List, [], ◌∷◌, length, slice_get, Some, None}
use Rattle.std.specs.List.{remove}
use Rattle.circuit_model.specs.declared.model.Fact.{Fact}
use Rattle.circuit_model.specs.declared.limits.TheConstants.{MOST_EARLIER}
use Rattle.circuit_model.specs.declared.model.Assumption.{Assumption}
use Rattle.circuit_model.specs.declared.model.Assumption.TheVariants.{Part, Reading}
use Rattle.circuit_model.specs.declared.present.Component.{Component}
use Rattle.circuit_model.specs.declared.present.Net.{Net}
use Rattle.circuit_model.specs.Diagnoses.{Place}
use Rattle.circuit_model.specs.Present.{PresentView, IsLawful, empty_present, reading_in, with_net, with_part, without_last_part, with_standing}
use Rattle.circuit_model.specs.Renaming.{IsRenaming}
use Rattle.circuit_model.specs.Stock.{Stock, IsEnvironment, IsInLabel, IsNogood, within}
use Rattle.circuit_model.specs.Whole.{stock, everything, order_of_present}
use Rattle.environment_sets.specs.Sets.{Set, ◌⊆◌}
use Rattle.environment_sets.specs.Lists.{IsIn}
use Rattle.environment_sets.specs.Orders.{ComesBefore}
use Rattle.label_engine.specs.Engine.{Remembers, Forgets, AreAllTaken}
use Rattle.standing_view.specs.Standing.{Stands, nothing_stands, order_of, mask_of, with_part_at, with_reading_at, without_reading_at, without_last_part_at}
use Rattle.standing_view.specs.View.{StandsFor, without_fact, slot_of, place_of, places}

-- slots and places name the same assumptions
abbrev pub SlotsNameThePresent : Type 0
SlotsNameThePresent = (S : Stock ℕ) (st : Stands) (P : PresentView) (parked : List Fact) → StandsFor S st P parked → IsRenaming (within (mask_of st) S) (stock P) (place_of st) (slot_of st)

-- the labels of the slots are those of the present
abbrev pub SlotsHaveItsLabels : Type 0
SlotsHaveItsLabels =
    (S : Stock ℕ) (st : Stands) (P : PresentView) (parked : List Fact) → StandsFor S st P parked → (f : Fact) (E : Set ℕ) → E ⊆ mask_of st → IsInLabel (within (mask_of st) S) f E ↔ IsInLabel (stock P) f (places st E)

-- and so are the nogoods
abbrev pub SlotsHaveItsNogoods : Type 0
SlotsHaveItsNogoods = (S : Stock ℕ) (st : Stands) (P : PresentView) (parked : List Fact) → StandsFor S st P parked → (E : Set ℕ) → E ⊆ mask_of st → IsNogood (within (mask_of st) S) E ↔ IsNogood (stock P) (places st E)

-- the one set of slots that stand which has exactly these places
pub record IsTheSetOf (st : Stands) (F : Set Place) (E : Set ℕ) : Type 0 where
  pub inside : E ⊆ mask_of st
  pub is : places st E ≡ F
  pub only : (G : Set ℕ) → G ⊆ mask_of st → places st G ≡ F → G ≡ E

-- each environment of the present is that of exactly one set of slots that stand
abbrev pub EnvironmentsAreSlots : Type 0
EnvironmentsAreSlots = (S : Stock ℕ) (st : Stands) (P : PresentView) (parked : List Fact) → StandsFor S st P parked → (F : Set Place) → IsEnvironment (stock P) F → (E : Set ℕ) × IsTheSetOf st F E

-- and the places of slots that stand are an environment of the present
abbrev pub SlotsAreEnvironments : Type 0
SlotsAreEnvironments = (S : Stock ℕ) (st : Stands) (P : PresentView) (parked : List Fact) → StandsFor S st P parked → (E : Set ℕ) → E ⊆ mask_of st → IsEnvironment (stock P) (places st E)

-- each slot that stands is remembered
abbrev pub TheMaskIsRemembered : Type 0
TheMaskIsRemembered = (S : Stock ℕ) (st : Stands) (P : PresentView) (parked : List Fact) → StandsFor S st P parked → IsEnvironment S (mask_of st)

-- all that stands is everything in the present
abbrev pub TheMaskIsEverything : Type 0
TheMaskIsEverything = (S : Stock ℕ) (st : Stands) (P : PresentView) (parked : List Fact) → StandsFor S st P parked → places st (mask_of st) ≡ everything P

-- sets of slots come in the order of their places
abbrev pub TheOrderIsThePresents : Type 0
TheOrderIsThePresents =
    (S : Stock ℕ) (st : Stands) (P : PresentView) (parked : List Fact) → StandsFor S st P parked → (E F : Set ℕ) → ComesBefore (order_of st) E F ↔ ComesBefore (order_of_present P) (places st E) (places st F)

-- where nothing is remembered, nothing stands for the empty present
abbrev pub NothingStandsForNothing : Type 0
NothingStandsForNothing = (S : Stock ℕ) → ((k : ℕ) → S k ≡ None) → StandsFor S nothing_stands empty_present []

-- one net more
abbrev pub NetsAlterNothing : Type 0
NetsAlterNothing = (S : Stock ℕ) (st : Stands) (P : PresentView) (parked : List Fact) (n : Net) → StandsFor S st P parked → StandsFor S st (with_net n P) parked

-- one component more, remembered at a slot that was free
abbrev pub OneComponentMore : Type 0
OneComponentMore =
    (S R : Stock ℕ) (st : Stands) (P : PresentView) (parked : List Fact) (slot : ℕ) (c : Component) → StandsFor S st P parked → Remembers S slot (Part c.part) R → StandsFor R (with_part_at slot st) (with_part c P) parked

-- one measurement more, of a cell that is not measured, remembered at a slot that was free, where it is not parked
abbrev pub OneMeasurementMore : Type 0
OneMeasurementMore =
    (S R : Stock ℕ) (st : Stands) (P : PresentView) (parked : List Fact) (slot : ℕ) (f : Fact) → StandsFor S st P parked → reading_in P.readings f.cell ≡ None → (IsIn parked f → ⊥) → Remembers S slot (Reading f) R
    → StandsFor R (with_reading_at slot f.cell st) (with_standing f P) parked

-- the measurement at the place stands no more
abbrev pub without_standing : ℕ → PresentView → PresentView
without_standing place P = record P { readings = remove P.readings place }

-- a measurement that stands no more is parked
abbrev pub AReadingIsParked : Type 0
AReadingIsParked =
    (S : Stock ℕ) (st : Stands) (P : PresentView) (parked : List Fact) (place : ℕ) (f : Fact) → StandsFor S st P parked → slice_get P.readings place ≡ Some f
    → StandsFor S (without_reading_at place st) (without_standing place P) (f ∷ parked)

-- a parked reading of a cell that is not measured stands again
abbrev pub AParkedReadingStands : Type 0
AParkedReadingStands =
    (S : Stock ℕ) (st : Stands) (P : PresentView) (parked : List Fact) (slot : ℕ) (f : Fact) → StandsFor S st P parked → reading_in P.readings f.cell ≡ None → IsIn parked f → S slot ≡ Some (Reading f)
    → StandsFor S (with_reading_at slot f.cell st) (with_standing f P) (without_fact f parked)

-- a parked reading is forgotten, and nothing else is
abbrev pub AParkedReadingIsForgotten : Type 0
AParkedReadingIsForgotten =
    (S R : Stock ℕ) (st : Stands) (P : PresentView) (parked : List Fact) (slot : ℕ) (f : Fact) → StandsFor S st P parked → IsIn parked f → Forgets S slot (Reading f) R
    → StandsFor R st P (without_fact f parked)

-- the last component stands no more and is forgotten
abbrev pub TheLastComponentIsForgotten : Type 0
TheLastComponentIsForgotten =
    (S R : Stock ℕ) (st : Stands) (P : PresentView) (parked : List Fact) (slot : ℕ) (what : Assumption) → StandsFor S st P parked → slice_get st.parts (length st.parts - 1) ≡ Some slot → Forgets S slot what R
    → StandsFor R (without_last_part_at st) (without_last_part P) parked

-- what stands for a lawful present leaves a slot free beside the parked readings of as many presents as are kept
abbrev pub SomeSlotIsFree : Type 0
SomeSlotIsFree = (S : Stock ℕ) (st : Stands) (P : PresentView) (parked : List Fact) → StandsFor S st P parked → IsLawful P → length parked ≤ MOST_EARLIER → AreAllTaken S → ⊥

-- a free slot does not stand
abbrev pub FreeSlotsDoNotStand : Type 0
FreeSlotsDoNotStand = (S : Stock ℕ) (st : Stands) (P : PresentView) (parked : List Fact) → StandsFor S st P parked → (k : ℕ) → S k ≡ None → IsIn (order_of st) k → ⊥
