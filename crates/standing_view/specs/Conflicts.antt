-- Conflicts of what stands.
use Rattle.std.specs.Prelude.{◌≡◌, ◌⊎◌, ℕ, Bool, List, map}
use Rattle.std.specs.Ordering.{is_lt}
use Rattle.std.specs.declared.cmp.Ordering.{Ordering}
use Rattle.circuit_model.specs.declared.model.Fact.{Fact}
use Rattle.circuit_model.specs.Diagnoses.{Place, AtPart, IsConflict}
use Rattle.circuit_model.specs.Present.{PresentView, circuit_of}
use Rattle.circuit_model.specs.Probe.{AreConflicts}
use Rattle.circuit_model.specs.Stock.{IsNogood}
use Rattle.circuit_model.specs.Whole.{stock, order_of_present}
use Rattle.environment_sets.specs.declared.environment.Env.{Env}
use Rattle.environment_sets.specs.Families.{IsCovered, IsAntichain}
use Rattle.environment_sets.specs.Lists.{IsIn}
use Rattle.environment_sets.specs.Members.{members, HasMember}
use Rattle.environment_sets.specs.Orders.{compare_in, ComesBefore}
use Rattle.environment_sets.specs.Sets.{Set, ◌⊆◌, ◌∩◌}
use Rattle.assumption_slots.specs.Slots as slots
use Rattle.label_engine.specs.Engine.{Seen}
use Rattle.standing_view.specs.Positions.{positions}
use Rattle.standing_view.specs.Standing.{Stands, parts_of}
use Rattle.standing_view.specs.View.{StandsFor, places}

-- of whatever present the slots stand for, the sets of slots are those of the conflicts, in order
abbrev pub AreConflictsOf : Seen → Stands → List (Set ℕ) → Type 0
AreConflictsOf seen st Cs = (P : PresentView) (parked : List Fact) → StandsFor (slots.stock seen.slots) st P parked → AreConflicts (circuit_of P) (map (positions st) Cs)

-- the slots stand for a present of which the set is a conflict
pub record IsConflictOf (seen : Seen) (st : Stands) (C : Set ℕ) : Type 0 where
  pub present : PresentView
  pub parked : List Fact
  pub stands : StandsFor (slots.stock seen.slots) st present parked
  pub inside : C ⊆ parts_of st
  pub conflict : IsConflict (circuit_of present) (positions st C)

-- the positions of the components of an environment
abbrev pub components_of : Set Place → Set ℕ
components_of E = λ i. E (AtPart i)

-- the first nogood of the present that has exactly these components
pub record IsFirstNogood (P : PresentView) (C : Set ℕ) (E : Set Place) : Type 0 where
  pub nogood : IsNogood (stock P) E
  pub components : components_of E ≡ C
  pub first : (F : Set Place) → IsNogood (stock P) F → components_of F ≡ C → (E ≡ F) ⊎ ComesBefore (order_of_present P) E F

-- of whatever present the slots stand for of which C is a conflict, E is the first nogood with exactly its components
abbrev pub IsNogoodFor : Seen → Stands → Set ℕ → Set ℕ → Type 0
IsNogoodFor seen st C E =
    (P : PresentView) (parked : List Fact) → StandsFor (slots.stock seen.slots) st P parked → IsConflict (circuit_of P) (positions st C) → IsFirstNogood P (positions st C) (places st E)

-- the environments are the minimal ones of the sets: each is one of them, none contains another, and one is inside each
pub record AreLeastOf (Es : List (Set ℕ)) (es : List Env) : Type 0 where
  pub sound : (E : Set ℕ) → HasMember es E → IsIn Es E
  pub antichain : IsAntichain (HasMember es)
  pub covers : (E : Set ℕ) → IsIn Es E → IsCovered (HasMember es) E

-- how the slots of L in the two compare
unfoldable pub compare_inside : List ℕ → Set ℕ → Env → Env → Ordering
compare_inside order L a b = compare_in order (members a ∩ L) (members b ∩ L)

-- the one comes before the other
abbrev pub is_before : List ℕ → Set ℕ → Env → Env → Bool
is_before order L a b = is_lt (compare_inside order L a b)

-- the slots of L in each of the sets
abbrev pub meets : Set ℕ → List (Set ℕ) → List (Set ℕ)
meets L Es = map (λ E. E ∩ L) Es
