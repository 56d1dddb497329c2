-- What is remembered, and which of it stands for a present.
use Rattle.std.specs.Prelude.{◌≡◌, ℕ, ◌≤◌, List, length, Some}
use Rattle.circuit_model.specs.declared.limits.TheConstants.{MOST_EARLIER}
use Rattle.circuit_model.specs.declared.model.Assumption.TheVariants.{Reading}
use Rattle.circuit_model.specs.declared.model.Fact.{Fact}
use Rattle.circuit_model.specs.Present.{PresentView}
use Rattle.assumption_slots.specs.Slots.{stock}
use Rattle.standing_view.specs.View.{StandsFor}
use Rattle.standing_changes.specs.declared.remembered.Remembered.{Remembered}

-- the slots stand for the present, and the parked readings are remembered besides
abbrev pub StandsWith : Remembered → PresentView → List Fact → Type 0
StandsWith r s parked = StandsFor (stock r.engine.slots) r.standing s parked

-- the slots stand for the present, with no more readings parked than as many presents as are kept
pub record StandsRoomy (r : Remembered) (s : PresentView) : Type 0 where
  pub parked : List Fact
  pub stands : StandsWith r s parked
  pub few : length parked ≤ MOST_EARLIER

-- the slots stand for some present
pub record StandsForSome (r : Remembered) : Type 0 where
  pub present : PresentView
  pub parked : List Fact
  pub stands : StandsWith r present parked

-- whatever is parked beside `s` before, `t` stands after it, with what `now` makes of that
abbrev pub Leads : Remembered → Remembered → PresentView → PresentView → (List Fact → List Fact) → Type 0
Leads old new s t now = (parked : List Fact) → StandsWith old s parked → StandsWith new t (now parked)

-- the reading is remembered at some slot
abbrev pub IsRemembered : Remembered → Fact → Type 0
IsRemembered r f = (slot : ℕ) × (stock r.engine.slots slot ≡ Some (Reading f))
