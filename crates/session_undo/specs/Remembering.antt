-- What a session remembers.
use Rattle.std.specs.Prelude.{◌≡◌, ◌⊎◌, ◌↔◌, ℕ, true, not, List, Some}
use Rattle.std.specs.List.{filter}
use Rattle.assumption_slots.specs.Slots.{stock}
use Rattle.circuit_model.specs.declared.model.Assumption.TheVariants.{Reading}
use Rattle.circuit_model.specs.declared.model.Fact.{Fact}
use Rattle.circuit_model.specs.Present.{PresentView}
use Rattle.environment_sets.specs.Lists.{IsIn}
use Rattle.present_history.specs.declared.undoing.Undoing.{Undoing}
use Rattle.present_history.specs.Earlier.{measures, some_measures, MayUndoEach, retracted}
use Rattle.standing_changes.specs.Remembered.{StandsWith}
use Rattle.standing_changes.specs.declared.remembered.Remembered.{Remembered}
use Rattle.session_undo.specs.Presents.{State}

-- the measurements that were retracted and do not stand now
abbrev pub parked : PresentView → List Undoing → List Fact
parked s us = filter (λ f. not (measures s f)) (retracted us)

-- a change retracted the measurement, or it stands
abbrev pub IsOut : List Undoing → PresentView → Fact → Type 0
IsOut us s f = IsIn (retracted us) f ⊎ (measures s f ≡ true)

-- what stands is the present, what was retracted since the oldest earlier present is remembered besides, and each change
-- can be taken back
pub record IsKept (s : PresentView) (us : List Undoing) (r : Remembered) : Type 0 where
  pub stands : StandsWith r s (parked s us)
  pub each : MayUndoEach s us

-- The slots stand for the present. Beside them those measurements are remembered that stand in an earlier present, and no
-- others: a measurement has a slot exactly where it stands in the present or in an earlier one.
pub record Remembers (r : Remembered) (s : State) : Type 0 where
  pub aside : List Fact
  pub stands : StandsWith r s.present aside
  pub exact : (f : Fact) → ((slot : ℕ) × (stock r.engine.slots slot ≡ Some (Reading f))) ↔ ((measures s.present f ≡ true) ⊎ (some_measures s.earlier f ≡ true))
