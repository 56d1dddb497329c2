-- The search for the best probe, cell after cell.
use Rattle.std.specs.Prelude.{ℕ, ◌+◌, ◌<◌, ◌≤◌, IsTrue, nat_le, if◌then◌else◌, Option, Some, None, List, map}
use Rattle.assumption_slots.specs.Slots.{stock}
use Rattle.circuit_model.specs.declared.model.Cell.{Cell}
use Rattle.circuit_model.specs.declared.model.Fact.{Fact}
use Rattle.circuit_model.specs.Present.{PresentView, circuit_of, is_cell_before}
use Rattle.circuit_model.specs.Probe.{AreDiagnoses, IsScore, IsTotal, IsUnmeasured, Splits}
use Rattle.circuit_model.specs.Settled.{AreExact}
use Rattle.environment_sets.specs.Members.{HasMember}
use Rattle.environment_sets.specs.Sets.{Set}
use Rattle.label_engine.specs.Engine.{Seen, label_at}
use Rattle.standing_view.specs.Positions.{positions, AreInParts}
use Rattle.standing_view.specs.Standing.{Stands}
use Rattle.standing_view.specs.View.{StandsFor}
use Rattle.probe_planner.specs.declared.planner.Probe.{Probe}
use Rattle.probe_planner.specs.declared.weights.Weighed.{Weighed}
use Rattle.probe_planner.specs.Weighing.{IsWeighed}

-- the slots stand for the present, and its diagnoses are weighed
pub record CanBePlanned (seen : Seen) (st : Stands) (s : PresentView) (w : Weighed) : Type 0 where
  pub exact : AreExact (stock seen.slots) (label_at seen) (HasMember seen.nogoods)
  pub parked : List Fact
  pub stands : StandsFor (stock seen.slots) st s parked
  pub diagnoses : List (Set ℕ)
  pub inside : AreInParts st diagnoses
  pub known : AreDiagnoses (circuit_of s) (map (positions st) diagnoses)
  pub weighed : IsWeighed st s diagnoses w

-- of the unmeasured cells before a place the one that splits with the least score, the earlier one at a tie
pub record IsBestBefore (s : PresentView) (here : Cell) (p : Probe) : Type 0 where
  pub before : IsTrue (is_cell_before p.cell here)
  pub unmeasured : IsUnmeasured s p.cell
  pub scored : IsScore (circuit_of s) p.cell p.score
  pub totalled : IsTotal (circuit_of s) p.total
  pub splits : p.score < p.total
  pub least : (d : Cell) (m : ℕ) → IsTrue (is_cell_before d here) → IsUnmeasured s d → IsScore (circuit_of s) d m → p.score ≤ m
  pub first : (d : Cell) → IsUnmeasured s d → IsScore (circuit_of s) d p.score → IsTrue (is_cell_before d p.cell) → ⊥

-- the best one before the place, and none where no unmeasured cell before it splits
abbrev pub IsBestSoFar : PresentView → Cell → Option Probe → Type 0
IsBestSoFar s here None = (d : Cell) → IsTrue (is_cell_before d here) → IsUnmeasured s d → Splits (circuit_of s) d → ⊥
IsBestSoFar s here (Some p) = IsBestBefore s here p

-- the better one of what was found and a further probe, which is better only where its score is less
abbrev pub lesser_of : Option Probe → Probe → Probe
lesser_of None p = p
lesser_of (Some found) p = if nat_le found.score p.score then found else p

-- and only where its cell splits
abbrev pub better_of : Option Probe → Probe → Option Probe
better_of found p = if nat_le p.total p.score then found else Some (lesser_of found p)

-- the cell one cycle later
abbrev pub after_cell : Cell → Cell
after_cell c = record c { cycle = c.cycle + 1 }

-- the first cell of a net
abbrev pub first_cell : ℕ → Cell
first_cell net = record { net = net; cycle = 0 }
