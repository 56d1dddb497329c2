-- What takes a change of a present back.
use Rattle.std.specs.Prelude.{◌≡◌, ℕ, ◌-◌, ◌<◌, ◌≤◌, nat_lt, if◌then◌else◌, List, length, unwrap_or, None, IsSome}
use Rattle.std.specs.Option.{option_map_or}
use Rattle.circuit_model.specs.declared.limits.TheConstants.{MOST_CYCLES, MOST_READINGS, LEAST_COST, MOST_COST, USUAL_COST}
use Rattle.circuit_model.specs.declared.model.Cell.{Cell}
use Rattle.circuit_model.specs.declared.model.Fact.{Fact}
use Rattle.circuit_model.specs.Closure.{fact}
use Rattle.circuit_model.specs.Present.{PresentView, block_at, reading_in, with_cycles, without_last_net, without_last_part, with_cost, without_last_mode, without_last_block, without_last_pin, without_last_inner, with_standing, without_standing, IsFactOf, IsUnusedNet, IsUnusedPart, IsUnusedBlock, IsUnusedPin}
use Rattle.netlist_text.specs.Lookups.{cell_of, part_of, component_named, block_place}
use Rattle.netlist_text.specs.declared.requests.Change.{Change}
use Rattle.netlist_text.specs.declared.requests.Change.TheVariants.{Cycles, Net, Add, Measure, Retract, Undo, Cost, Stuck, Acts, Define, Pin, Inside, UseBlock}
use Rattle.present_history.specs.declared.undoing.Undoing.{Undoing}
use Rattle.present_history.specs.declared.undoing.Undoing.TheVariants as back

-- what the present is once the change is taken back
abbrev pub undone : Undoing → PresentView → PresentView
undone (back.Cycles before) s = with_cycles before s
undone back.Net s = without_last_net s
undone back.Part s = without_last_part s
undone (back.Cost part before) s = with_cost part before s
undone back.Mode s = without_last_mode s
undone back.Block s = without_last_block s
undone (back.Pin block) s = without_last_pin block s
undone (back.Inner block) s = without_last_inner block s
undone (back.Measured cell) s = without_standing cell s
undone (back.Retracted f) s = with_standing f s

-- no net is declared, and a present may have so many cycles
pub record MayHaveCycles (s : PresentView) (count : ℕ) : Type 0 where
  pub empty : length s.nets ≡ 0
  pub low : 1 ≤ count
  pub high : count ≤ MOST_CYCLES

-- there is a last net, and nothing is at it
pub record MayLoseNet (s : PresentView) : Type 0 where
  pub some : 0 < length s.nets
  pub unused : IsUnusedNet s (length s.nets - 1)

-- there is a last component, and it has no mode
pub record MayLosePart (s : PresentView) : Type 0 where
  pub some : 0 < length s.parts
  pub unused : IsUnusedPart s (length s.parts - 1)

-- the component is there, and may cost so much
pub record MayHaveCost (s : PresentView) (part cost : ℕ) : Type 0 where
  pub there : part < length s.parts
  pub low : LEAST_COST ≤ cost
  pub high : cost ≤ MOST_COST

-- there is a last definition, and no component is a block of it
pub record MayLoseBlock (s : PresentView) : Type 0 where
  pub some : 0 < length s.blocks
  pub unused : IsUnusedBlock s (length s.blocks - 1)

-- the definition is there and not in use, and no inner component is at its last pin
pub record MayLosePin (s : PresentView) (block : ℕ) : Type 0 where
  pub there : block < length s.blocks
  pub some : 0 < length (block_at s block).pins
  pub unused : IsUnusedBlock s block
  pub unused_pin : IsUnusedPin s block (length (block_at s block).pins - 1)

-- the definition is there and not in use, and has an inner component
pub record MayLoseInner (s : PresentView) (block : ℕ) : Type 0 where
  pub there : block < length s.blocks
  pub some : 0 < length (block_at s block).inners
  pub unused : IsUnusedBlock s block

-- it is a fact of the present, its cell is not measured, and there is room for it
pub record MayStand (s : PresentView) (f : Fact) : Type 0 where
  pub fact : IsFactOf s f
  pub free : reading_in s.readings f.cell ≡ None
  pub room : length s.readings < MOST_READINGS

-- the change can be taken back from the present
abbrev pub MayUndo : Undoing → PresentView → Type 0
MayUndo (back.Cycles before) s = MayHaveCycles s before
MayUndo back.Net s = MayLoseNet s
MayUndo back.Part s = MayLosePart s
MayUndo (back.Cost part before) s = MayHaveCost s part before
MayUndo back.Mode s = 0 < length s.modes
MayUndo back.Block s = MayLoseBlock s
MayUndo (back.Pin block) s = MayLosePin s block
MayUndo (back.Inner block) s = MayLoseInner s block
MayUndo (back.Measured cell) s = IsSome (reading_in s.readings cell)
MayUndo (back.Retracted f) s = MayStand s f

-- the cost of the component with the name, where there is one
abbrev pub cost_of : PresentView → List ℕ → ℕ
cost_of s name = option_map_or (λ c. c.cost) (component_named s name) USUAL_COST

-- the cycle, where the present has it
abbrev pub cycle_in : PresentView → ℕ → ℕ
cycle_in s cycle = if nat_lt cycle s.cycles then cycle else 0

-- the cell of the net with the name at the cycle, where both are there
abbrev pub cell_in : PresentView → List ℕ → ℕ → Cell
cell_in s net cycle = cell_of s net (cycle_in s cycle)

-- the measurement of the cell, where it is measured
abbrev pub reading_there : PresentView → Cell → Fact
reading_there s cell = fact cell (unwrap_or (reading_in s.readings cell) 0)

-- What takes the change back, from the present before it. `undo` is no change of a present alone: the cycles stay.
abbrev pub undoing_of : PresentView → Change → Undoing
undoing_of s (Cycles count) = back.Cycles s.cycles
undoing_of s (Net name width) = back.Net
undoing_of s (Add name kind nets) = back.Part
undoing_of s (Cost name cost) = back.Cost (part_of s name) (cost_of s name)
undoing_of s (Stuck name value cost) = back.Mode
undoing_of s (Acts name kind cost) = back.Mode
undoing_of s (Define block) = back.Block
undoing_of s (Pin block name width) = back.Pin (block_place s block)
undoing_of s (Inside block name kind nets) = back.Inner (block_place s block)
undoing_of s (UseBlock block name nets) = back.Part
undoing_of s (Measure net cycle value) = back.Measured (cell_in s net cycle)
undoing_of s (Retract net cycle) = back.Retracted (reading_there s (cell_in s net cycle))
undoing_of s Undo = back.Cycles s.cycles

-- it may be taken back from the later present, which then is the earlier one
pub record TakesBack (u : Undoing) (later earlier : PresentView) : Type 0 where
  pub may : MayUndo u later
  pub is : undone u later ≡ earlier
