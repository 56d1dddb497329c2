-- The checks of changes on a present, in their order.
use Rattle.std.specs.Prelude.{ℕ, ◌+◌, ◌*◌, ◌^◌, ◌==◌, nat_lt, nat_le, Bool, ◌&&◌, not, is_some, if◌then◌else◌, List, [], ◌∷◌, map, length, Option, Some, None}
use Rattle.std.specs.List.{list_all}
use Rattle.std.specs.Str.{bytes_eq}
use Rattle.word_domain.specs.Words.{is_width}
use Rattle.circuit_model.specs.declared.model.Kind.{Kind}
use Rattle.circuit_model.specs.Kinds.{are_widths, fits_value}
use Rattle.circuit_model.specs.Blocks.{BlockView, pin_named}
use Rattle.circuit_model.specs.Present.{PresentView, net_named, part_named, named_in, block_named, width_of, reading_in}
use Rattle.circuit_model.specs.declared.limits.TheConstants.{MOST_CYCLES, MOST_NETS, MOST_CELLS, MOST_PARTS, MOST_READINGS, LEAST_COST, MOST_COST, MOST_MODES, MOST_BLOCKS, MOST_PINS, MOST_INNERS}
use Rattle.netlist_text.specs.Lookups.{net_place, net_places, widths_at, cell_of, is_component_with, is_block, last_width, may_act_as, block_of, is_in_use, has_name_inside, pins_of, pin_widths_at}
use Rattle.netlist_text.specs.declared.misfits.Misfit.{Misfit}
use Rattle.netlist_text.specs.declared.misfits.Misfit.TheVariants.{NameTaken, UnknownNet, BadWidth, WidthsDisagree, BadCycle, ValueDoesNotFit, CyclesNotFirst, UnknownComponent, BadCost, BadMode, NetsFull, ComponentsFull, CellsFull, MeasurementsFull, ModesFull, BlocksFull, BlockFull, AlreadyMeasured, NotMeasured, UnknownBlock, BlockInUse, WrongPinCount}
use Rattle.netlist_text.specs.declared.requests.Change.{Change}
use Rattle.netlist_text.specs.declared.requests.Change.TheVariants.{Cycles, Net, Add, Measure, Retract, Undo, Cost, Stuck, Acts, Define, Pin, Inside, UseBlock}

-- a misfit, and whether it applies
pub record Check : Type 0 where
  pub misfit : Misfit
  pub applies : Bool

-- the misfit applies where the test is true
abbrev pub check : Misfit → Bool → Check
check misfit applies = record { misfit = misfit; applies = applies }

-- the first of the checks that applies
abbrev pub first_misfit : List Check → Option Misfit
first_misfit [] = None
first_misfit (c ∷ checks) = if c.applies then Some c.misfit else first_misfit checks

-- a present may have so many cycles
abbrev pub is_count_of_cycles : ℕ → Bool
is_count_of_cycles count = nat_le 1 count && nat_le count MOST_CYCLES

-- a component and a mode may cost so much
abbrev pub is_cost : ℕ → Bool
is_cost cost = nat_le LEAST_COST cost && nat_le cost MOST_COST

-- so many cycles
abbrev pub checks_of_cycles : PresentView → ℕ → List Check
checks_of_cycles s count =
    check BadCycle (not (is_count_of_cycles count))
    ∷ check CyclesNotFirst (nat_lt 0 (length s.nets))
    ∷ []

-- a net of this name and width
abbrev pub checks_of_net : PresentView → List ℕ → ℕ → List Check
checks_of_net s name width =
    check NameTaken (is_some (named_in s name))
    ∷ check BadWidth (not (is_width width))
    ∷ check NetsFull (nat_le MOST_NETS (length s.nets))
    ∷ check CellsFull (nat_lt MOST_CELLS ((length s.nets + 1) * s.cycles))
    ∷ []

-- a component of this name and kind at the nets with these names
abbrev pub checks_of_part : PresentView → List ℕ → Kind → List (List ℕ) → List Check
checks_of_part s name kind nets =
    check NameTaken (is_some (named_in s name))
    ∷ check UnknownNet (not (list_all (λ net. is_some (net_named s net)) nets))
    ∷ check WidthsDisagree (not (are_widths kind (widths_at s (net_places s nets))))
    ∷ check ValueDoesNotFit (not (fits_value kind (widths_at s (net_places s nets))))
    ∷ check ComponentsFull (nat_le MOST_PARTS (length s.parts))
    ∷ []

-- a cost of the component with the name
abbrev pub checks_of_cost : PresentView → List ℕ → ℕ → List Check
checks_of_cost s name cost =
    check UnknownComponent (not (is_some (part_named s name)))
    ∷ check BadCost (not (is_cost cost))
    ∷ []

-- that the component with the name may be stuck at the value, at this cost
abbrev pub checks_of_stuck : PresentView → List ℕ → ℕ → ℕ → List Check
checks_of_stuck s name value cost =
    check UnknownComponent (not (is_some (part_named s name)))
    ∷ check BadMode (is_component_with is_block s name)
    ∷ check ValueDoesNotFit (not (is_component_with (λ c. nat_lt value (2 ^ last_width s c)) s name))
    ∷ check BadCost (not (is_cost cost))
    ∷ check ModesFull (nat_le MOST_MODES (length s.modes))
    ∷ []

-- that the component with the name may act as the kind with this one, at this cost
abbrev pub checks_of_acts : PresentView → List ℕ → List ℕ → ℕ → List Check
checks_of_acts s name kind cost =
    check UnknownComponent (not (is_some (part_named s name)))
    ∷ check BadMode (not (is_component_with (λ c. may_act_as c.kind kind) s name))
    ∷ check BadCost (not (is_cost cost))
    ∷ check ModesFull (nat_le MOST_MODES (length s.modes))
    ∷ []

-- a definition of this name
abbrev pub checks_of_define : PresentView → List ℕ → List Check
checks_of_define s name =
    check NameTaken (is_some (block_named s name))
    ∷ check BlocksFull (nat_le MOST_BLOCKS (length s.blocks))
    ∷ []

-- a pin of this name and width in the definition
abbrev pub checks_of_pin : PresentView → List ℕ → List ℕ → ℕ → List Check
checks_of_pin s block name width =
    check UnknownBlock (not (is_some (block_named s block)))
    ∷ check NameTaken (has_name_inside (block_of s block) name)
    ∷ check BadWidth (not (is_width width))
    ∷ check BlockInUse (is_in_use s block)
    ∷ check BlockFull (nat_le MOST_PINS (length (block_of s block).pins))
    ∷ []

-- an inner component of this name and kind at the pins with these names, in the definition
abbrev pub checks_of_inside : PresentView → List ℕ → List ℕ → Kind → List (List ℕ) → List Check
checks_of_inside s block name kind pins =
    check UnknownBlock (not (is_some (block_named s block)))
    ∷ check NameTaken (has_name_inside (block_of s block) name)
    ∷ check UnknownNet (not (list_all (λ pin. is_some (pin_named (block_of s block) pin)) pins))
    ∷ check WidthsDisagree (not (are_widths kind (pin_widths_at (block_of s block) (pins_of (block_of s block) pins))))
    ∷ check ValueDoesNotFit (not (fits_value kind (pin_widths_at (block_of s block) (pins_of (block_of s block) pins))))
    ∷ check BlockInUse (is_in_use s block)
    ∷ check BlockFull (nat_le MOST_INNERS (length (block_of s block).inners))
    ∷ []

-- the definition has an inner component, and so many pins
abbrev pub has_pins : BlockView → ℕ → Bool
has_pins b count = nat_lt 0 (length b.inners) && (count == length b.pins)

-- a block of this name, of the definition, at the nets with these names
abbrev pub checks_of_use : PresentView → List ℕ → List ℕ → List (List ℕ) → List Check
checks_of_use s block name nets =
    check UnknownBlock (not (is_some (block_named s block)))
    ∷ check NameTaken (is_some (named_in s name))
    ∷ check WrongPinCount (not (has_pins (block_of s block) (length nets)))
    ∷ check UnknownNet (not (list_all (λ net. is_some (net_named s net)) nets))
    ∷ check WidthsDisagree (not (bytes_eq (widths_at s (net_places s nets)) (map (λ p. p.width) (block_of s block).pins)))
    ∷ check ComponentsFull (nat_le MOST_PARTS (length s.parts))
    ∷ []

-- the cell of the net with the name at the cycle
abbrev pub checks_of_cell : PresentView → List ℕ → ℕ → List Check
checks_of_cell s net cycle =
    check UnknownNet (not (is_some (net_named s net)))
    ∷ check BadCycle (not (nat_lt cycle s.cycles))
    ∷ []

-- a measurement of the value at the cell of the net with the name at the cycle
abbrev pub checks_of_reading : PresentView → List ℕ → ℕ → ℕ → List Check
checks_of_reading s net cycle value =
    check UnknownNet (not (is_some (net_named s net)))
    ∷ check BadCycle (not (nat_lt cycle s.cycles))
    ∷ check ValueDoesNotFit (not (nat_lt value (2 ^ width_of s (net_place s net))))
    ∷ check MeasurementsFull (nat_le MOST_READINGS (length s.readings))
    ∷ check AlreadyMeasured (is_some (reading_in s.readings (cell_of s net cycle)))
    ∷ []

-- that the measurement at the cell no longer stands
abbrev pub checks_of_retract : PresentView → List ℕ → ℕ → List Check
checks_of_retract s net cycle =
    check UnknownNet (not (is_some (net_named s net)))
    ∷ check BadCycle (not (nat_lt cycle s.cycles))
    ∷ check NotMeasured (not (is_some (reading_in s.readings (cell_of s net cycle))))
    ∷ []

-- The checks of a change on a present before it asks for memory, in order. That of `undo` is not on a present.
abbrev pub checks_of_change : PresentView → Change → List Check
checks_of_change s (Cycles count) = checks_of_cycles s count
checks_of_change s (Net name width) = checks_of_net s name width
checks_of_change s (Add name kind nets) = checks_of_part s name kind nets
checks_of_change s (Cost name cost) = checks_of_cost s name cost
checks_of_change s (Stuck name value cost) = checks_of_stuck s name value cost
checks_of_change s (Acts name kind cost) = checks_of_acts s name kind cost
checks_of_change s (Define block) = checks_of_define s block
checks_of_change s (Pin block name width) = checks_of_pin s block name width
checks_of_change s (Inside block name kind nets) = checks_of_inside s block name kind nets
checks_of_change s (UseBlock block name nets) = checks_of_use s block name nets
checks_of_change s (Measure net cycle value) = checks_of_reading s net cycle value
checks_of_change s (Retract net cycle) = checks_of_retract s net cycle
checks_of_change s Undo = []
