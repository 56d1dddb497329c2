-- What a change makes of a present.
use Rattle.std.specs.Prelude.{◌≡◌, ◌⊎◌, ℕ, Bool, true, false, unwrap_or, List, [], Some, None}
use Rattle.circuit_model.specs.declared.model.Kind.{Kind}
use Rattle.circuit_model.specs.declared.model.Kind.TheVariants as kind
use Rattle.circuit_model.specs.declared.model.Mode.TheVariants as mode
use Rattle.circuit_model.specs.declared.limits.TheConstants.{USUAL_COST}
use Rattle.circuit_model.specs.declared.blocks.Inner.{Inner}
use Rattle.circuit_model.specs.declared.present.Component.{Component}
use Rattle.circuit_model.specs.declared.present.DeclaredMode.{DeclaredMode}
use Rattle.circuit_model.specs.Closure.{fact}
use Rattle.circuit_model.specs.Kinds.{instances}
use Rattle.circuit_model.specs.Opening.{block_component}
use Rattle.circuit_model.specs.Present.{PresentView, with_cycles, with_net, with_part, with_cost, with_mode, with_block, with_pin, with_inner, with_standing, without_standing}
use Rattle.netlist_text.specs.Checks.{checks_of_change, first_misfit}
use Rattle.netlist_text.specs.Lookups.{net_places, widths_at, cell_of, part_of, acting_kind_named, block_place, block_of, pins_of}
use Rattle.netlist_text.specs.declared.misfits.Misfit.{Misfit}
use Rattle.netlist_text.specs.declared.misfits.Misfit.TheVariants as misfit
use Rattle.netlist_text.specs.declared.requests.Change.{Change}
use Rattle.netlist_text.specs.declared.requests.Change.TheVariants.{Cycles, Net, Add, Measure, Retract, Undo, Cost, Stuck, Acts, Define, Pin, Inside, UseBlock}

-- the component of this name and kind at the nets at these places
abbrev pub component_at : PresentView → List ℕ → Kind → List ℕ → Component
component_at s name kind places = record { name = name; kind = kind; nets = places; cost = USUAL_COST; pins = []; part = instances kind places (widths_at s places) s.cycles }

-- the component with the name may be stuck at the value, at this cost
abbrev pub stuck_mode : List ℕ → ℕ → ℕ → DeclaredMode
stuck_mode name value cost = record { name = name; mode = mode.Stuck value; cost = cost }

-- it may act as the kind with this name, at this cost
abbrev pub acting_mode : List ℕ → List ℕ → ℕ → DeclaredMode
acting_mode name acting cost = record { name = name; mode = mode.Acts (unwrap_or (acting_kind_named acting) kind.Buf); cost = cost }

-- an inner component of this name and kind at the pins at these places
abbrev pub inner_at : List ℕ → Kind → List ℕ → Inner
inner_at name kind places = record { name = name; kind = kind; pins = places }

-- The present after a change; `undo` is no change of a present alone.
abbrev pub changed : PresentView → Change → PresentView
changed s (Cycles count) = with_cycles count s
changed s (Net name width) = with_net (record { name = name; width = width }) s
changed s (Add name kind nets) = with_part (component_at s name kind (net_places s nets)) s
changed s (Cost name cost) = with_cost (part_of s name) cost s
changed s (Stuck name value cost) = with_mode (stuck_mode name value cost) s
changed s (Acts name kind cost) = with_mode (acting_mode name kind cost) s
changed s (Define block) = with_block block s
changed s (Pin block name width) = with_pin (block_place s block) (record { name = name; width = width }) s
changed s (Inside block name kind nets) = with_inner (block_place s block) (inner_at name kind (pins_of (block_of s block) nets)) s
changed s (UseBlock block name nets) = with_part (block_component s (block_place s block) name (net_places s nets)) s
changed s (Measure net cycle value) = with_standing (fact (cell_of s net cycle) value) s
changed s (Retract net cycle) = without_standing (cell_of s net cycle) s
changed s Undo = s

-- the change may find no memory
abbrev pub takes_memory : Change → Bool
takes_memory (Cycles count) = false
takes_memory (Net name width) = true
takes_memory (Add name kind nets) = true
takes_memory (Cost name cost) = false
takes_memory (Stuck name value cost) = true
takes_memory (Acts name kind cost) = true
takes_memory (Define block) = true
takes_memory (Pin block name width) = true
takes_memory (Inside block name kind nets) = true
takes_memory (UseBlock block name nets) = true
takes_memory (Measure net cycle value) = false
takes_memory (Retract net cycle) = false
takes_memory Undo = false

-- no check applies, and no memory was found for a change that takes some
pub record FindsNoMemory (s : PresentView) (change : Change) (m : Misfit) : Type 0 where
  pub misfit_is : m ≡ misfit.OutOfMemory
  pub free : first_misfit (checks_of_change s change) ≡ None
  pub takes : takes_memory change ≡ true

-- The first check that applies refuses the change with this; or none does, and no memory was found.
abbrev pub IsRefusedBy : PresentView → Change → Misfit → Type 0
IsRefusedBy s change m = (first_misfit (checks_of_change s change) ≡ Some m) ⊎ FindsNoMemory s change m

-- the change is one of a present
abbrev pub IsOfPresent : Change → Type 0
IsOfPresent (Cycles count) = Unit {0}
IsOfPresent (Net name width) = Unit {0}
IsOfPresent (Add name kind nets) = Unit {0}
IsOfPresent (Cost name cost) = Unit {0}
IsOfPresent (Stuck name value cost) = Unit {0}
IsOfPresent (Acts name kind cost) = Unit {0}
IsOfPresent (Define block) = Unit {0}
IsOfPresent (Pin block name width) = Unit {0}
IsOfPresent (Inside block name kind nets) = Unit {0}
IsOfPresent (UseBlock block name nets) = Unit {0}
IsOfPresent (Measure net cycle value) = Unit {0}
IsOfPresent (Retract net cycle) = Unit {0}
IsOfPresent Undo = ⊥

-- the change adds a component
abbrev pub adds_part : Change → Bool
adds_part (Cycles count) = false
adds_part (Net name width) = false
adds_part (Add name kind nets) = true
adds_part (Cost name cost) = false
adds_part (Stuck name value cost) = false
adds_part (Acts name kind cost) = false
adds_part (Define block) = false
adds_part (Pin block name width) = false
adds_part (Inside block name kind nets) = false
adds_part (UseBlock block name nets) = true
adds_part (Measure net cycle value) = false
adds_part (Retract net cycle) = false
adds_part Undo = false
