-- The assumptions of a present, all together.
use Rattle.std.specs.Prelude.{ℕ, is_some, List, ◌++◌, length, map}
use Rattle.std.specs.List.{range_with_len}
use Rattle.circuit_model.specs.declared.model.Cell.{Cell}
use Rattle.environment_sets.specs.Sets.{Set}
use Rattle.circuit_model.specs.Stock.{Stock}
use Rattle.circuit_model.specs.Diagnoses.{Place, AtPart, AtCell, stock_of}
use Rattle.circuit_model.specs.Present.{PresentView, circuit_of}

-- the components by their positions, and the standing measurements by their cells
abbrev pub stock : PresentView → Stock Place
stock s = stock_of (circuit_of s)

-- all components and all measurements
abbrev pub everything : PresentView → Set Place
everything s = λ place. is_some (stock s place)

-- so many components by position, and then these cells
abbrev pub places_in_order : ℕ → List Cell → List Place
places_in_order parts cells = map AtPart (range_with_len 0 parts) ++ map AtCell cells

-- the names of the present's assumptions: components by position, then measured cells
abbrev pub order_of_present : PresentView → List Place
order_of_present s = places_in_order (length s.parts) (map (λ f. f.cell) s.readings)
