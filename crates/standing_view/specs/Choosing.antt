-- The measured cells of a set of slots.
use Rattle.std.specs.Prelude.{ℕ, Bool}
use Rattle.circuit_model.specs.declared.model.Cell.{Cell}
use Rattle.circuit_model.specs.Diagnoses.{AtCell}
use Rattle.environment_sets.specs.Sets.{Set}
use Rattle.standing_view.specs.Standing.{Stands}
use Rattle.standing_view.specs.View.{places}

-- the slot of the cell's measurement is in the set
abbrev pub has_cell : Stands → Set ℕ → Cell → Bool
has_cell st E c = places st E (AtCell c)
