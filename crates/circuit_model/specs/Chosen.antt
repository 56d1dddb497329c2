-- An environment of a present, as the lists of its positions and cells.
use Rattle.std.specs.Prelude.{ℕ, ◌==◌, List}
use Rattle.std.specs.List.{list_any}
use Rattle.environment_sets.specs.Sets.{Set}
use Rattle.circuit_model.specs.declared.chosen.Chosen.{Chosen}
use Rattle.circuit_model.specs.declared.model.Cell.{Cell}
use Rattle.circuit_model.specs.Diagnoses.{Place, AtPart, AtCell}
use Rattle.circuit_model.specs.Present.{is_cell}

-- the places of these components and of these measured cells
abbrev pub places_at : List ℕ → List Cell → Set Place
places_at positions cells (AtPart i) = list_any (λ j. j == i) positions
places_at positions cells (AtCell c) = list_any (λ d. is_cell d c) cells

-- the environment that the lists stand for
abbrev pub chosen_places : Chosen → Set Place
chosen_places chosen = places_at chosen.parts chosen.readings
