-- Rising lists of positions and of cells.
use Rattle.std.specs.Prelude.{ℕ, ◌<◌, IsTrue, List}
use Rattle.environment_sets.specs.Lists.{IsRising}
use Rattle.circuit_model.specs.declared.model.Cell.{Cell}
use Rattle.circuit_model.specs.Present.{is_cell_before}

-- each position is above the ones before
abbrev pub ArePositions : List ℕ → Type 0
ArePositions positions = IsRising (λ i j. i < j) positions

-- each cell comes after the ones before
abbrev pub AreCells : List Cell → Type 0
AreCells cells = IsRising (λ c d. IsTrue (is_cell_before c d)) cells
