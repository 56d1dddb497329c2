-- The words of facts at cells.
use Rattle.std.specs.Prelude.{ℕ, if◌then◌else◌, List, [], ◌∷◌, Option, Some, None}
use Rattle.circuit_model.specs.declared.model.Cell.{Cell}
use Rattle.circuit_model.specs.Present.{is_cell}
use Rattle.proof_check.specs.Closing.{Timed}

-- the word of the first fact at the cell
abbrev pub word_in : List Timed → Cell → Option ℕ
word_in [] c = None
word_in (t ∷ facts) c = if is_cell t.fact.cell c then Some t.fact.value else word_in facts c
