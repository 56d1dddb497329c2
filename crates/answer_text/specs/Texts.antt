-- How cells, facts and environments are printed.
use Rattle.std.specs.Prelude.{ℕ, suc, if◌then◌else◌, List, [], ◌∷◌, ◌++◌, codes, decimal, map, Option, Some, None}
use Rattle.std.specs.List.{filter, join_with_byte}
use Rattle.environment_sets.specs.Sets.{Set}
use Rattle.circuit_model.specs.declared.model.Cell.{Cell}
use Rattle.circuit_model.specs.declared.model.Fact.{Fact}
use Rattle.circuit_model.specs.declared.present.Component.{Component}
use Rattle.circuit_model.specs.Present.{PresentView}
use Rattle.circuit_model.specs.Closure.{fact}
use Rattle.circuit_model.specs.Diagnoses.{Place, AtPart, AtCell}
use Rattle.circuit_model.specs.Printed.{Labelled}
use Rattle.netlist_text.specs.Show.{cell_text}
use Rattle.probe_planner.specs.declared.planner.Probe.{Probe}

-- the cell, `=` and the value
abbrev pub fact_text : PresentView → Fact → List ℕ
fact_text s f = cell_text s f.cell ++ codes "=" ++ decimal f.value

-- the names of the components at these positions, in order, from this position on
abbrev pub component_names : Set ℕ → ℕ → List Component → List (List ℕ)
component_names C position [] = []
component_names C position (p ∷ parts) = if C position then p.name ∷ component_names C (suc position) parts else component_names C (suc position) parts

-- the positions of the components in the set
abbrev pub parts_in : Set Place → Set ℕ
parts_in E = λ position. E (AtPart position)

-- the measured cells in the set, in order
abbrev pub cells_in : PresentView → Set Place → List Fact → List (List ℕ)
cells_in s E readings = map (λ f. cell_text s f.cell) (filter (λ f. E (AtCell f.cell)) readings)

-- `{`, the components' names, `;`, the measured cells, `}`
abbrev pub environment_text : PresentView → Set Place → List ℕ
environment_text s E = codes "{" ++ join_with_byte 44 (component_names (parts_in E) 0 s.parts) ++ codes ";" ++ join_with_byte 44 (cells_in s E s.readings) ++ codes "}"

-- `{`, the components' names, `}`
abbrev pub components_text : PresentView → Set ℕ → List ℕ
components_text s C = codes "{" ++ join_with_byte 44 (component_names C 0 s.parts) ++ codes "}"

-- a line for each set of components
abbrev pub components_lines : PresentView → List (Set ℕ) → List ℕ
components_lines s [] = []
components_lines s (C ∷ Cs) = (components_text s C ++ codes "\n") ++ components_lines s Cs

-- a fact, a space and an environment
abbrev pub label_line : PresentView → Fact → Set Place → List ℕ
label_line s f E = fact_text s f ++ codes " " ++ environment_text s E ++ codes "\n"

-- a line for each word and environment
abbrev pub label_lines : PresentView → Cell → List Labelled → List ℕ
label_lines s c [] = []
label_lines s c (l ∷ ls) = label_line s (fact c l.word) l.environment ++ label_lines s c ls

-- `probe`, a cell, its score and the total
abbrev pub probe_line : PresentView → Cell → (score total : ℕ) → List ℕ
probe_line s c score total = codes "probe " ++ cell_text s c ++ codes " " ++ decimal score ++ codes " " ++ decimal total ++ codes "\n"

-- that there is no measurement to make
abbrev pub no_probe_line : List ℕ
no_probe_line = codes "probe none\n"

-- the line of the best next measurement, or that there is none
abbrev pub best_line : PresentView → Option Probe → List ℕ
best_line s (Some p) = probe_line s p.cell p.score p.total
best_line s None = no_probe_line
