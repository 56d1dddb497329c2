-- Lines that lead from one present to another.
use Rattle.std.specs.Prelude.{◌≡◌, ℕ, ◌≤◌, List, [], ◌∷◌, length, Result, Ok, Err}
use Rattle.bench_io.specs.Lines.{lines_of}
use Rattle.bench_io.specs.declared.limits.TheConstants.{LONGEST_LINE}
use Rattle.circuit_model.specs.Present.{PresentView, empty_present, IsLawful}
use Rattle.netlist_text.specs.Found.{IsMade}
use Rattle.netlist_text.specs.Grammar.{reading_of}
use Rattle.netlist_text.specs.Placing.{IsOfPresent}
use Rattle.netlist_text.specs.Show.{text_of}
use Rattle.netlist_text.specs.declared.faults.LineFault.{LineFault}
use Rattle.netlist_text.specs.declared.requests.Request.{Request}
use Rattle.netlist_text.specs.declared.requests.Request.TheVariants as request

-- What was read asks nothing, and the present stays; or it asks a change of a present, which no check refuses, and it is
-- made.
abbrev pub Takes : PresentView → Result Request LineFault → PresentView → Type 0
Takes old (Ok request.Nothing) new = new ≡ old
Takes old (Ok (request.Change change)) new = IsOfPresent change × IsMade old change new
Takes old (Ok (request.Query query)) new = ⊥
Takes old (Err fault) new = ⊥

-- the line is no longer than a line may be, and what it asks leads from the one present to the other
pub record TakesLine (old : PresentView) (line : List ℕ) (new : PresentView) : Type 0 where
  pub short : length line ≤ LONGEST_LINE
  pub takes : Takes old (reading_of line) new

-- the lines, one after another, lead from the one present to the other
abbrev pub LeadTo : PresentView → List (List ℕ) → PresentView → Type 0
LeadTo old [] new = new ≡ old
LeadTo old (line ∷ lines) new = (next : PresentView) × TakesLine old line next × LeadTo next lines new

-- The text of each lawful present, read line by line from the empty present, leads to that present.
abbrev pub ShowAndReadBack : Type 0
ShowAndReadBack = (s : PresentView) → IsLawful s → LeadTo empty_present (lines_of (text_of s)) s
