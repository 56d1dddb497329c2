-- The links from each listed fact to the last one before it with the same number, and the heads of these links.
use Rattle.std.specs.Prelude.{◌≡◌, ℕ, ◌+◌, ◌*◌, ◌%◌, ◌<◌, ◌≤◌, List, length, map, take, Option, Some, None, slice_get}
use Rattle.circuit_model.specs.declared.limits.TheConstants.{MOST_CYCLES}
use Rattle.circuit_model.specs.declared.model.Cell.{Cell}
use Rattle.circuit_model.specs.declared.model.Fact.{Fact}
use Rattle.fact_index.specs.declared.links.Link.{Link}
use Rattle.fact_index.specs.declared.links.TheConstants.{CELL_NUMBERS, FACT_NUMBERS}

-- the number of the cell
unfoldable pub number_of_cell : Cell → ℕ
number_of_cell cell = (cell.net * MOST_CYCLES + cell.cycle) % CELL_NUMBERS

-- the number of the fact
unfoldable pub number_of_fact : Fact → ℕ
number_of_fact f = (2 * (f.cell.net * MOST_CYCLES + f.cell.cycle) + f.value % FACT_NUMBERS) % FACT_NUMBERS

-- the number of the fact's cell
abbrev pub cell_number : Fact → ℕ
cell_number f = number_of_cell f.cell

-- where the links by facts lead
abbrev pub back_by_fact : Link → Option ℕ
back_by_fact link = link.by_fact

-- where the links by cells lead
abbrev pub back_by_cell : Link → Option ℕ
back_by_cell link = link.by_cell

-- the facts that are listed
abbrev pub facts_of : List Link → List Fact
facts_of links = map (λ link. link.fact) links

-- the fact at the place has the number
abbrev pub IsNumbered : (Fact → ℕ) → List Link → ℕ → ℕ → Type 0
IsNumbered number links n place = (link : Link) × (slice_get links place ≡ Some link) × (number link.fact ≡ n)

-- the place is the last one before the bound whose fact has the number
pub record IsLastNumbered (number : Fact → ℕ) (links : List Link) (n bound place : ℕ) : Type 0 where
  pub before : place < bound
  pub at : IsNumbered number links n place
  pub last : (k : ℕ) → place < k → k < bound → IsNumbered number links n k → ⊥

-- the answer is the last place before the bound whose fact has the number; there is none exactly where no fact has it
abbrev pub GivesLastNumbered : (Fact → ℕ) → List Link → ℕ → ℕ → Option ℕ → Type 0
GivesLastNumbered number links n bound None = (k : ℕ) → k < bound → IsNumbered number links n k → ⊥
GivesLastNumbered number links n bound (Some place) = IsLastNumbered number links n bound place

-- each link leads back to the last place before it whose fact has the same number
abbrev pub LeadBack : (Fact → ℕ) → (Link → Option ℕ) → List Link → Type 0
LeadBack number back links =
    (place : ℕ) (link : Link) → slice_get links place ≡ Some link → GivesLastNumbered number links (number link.fact) place (back link)

-- the head of each number, of which there are so many, leads to the last place whose fact has it, and the links lead back
pub record AreLinked (number : Fact → ℕ) (back : Link → Option ℕ) (most : ℕ) (links : List Link) (heads : List (Option ℕ)) : Type 0 where
  pub wide : length heads ≡ most
  pub last : (n : ℕ) (head : Option ℕ) → slice_get heads n ≡ Some head → GivesLastNumbered number links n (length links) head
  pub lead_back : LeadBack number back links

-- the links in use, which are the first ones, are linked by facts and by cells
pub record AreIndexed (links : List Link) (count : ℕ) (by_fact by_cell : List (Option ℕ)) : Type 0 where
  pub within : count ≤ length links
  pub facts : AreLinked number_of_fact back_by_fact FACT_NUMBERS (take count links) by_fact
  pub cells : AreLinked cell_number back_by_cell CELL_NUMBERS (take count links) by_cell

-- past the place, if there is one
abbrev pub past : Option ℕ → ℕ
past None = 0
past (Some place) = place + 1
