-- What the words of a line stand for.
use Rattle.std.specs.Prelude.{◌≡◌, ℕ, ◌+◌, nat_le, Bool, true, ◌&&◌, List, [], ◌∷◌, length}
use Rattle.std.specs.List.{list_all}
use Rattle.circuit_model.specs.Names.{is_name}
use Rattle.netlist_text.specs.Cells.{net_part, has_cycle}
use Rattle.netlist_text.specs.Words.{first, rest, is_number}
use Rattle.netlist_text.specs.declared.places.Place.{Place}
use Rattle.netlist_text.specs.declared.places.Place.TheVariants.{Keyword, Name, Number, Cell}

-- what the words of a line stand for, from the first on, and how many names more may follow them
pub record Form : Type 0 where
  pub places : List Place
  pub more : ℕ

-- these places, and no word more
abbrev pub exactly : List Place → Form
exactly places = record { places = places; more = 0 }

-- a line of the form may have so many words
abbrev pub has_count : Form → ℕ → Bool
has_count form count = nat_le (length form.places) count && nat_le count (length form.places + form.more)

-- where the place is one of a name, the word holds it
abbrev pub holds_name : Place → List ℕ → Bool
holds_name Keyword word = true
holds_name Name word = is_name word
holds_name Number word = true
holds_name Cell word = is_name (net_part word)

-- where the place is one of a number, the word holds it
abbrev pub holds_number : Place → List ℕ → Bool
holds_number Keyword word = true
holds_number Name word = true
holds_number Number word = is_number word
holds_number Cell word = has_cycle word

-- each place of a name holds one, and what follows the places are names
abbrev pub have_names : List Place → List (List ℕ) → Bool
have_names [] words = list_all is_name words
have_names (place ∷ places) words = holds_name place (first words) && have_names places (rest words)

-- each place of a number holds one
abbrev pub have_numbers : List Place → List (List ℕ) → Bool
have_numbers [] words = true
have_numbers (place ∷ places) words = holds_number place (first words) && have_numbers places (rest words)

-- each place holds what it should, and what follows the places are names
abbrev pub FitEach : List Place → List (List ℕ) → Type 0
FitEach [] words = list_all is_name words ≡ true
FitEach (place ∷ places) words = (holds_name place (first words) ≡ true) × (holds_number place (first words) ≡ true) × FitEach places (rest words)
