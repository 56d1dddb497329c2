-- The lines of questions: their words, what these stand for, and what is asked.
use Rattle.std.specs.Prelude.{ℕ, List, [], ◌∷◌, codes, Option, Some, None, if◌then◌else◌}
use Rattle.std.specs.Str.{bytes_eq}
use Rattle.netlist_text.specs.Cells.{net_part, cycle_of}
use Rattle.netlist_text.specs.Words.{word_at, number_of}
use Rattle.netlist_text.specs.declared.queries.QueryWord.{QueryWord}
use Rattle.netlist_text.specs.declared.queries.QueryWord.TheVariants.{Label, Conflicts, Diagnose, Probe, First, Modes, Explain, Why, Open, Show}
use Rattle.netlist_text.specs.declared.places.Place.{Place}
use Rattle.netlist_text.specs.declared.places.Place.TheVariants.{Keyword, Name, Number, Cell}
use Rattle.netlist_text.specs.declared.requests.Query.{Query}
use Rattle.netlist_text.specs.declared.requests.Query.TheVariants as query

-- the first words of the lines
unfoldable pub query_named : List ℕ → Option QueryWord
query_named word =
    if bytes_eq word (codes "label") then Some Label else
    if bytes_eq word (codes "conflicts") then Some Conflicts else
    if bytes_eq word (codes "diagnose") then Some Diagnose else
    if bytes_eq word (codes "probe") then Some Probe else
    if bytes_eq word (codes "first") then Some First else
    if bytes_eq word (codes "modes") then Some Modes else
    if bytes_eq word (codes "explain") then Some Explain else
    if bytes_eq word (codes "why") then Some Why else
    if bytes_eq word (codes "open") then Some Open else
    if bytes_eq word (codes "show") then Some Show else
    None

-- what the words of each line stand for
abbrev pub places_of_query : QueryWord → List Place
places_of_query Label = Keyword ∷ Cell ∷ []
places_of_query Conflicts = Keyword ∷ []
places_of_query Diagnose = Keyword ∷ []
places_of_query Probe = Keyword ∷ []
places_of_query First = Keyword ∷ Number ∷ []
places_of_query Modes = Keyword ∷ Number ∷ []
places_of_query Explain = Keyword ∷ Cell ∷ Number ∷ []
places_of_query Why = Keyword ∷ Number ∷ []
places_of_query Open = Keyword ∷ Name ∷ []
places_of_query Show = Keyword ∷ []

-- what each line asks
abbrev pub query_of : QueryWord → List (List ℕ) → Query
query_of Label words = query.Label (net_part (word_at words 1)) (cycle_of (word_at words 1))
query_of Conflicts words = query.Conflicts
query_of Diagnose words = query.Diagnose
query_of Probe words = query.Probe
query_of First words = query.First (number_of (word_at words 1))
query_of Modes words = query.Modes (number_of (word_at words 1))
query_of Explain words = query.Explain (net_part (word_at words 1)) (cycle_of (word_at words 1)) (number_of (word_at words 2))
query_of Why words = query.Why (number_of (word_at words 1))
query_of Open words = query.OpenBlock (word_at words 1)
query_of Show words = query.Show
