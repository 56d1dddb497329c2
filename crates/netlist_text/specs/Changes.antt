-- The lines of changes other than those of components: their words, what these stand for, and what is asked.
use Rattle.std.specs.Prelude.{ℕ, ◌-◌, List, [], ◌∷◌, codes, Option, Some, None, if◌then◌else◌}
use Rattle.std.specs.Str.{bytes_eq}
use Rattle.circuit_model.specs.declared.limits.TheConstants.{MOST_PINS}
use Rattle.netlist_text.specs.Cells.{net_part, cycle_of}
use Rattle.netlist_text.specs.Places.{Form, exactly}
use Rattle.netlist_text.specs.Words.{rest, word_at, number_of}
use Rattle.netlist_text.specs.declared.changes.ChangeWord.{ChangeWord}
use Rattle.netlist_text.specs.declared.changes.ChangeWord.TheVariants.{Cycles, Net, Cost, Stuck, Acts, Define, Pin, Use, Measure, Retract, Undo}
use Rattle.netlist_text.specs.declared.places.Place.TheVariants.{Keyword, Name, Number, Cell}
use Rattle.netlist_text.specs.declared.requests.Change.{Change}
use Rattle.netlist_text.specs.declared.requests.Change.TheVariants as change

-- the first words of the lines
unfoldable pub change_named : List ℕ → Option ChangeWord
change_named word =
    if bytes_eq word (codes "cycles") then Some Cycles else
    if bytes_eq word (codes "net") then Some Net else
    if bytes_eq word (codes "cost") then Some Cost else
    if bytes_eq word (codes "stuck") then Some Stuck else
    if bytes_eq word (codes "acts") then Some Acts else
    if bytes_eq word (codes "define") then Some Define else
    if bytes_eq word (codes "pin") then Some Pin else
    if bytes_eq word (codes "use") then Some Use else
    if bytes_eq word (codes "measure") then Some Measure else
    if bytes_eq word (codes "retract") then Some Retract else
    if bytes_eq word (codes "undo") then Some Undo else
    None

-- what the words of each line stand for; after the first net of `use` there may be more, one for each pin
abbrev pub form_of_change : ChangeWord → Form
form_of_change Cycles = exactly (Keyword ∷ Number ∷ [])
form_of_change Net = exactly (Keyword ∷ Name ∷ Number ∷ [])
form_of_change Cost = exactly (Keyword ∷ Name ∷ Number ∷ [])
form_of_change Stuck = exactly (Keyword ∷ Name ∷ Number ∷ Number ∷ [])
form_of_change Acts = exactly (Keyword ∷ Name ∷ Name ∷ Number ∷ [])
form_of_change Define = exactly (Keyword ∷ Name ∷ [])
form_of_change Pin = exactly (Keyword ∷ Name ∷ Name ∷ Number ∷ [])
form_of_change Use = record { places = Keyword ∷ Name ∷ Name ∷ Name ∷ []; more = MOST_PINS - 1 }
form_of_change Measure = exactly (Keyword ∷ Cell ∷ Number ∷ [])
form_of_change Retract = exactly (Keyword ∷ Cell ∷ [])
form_of_change Undo = exactly (Keyword ∷ [])

-- what each line asks
abbrev pub change_of : ChangeWord → List (List ℕ) → Change
change_of Cycles words = change.Cycles (number_of (word_at words 1))
change_of Net words = change.Net (word_at words 1) (number_of (word_at words 2))
change_of Cost words = change.Cost (word_at words 1) (number_of (word_at words 2))
change_of Stuck words = change.Stuck (word_at words 1) (number_of (word_at words 2)) (number_of (word_at words 3))
change_of Acts words = change.Acts (word_at words 1) (word_at words 2) (number_of (word_at words 3))
change_of Define words = change.Define (word_at words 1)
change_of Pin words = change.Pin (word_at words 1) (word_at words 2) (number_of (word_at words 3))
change_of Use words = change.UseBlock (word_at words 1) (word_at words 2) (rest (rest (rest words)))
change_of Measure words = change.Measure (net_part (word_at words 1)) (cycle_of (word_at words 1)) (number_of (word_at words 2))
change_of Retract words = change.Retract (net_part (word_at words 1)) (cycle_of (word_at words 1))
change_of Undo words = change.Undo
