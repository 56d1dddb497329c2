-- All lines: their words, what these stand for, and what is asked.
use Rattle.std.specs.Prelude.{ℕ, nat_lt, List, ◌∷◌, codes, length, Option, Result, Err, if◌then◌else◌}
use Rattle.std.specs.Option.{option_map, option_or, ok_or}
use Rattle.std.specs.Str.{bytes_eq}
use Rattle.netlist_text.specs.Changes.{change_named, form_of_change, change_of}
use Rattle.netlist_text.specs.Parts.{part_named, places_of_part, kind_of, nets_of}
use Rattle.netlist_text.specs.Places.{Form, exactly}
use Rattle.netlist_text.specs.Queries.{query_named, places_of_query, query_of}
use Rattle.netlist_text.specs.Words.{first, rest, word_at}
use Rattle.netlist_text.specs.declared.commands.Command.{Command}
use Rattle.netlist_text.specs.declared.commands.Command.TheVariants as command
use Rattle.netlist_text.specs.declared.faults.LineFault.{LineFault}
use Rattle.netlist_text.specs.declared.faults.LineFault.TheVariants.{UnknownCommand, WordCount}
use Rattle.netlist_text.specs.declared.places.Place.TheVariants.{Keyword, Name}
use Rattle.netlist_text.specs.declared.requests.Change.TheVariants.{Add, Inside}
use Rattle.netlist_text.specs.declared.requests.Request.{Request}
use Rattle.netlist_text.specs.declared.requests.Request.TheVariants.{Change, Query}

-- the command of a line that begins with this word, other than `inside`
abbrev pub command_named : List ℕ → Option Command
command_named word = option_or (option_map command.Part (part_named word)) (option_or (option_map command.Change (change_named word)) (option_map command.Query (query_named word)))

-- the command of a line that begins with `inside`: its third word begins the line of a component
abbrev pub inside_command : List (List ℕ) → Result Command LineFault
inside_command words = if nat_lt (length words) 3 then Err WordCount else ok_or (option_map command.Inside (part_named (word_at words 2))) UnknownCommand

-- the command of a line with these words
abbrev pub command_of : List (List ℕ) → Result Command LineFault
command_of words = if bytes_eq (first words) (codes "inside") then inside_command words else ok_or (command_named (first words)) UnknownCommand

-- what the words of a line of the command stand for
abbrev pub form_of : Command → Form
form_of (command.Part word) = exactly (places_of_part word)
form_of (command.Inside word) = exactly (Keyword ∷ Name ∷ places_of_part word)
form_of (command.Change word) = form_of_change word
form_of (command.Query word) = exactly (places_of_query word)

-- what a line of the command asks
abbrev pub request_of : Command → List (List ℕ) → Request
request_of (command.Part word) words = Change (Add (word_at words 1) (kind_of word words) (nets_of word words))
request_of (command.Inside word) words = let inner = rest (rest words) in Change (Inside (word_at words 1) (word_at inner 1) (kind_of word inner) (nets_of word inner))
request_of (command.Change word) words = Change (change_of word words)
request_of (command.Query word) words = Query (query_of word words)
