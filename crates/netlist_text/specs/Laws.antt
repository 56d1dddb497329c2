-- Laws of the grammar.
use Rattle.std.specs.Prelude.{◌≡◌, ◌⊎◌, ℕ, ◌<◌, false, List, length, Result, Ok, Err}
use Rattle.std.specs.List.{list_all}
use Rattle.netlist_text.specs.Commands.{command_of, form_of}
use Rattle.netlist_text.specs.Faults.{number_of}
use Rattle.netlist_text.specs.Grammar.{reading_of}
use Rattle.netlist_text.specs.Places.{has_count, have_names, have_numbers}
use Rattle.netlist_text.specs.Words.{words_of, are_silent, is_printable}
use Rattle.netlist_text.specs.declared.commands.Command.{Command}
use Rattle.netlist_text.specs.declared.faults.LineFault.{LineFault}
use Rattle.netlist_text.specs.declared.faults.LineFault.TheVariants.{NotPrintable, UnknownCommand, WordCount, BadName, BadNumber}
use Rattle.netlist_text.specs.declared.requests.Request.{Request}

-- The words are those of some line that is there, of which this holds.
pub record IsOfLine (words : List (List ℕ)) (P : Command → Type 0) : Type 0 where
  pub command : Command
  pub is : command_of words ≡ Ok command
  pub holds : P command

-- the words have the fault, whatever other faults they have
abbrev pub HaveFault : LineFault → List (List ℕ) → Type 0
HaveFault NotPrintable words = ⊥
HaveFault UnknownCommand words = command_of words ≡ Err UnknownCommand
HaveFault WordCount words = (command_of words ≡ Err WordCount) ⊎ IsOfLine words (λ command. has_count (form_of command) (length words) ≡ false)
HaveFault BadName words = IsOfLine words (λ command. have_names (form_of command).places words ≡ false)
HaveFault BadNumber words = IsOfLine words (λ command. have_numbers (form_of command).places words ≡ false)

-- The line has the fault, whatever other faults it has: some byte is none that a line may have; or it asks for something,
-- and its words have the fault.
abbrev pub Applies : LineFault → List ℕ → Type 0
Applies fault line = ((fault ≡ NotPrintable) × (list_all is_printable line ≡ false)) ⊎ ((are_silent (words_of line) ≡ false) × HaveFault fault (words_of line))

-- what a reading says of the faults of the line: it has none, or this one is that of the least number
abbrev pub SaysOfFaults : List ℕ → Result Request LineFault → Type 0
SaysOfFaults line (Ok request) = (fault : LineFault) → Applies fault line → ⊥
SaysOfFaults line (Err fault) = Applies fault line × ((other : LineFault) → number_of other < number_of fault → Applies other line → ⊥)

-- A line is refused by the fault of the least number that it has, and read where it has none.
abbrev pub FaultsComeInOrder : Type 0
FaultsComeInOrder = (line : List ℕ) → SaysOfFaults line (reading_of line)
