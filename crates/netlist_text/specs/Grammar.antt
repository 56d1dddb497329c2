-- What a line asks, or the fault that it has.
use Rattle.std.specs.Prelude.{◌≡◌, ℕ, not, List, length, Option, Some, None, Result, Ok, Err, if◌then◌else◌}
use Rattle.std.specs.List.{list_all}
use Rattle.std.specs.Option.{option_map_or}
use Rattle.circuit_model.specs.Kinds.{RepeatsLast, block_in}
use Rattle.netlist_text.specs.Commands.{command_of, form_of, request_of}
use Rattle.netlist_text.specs.Places.{has_count, have_names, have_numbers}
use Rattle.netlist_text.specs.Words.{words_of, are_silent, is_printable}
use Rattle.netlist_text.specs.declared.commands.Command.{Command}
use Rattle.netlist_text.specs.declared.faults.LineFault.{LineFault}
use Rattle.netlist_text.specs.declared.faults.LineFault.TheVariants.{NotPrintable, WordCount, BadName, BadNumber}
use Rattle.netlist_text.specs.declared.requests.Change.{Change}
use Rattle.netlist_text.specs.declared.requests.Change.TheVariants as change
use Rattle.netlist_text.specs.declared.requests.Request.{Request}
use Rattle.netlist_text.specs.declared.requests.Request.TheVariants as request

-- the first of the faults that the words of a line of the command have
abbrev pub fault_of : Command → List (List ℕ) → Option LineFault
fault_of command words =
    if not (has_count (form_of command) (length words)) then Some WordCount else
    if not (have_names (form_of command).places words) then Some BadName else
    if not (have_numbers (form_of command).places words) then Some BadNumber else
    None

-- what a line of the command asks, or that fault
abbrev pub reading_by : Command → List (List ℕ) → Result Request LineFault
reading_by command words = option_map_or (λ fault. Err fault) (fault_of command words) (Ok (request_of command words))

-- the same, where the command may be none
abbrev pub reading_from : Result Command LineFault → List (List ℕ) → Result Request LineFault
reading_from (Ok command) words = reading_by command words
reading_from (Err fault) words = Err fault

-- What the line asks, or the first of the faults that it has.
unfoldable pub reading_of : List ℕ → Result Request LineFault
reading_of line =
    if not (list_all is_printable line) then Err NotPrintable else
    if are_silent (words_of line) then Ok request.Nothing else
    reading_from (command_of (words_of line)) (words_of line)

-- a component is no block, and unused places of its nets repeat the last one
abbrev pub IsPadded : Change → Type 0
IsPadded (change.Cycles count) = Unit {0}
IsPadded (change.Net name width) = Unit {0}
IsPadded (change.Add name kind nets) = (block_in kind ≡ None) × RepeatsLast kind nets
IsPadded (change.Measure net cycle value) = Unit {0}
IsPadded (change.Retract net cycle) = Unit {0}
IsPadded change.Undo = Unit {0}
IsPadded (change.Cost name cost) = Unit {0}
IsPadded (change.Stuck name value cost) = Unit {0}
IsPadded (change.Acts name kind cost) = Unit {0}
IsPadded (change.Define block) = Unit {0}
IsPadded (change.Pin block name width) = Unit {0}
IsPadded (change.Inside block name kind nets) = (block_in kind ≡ None) × RepeatsLast kind nets
IsPadded (change.UseBlock block name nets) = Unit {0}

-- and so they do where a request is such a change
abbrev pub AsksPadded : Request → Type 0
AsksPadded request.Nothing = Unit {0}
AsksPadded (request.Change asked) = IsPadded asked
AsksPadded (request.Query asked) = Unit {0}
