-- The requests of lines repeat the last net of a component at its unused places.
use Rattle.std.proofs.Common.{◌≡◌, ℕ, Bool, true, false, not, if◌then◌else◌, List, Option, Some, None, Result, Ok, Err, IfOk, refl}
use Rattle.std.specs.List.{list_all}
use Rattle.std.specs.Option.{option_map_or}
use Rattle.circuit_model.specs.Kinds.{RepeatsLast, block_in}
use Rattle.netlist_text.specs.Changes.{change_of}
use Rattle.netlist_text.specs.Commands.{command_of, request_of}
use Rattle.netlist_text.specs.Grammar.{fault_of, reading_of, reading_from, IsPadded, AsksPadded}
use Rattle.netlist_text.specs.Parts.{kind_of, nets_of}
use Rattle.netlist_text.specs.Words.{words_of, are_silent, is_printable}
use Rattle.netlist_text.specs.declared.changes.ChangeWord.{ChangeWord}
use Rattle.netlist_text.specs.declared.changes.ChangeWord.TheVariants as changes
use Rattle.netlist_text.specs.declared.commands.Command.{Command}
use Rattle.netlist_text.specs.declared.commands.Command.TheVariants.{Part, Inside, Change, Query}
use Rattle.netlist_text.specs.declared.faults.LineFault.{LineFault}
use Rattle.netlist_text.specs.declared.faults.LineFault.TheVariants.{NotPrintable}
use Rattle.netlist_text.specs.declared.parts.PartWord.{PartWord}
use Rattle.netlist_text.specs.declared.parts.PartWord.TheVariants.{Buf, Not, And, Or, Xor, Nand, Nor, Xnor, Add, Mul, Const, Reg}
use Rattle.netlist_text.specs.declared.requests.Request.{Request}
use Rattle.netlist_text.specs.declared.requests.Request.TheVariants as request

-- the nets of the line of a component
nets_repeat : (word : PartWord) (words : List (List ℕ)) → RepeatsLast (kind_of word words) (nets_of word words)
nets_repeat Buf words = refl
nets_repeat Not words = refl
nets_repeat And words = tt
nets_repeat Or words = tt
nets_repeat Xor words = tt
nets_repeat Nand words = tt
nets_repeat Nor words = tt
nets_repeat Xnor words = tt
nets_repeat Add words = tt
nets_repeat Mul words = tt
nets_repeat Const words = (refl, refl)
nets_repeat Reg words = refl

-- the line of a component is that of no block
is_plain : (word : PartWord) (words : List (List ℕ)) → block_in (kind_of word words) ≡ None
is_plain Buf words = refl
is_plain Not words = refl
is_plain And words = refl
is_plain Or words = refl
is_plain Xor words = refl
is_plain Nand words = refl
is_plain Nor words = refl
is_plain Xnor words = refl
is_plain Add words = refl
is_plain Mul words = refl
is_plain Const words = refl
is_plain Reg words = refl

-- no other change has nets of a component
change_is_padded : (word : ChangeWord) (words : List (List ℕ)) → IsPadded (change_of word words)
change_is_padded changes.Cycles words = tt
change_is_padded changes.Net words = tt
change_is_padded changes.Cost words = tt
change_is_padded changes.Stuck words = tt
change_is_padded changes.Acts words = tt
change_is_padded changes.Define words = tt
change_is_padded changes.Pin words = tt
change_is_padded changes.Use words = tt
change_is_padded changes.Measure words = tt
change_is_padded changes.Retract words = tt
change_is_padded changes.Undo words = tt

request_is_padded : (command : Command) (words : List (List ℕ)) → AsksPadded (request_of command words)
request_is_padded (Part word) words = (is_plain word words, nets_repeat word words)
request_is_padded (Inside word) words = (is_plain word _, nets_repeat word _)
request_is_padded (Change word) words = change_is_padded word words
request_is_padded (Query word) words = tt

-- a fault, or a request like that
or_fault : (fault : Option LineFault) (asked : Request) → AsksPadded asked → IfOk (option_map_or (λ f. Err f) fault (Ok asked)) AsksPadded
or_fault (Some fault) asked h = tt
or_fault None asked h = h

by_command : (command : Result Command LineFault) (words : List (List ℕ)) → IfOk (reading_from command words) AsksPadded
by_command (Ok command) words = or_fault (fault_of command words) (request_of command words) (request_is_padded command words)
by_command (Err fault) words = tt

unless : (test : Bool) (fault : LineFault) (reading : Result Request LineFault) → IfOk reading AsksPadded → IfOk (if test then Err fault else reading) AsksPadded
unless true fault reading h = tt
unless false fault reading h = h

unless_silent : (test : Bool) (reading : Result Request LineFault) → IfOk reading AsksPadded → IfOk (if test then Ok request.Nothing else reading) AsksPadded
unless_silent true reading h = tt
unless_silent false reading h = h

-- so for each line
pub reading_is_padded : (line : List ℕ) → IfOk (reading_of line) AsksPadded
unfolding reading_of
reading_is_padded line =
    let asked : Result Request LineFault = reading_from (command_of (words_of line)) (words_of line) in
    let unless_comment : Result Request LineFault = if are_silent (words_of line) then Ok request.Nothing else asked in
    unless (not (list_all is_printable line)) NotPrintable unless_comment (unless_silent (are_silent (words_of line)) asked (by_command (command_of (words_of line)) (words_of line)))
