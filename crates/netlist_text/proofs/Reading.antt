-- What a line reads as, by what is known of it.
use Rattle.std.proofs.Common.{◌≡◌, ℕ, true, false, List, Ok, Err, refl}
use Rattle.std.specs.List.{list_all}
use Rattle.netlist_text.specs.Commands.{command_of}
use Rattle.netlist_text.specs.Grammar.{reading_of, reading_from}
use Rattle.netlist_text.specs.Words.{words_of, are_silent, is_printable}
use Rattle.netlist_text.specs.declared.faults.LineFault.TheVariants.{NotPrintable}
use Rattle.netlist_text.specs.declared.requests.Request.TheVariants.{Nothing}

-- a line with a byte that no line may have
pub not_printable : (line : List ℕ) → list_all is_printable line ≡ false → reading_of line ≡ Err NotPrintable
unfolding reading_of
not_printable line h = rw h refl

-- a line that asks for nothing
pub silent : (line : List ℕ) → list_all is_printable line ≡ true → are_silent (words_of line) ≡ true → reading_of line ≡ Ok Nothing
unfolding reading_of
silent line h k = rw (h, k) refl

-- any other line
pub by_command : (line : List ℕ) → list_all is_printable line ≡ true → are_silent (words_of line) ≡ false → reading_of line ≡ reading_from (command_of (words_of line)) (words_of line)
unfolding reading_of
by_command line h k = rw (h, k) refl
