use Rattle.std.proofs.Common.{◌≡◌, drop}
use Rattle.netlist_text.specs.Places.{have_numbers}
use Rattle.netlist_text.specs.Words.{words_of}
use Rattle.netlist_text.proofs.places.have_numbers.Given as goal

abbrev pub invariant-loop-place : goal.invariant-loop-place
invariant-loop-place l = have_numbers (drop l.place-index l.places) (words_of l.left) ≡ have_numbers l.places (words_of l.line)
