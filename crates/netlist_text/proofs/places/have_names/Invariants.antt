use Rattle.std.proofs.Common.{◌≡◌, drop}
use Rattle.netlist_text.specs.Places.{have_names}
use Rattle.netlist_text.specs.Words.{words_of}
use Rattle.netlist_text.proofs.places.have_names.Given as goal

abbrev pub invariant-loop-place : goal.invariant-loop-place
invariant-loop-place l = have_names (drop l.place-index l.places) (words_of l.left) ≡ have_names l.places (words_of l.line)
