use Rattle.std.proofs.Common.{◌≡◌, length}
use Rattle.std.specs.List.{list_all}
use Rattle.circuit_model.specs.Names.{is_name}
use Rattle.netlist_text.specs.Words.{words_of}
use Rattle.netlist_text.proofs.places.are_names.Given as goal

abbrev pub invariant-loop-word : goal.invariant-loop-word
invariant-loop-word l = list_all is_name (words_of l.left) ≡ list_all is_name (words_of l.line)

abbrev pub decreases-loop-word : goal.decreases-loop-word
decreases-loop-word l = length (words_of l.left)
