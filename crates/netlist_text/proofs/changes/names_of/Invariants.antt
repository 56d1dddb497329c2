use Rattle.std.proofs.Common.{◌≡◌, ◌++◌, true, length}
use Rattle.std.specs.List.{list_all}
use Rattle.circuit_model.specs.Names.{is_name}
use Rattle.netlist_text.specs.Words.{words_of}
use Rattle.netlist_text.proofs.changes.names_of.Given as goal

abbrev pub invariant-loop-word : goal.invariant-loop-word
invariant-loop-word l = (l.names ++ words_of l.left ≡ words_of l.line) × (list_all is_name (words_of l.left) ≡ true)

abbrev pub decreases-loop-word : goal.decreases-loop-word
decreases-loop-word l = length (words_of l.left)
