use Rattle.std.proofs.Common.{◌≡◌, ℕ, ◌<◌, false, get_or}
use Rattle.netlist_text.specs.Cells.{is_at}
use Rattle.netlist_text.proofs.cells.at_place.Given as goal

abbrev pub invariant-loop-i : goal.invariant-loop-i
invariant-loop-i l = (k : ℕ) → k < l.i → is_at (get_or l.word k 0) ≡ false
