use Rattle.std.proofs.Common.{take}
use Rattle.netlist_text.specs.Scanning.{AreBlanks}
use Rattle.netlist_text.proofs.words.skip_blanks.Given as goal

abbrev pub invariant-loop-i : goal.invariant-loop-i
invariant-loop-i l = AreBlanks (take l.i l.bytes)
