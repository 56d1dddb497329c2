use Rattle.std.proofs.Common.{take}
use Rattle.netlist_text.specs.Scanning.{HasNoBlank}
use Rattle.netlist_text.proofs.words.word_len.Given as goal

abbrev pub invariant-loop-i : goal.invariant-loop-i
invariant-loop-i l = HasNoBlank (take l.i l.bytes)
