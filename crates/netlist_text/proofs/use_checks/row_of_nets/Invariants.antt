use Rattle.std.proofs.Common.{take}
use Rattle.netlist_text.specs.Found.{AreNets}
use Rattle.netlist_text.proofs.use_checks.row_of_nets.Given as goal

abbrev pub invariant-loop-place : goal.invariant-loop-place
invariant-loop-place l = AreNets l.present (take l.place l.names) l.row
