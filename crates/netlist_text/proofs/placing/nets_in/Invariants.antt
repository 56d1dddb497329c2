use Rattle.std.proofs.Common.{◌≡◌, take}
use Rattle.netlist_text.proofs.placing.nets_in.Given as goal

abbrev pub invariant-loop-place : goal.invariant-loop-place
invariant-loop-place l = l.nets.items ≡ take l.place l.row
