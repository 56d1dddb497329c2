use Rattle.std.proofs.Common.{◌≡◌, vec_len}
use Rattle.call_tests.proofs.hitting.costs_of.Given as goal

abbrev pub invariant-loop-slot : goal.invariant-loop-slot
invariant-loop-slot l = vec_len l.listed ≡ l.slot-index
