use Rattle.std.proofs.Common.{◌<◌, length}
use Rattle.first_diagnoses.proofs.ByWeight.{AreLighter, WaitFor, weights_left}
use Rattle.first_diagnoses.proofs.listing.lightest_sets.Given as goal

abbrev pub invariant-loop-next : goal.invariant-loop-next
invariant-loop-next l = record { room : length l.found.items < l.limit; lighter : AreLighter l.problem l.next l.found.items; wait : WaitFor l.problem l.next l.waiting.items }

abbrev pub decreases-loop-next : goal.decreases-loop-next
decreases-loop-next l = weights_left l.next
