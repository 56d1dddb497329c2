use Rattle.std.proofs.Common.{ℕ, ◌<◌, ◌≤◌, IsTrue, get_or}
use Rattle.environment_sets.specs.Members.{members}
use Rattle.first_diagnoses.proofs.problem.lightest.Given as goal

abbrev pub invariant-loop-i : goal.invariant-loop-i
invariant-loop-i l =
    (i : ℕ) → l.place ≤ i → i < l.i → IsTrue (members l.set (get_or l.problem.order.now i 0)) → l.least ≤ get_or l.problem.weights.now i 0
