use Rattle.std.proofs.Common.{◌≤◌, ◌-◌, length}
use Rattle.proof_check.specs.Ordered.{AreBefore, AreFrom}
use Rattle.proof_check.proofs.facts.place_for.Given as goal

abbrev pub invariant-loop-low : goal.invariant-loop-low
invariant-loop-low l = record {
  ordered : l.low ≤ l.high;
  within : l.high ≤ length l.facts;
  below : AreBefore l.facts l.fact l.low;
  above : AreFrom l.facts l.fact l.high;
}

abbrev pub decreases-loop-low : goal.decreases-loop-low
decreases-loop-low l = l.high - l.low
