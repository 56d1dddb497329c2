use Rattle.std.proofs.Common.{ℕ, ◌-◌, ◌<◌, IsTrue}
use Rattle.environment_sets.specs.declared.environment.TheConstants.{SLOTS}
use Rattle.environment_sets.specs.Members.{members}
use Rattle.inference_search.specs.Choices.{Finds, IsMadeAtSome, IsDoneAt}
use Rattle.inference_search.proofs.components.add_near.Given as goal

abbrev pub invariant-loop-slot : goal.invariant-loop-slot
invariant-loop-slot l =
    Finds (IsMadeAtSome l.slots l.search.must)
    (λ found. (k : ℕ) → k < l.next → IsTrue (members l.near k) → IsDoneAt l.slots l.search.facts.now l.search.must k found)
    l.fn.found.items l.found.items

abbrev pub decreases-loop-slot : goal.decreases-loop-slot
decreases-loop-slot l = SLOTS - l.next
