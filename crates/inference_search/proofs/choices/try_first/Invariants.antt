use Rattle.std.proofs.Common.{ℕ, ◌<◌, None, slice_index_or}
use Rattle.inference_search.specs.Choices.{Finds, IsMade, AreThirdsDone}
use Rattle.inference_search.proofs.choices.try_first.Given as goal

abbrev pub invariant-loop-second : goal.invariant-loop-second
invariant-loop-second l =
    Finds (IsMade l.asking.slot l.asking.instance l.asking.must)
    (λ found. (k : ℕ) → k < l.second-index → AreThirdsDone l.asking.slot l.asking.instance l.asking.must l.choices.third.items l.first (slice_index_or l.choices.second.items k None) found)
    l.fn.found.items l.found.items
