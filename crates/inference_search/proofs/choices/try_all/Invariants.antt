use Rattle.std.proofs.Common.{ℕ, ◌<◌, None, slice_index_or}
use Rattle.inference_search.specs.Choices.{Finds, IsMade, AreSecondsDone}
use Rattle.inference_search.proofs.choices.try_all.Given as goal

abbrev pub invariant-loop-first : goal.invariant-loop-first
invariant-loop-first l =
    Finds (IsMade l.asking.slot l.asking.instance l.asking.must)
    (λ found. (k : ℕ) → k < l.first-index → AreSecondsDone l.asking.slot l.asking.instance l.asking.must l.choices.second.items l.choices.third.items (slice_index_or l.choices.first.items k None) found)
    l.fn.found.items l.found.items
