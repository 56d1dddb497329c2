use Rattle.std.proofs.Common.{ℕ, ◌<◌, [], ◌∷◌, None, slice_index_or}
use Rattle.inference_search.specs.Choices.{Finds, IsMade, IsDone}
use Rattle.inference_search.proofs.choices.try_two.Given as goal

abbrev pub invariant-loop-third : goal.invariant-loop-third
invariant-loop-third l =
    Finds (IsMade l.asking.slot l.asking.instance l.asking.must)
    (λ found. (k : ℕ) → k < l.third-index → IsDone l.asking.slot l.asking.instance l.asking.must (l.first ∷ l.second ∷ slice_index_or l.choices.third.items k None ∷ []) found)
    l.fn.found.items l.found.items
