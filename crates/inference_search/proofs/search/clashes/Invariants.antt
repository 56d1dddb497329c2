use Rattle.std.proofs.Common.{ℕ, ◌<◌, [], slice_index_or}
use Rattle.inference_search.specs.Choices.{Finds, IsClashOf, HasClashOf}
use Rattle.inference_search.proofs.search.clashes.Given as goal

abbrev pub invariant-loop-other : goal.invariant-loop-other
invariant-loop-other l =
    Finds (IsClashOf l.fact) (λ found. (k : ℕ) → k < l.other-index → HasClashOf l.fact (slice_index_or l.met k l.fact) found) [] l.found.items
