use Rattle.std.proofs.Common.{ℕ, ◌<◌}
use Rattle.inference_search.specs.Choices.{Finds, IsForcedWord, HasForcedWord}
use Rattle.inference_search.proofs.asking.add_forced.Given as goal

abbrev pub invariant-loop-port : goal.invariant-loop-port
invariant-loop-port l = Finds (IsForcedWord l.cells l.forced l.clash) (λ found. (p : ℕ) → p < l.port → HasForcedWord l.cells l.forced l.clash p found) l.fn.found.items l.found.items
