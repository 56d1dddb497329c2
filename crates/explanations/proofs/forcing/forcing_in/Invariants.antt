use Rattle.std.proofs.Common.{ℕ, ◌<◌}
use Rattle.explanations.specs.Forcing.{IsForcingIn}
use Rattle.explanations.proofs.forcing.forcing_in.Given as goal

abbrev pub invariant-loop-place : goal.invariant-loop-place
invariant-loop-place l = (place : ℕ) → place < l.place → (ports : ℕ) → IsForcingIn l.closed.facts l.round l.fact l.part place ports → ⊥
