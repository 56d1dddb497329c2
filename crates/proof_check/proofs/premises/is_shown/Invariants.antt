use Rattle.std.proofs.Common.{◌≡◌, ℕ, ◌<◌, Some, slice_get}
use Rattle.proof_check.specs.Written.{facts_of}
use Rattle.proof_check.proofs.premises.is_shown.Given as goal

abbrev pub invariant-loop-step : goal.invariant-loop-step
invariant-loop-step l = (k : ℕ) → k < l.step-index → slice_get (facts_of l.shown) k ≡ Some l.fact → ⊥
