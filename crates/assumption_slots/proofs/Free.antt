-- Free slots.
use Rattle.std.proofs.Common.{◌≡◌, ℕ, zero, suc, List, [], ◌∷◌, ◌++◌, Option, None}
use Rattle.circuit_model.specs.declared.model.Assumption.{Assumption}
use Rattle.assumption_slots.specs.Slots.{stock}

pub one_more_free : (xs : List (Option Assumption)) → ((k : ℕ) → stock xs k ≡ None) → (k : ℕ) → stock (xs ++ None ∷ []) k ≡ None
one_more_free [] free zero = free zero
one_more_free [] free (suc k) = free zero
one_more_free (x ∷ xs) free zero = free zero
one_more_free (x ∷ xs) free (suc k) = one_more_free xs (λ i. free (suc i)) k
